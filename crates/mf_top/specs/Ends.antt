-- How a call of the program ends, as its source and its sink tell it.
use Rattle.std.specs.Prelude.{◌≡◌, ℕ, ◌<◌, ◌≤◌, ◌⊎◌, List, Option, IfSome, length}
use Rattle.std.specs.Io.KnownBytes.{Keeps, IsAtEnd}
use Rattle.mf_io.specs.Faults.{HasRisen}
use Rattle.mf_io.specs.ReadAll.{TookSome}
use Rattle.mf_top.specs.Answers.{AsksTask, AsksNoTask}
use Rattle.mf_top.specs.Writes.{Output, Writes, WritesNothing}
use Rattle.mf_top.specs.declared.Status.{Status}
use Rattle.mf_top.specs.declared.Status.TheVariants.{Done, Refused, Words, SourceFault, SinkFault, Memory}

-- The words of a call; what its source had left, and what it has left now; how many reads had failed, and have failed
-- now; and what became of its sink.
pub record Call : Type 0 where
  pub words : List (List ℕ)
  pub left : Option (List ℕ)
  pub left_now : Option (List ℕ)
  pub faults : ℕ
  pub faults_now : ℕ
  pub output : Output

-- no read failed
abbrev pub ReadsHeld : Call → Type 0
ReadsHeld c = c.faults_now ≡ c.faults

-- a text is what the source had left, where it tells that
abbrev pub IsInput : Call → List ℕ → Type 0
IsInput c text = IfSome c.left (λ bytes. text ≡ bytes)

-- What was taken of this text: nothing, where the words ask for no task; else all of it, where it isn't longer than a
-- script may be; and of a longer one just one byte more than that.
pub data IsTaken (c : Call) (text : List ℕ) : Type 0 where
  unread : AsksNoTask c.words → Keeps c.left c.left_now → IsTaken c text
  whole : AsksTask c.words → length text ≤ 1048576 → IsAtEnd c.left_now → IsTaken c text
  too_long : AsksTask c.words → 1048576 < length text → TookSome c.left c.left_now (λ n. n ≡ 1048577) → IsTaken c text

-- the text that the source had left was answered with this status
pub record Answers (c : Call) (status : Status) : Type 0 where
  pub text : List ℕ
  pub input : IsInput c text
  pub taken : IsTaken c text
  pub reads : ReadsHeld c
  pub writes : Writes c.output c.words text status

-- the text wasn't read to its end, and nothing was written
pub record AnswersNothing (c : Call) : Type 0 where
  pub words : AsksTask c.words
  pub taken : TookSome c.left c.left_now (λ n. n ≤ 1048576)
  pub writes : WritesNothing c.output

-- how a call ends with each status
abbrev pub Ends : Call → Status → Type 0
Ends c Done = Answers c Done
Ends c Refused = Answers c Refused
Ends c Words = Answers c Words
Ends c SourceFault = AnswersNothing c × HasRisen c.faults c.faults_now
Ends c SinkFault = Answers c SinkFault
Ends c Memory = Answers c Memory ⊎ (AnswersNothing c × ReadsHeld c)

-- the number of each status
abbrev pub number_of : Status → ℕ
number_of Done = 0
number_of Refused = 1
number_of Words = 2
number_of SourceFault = 3
number_of SinkFault = 4
number_of Memory = 5
