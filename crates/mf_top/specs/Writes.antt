-- How an answer is written.
use Rattle.std.specs.Prelude.{◌≡◌, ℕ, ◌≤◌, ◌⊎◌, List, Option, length, take}
use Rattle.std.specs.Io.KnownBytes.{Keeps, Appends}
use Rattle.mf_io.specs.Faults.{HasRisen}
use Rattle.mf_top.specs.Answers.{IsAnswer}
use Rattle.mf_top.specs.declared.Status.{Status}
use Rattle.mf_top.specs.declared.Status.TheVariants.{Done, Refused, Words, SourceFault, SinkFault, Memory}

-- what a sink held, and what it holds now; and how many writes had failed, and have failed now
pub record Output : Type 0 where
  pub written : Option (List ℕ)
  pub written_now : Option (List ℕ)
  pub faults : ℕ
  pub faults_now : ℕ

-- the answer of this status to these words and this text was written whole, and no write failed
pub record WritesWhole (o : Output) (words : List (List ℕ)) (text : List ℕ) (status : ℕ) : Type 0 where
  pub bytes : List ℕ
  pub answer : IsAnswer words text status bytes
  pub written : Appends o.written o.written_now bytes
  pub held : o.faults_now ≡ o.faults

-- a front of the answer was written, and then a write failed
pub record WritesFront (o : Output) (words : List (List ℕ)) (text : List ℕ) : Type 0 where
  pub status : ℕ
  pub bytes : List ℕ
  pub count : ℕ
  pub answer : IsAnswer words text status bytes
  pub within : count ≤ length bytes
  pub written : Appends o.written o.written_now (take count bytes)
  pub failed : HasRisen o.faults o.faults_now

-- nothing was written, and no write failed
pub record WritesNothing (o : Output) : Type 0 where
  pub written : Keeps o.written o.written_now
  pub held : o.faults_now ≡ o.faults

-- what was written where a text was answered, by the status of the call
abbrev pub Writes : Output → List (List ℕ) → List ℕ → Status → Type 0
Writes o words text Done = WritesWhole o words text 0
Writes o words text Refused = WritesWhole o words text 1
Writes o words text Words = WritesWhole o words text 2
Writes o words text SourceFault = ⊥
Writes o words text SinkFault = WritesFront o words text
Writes o words text Memory = WritesNothing o ⊎ WritesWhole o words text 5
