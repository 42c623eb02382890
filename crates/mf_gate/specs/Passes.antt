-- A pass at a gate, and what a step makes of it.
use Rattle.std.specs.Prelude.{◌≡◌, ℕ, Bool, true, false}
use Rattle.mf_machine.specs.declared.view.View.{View}
use Rattle.mf_machine.specs.declared.answer.LoseStep.{LoseStep}
use Rattle.mf_machine.specs.declared.answer.LoseStep.TheVariants as lose
use Rattle.mf_machine.specs.File.{File, IsLoseLine, name_word}
use Rattle.mf_machine.specs.Steps as row
use Rattle.mf_machine.specs.Steps.{Drop}
use Rattle.mf_machine.specs.Words as word
use Rattle.mf_machine.specs.Worlds.{Row}
use Rattle.mf_gate.specs.declared.answers.Taken.{Taken}
use Rattle.mf_gate.specs.declared.answers.Taken.TheVariants as taken
use Rattle.mf_gate.specs.declared.known.About.{About}
use Rattle.mf_gate.specs.declared.gate.Gate.{Gate}
use Rattle.mf_gate.specs.declared.gate.Pass.{Pass}
use Rattle.mf_gate.specs.Table.{Met, after, file_of}

-- the file at rest from which the gate was made
abbrev pub about : Gate → About
about g = g.board.shared.key.value

-- the same of a pass
abbrev pub told : Pass → About
told p = p.place.me.0.about

-- the file, in the words of the file machine
abbrev pub file : Pass → File
file p = file_of (told p)

-- the actor
abbrev pub view : Pass → View
view p = p.place.me.0.view

-- the pass is of this gate
abbrev pub IsAt : Pass → Gate → Type 0
IsAt p g = (p.place.table_id ≡ g.board.shared.table_id) × (told p ≡ about g)

-- the pass made the row, and met x
pub record Steps (r : Row) (x : ℕ) (p p' : Pass) : Type 0 where
  pub becomes : view p' ≡ after r x (view p)
  pub met : Met (told p) (view p) r.word x

-- the pass made a row that takes the slot of a name, and met x; and then one that gives the slot back
pub record Turns (r back : Row) (x : ℕ) (p p' : Pass) : Type 0 where
  pub becomes : view p' ≡ after back word.taken (after r x (view p))
  pub met : Met (told p) (view p) r.word x

-- what a take hands out: the name's cell, where the word was Here; the line of a lose line of the name's server, where
-- it was Lost; nothing, where it was Taken
abbrev pub IsTaken : File → ℕ → ℕ → Taken → Type 0
IsTaken f n x (taken.Here c) = (x ≡ word.here) × (c ≡ f.cell n)
IsTaken f n x (taken.Lost l) = (x ≡ word.lost l) × IsLoseLine f n l
IsTaken f n x taken.Again = x ≡ word.taken

-- a lose that is done makes two rows, and any other one
abbrev pub Loses : File → (n line : ℕ) → LoseStep → ℕ → Pass → Pass → Type 0
Loses f n l lose.Done x p p' = Turns (row.lose_row f n l) (row.lost_row f n l) x p p'
Loses f n l lose.Again x p p' = Steps (row.lose_row f n l) x p p'
Loses f n l lose.Nothing x p p' = Steps (row.lose_row f n l) x p p'

-- the first row met x, and the second one y
pub record Tries (f : File) (n x y : ℕ) (p p' : Pass) : Type 0 where
  pub becomes : view p' ≡ after (row.drop_again_row f x n) y (after (row.drop_row f n) x (view p))
  pub first : Met (told p) (view p) (name_word f n) x
  pub second : Met (told p) (after (row.drop_row f n) x (view p)) (name_word f n) y

-- a drop, by what its first try found
abbrev pub Drops : File → ℕ → Drop → ℕ → Bool → Pass → Pass → Type 0
Drops f n row.drops x b p p' = (b ≡ true) × Turns (row.drop_row f n) (row.dropped_row f n) x p p'
Drops f n row.tries x b p p' = (y : ℕ) × Tries f n x y p p' × (b ≡ row.drop_again_answer x y)
Drops f n row.nothing x b p p' = (b ≡ false) × Steps (row.drop_row f n) x p p'
