-- What the steps of a trial leave of a file at rest.
use Rattle.std.specs.Prelude.{◌≡◌, ℕ, ◌<◌, List}
use Rattle.mf_machine.specs.File.{listed}
use Rattle.mf_places.specs.Facts.{BookFacts}
use Rattle.mf_places.specs.declared.losses.LoseLine.{LoseLine}
use Rattle.mf_plain.specs.Resting.{Resting}
use Rattle.mf_vault.specs.Facts.{Facts, lines}

-- the file at rest has this book, these bytes and these lose lines
pub record IsFileOf (b : BookFacts) (file : List ℕ) (known : List LoseLine) (r : Resting) : Type 0 where
  pub book : r.book ≡ b
  pub bytes : r.bytes ≡ file
  pub losses : r.losses ≡ known

-- it rests so behind a phase with these facts
abbrev pub RestsOf : Facts → Resting → Type 0
RestsOf f r = IsFileOf f.book f.bytes f.losses r

-- a lose line empties the server
abbrev pub HasLine : List LoseLine → (line server : ℕ) → Type 0
HasLine losses line server = 0 < listed line server (lines losses)
