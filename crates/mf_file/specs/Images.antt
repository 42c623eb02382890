-- What a crash may leave of a file, by its calls alone.
use Rattle.std.specs.Prelude.{◌≡◌, ℕ, Bool, true, false, List, [], ◌∷◌, length, Option, Some, None}
use Rattle.mf_journal.specs.Crash.{TornAt}
use Rattle.mf_journal.specs.Memory.{IsImage, MayStep, over}
use Rattle.mf_journal.specs.declared.log.Write.{Write}
use Rattle.mf_file.specs.Calls.{Piece, is_lasting, pieces}

abbrev pub StepOf : Bool → ℕ → List ℕ → List ℕ → List ℕ → Type 0
StepOf true at bytes old new = new ≡ over at bytes old
StepOf false at bytes old new = TornAt at (length bytes) old new

-- from the first bytes, through these writes, of which the newest comes first
abbrev pub MayBe : List ℕ → List Piece → List ℕ → Type 0
MayBe start [] c = c ≡ start
MayBe start (p ∷ ps) c = (d : List ℕ) × MayBe start ps d × StepOf p.2 p.0 p.1 d c

from_step : (sync : Option ℕ) (at : ℕ) (bytes old new : List ℕ)
    → StepOf (is_lasting sync) at bytes old new
    → MayStep sync at bytes old new
from_step (Some n) at bytes old new is = is
from_step None at bytes old new is = is

-- what the file's calls allow is what the record allows
pub from_calls : (start : List ℕ) (ws : List Write) (c : List ℕ) → MayBe start (pieces ws) c
    → IsImage start ws c
from_calls start [] c is = is
from_calls start (w ∷ ws) c is =
    (is.0, from_calls start ws is.0 is.1, from_step w.sync w.at w.bytes is.0 c is.2)
