-- What the private calls on numbers answer.
use Rattle.std.specs.Prelude.{◌≡◌, ℕ, ◌+◌, ◌<◌, ◌≤◌, Bool, false, List, length, slice_index, if◌then◌else◌}
use Rattle.mf_shape.specs.declared.Stage.{Stage}
use Rattle.mf_shape.specs.Stages.{max_width}
use Rattle.mf_places.specs.declared.Name.{Name}
use Rattle.mf_places.specs.declared.Name.TheVariants as name
use Rattle.mf_places.specs.Facts.{BookFacts}
use Rattle.mf_places.specs.Names.{HasName}
use Rattle.mf_places.specs.Numbers.{first_in, number_of}
use Rattle.mf_places.specs.Placement.{is_on}

-- The file has the name, with this number.
pub record IsNumber (b : BookFacts) (x : Name) (n : ℕ) : Type 0 where
  pub had : HasName b x
  pub number : n ≡ number_of b x

-- A table of the first number of each width below n.
pub record IsFirsts (m : ℕ) (stages : List Stage) (n : ℕ) (firsts : List ℕ) : Type 0 where
  pub count : length firsts ≡ n
  pub first : (width : ℕ) → width + 1 ≤ n → slice_index firsts width ≡ first_in m stages width

-- How far the next chunk that may be on a server is behind one that is, or isn't.
abbrev pub step_behind : BookFacts → (on : Bool) → ℕ
step_behind b on = if on then max_width b.shape.stages else 1

-- None of the first parities of a stripe is on the server.
abbrev pub HasNoneOn : BookFacts → (server parities : ℕ) → Type 0
HasNoneOn b server parities = (p : ℕ) → p < parities → is_on b server (name.Parity 0 0 p) ≡ false
