-- A file at rest.
use Rattle.std.specs.Prelude.{◌≡◌, ◌≢◌, ℕ, ◌<◌, ◌≤◌, true}
use Rattle.mf_machine.specs.File.{File, Opening, Holds, IsLoseLine, HasCell, removed}
use Rattle.mf_machine.specs.File.Home.{empty}
use Rattle.mf_machine.specs.Words as word
use Rattle.mf_machine.specs.Words.{number_of}

-- *Rest*: no pin, no right, no name Taken, and what the rules then say of the number, the closed generations, the names
-- and the slots
pub record Rest (f : File) (k : Opening) : Type 0 where
  pub number : k.number ≤ removed f
  pub closed : (g : ℕ) → g < f.stages → k.closed g ≡ true → number_of g < k.number
  pub born : (g : ℕ) → g < f.stages → k.number ≡ number_of g
      → (n : ℕ) → n < f.names → Holds f g n → k.name n ≢ word.unborn
  pub settled : (n : ℕ) → n < f.names → k.name n ≢ word.taken
  pub dropped : (n : ℕ) → n < f.names → k.name n ≡ word.dropped
      → (g : ℕ) → g < f.stages → Holds f g n → k.closed g ≡ true
  pub lost : (n l : ℕ) → n < f.names → k.name n ≡ word.lost l → IsLoseLine f n l
  pub here : (n : ℕ) → n < f.names → k.name n ≡ word.here → HasCell f n (k.home n)
  pub bare : (n : ℕ) → n < f.names → k.name n ≢ word.here → k.home n ≡ empty
