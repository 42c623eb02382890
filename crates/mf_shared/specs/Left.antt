-- What is left of a file among many actors.
use Rattle.std.specs.Prelude.{◌≡◌, ◌↔◌, ℕ, ◌<◌, ◌==◌, true, false, slice_index_or, if◌then◌else◌}
use Rattle.mf_machine.specs.declared.view.View.{View}
use Rattle.mf_machine.specs.File.{State}
use Rattle.mf_machine.specs.Kept.{Kept, IsClosed}
use Rattle.mf_machine.specs.Laws.{BringsBack, alone}
use Rattle.mf_machine.specs.Words.{absent}
use Rattle.mf_places.specs.Names.{count_of}
use Rattle.mf_vault.specs.declared.answers.Rest.TheVariants as rest
use Rattle.mf_vault.specs.Facts.{Facts, file, stages}
use Rattle.mf_vault.specs.Resting.{word_of, home_of}
use Rattle.mf_plain.specs.Resting.{Resting, AtRest}

-- the file at rest is of the same book and bytes; its lose lines are those of the phase, and it was created in this
-- phase if it rested uncreated before
pub record IsSameFile (f : Facts) (r : Resting) : Type 0 where
  pub book : r.book ≡ f.book
  pub bytes : r.bytes ≡ f.bytes
  pub losses : r.losses ≡ f.losses
  pub born : r.born ≡ (if r.number == absent then 0 else f.born)

-- its number, closed generations and names are those of the state
pub record IsRestOf (f : Facts) (s : State) (r : Resting) : Type 0 where
  pub number : r.number ≡ s.number
  pub closed : (g : ℕ) → g < stages f → (slice_index_or r.closed g false ≡ true) ↔ IsClosed s g
  pub names : (n : ℕ) → n < count_of f.book → (word_of (slice_index_or r.names n rest.Unborn) ≡ s.name n)
      × (home_of (slice_index_or r.names n rest.Unborn) ≡ s.home n)

-- the file at rest that is left where the last actor had the view v: that of a state for which the Made of v accounts,
-- and which keeps the ten rules with this actor alone, so that the Mets of v have their causes in it
pub record LeftBy (f : Facts) (v : View) (r : Resting) : Type 0 where
  pub same : IsSameFile f r
  pub state : State
  pub rest : IsRestOf f state r
  pub brings : BringsBack (file f) f.opening state v
  pub kept : Kept (file f) f.opening (alone state v)
  pub at_rest : AtRest r
