-- An actor between two accesses.
use Rattle.mf_machine.specs.declared.view.View.{View}
use Rattle.mf_machine.specs.declared.answer.Slot.TheVariants.{Hold, Work}
use Rattle.mf_machine.specs.Actors.{IsFreeSlot, LacksRight, Free}

-- it has no pin, not the right, and no name Taken
pub record IsUnbound (v : View) : Type 0 where
  pub hold : IsFreeSlot Hold v
  pub work : IsFreeSlot Work v
  pub right : LacksRight v.build
  pub free : Free v
