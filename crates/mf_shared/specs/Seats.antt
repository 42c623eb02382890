-- A seat at a file among many actors, and what becomes of it.
use Rattle.std.specs.Prelude.{◌≡◌, ℕ, ◌==◌, List, [], None, if◌then◌else◌}
use Rattle.mf_machine.specs.declared.view.View.{View}
use Rattle.mf_machine.specs.declared.answer.Slot.TheVariants.{Hold, Work}
use Rattle.mf_machine.specs.Steps.{unpinned, ended}
use Rattle.mf_machine.specs.Words.{no}
use Rattle.mf_machine.specs.Worlds.{first_view}
use Rattle.mf_places.specs.declared.losses.LoseLine.{LoseLine}
use Rattle.mf_places.specs.Servers.{no_servers}
use Rattle.mf_vault.specs.Actor.{Actor}
use Rattle.mf_vault.specs.Facts.{Facts, file}
use Rattle.mf_vault.specs.Licence.{erased}
use Rattle.mf_gate.specs.Passes as pass
use Rattle.mf_gate.specs.Passes.{IsAt}
use Rattle.mf_plain.specs.Resting.{Resting, facts_of}
use Rattle.mf_shared.specs.declared.seat.Seat.{Seat}
use Rattle.mf_shared.specs.declared.shared.Shared.{Shared}
use Rattle.mf_shared.specs.Shared.{facts_in}

-- the seat's actor, without the note of its last step and what it was last inside of
abbrev pub view_of : Seat → View
view_of seat = erased (pass.view seat.pass)

-- the seat is of this file
abbrev pub IsOf : Seat → Shared → Type 0
IsOf seat shared = IsAt seat.pass shared.gate

-- the file as a phase with these ticks and these lose lines begins from rest, and its first seat, which has seen all
-- that the file holds
pub record Begins (r : Resting) (now : ℕ) (losses : List LoseLine) (shared : Shared) (seat : Seat) : Type 0 where
  pub facts : facts_in shared ≡ record (facts_of r now losses) { table = (facts_in shared).table }
  pub of : IsOf seat shared
  pub view : view_of seat ≡ first_view (file (facts_of r now losses)) (facts_of r now losses).opening

-- an access as it begins: the seat's actor, with no entry, and no server cut off
abbrev pub entering : Facts → View → Actor
entering f v = record { facts = f; view = v; entries = []; cut = no_servers; whole = None }

-- the right given back, where the actor has it
abbrev pub given_back : View → View
given_back v = if v.build.right == no then v else ended v

-- both pins, and the right, given back
abbrev pub let_go : View → View
let_go v = given_back (unpinned Work (unpinned Hold v))
