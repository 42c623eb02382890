-- What the access of an only actor tells.
use Rattle.std.specs.Prelude.{ℕ}
use Rattle.std.proofs.Common.{refl, sym}
use Rattle.mf_machine.specs.Worlds.{World}
use Rattle.mf_vault.specs.Facts.{Facts}
use Rattle.mf_vault.specs.Actor.{Actor, Call}
use Rattle.mf_vault.specs.Licence.{IsKept}
use Rattle.mf_plain.specs.declared.access.PlainAccess.{PlainAccess}
use Rattle.mf_plain.specs.declared.known.Known.{Known}
use Rattle.mf_plain.specs.Alone.{Stored, stored, world, actor_at, pins_of}
use Rattle.mf_plain.specs.Standing.{facts_at, known_after}

abbrev pub stored_of : PlainAccess → Stored
stored_of s = stored s.number s.right s.hold s.work s.closed.items s.names.items

abbrev pub facts_in : PlainAccess → Facts
facts_in s = facts_at s.book s.born s.ticks s.known.value

abbrev pub actor_of : PlainAccess → Actor
actor_of s = actor_at (facts_in s) (stored_of s) s.known.value.view s.ledger.items s.cut

abbrev pub state_of : PlainAccess → World
state_of s = world (stored_of s) s.known.value.view

abbrev pub next : Call → PlainAccess → Known
next c s = known_after s.book s.born s.ticks s.known.value (stored_of s) c

pub kept_of : (s : PlainAccess) → IsKept (actor_of s)
kept_of s = record {
  file = s.stands.is_file;
  ready = record {
    active = s.stands.ready.active;
    free = refl;
    hold = s.stands.ready.hold;
    work = s.stands.ready.work;
    right = s.stands.ready.right;
  };
  alone = record {
    view = refl;
    only = refl;
    right = sym s.stands.tied.right;
    holding = s.stands.holding;
  };
}

-- the pins of a generation
abbrev pub pins_in : PlainAccess → ℕ → ℕ
pins_in s g = pins_of s.hold s.work g
