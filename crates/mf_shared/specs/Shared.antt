-- What the access of an actor among many tells.
use Rattle.std.specs.Prelude.{List, None}
use Rattle.mf_places.specs.declared.servers.Servers.{Servers}
use Rattle.mf_vault.specs.declared.answers.Entry.{Entry}
use Rattle.mf_vault.specs.Actor.{Actor}
use Rattle.mf_vault.specs.Facts.{Facts}
use Rattle.mf_vault.specs.Licence.{erased}
use Rattle.mf_gate.specs.declared.gate.Pass.{Pass}
use Rattle.mf_gate.specs.Passes.{about, view}
use Rattle.mf_gate.specs.Table.{facts_of}
use Rattle.mf_shared.specs.declared.shared.Shared.{Shared}
use Rattle.mf_shared.specs.Tables.{code_of}

-- the facts of the file in this phase
abbrev pub facts_in : Shared → Facts
facts_in s = record (facts_of (about s.gate)) {
  born = s.born;
  now = s.ticks;
  table = code_of s.gate.board.shared.table_id;
}

-- the actor. The whole state isn't told, since others change it
abbrev pub actor_of : Shared → Pass → List Entry → Servers → Actor
actor_of s p es cut = record {
  facts = facts_in s;
  view = erased (view p);
  entries = es;
  cut = cut;
  whole = None;
}
