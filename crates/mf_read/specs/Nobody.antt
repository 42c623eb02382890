-- Some actor: what is taken where no other is picked.
use Rattle.std.specs.Prelude.{false, [], None}
use Rattle.mf_machine.specs.File.Home.{empty}
use Rattle.mf_machine.specs.Worlds.{spent_view}
use Rattle.mf_places.specs.Servers.{no_servers}
use Rattle.mf_vault.specs.Facts.{Facts}
use Rattle.mf_vault.specs.Actor.{Actor}

abbrev pub no_facts : Facts
no_facts = record {
  book = record { shape = record { stages = []; servers = 0 }; points = []; chunk = 0; file = 0; bytes = 0 };
  bytes = [];
  losses = [];
  opening = record { number = 0; closed = λ g. false; name = λ n. 0; home = λ n. empty };
  born = 0;
  now = 0;
  table = [];
}

abbrev pub nobody : Actor
nobody = record { facts = no_facts; view = spent_view; entries = []; cut = no_servers; whole = None }
