-- What a file that an actor has alone keeps.
use Rattle.std.specs.Prelude.{◌≡◌, ℕ, ◌^◌, ◌≤◌, false, List, [], length, None}
use Rattle.mf_machine.specs.declared.view.View.{View}
use Rattle.mf_machine.specs.Counts.{truth}
use Rattle.mf_machine.specs.Moves.{run}
use Rattle.mf_machine.specs.Worlds.{actor, first_view}
use Rattle.mf_places.specs.declared.losses.LoseLine.{LoseLine}
use Rattle.mf_places.specs.declared.servers.Servers.{Servers}
use Rattle.mf_places.specs.Facts.{BookFacts}
use Rattle.mf_places.specs.Names.{count_of}
use Rattle.mf_vault.specs.declared.answers.Entry.{Entry}
use Rattle.mf_vault.specs.Facts.{Facts, file, place}
use Rattle.mf_vault.specs.Actor.{Call, moves}
use Rattle.mf_vault.specs.Licence.{Does, Holding, IsFile, IsReady}
use Rattle.mf_vault.specs.Resting.{opening_of}
use Rattle.mf_plain.specs.declared.known.Known.{Known}
use Rattle.mf_plain.specs.declared.known.Opened.{Opened}
use Rattle.mf_plain.specs.Alone.{Stored, stored, world, actor_at, first_at}
use Rattle.mf_plain.specs.Resting.{Resting, facts_of}

abbrev pub facts_at : BookFacts → ℕ → ℕ → Known → Facts
facts_at book born now k = record {
  book = book;
  bytes = k.told.bytes;
  losses = k.told.losses;
  opening = opening_of k.opened.number k.opened.closed k.opened.names;
  born = born;
  now = now;
  table = [];
}

-- what was stored as the phase began
abbrev pub opened_stored : Opened → Stored
opened_stored o = stored o.number false None None o.closed o.names

-- the view says what is stored of the right and the slots, and the actor is the only one
pub record Tied (s : Stored) (v : View) : Type 0 where
  pub share : v.share ≡ 2 ^ 30
  pub gone : v.gone ≡ []
  pub strays : v.strays ≡ []
  pub right : v.build.right ≡ truth s.right
  pub hold : v.hold ≡ place s.hold
  pub work : v.work ≡ place s.work

-- some calls lead from the file at rest to what is told: so the view and the state are what these calls made of it, and
-- the ledger has their entries
abbrev pub Came : Facts → Stored → Stored → View → List Entry → Servers → Type 0
Came f first s v es cut = (cs : List Call) × Does cs (first_at f first) (actor_at f s v es cut)

-- all that is kept between calls
pub record Stands (book : BookFacts) (born now : ℕ) (k : Known) (s : Stored) (es : List Entry) (cut : Servers) : Type 0
  where
    pub closed : length s.closed ≡ length book.shape.stages
    pub names : length s.names ≡ count_of book
    pub since : born ≤ now
    pub is_file : IsFile (facts_at book born now k)
    pub ready : IsReady (facts_at book born now k) k.view
    pub tied : Tied s k.view
    pub holding : ∥ Holding (facts_at book born now k) (world s k.view) ∥₁
    pub came : ∥ Came (facts_at book born now k) (opened_stored k.opened) s k.view es cut ∥₁

-- what is known after a call
abbrev pub known_after : BookFacts → ℕ → ℕ → Known → Stored → Call → Known
known_after book born now k s c = let f = facts_at book born now k in record k {
  view = actor (run (file f) (world s k.view) (moves f (world s k.view) c)) 0;
}

-- as a phase begins
abbrev pub first_known : Resting → List LoseLine → Known
first_known r losses = record {
  told = record { bytes = r.bytes; losses = losses };
  opened = record { number = r.number; closed = r.closed; names = r.names };
  view = first_view (file (facts_of r 0 losses)) (opening_of r.number r.closed r.names);
}
