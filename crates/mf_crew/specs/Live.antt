-- A phase of several clients, which run beside each other.
use Rattle.std.specs.Prelude.{◌≡◌, ◌⊎◌, ℕ, ◌+◌, ◌-◌, ◌^◌, ◌<◌, List, [], ◌∷◌, length, map, flat_map}
use Rattle.mf_machine.specs.declared.view.View.{View}
use Rattle.mf_machine.specs.Steps.{joined}
use Rattle.mf_machine.specs.Worlds.{fresh, first_seen}
use Rattle.mf_lines.specs.Meaning.{Script}
use Rattle.mf_script.specs.Losses.{losses_of}
use Rattle.mf_vault.specs.Actor.{Actor}
use Rattle.mf_vault.specs.Facts.{Facts, file}
use Rattle.mf_plain.specs.Resting.{Resting, facts_of}
use Rattle.mf_shared.specs.Left.{LeftBy}
use Rattle.mf_shared.specs.Seats.{entering}
use Rattle.mf_client.specs.declared.done.Done.{Done}
use Rattle.mf_script.specs.Phases.{clients_of}
use Rattle.mf_client.specs.Runs.{Runs}
use Rattle.mf_crew.specs.Alone.{RunsPhase}

-- ---- actors that have done nothing yet

-- the share of a client's actors: for each client in turn the first actor's share, which is 2 ^ 30, is halved
abbrev pub share_of : (client : ℕ) → ℕ
share_of client = 2 ^ (30 - client)

-- the view of an actor with this share that has seen all that the file at rest holds, and has made and met nothing
abbrev pub new_view : (share : ℕ) → Facts → View
new_view share f = fresh share [] (first_seen (file f) f.opening)

-- such an actor; its ledger is empty, and no server is cut off
abbrev pub new_actor : (share : ℕ) → Facts → Actor
new_actor share f = entering f (new_view share f)

-- ---- clients beside each other

-- what came of a client: what its commands did, and its actors of all files behind them
pub record Ran : Type 0 where
  pub done : List Done
  pub actors : List Actor

-- each client's commands were done so, from a new actor of each file on; the first client has this number
abbrev pub AllRan : Script → (phase client : ℕ) → List Facts → List Ran → Type 0
AllRan s phase client files [] = Unit {0}
AllRan s phase client files (r ∷ rest) =
    Runs s phase client (map (new_actor (share_of client)) files) r.done r.actors
    × AllRan s phase (client + 1) files rest

-- ---- what they leave of the files

-- the views of these actors
abbrev pub views_of : List Actor → List View
views_of actors = map (λ (a : Actor). a.view) actors

-- an actor of each file takes in one more
abbrev pub join_each : List View → List View → List View
join_each [] others = []
join_each (v ∷ views) [] = v ∷ views
join_each (v ∷ views) (w ∷ others) = joined v w ∷ join_each views others

-- and then those of all clients, in their order
abbrev pub join_all : List View → List Ran → List View
join_all views [] = views
join_all views (r ∷ rest) = join_all (join_each views (views_of r.actors)) rest

-- each file at rest is left by its last actor
abbrev pub AreLeft : List Facts → List View → List Resting → Type 0
AreLeft [] [] [] = Unit {0}
AreLeft (f ∷ files) (v ∷ views) (r ∷ after) = LeftBy f v r × AreLeft files views after
AreLeft files views after = ⊥

-- ---- the phase

-- the facts of a file, whichever table it is found in
abbrev pub untabled : Facts → Facts
untabled f = record f { table = [] }

-- The phase has several clients. Their commands, done so, led from new actors of the files before; and the files behind
-- are those that are left where an actor of each file which did nothing took in the actors of all clients: all that
-- they made accounts for these files, and each answer that they met has its cause.
pub record RunsLive (s : Script) (phase now : ℕ) (before : List Resting) (done : List Done) (after : List Resting)
    : Type 0 where
  pub many : 1 < length (clients_of s phase)
  pub files : List Facts
  pub found : map untabled files ≡ map (λ r. facts_of r now (losses_of s phase)) before
  pub clients : List Ran
  pub count : length clients ≡ length (clients_of s phase)
  pub ran : AllRan s phase 1 files clients
  pub in_order : done ≡ flat_map (λ (r : Ran). r.done) clients
  pub left : AreLeft files (join_all (map (new_view (share_of (length clients))) files) clients) after

-- a phase, of one client or of several
abbrev pub IsPhase : Script → (phase now : ℕ) → List Resting → List Done → List Resting → Type 0
IsPhase s phase now before done after =
    RunsPhase s phase now before done after ⊎ RunsLive s phase now before done after
