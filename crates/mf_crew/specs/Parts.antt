-- What the parts of a phase of several clients do. These are words of private functions, and no part of the promise.
use Rattle.std.specs.Prelude.{◌≡◌, ℕ, ◌+◌, ◌<◌, List, [], ◌∷◌, ◌++◌, length, map, All, slice_index_or, Result, Ok}
use Rattle.std.specs.Prelude.{Err}
use Rattle.std.specs.List.{AllZip}
use Rattle.std.specs.declared.alloc.AllocError.{AllocError}
use Rattle.mf_machine.specs.declared.view.View.{View}
use Rattle.mf_lines.specs.Meaning.{Script}
use Rattle.mf_vault.specs.Actor.{Actor}
use Rattle.mf_vault.specs.Conditions.{IsIdle}
use Rattle.mf_vault.specs.Facts.{Facts}
use Rattle.mf_shared.specs.declared.seat.Seat.{Seat}
use Rattle.mf_shared.specs.declared.shared.Shared.{Shared}
use Rattle.mf_shared.specs.Seats.{IsOf, let_go, view_of}
use Rattle.mf_shared.specs.Shared.{facts_in as facts_at}
use Rattle.mf_shared.specs.Whole.{told_by}
use Rattle.mf_client.specs.declared.done.Done.{Done}
use Rattle.mf_client.specs.Clients.{HasClient, AreFiles, facts_in}
use Rattle.mf_client.specs.Runs.{Runs, IsSmall}
use Rattle.mf_crew.specs.declared.jobs.Job.{Job}
use Rattle.mf_crew.specs.declared.jobs.Report.{Report}
use Rattle.mf_crew.specs.Live.{new_view, new_actor, share_of, join_each}

-- ---- seats and files

-- each seat is of the file at its place
abbrev pub AreOf : List Seat → List Shared → Type 0
AreOf seats files = AllZip IsOf seats files

-- the facts of these files
abbrev pub facts_of_all : List Shared → List Facts
facts_of_all files = map facts_at files

-- the views of these seats
abbrev pub views_in : List Seat → List View
views_in seats = map view_of seats

-- they are the views of new actors of the files with these facts, with the share of the client of this number
abbrev pub AreNew : (client : ℕ) → List Facts → List Seat → Type 0
AreNew client files seats = views_in seats ≡ map (new_view (share_of client)) files

-- ---- clients

-- the actors of a client's accesses
abbrev pub actors_in : {R : Type 0} → Job R → List Actor
actors_in job = map told_by job.accesses.items

-- it is the client of this number, and its actors of these files are new
pub record IsJob {R : Type 0} (files : List Facts) (client : ℕ) (job : Job R) : Type 0 where
  pub number : job.client ≡ client
  pub actors : actors_in job ≡ map (new_actor (share_of client)) files

-- so are these, the clients from 1 on
abbrev pub AreJobs : {R : Type 0} → List Facts → List (Job R) → Type 0
AreJobs files jobs = (i : ℕ) (job : Job _) → i < length jobs → IsJob files (i + 1) (slice_index_or jobs i job)

-- the client can be run over its files
pub record IsRunnable {R : Type 0} (s : Script) (phase : ℕ) (job : Job R) : Type 0 where
  pub client : HasClient s phase job.client
  pub files : AreFiles s phase (facts_in (actors_in job))
  pub idle : All IsIdle (actors_in job)

-- the seat of an actor that let go of its pins and its right: it is of each file with the actor's facts
pub record IsSeatOf (a : Actor) (seat : Seat) : Type 0 where
  pub of : (s : Shared) → facts_at s ≡ a.facts → IsOf seat s
  pub view : view_of seat ≡ let_go a.view

-- so are the seats of these actors, in their order
abbrev pub AreSeatsOf : List Actor → List Seat → Type 0
AreSeatsOf actors seats = AllZip IsSeatOf actors seats

-- the commands of the client were done so from these actors on, and its seats are those of the actors behind them
pub record IsReport (s : Script) (phase client : ℕ) (before : List Actor) (r : Report) : Type 0 where
  pub actors : List Actor
  pub runs : Runs s phase client before r.done.items actors
  pub facts : facts_in actors ≡ facts_in before
  pub seats : AreSeatsOf actors r.seats.items
  pub small : All (λ (d : Done). IsSmall d.io) r.done.items

-- ---- all clients

-- what came of a client that didn't fail
abbrev pub Came : Type 0
Came = Result Report AllocError

-- what their commands did, one client behind the other
abbrev pub done_in : List Came → List Done
done_in [] = []
done_in (Ok r ∷ rest) = r.done.items ++ done_in rest
done_in (Err e ∷ rest) = done_in rest

-- seats take in those of all clients, in their order
abbrev pub take_in : List View → List Came → List View
take_in views [] = views
take_in views (Ok r ∷ rest) = take_in (join_each views (views_in r.seats.items)) rest
take_in views (Err e ∷ rest) = take_in views rest

-- each client's seats are of these files
abbrev pub AreAllOf : List Shared → List Came → Type 0
AreAllOf files [] = Unit {0}
AreAllOf files (Ok r ∷ rest) = AreOf r.seats.items files × AreAllOf files rest
AreAllOf files (Err e ∷ rest) = AreAllOf files rest

-- no client failed
abbrev pub NoneFailed : List Came → Type 0
NoneFailed [] = Unit {0}
NoneFailed (Ok r ∷ rest) = NoneFailed rest
NoneFailed (Err e ∷ rest) = ⊥
