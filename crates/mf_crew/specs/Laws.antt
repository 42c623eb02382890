-- What follows of a phase, in words of outcomes, clients and files. Clients and commands are numbered from 0 here, as
-- places of lists.
use Rattle.std.specs.Prelude.{◌≡◌, ◌≢◌, ◌⊎◌, ℕ, zero, suc, ◌+◌, ◌<◌, ◌≤◌, Bool, true, false, List, length, take, slice_get}
use Rattle.std.specs.Prelude.{slice_index_or, Some, All}
use Rattle.mf_machine.specs.Actors.{Among}
use Rattle.mf_machine.specs.Counts.{truth}
use Rattle.mf_machine.specs.Kept.{HasSeen}
use Rattle.mf_machine.specs.Words.{number_of, vacant, filled}
use Rattle.mf_lines.specs.Meaning.{Script}
use Rattle.mf_vault.specs.Actor.{Actor}
use Rattle.mf_plain.specs.Resting.{Resting, AtRest}
use Rattle.mf_client.specs.declared.done.Done.{Done}
use Rattle.mf_crew.specs.Live.{Ran, RunsLive, IsPhase}
use Rattle.mf_crew.specs.Tales.{done_tale, tale_of, takes, hold_behind}

-- client i did d as its command k
abbrev pub DidAs : List Ran → (i k : ℕ) → Done → Type 0
DidAs clients i k d = (c : Ran) × (slice_get clients i ≡ Some c) × (slice_get c.done k ≡ Some d)

-- another client's actor of file n is so
abbrev pub AnotherActor : List Ran → (n i : ℕ) → (Actor → Type 0) → Type 0
AnotherActor clients n i P = (j : ℕ) × (c : Ran) × (a : Actor) × (j ≢ i) × (slice_get clients j ≡ Some c)
    × (slice_get c.actors n ≡ Some a) × P a

-- client i holds generation g of file n as its command k begins
abbrev pub Holds : List Ran → (n i k g : ℕ) → Type 0
Holds clients n i k g = (c : Ran) × (slice_get clients i ≡ Some c) × (hold_behind n (take k c.done) vacant ≡ filled g)

-- how many of the first q generations are closed
abbrev pub closed_below : (q : ℕ) → List Bool → ℕ
closed_below zero closed = 0
closed_below (suc q) closed = closed_below q closed + truth (slice_index_or closed q false)

-- What the outcomes of several clients tell of the file with number n, which has q stages. It rested so before them, and
-- rests so behind them.
pub record TellsOfFile (q n : ℕ) (clients : List Ran) (done : List Done) (before after : Resting) : Type 0 where
  -- no number is published by two outcomes
  pub published_once : (m : ℕ) → (tale_of q n done).published m ≤ 1
  -- each published number is at most the one at rest, and so is each number that a client has seen
  pub published : (m : ℕ) → 0 < (tale_of q n done).published m → m ≤ after.number
  pub seen : (i m : ℕ) (c : Ran) (a : Actor) → slice_get clients i ≡ Some c → slice_get c.actors n ≡ Some a
      → HasSeen a.view m → m ≤ after.number
  -- no generation is closed by two reclaims, or by one that found it closed: what they tell adds up to the generations
  -- that are closed now, and weren't before
  pub closed_once : closed_below q after.closed ≡ closed_below q before.closed + (tale_of q n done).closed
  -- where a client is told Busy, another one has a begin on the file; and who has one has a command that took the right
  pub refused : (i k : ℕ) (d : Done) → DidAs clients i k d → 0 < (done_tale q n d).refused
      → AnotherActor clients n i (λ a. 0 < a.view.own.begun)
  pub begun : (i : ℕ) (c : Ran) (a : Actor) → slice_get clients i ≡ Some c → slice_get c.actors n ≡ Some a
      → 0 < a.view.own.begun → (k : ℕ) × (d : Done) × (slice_get c.done k ≡ Some d) × (takes n d ≡ true)
  -- where a close is refused by pins, there is one alone, the client's own of its Hold slot, or another client made a pin
  -- on the open generation
  pub pinned : (i k : ℕ) (d : Done) → DidAs clients i k d → (g p : ℕ) → 0 < (done_tale q n d).pinned g p
      → (Holds clients n i k g × (p ≡ 1)) ⊎ AnotherActor clients n i (λ a. Among g a.view.own.opened)
  -- who created the file doesn't find it absent later
  pub created : (i k l : ℕ) (d e : Done) → DidAs clients i k d → DidAs clients i l e → k < l
      → 0 < (done_tale q n d).published (number_of 0) → (done_tale q n e).absent ≡ 0

-- So it is of each file behind a phase of several clients.
abbrev pub ClientsTell : Type 0
ClientsTell = (s : Script) (phase now : ℕ) (before : List Resting) (done : List Done) (after : List Resting)
    → (x : RunsLive s phase now before done after) → (n : ℕ) (was is : Resting) → slice_get before n ≡ Some was
    → slice_get after n ≡ Some is → TellsOfFile (length is.book.shape.stages) n x.clients done was is

-- The files behind a phase, of one client or of several, are at rest.
abbrev pub FilesRest : Type 0
FilesRest = (s : Script) (phase now : ℕ) (before : List Resting) (done : List Done) (after : List Resting)
    → IsPhase s phase now before done after → All AtRest after
