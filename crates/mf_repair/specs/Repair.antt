-- What a repair does.
use Rattle.std.specs.Prelude.{◌≡◌, ℕ, zero, suc, ◌+◌, ◌<◌, ◌≤◌, ◌==◌, ◌&&◌, Bool, true, false, not, List, [], ◌∷◌}
use Rattle.std.specs.Prelude.{◌++◌}
use Rattle.std.specs.Prelude.{length, take, filter}
use Rattle.mf_machine.specs.declared.answer.Slot.TheVariants.{Work}
use Rattle.mf_machine.specs.declared.answer.State.{State}
use Rattle.mf_machine.specs.declared.answer.State.TheVariants.{Unborn, Here, Lost, Away}
use Rattle.mf_places.specs.declared.Name.{Name}
use Rattle.mf_places.specs.declared.Name.TheVariants as name
use Rattle.mf_places.specs.Generations.{stripe_names}
use Rattle.mf_vault.specs.declared.answers.Got.{Got}
use Rattle.mf_vault.specs.declared.answers.Got.TheVariants as got
use Rattle.mf_vault.specs.declared.answers.Pinned.TheVariants as pinned
use Rattle.mf_vault.specs.Facts.{Facts}
use Rattle.mf_vault.specs.Actor.{Actor, Call, begin, end, pin, unpin, probe, restore, get}
use Rattle.mf_vault.specs.Licence.{Does}
use Rattle.mf_read.specs.Asking.{Ask, here, lost, away, lost_in, away_in, IsServed, IsShort, IsCut, gets}
use Rattle.mf_read.specs.Reading.{bears, stripes}
use Rattle.mf_repair.specs.declared.outcome.RepairOutcome.{RepairOutcome}
use Rattle.mf_repair.specs.declared.outcome.RepairOutcome.TheVariants as outcome

-- A probe of each name in turn, with its answer.
abbrev pub probes : List Name → List State → List Call
probes [] states = []
probes (x ∷ xs) [] = []
probes (x ∷ xs) (s ∷ states) = probe x s ∷ probes xs states

-- The names that were answered Lost, in order.
abbrev pub if_lost : Name → State → List Name
if_lost x Unborn = []
if_lost x Here = []
if_lost x (Lost line) = x ∷ []
if_lost x (Away server) = []

abbrev pub lost_names : List Name → List State → List Name
lost_names [] states = []
lost_names (x ∷ xs) [] = []
lost_names (x ∷ xs) (s ∷ states) = if_lost x s ++ lost_names xs states

-- A restore of each name in turn.
abbrev pub restores : List Name → List Call
restores [] = []
restores (x ∷ xs) = restore x ∷ restores xs

-- ---- what the calls say

-- How many restores there are, and how many probes that were answered Away.
abbrev pub one_restore : Call → ℕ
one_restore (restore x) = 1
one_restore c = 0

abbrev pub restores_in : List Call → ℕ
restores_in [] = 0
restores_in (c ∷ calls) = one_restore c + restores_in calls

abbrev pub if_away : State → ℕ
if_away (Away server) = 1
if_away s = 0

abbrev pub one_skip : Call → ℕ
one_skip (probe x s) = if_away s
one_skip c = 0

abbrev pub skips_in : List Call → ℕ
skips_in [] = 0
skips_in (c ∷ calls) = one_skip c + skips_in calls

-- What probes and gets found, in the order found.
abbrev pub probe_found : Name → State → List Ask
probe_found x Unborn = []
probe_found x Here = (record { name = x; found = here }) ∷ []
probe_found x (Lost line) = (record { name = x; found = lost line }) ∷ []
probe_found x (Away server) = (record { name = x; found = away server }) ∷ []

abbrev pub get_found : Name → Got → List Ask
get_found x (got.Here chunk) = (record { name = x; found = here }) ∷ []
get_found x (got.Lost line) = (record { name = x; found = lost line }) ∷ []
get_found x (got.Away server) = (record { name = x; found = away server }) ∷ []
get_found x got.Memory = []

abbrev pub call_found : Call → List Ask
call_found (probe x s) = probe_found x s
call_found (get x o) = get_found x o
call_found c = []

abbrev pub found_in : List Call → List Ask
found_in [] = []
found_in (c ∷ calls) = call_found c ++ found_in calls

-- The names are the same.
abbrev pub same_name : Name → Name → Bool
same_name (name.Data i) (name.Data j) = i == j
same_name (name.Copy c i) (name.Copy d j) = (c == d) && (i == j)
same_name (name.Parity w i p) (name.Parity v j q) = (w == v) && (i == j) && (p == q)
same_name x y = false

-- Each name once, where it stands first.
abbrev pub once : List (Name × ℕ) → List (Name × ℕ)
once [] = []
once (x ∷ xs) = x ∷ filter (λ y. not (same_name x.0 y.0)) (once xs)

-- ---- the order of a repair

-- Stripe j of generation g is mended: each of its names is probed in turn; where one was Lost, its data is asked for
-- and had, and each name found Lost by its probe is restored in turn.
pub data IsMended (f : Facts) (g j : ℕ) : List Call → Type 0 where
  whole : (states : List State) → length states ≡ length (stripe_names f.book g j)
      → lost_names (stripe_names f.book g j) states ≡ [] → IsMended f g j (probes (stripe_names f.book g j) states)
  mended : (states : List State) (asks : List Ask) → length states ≡ length (stripe_names f.book g j)
      → 0 < length (lost_names (stripe_names f.book g j) states) → IsServed f.book g j asks
      → IsMended f g j (probes (stripe_names f.book g j) states
      ++ (gets f asks ++ restores (lost_names (stripe_names f.book g j) states)))

-- So are the first n stripes in turn.
abbrev pub AreMended : Facts → (g n : ℕ) → List Call → Type 0
AreMended f g zero calls = calls ≡ []
AreMended f g (suc n) calls =
    (front last : List Call) × AreMended f g n front × IsMended f g n last × (calls ≡ front ++ last)

-- The probes of stripe j, one of which was answered Lost, and a short asking.
pub record IsShortMend (f : Facts) (g j : ℕ) (calls : List Call) : Type 0 where
  pub states : List State
  pub asks : List Ask
  pub long : length states ≡ length (stripe_names f.book g j)
  pub some : 0 < length (lost_names (stripe_names f.book g j) states)
  pub short : IsShort f.book g j asks
  pub order : calls ≡ probes (stripe_names f.book g j) states ++ gets f asks

-- The calls for stripe j, cut by want of memory: among the probes, the gets, or the restores.
pub data IsCutMend (f : Facts) (g j : ℕ) : List Call → Type 0 where
  in_probes : (states : List State) → length states ≤ length (stripe_names f.book g j)
      → IsCutMend f g j (probes (stripe_names f.book g j) states)
  in_gets : (states : List State) (cut : List Call) → length states ≡ length (stripe_names f.book g j)
      → 0 < length (lost_names (stripe_names f.book g j) states) → IsCut f g j cut
      → IsCutMend f g j (probes (stripe_names f.book g j) states ++ cut)
  in_restores : (states : List State) (asks : List Ask) (n : ℕ) → length states ≡ length (stripe_names f.book g j)
      → 0 < length (lost_names (stripe_names f.book g j) states) → IsServed f.book g j asks
      → IsCutMend f g j (probes (stripe_names f.book g j) states
      ++ (gets f asks ++ restores (take n (lost_names (stripe_names f.book g j) states))))

-- The calls with which a repair of generation g ends at stripe j: a short asking, where more names were found Lost
-- than
-- the generation bears; one where no more were, and a name was found Away; or want of memory.
pub data IsEnd (f : Facts) (g j : ℕ) : RepairOutcome → List Call → Type 0 where
  data_lost : (calls : List Call) → IsShortMend f g j calls
      → bears f.book g < length (once (lost_in (found_in calls)))
      → IsEnd f g j (outcome.DataLost g j (once (lost_in (found_in calls)))) calls
  unreachable : (calls : List Call) (x : Name) (server : ℕ) (others : List (Name × ℕ)) → IsShortMend f g j calls
      → length (once (lost_in (found_in calls))) ≤ bears f.book g → away_in (found_in calls) ≡ (x, server) ∷ others
      → IsEnd f g j (outcome.Unreachable g j x server) calls
  no_memory : (calls : List Call) → IsCutMend f g j calls → IsEnd f g j outcome.Memory calls

-- The calls of a repair of generation g: all stripes are mended, or the first ones, and then it ends.
pub data IsRepairOf (f : Facts) (g : ℕ) : RepairOutcome → List Call → Type 0 where
  repaired : (calls : List Call) → AreMended f g (stripes f.book g) calls
      → IsRepairOf f g (outcome.Repaired (restores_in calls) (skips_in calls)) calls
  ended : (o : RepairOutcome) (j : ℕ) (front last : List Call) → j < stripes f.book g → AreMended f g j front
      → IsEnd f g j o last → IsRepairOf f g o (front ++ last)

-- The calls of a repair that ends so. The Work slot and the right are free behind it.
pub data IsRepair (f : Facts) : RepairOutcome → List Call → Type 0 where
  busy : IsRepair f outcome.Busy (begin false ∷ [])
  absent : (missed : List ℕ) → IsRepair f outcome.Absent (begin true ∷ pin Work missed pinned.Absent ∷ end ∷ [])
  removed : (missed : List ℕ) → IsRepair f outcome.Removed (begin true ∷ pin Work missed pinned.Removed ∷ end ∷ [])
  through : (o : RepairOutcome) (missed : List ℕ) (g : ℕ) (inner : List Call) → IsRepairOf f g o inner
      → IsRepair f o (begin true ∷ pin Work missed (pinned.At g) ∷ (inner ++ (unpin Work ∷ end ∷ [])))

-- It led from one actor to the other with this outcome.
pub record Repairs (o : RepairOutcome) (a b : Actor) : Type 0 where
  pub calls : List Call
  pub licence : IsRepair a.facts o calls
  pub does : Does calls a b
