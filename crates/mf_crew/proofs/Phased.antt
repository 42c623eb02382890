-- What a phase finds, and what it leaves.
use Rattle.std.proofs.Common.{◌≡◌, ℕ, ◌≤◌, Bool, true, false, List, [], ◌∷◌, ◌++◌, length, map}
use Rattle.std.proofs.Common.{take, get_or}
use Rattle.std.proofs.Common.{Option, Some, None, All, refl, sym, ap, ◌∙◌, subst, arith, cond}
use Rattle.std.specs.Prelude.{slice_get}
use Rattle.std.specs.Option.{option_map}
use Rattle.std.proofs.lemmas.List.{length-map, take_all}
use Rattle.std.proofs.lemmas.List.Elements.{All-from_get_or, All-map}
use Rattle.std.proofs.lemmas.Option.{slice_get-map, slice_get-get_or, slice_get_within}
use Rattle.std.proofs.Math.Seq.{take-append_seam}
use Rattle.mf_machine.specs.Worlds.{World}
use Rattle.mf_places.specs.Facts.{BookFacts}
use Rattle.mf_lines.specs.declared.parts.Content.TheVariants as given
use Rattle.mf_lines.specs.declared.parts.FileLine.{FileLine}
use Rattle.mf_lines.specs.Meaning.{Script}
use Rattle.mf_script.specs.Losses.{losses_of}
use Rattle.mf_script.specs.Phases.{clients_of}
use Rattle.mf_vault.specs.Facts.{Facts}
use Rattle.mf_vault.specs.Actor.{Actor}
use Rattle.mf_vault.specs.Conditions.{IsIdle}
use Rattle.mf_plain.specs.Resting.{Resting, AtRest, facts_of, unborn}
use Rattle.mf_plain.specs.declared.access.PlainAccess.{PlainAccess}
use Rattle.mf_plain.specs.Alone.{first_actor, rested}
use Rattle.mf_plain.specs.Whole.{actor_of}
use Rattle.mf_client.specs.declared.done.Done.{Done}
use Rattle.mf_client.specs.Clients.{HasClient, IsFileOf, AreFiles, facts_in}
use Rattle.mf_client.specs.Runs.{Runs}
use Rattle.mf_crew.specs.Files.{HasPhase, book_of, RestsBy, AllRestBy, left_by}
use Rattle.mf_crew.specs.Alone.{first_actors, RunsPhase}

-- ---- lists

-- an element of a mapped list is that of the list, mapped
pub record Mapped {A B : Type 0} (f : A → B) (xs : List A) (n : ℕ) (y : B) : Type 0 where
  pub before : A
  pub at : slice_get xs n ≡ Some before
  pub is : f before ≡ y

pub mapped : {A B : Type 0} (f : A → B) (xs : List A) (n : ℕ) (y : B) → slice_get (map f xs) n ≡ Some y
    → Mapped f xs n y
mapped f xs n y e = go (slice_get xs n) refl (sym (slice_get-map f xs n) ∙ e)
  where
    go : (o : Option _) → slice_get xs n ≡ o → option_map f o ≡ Some y → Mapped f xs n y
    go (Some x) at is = record { before = x; at = at; is = cc }
    go None at is = absurd cc

pub map_at : {A B : Type 0} (f : A → B) (xs : List A) (n : ℕ) (x : A) → slice_get xs n ≡ Some x
    → slice_get (map f xs) n ≡ Some (f x)
map_at f xs n x e = slice_get-map f xs n ∙ ap (option_map f) e

-- ---- what a phase finds

no_line : Unit {0} → FileLine
no_line u = record { name = []; content = given.Empty }

no_file : Script → Resting
no_file s = unborn (book_of s 0 (no_line tt)) []

-- each file has a line
record HasLine (s : Script) (phase now n : ℕ) (r : Resting) : Type 0 where
  line : FileLine
  at : slice_get s.files n ≡ Some line
  is : RestsBy s phase now n line r

has_line : (s : Script) (phase now : ℕ) (files : List Resting) (n : ℕ) (r : Resting) → AllRestBy s phase now files
    → slice_get files n ≡ Some r → HasLine s phase now n r
has_line s phase now files n r are at =
    let line : FileLine = get_or s.files n (no_line tt) in
    let there = slice_get-get_or s.files n (no_line tt) (omega (arith, are.count, slice_get_within files n r at)) in
    record { line = line; at = there; is = are.each n line r there at }

-- so what is known of a file with its line is known of all
pub all_of : (s : Script) (phase now : ℕ) (files : List Resting) (P : Resting → Type 0) → AllRestBy s phase now files
    → ((n : ℕ) (line : FileLine) (r : Resting) → RestsBy s phase now n line r → P r) → All P files
all_of s phase now files P are each =
    All-from_get_or P files (no_file s)
    (λ i within.
    let r : Resting = get_or files i (no_file s) in
    let has = has_line s phase now files i r are (slice_get-get_or files i (no_file s) within) in
    each i has.line r has.is)

-- the actors' facts
first_facts : (s : Script) (p now n : ℕ) (files : List Resting) (f : Facts)
    → slice_get (facts_in (first_actors s p now files)) n ≡ Some f
    → Mapped (λ r. facts_of r now (losses_of s p)) files n f
first_facts s p now n files f e =
    let outer = mapped (λ (a : Actor). a.facts) (first_actors s p now files) n f e in
    let inner = mapped (λ r. first_actor r now (losses_of s p)) files n outer.before outer.at in
    record { before = inner.before; at = inner.at; is = ap (λ (a : Actor). a.facts) inner.is ∙ outer.is }

found : (s : Script) (p now n : ℕ) (line : FileLine) (r : Resting) → RestsBy s p now n line r
    → IsFileOf s p n line (facts_of r now (losses_of s p))
found s p now n line r is = record {
  family = record {
    shape = ap (λ (b : BookFacts). b.shape) is.book;
    points = ap (λ (b : BookFacts). b.points) is.book;
  };
  chunk = ap (λ (b : BookFacts). b.chunk) is.book;
  file = ap (λ (b : BookFacts). b.file) is.book;
  bytes = is.bytes;
  losses = refl;
}

pub finds_files : (s : Script) (p now : ℕ) (files : List Resting) → AllRestBy s p now files
    → AreFiles s p (facts_in (first_actors s p now files))
finds_files s p now files are = record {
  count = length-map (first_actors s p now files) (λ (a : Actor). a.facts)
      ∙ length-map files (λ r. first_actor r now (losses_of s p)) ∙ are.count;
  each = λ n line f at is.
      let of = first_facts s p now n files f is in
      subst (IsFileOf s p n line) of.is (found s p now n line of.before (are.each n line of.before at of.at));
}

pub all_idle : (s : Script) (p now : ℕ) (files : List Resting) → All IsIdle (first_actors s p now files)
all_idle s p now files =
    All-map IsIdle (λ r. first_actor r now (losses_of s p)) files
    (All-from_get_or (λ r. IsIdle (first_actor r now (losses_of s p))) files (no_file s)
    (λ i within. record { right = refl; work = refl }))

-- ---- what a phase leaves

record Left (a : Actor) (r : Resting) : Type 0 where
  world : World
  is : r ≡ rested a.facts world

left : (a : Actor) (r : Resting) → left_by a ≡ Some r → Left a r
left a r e = go a.whole refl
  where
    go : (o : Option World) → a.whole ≡ o → Left a r
    go (Some w) at =
        let same : Some (rested a.facts w) ≡ Some r = ap (option_map (rested a.facts)) (sym at) ∙ e in
        record { world = w; is = let n = same in cc }
    go None at = absurd (let no = ap (option_map (rested a.facts)) (sym at) ∙ e in cc)

either_low : (b : Bool) (m n now : ℕ) → m ≤ now → n ≤ now → cond b m n ≤ now
either_low true m n now low other = low
either_low false m n now low other = other

rests_one : (s : Script) (p now n : ℕ) (line : FileLine) (r : Resting) (f : Facts) (w : World) (new : Resting)
    → RestsBy s p now n line r → facts_of r now (losses_of s p) ≡ f → new ≡ rested f w → RestsBy s p now n line new
rests_one s p now n line r f w new is facts e =
    let none : 0 ≤ now = omega arith in
    let same : now ≤ now = omega arith in
    subst (RestsBy s p now n line) (ap (λ g. rested g w) facts ∙ sym e) (record {
      book = is.book;
      bytes = is.bytes;
      losses = take_all (length (losses_of s p)) (losses_of s p) (omega arith);
      born = either_low _ 0 _ now none (either_low _ now r.born now same is.born);
    })

leaves : (s : Script) (p now : ℕ) (files new : List Resting) (actors : List Actor) → AllRestBy s p now files
    → facts_in actors ≡ facts_in (first_actors s p now files) → map left_by actors ≡ map Some new
    → AllRestBy s p now new
leaves s p now files new actors are facts rest = record {
  count = sym (length-map new Some) ∙ ap length (sym rest) ∙ length-map actors left_by
      ∙ sym (length-map actors (λ (a : Actor). a.facts)) ∙ ap length facts ∙ (finds_files s p now files are).count;
  each = λ n line r at is.
      let of = mapped left_by actors n (Some r) (ap (λ l. slice_get l n) rest ∙ map_at Some new n r is) in
      let has = left of.before r of.is in
      let first = first_facts s p now n files of.before.facts
      (ap (λ l. slice_get l n) (sym facts) ∙ map_at (λ (a : Actor). a.facts) actors n of.before of.at) in
      rests_one s p now n line first.before of.before.facts has.world r (are.each n line first.before at first.at)
      first.is has.is;
}

-- ---- a phase of one client

pub only_client : (s : Script) (p : ℕ) → HasPhase s p → length (clients_of s p) ≡ 1 → HasClient s p 1
only_client s p has one = record { phases = has; clients = (omega arith, omega (arith, one)) }

-- a phase that was run
pub phase_ran : (s : Script) (p now : ℕ) (files new : List Resting) (done : List Done) (was actors : List Actor)
    → length (clients_of s p) ≡ 1 → AllRestBy s p now files → was ≡ first_actors s p now files
    → Runs s p 1 was done actors → facts_in actors ≡ facts_in was → map left_by actors ≡ map Some new → All AtRest new
    → RunsPhase s p now files done new × AllRestBy s p now new
phase_ran s p now files new done was actors one are first runs facts rest at_rest = (
  record {
    one = one;
    actors = actors;
    runs = subst (λ as0. Runs s p 1 as0 done actors) first runs;
    rest = rest;
    at_rest = at_rest;
  },
  leaves s p now files new actors are (facts ∙ ap facts_in first) rest,
)

pub left_all : (xs ys : List PlainAccess) (files : List Resting) → xs ≡ ys
    → map (λ a. left_by (actor_of a)) ys ≡ map Some files → map left_by (map actor_of xs) ≡ map Some files
left_all xs ys files same is = map-map xs ∙ ap (map (λ a. left_by (actor_of a))) same ∙ is
  where
    map-map : (xs : List PlainAccess) → map left_by (map actor_of xs) ≡ map (λ a. left_by (actor_of a)) xs
    map-map [] = refl
    map-map (x ∷ xs) = ap (λ l. left_by (actor_of x) ∷ l) (map-map xs)

-- as many accesses are written back as were lent
pub lent : (n : ℕ) (was xs ys : List PlainAccess) → length was ≡ n
    → facts_in (map actor_of xs) ≡ facts_in (map actor_of was) → xs ≡ take n (xs ++ ys)
lent n was xs ys long facts =
    let count : (l : List PlainAccess) → length (facts_in (map actor_of l)) ≡ length l =
    λ l. length-map (map actor_of l) (λ (a : Actor). a.facts) ∙ length-map l actor_of in
    let same : length xs ≡ n = sym (count xs) ∙ ap length facts ∙ count was ∙ long in
    sym (take-append_seam xs ys) ∙ ap (λ k. take k (xs ++ ys)) same
