-- Of the actors of a list of accesses.
use Rattle.std.proofs.Common.{◌≡◌, ℕ, zero, suc, ◌+◌, ◌<◌, List, [], ◌∷◌, length, map, get_or, set, drop, All}
use Rattle.std.proofs.Common.{refl, sym, ap, ◌∙◌, subst, arith, Some}
use Rattle.std.specs.Prelude.{slice_get}
use Rattle.std.proofs.lemmas.Option.{slice_get-get_or}
use Rattle.std.proofs.lemmas.List.{length-map, get_or-map, append-nil}
use Rattle.std.proofs.lemmas.List.Elements.{All-map, All-cons, All-nil, All-head, All-tail}
use Rattle.std.proofs.Math.Seq.{drop-length}
use Rattle.mf_places.specs.declared.servers.Servers.{Servers}
use Rattle.mf_lines.specs.declared.parts.Command.{Command}
use Rattle.mf_lines.specs.declared.parts.FileLine.{FileLine}
use Rattle.mf_lines.specs.Meaning.{Script}
use Rattle.mf_vault.specs.declared.io.Io.{Io}
use Rattle.mf_vault.specs.Actor.{Actor, did, cut_off}
use Rattle.mf_vault.specs.Conditions.{IsIdle}
use Rattle.mf_vault.specs.Counting.{no_io, add_io, io_of}
use Rattle.mf_vault.specs.Licence.{IsKept, IsFile}
use Rattle.mf_client.specs.Acts.{cut_all}
use Rattle.mf_client.specs.Clients.{IsFileOf, AreFiles, facts_in}
use Rattle.mf_client.specs.Runs.{gained, io_gained}
use Rattle.mf_client.specs.Steps.{Finds}

-- every actor is kept
pub all_kept : {X : Type 0} (f : X → Actor) (xs : List X) → ((x : X) → IsKept (f x)) → All IsKept (map f xs)
all_kept f xs kept = All-map IsKept f xs (λ k d low. kept (get_or xs k d))

-- what holds of all holds at a place
pub all_at : (P : Actor → Type 0) {X : Type 0} (f : X → Actor) (xs : List X) (n : ℕ) (d : X) → All P (map f xs)
    → n < length xs → P (f (get_or xs n d))
all_at P f xs n d all low = subst P (get_or-map f xs n d (f d) low) (all n (f d) (let e = length-map xs f in omega
    arith))

pub got_at : {X : Type 0} (f : X → Actor) (xs : List X) (n : ℕ) (d : X) → n < length xs
    → slice_get (map f xs) n ≡ Some (f (get_or xs n d))
got_at f xs n d low = slice_get-get_or (map f xs) n (f d) (let e = length-map xs f in omega arith)
    ∙ ap Some (get_or-map f xs n d (f d) low)

-- the file of a command
pub file_low : (s : Script) (c : Command) {X : Type 0} (f : X → Actor) (xs : List X) (n : ℕ) → Finds s c (map f xs)
    → n < length s.files → n < length xs
file_low s c f xs n finds low =
    let count = finds.files.count in
    let a = length-map (map f xs) (λ (x : Actor). x.facts) in
    let b = length-map xs f in omega arith

pub file_of : (s : Script) (c : Command) {X : Type 0} (f : X → Actor) (xs : List X) (n : ℕ) (d : X) (line : FileLine)
    → (finds : Finds s c (map f xs)) → n < length s.files
    → IsFileOf s finds.phase n (get_or s.files n line) (f (get_or xs n d)).facts
file_of s c f xs n d line finds low =
    let lt = file_low s c f xs n finds low in
    let facts = λ (x : Actor). x.facts in
    let long = length-map xs f in
    let longs = length-map (map f xs) facts in
    finds.files.each n (get_or s.files n line) (f (get_or xs n d)).facts (slice_get-get_or s.files n line low)
    (slice_get-get_or (facts_in (map f xs)) n (f d).facts (omega arith)
    ∙ ap Some (get_or-map facts (map f xs) n (f d) (f d).facts (omega arith))
    ∙ ap (λ (a : Actor). Some a.facts) (get_or-map f xs n d (f d) lt))

-- ---- operations

none_gained : (a : Actor) → io_of (gained a a) ≡ no_io
none_gained a = ap io_of (drop-length a.entries)

pub plus_none : (x : Io) → add_io x no_io ≡ x
plus_none x =
    let a : x.pieces + 0 ≡ x.pieces = omega arith in
    let b : x.copies + 0 ≡ x.copies = omega arith in
    let c : x.parities + 0 ≡ x.parities = omega arith in
    let d : x.misses + 0 ≡ x.misses = omega arith in
    let e : x.writes + 0 ≡ x.writes = omega arith in
    let f : x.probes + 0 ≡ x.probes = omega arith in
    let g : x.drops + 0 ≡ x.drops = omega arith in
    λ i. record { pieces = a i; copies = b i; parities = c i; misses = d i; writes = e i; probes = f i; drops = g i }

none_plus : (x : Io) → add_io no_io x ≡ x
none_plus x =
    let a : 0 + x.pieces ≡ x.pieces = omega arith in
    let b : 0 + x.copies ≡ x.copies = omega arith in
    let c : 0 + x.parities ≡ x.parities = omega arith in
    let d : 0 + x.misses ≡ x.misses = omega arith in
    let e : 0 + x.writes ≡ x.writes = omega arith in
    let f : 0 + x.probes ≡ x.probes = omega arith in
    let g : 0 + x.drops ≡ x.drops = omega arith in
    λ i. record { pieces = a i; copies = b i; parities = c i; misses = d i; writes = e i; probes = f i; drops = g i }

pub io_same : (xs : List Actor) → io_gained xs xs ≡ no_io
io_same [] = refl
io_same (a ∷ xs) = (λ i. add_io (none_gained a i) (io_same xs i)) ∙ none_plus no_io

-- where one file's ledger gained entries
pub io_set : (xs : List Actor) (n : ℕ) (d y : Actor) → n < length xs
    → io_gained xs (set xs n y) ≡ io_of (gained (get_or xs n d) y)
io_set [] n d y low = absurd (omega arith)
io_set (a ∷ xs) zero d y low = ap (add_io (io_of (gained a y))) (io_same xs) ∙ plus_none (io_of (gained a y))
io_set (a ∷ xs) (suc n) d y low = (λ i. add_io (none_gained a i) (io_set xs n d y (omega arith) i))
    ∙ none_plus (io_of (gained (get_or xs n d) y))

-- cutting off adds no entry
pub io_cut : (away : Servers) (xs ys : List Actor) → io_gained (cut_all away xs) ys ≡ io_gained xs ys
io_cut away [] ys = refl
io_cut away (a ∷ xs) [] = refl
io_cut away (a ∷ xs) (b ∷ ys) =
    λ i. add_io (io_of (drop (length (append-nil a.entries i)) b.entries)) (io_cut away xs ys i)

-- ---- behind the cutting off

pub facts_cut : (away : Servers) (xs : List Actor) → facts_in (cut_all away xs) ≡ facts_in xs
facts_cut away [] = refl
facts_cut away (a ∷ xs) = ap (λ l. a.facts ∷ l) (facts_cut away xs)

pub idle_cut : (away : Servers) (xs : List Actor) → All IsIdle xs → All IsIdle (cut_all away xs)
idle_cut away [] h = All-nil IsIdle
idle_cut away (a ∷ xs) h =
    let i = All-head IsIdle a xs h in
    All-cons IsIdle (did (cut_off away) a) (cut_all away xs) (record { right = i.right; work = i.work })
    (idle_cut away xs (All-tail IsIdle a xs h))

pub cut_finds : (s : Script) (c : Command) (away : Servers) (xs : List Actor) → Finds s c xs
    → Finds s c (cut_all away xs)
cut_finds s c away xs x = record {
  phase = x.phase;
  files = subst (AreFiles s x.phase) (sym (facts_cut away xs)) x.files;
  idle = idle_cut away xs x.idle;
  few = let e = length-map xs (did (cut_off away)) in let low = x.few in omega arith;
  file = x.file;
  lines = λ server is. subst (All (Rattle.mf_client.specs.Steps.IsLine c.line server)) (sym (facts_cut away xs))
      (x.lines server is);
}

pub all_cut : (away : Servers) (xs : List Actor) → All (λ (a : Actor). a.cut ≡ away) (cut_all away xs)
all_cut away [] = All-nil (λ (a : Actor). a.cut ≡ away)
all_cut away (a ∷ xs) =
    All-cons (λ (b : Actor). b.cut ≡ away) (did (cut_off away) a) (cut_all away xs) refl (all_cut away xs)

-- every actor's file is laid out still
abbrev pub IsFiled : Actor → Type 0
IsFiled a = IsFile a.facts

pub filed : (xs : List Actor) → All IsKept xs → All IsFiled xs
filed xs kept = λ k d low. (kept k d low).file

pub filed_cut : (away : Servers) (xs : List Actor) → All IsFiled xs → All IsFiled (cut_all away xs)
filed_cut away [] h = All-nil IsFiled
filed_cut away (a ∷ xs) h = All-cons IsFiled (did (cut_off away) a) (cut_all away xs)
    (All-head IsFiled a xs h) (filed_cut away xs (All-tail IsFiled a xs h))
