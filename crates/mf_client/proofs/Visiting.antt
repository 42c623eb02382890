-- Files visited in turn.
use Rattle.std.proofs.Common.{◌≡◌, ℕ, zero, suc, ◌+◌, ◌*◌, ◌^◌, ◌<◌, ◌≤◌, List, [], ◌∷◌, ◌++◌, length, map, get_or, set}
use Rattle.std.proofs.Common.{drop, refl, sym, ap, ◌∙◌, subst, arith, All, append_assoc, length-append}
use Rattle.std.proofs.lemmas.List.{append-nil, map-append, map-set}
use Rattle.std.proofs.lemmas.Grind.{flat_map-append}
use Rattle.std.proofs.lemmas.Option.{slice_get_within, get_or_from_slice_get}
use Rattle.std.proofs.lemmas.List.Elements.{All-set}
use Rattle.std.proofs.Math.Seq.{drop-append_seam, take-suc}
use Rattle.mf_places.specs.Facts.{IsBook}
use Rattle.mf_vault.specs.declared.answers.Entry.{Entry}
use Rattle.mf_vault.specs.declared.io.Io.{Io}
use Rattle.mf_vault.specs.Facts.{Facts}
use Rattle.mf_vault.specs.Actor.{Actor}
use Rattle.mf_vault.specs.Conditions.{IsIdle}
use Rattle.mf_vault.specs.Counting.{no_io, add_io, io_of, SumFits}
use Rattle.mf_vault.proofs.Counted.{Below, io_append, io_low}
use Rattle.mf_client.specs.declared.done.Part.{Part}
use Rattle.mf_client.specs.OnFile.{OnFile}
use Rattle.mf_client.specs.Clients.{facts_in}
use Rattle.mf_client.specs.Runs.{gained, io_gained}
use Rattle.mf_client.specs.Sweeps.{Visit, Visits, VisitsInTurn, parts_of, parts_in}
use Rattle.mf_client.specs.Steps.{Visited, VisitedAll}
use Rattle.mf_client.proofs.Numbered.{io_same, io_set, got_at, IsFiled}
use Rattle.mf_client.proofs.Turns.{turn_leaves, turn_adds, all_few, parts_few}

-- ---- operations add up

swapped : (p q r s : Io) → add_io (add_io p q) (add_io r s) ≡ add_io (add_io p r) (add_io q s)
swapped p q r s =
    let a : (p.pieces + q.pieces) + (r.pieces + s.pieces) ≡ (p.pieces + r.pieces) + (q.pieces + s.pieces) = omega arith
    in
    let b : (p.copies + q.copies) + (r.copies + s.copies) ≡ (p.copies + r.copies) + (q.copies + s.copies) = omega arith
    in
    let c : (p.parities + q.parities) + (r.parities + s.parities)
    ≡ (p.parities + r.parities) + (q.parities + s.parities) = omega arith in
    let d : (p.misses + q.misses) + (r.misses + s.misses) ≡ (p.misses + r.misses) + (q.misses + s.misses) = omega arith
    in
    let e : (p.writes + q.writes) + (r.writes + s.writes) ≡ (p.writes + r.writes) + (q.writes + s.writes) = omega arith
    in
    let f : (p.probes + q.probes) + (r.probes + s.probes) ≡ (p.probes + r.probes) + (q.probes + s.probes) = omega arith
    in
    let g : (p.drops + q.drops) + (r.drops + s.drops) ≡ (p.drops + r.drops) + (q.drops + s.drops) = omega arith in
    λ i. record { pieces = a i; copies = b i; parities = c i; misses = d i; writes = e i; probes = f i; drops = g i }

-- each ledger has further entries
abbrev pub Grown : List Actor → List Actor → Type 0
Grown [] [] = Unit {0}
Grown (a ∷ xs) (b ∷ ys) = ((es : List Entry) × (b.entries ≡ a.entries ++ es)) × Grown xs ys
Grown xs ys = ⊥

grown_same : (xs : List Actor) → Grown xs xs
grown_same [] = tt
grown_same (a ∷ xs) = (([], sym (append-nil a.entries)), grown_same xs)

grown_set : (xs : List Actor) (n : ℕ) (d b : Actor) (es : List Entry) → n < length xs
    → b.entries ≡ (get_or xs n d).entries ++ es → Grown xs (set xs n b)
grown_set [] n d b es low e = absurd (omega arith)
grown_set (a ∷ xs) zero d b es low e = ((es, e), grown_same xs)
grown_set (a ∷ xs) (suc n) d b es low e =
    (([], sym (append-nil a.entries)), grown_set xs n d b es (omega arith) e)

grown_then : (xs ys zs : List Actor) → Grown xs ys → Grown ys zs → Grown xs zs
grown_then [] [] [] x y = tt
grown_then [] [] (c ∷ zs) x y = absurd y
grown_then [] (b ∷ ys) zs x y = absurd x
grown_then (a ∷ xs) [] zs x y = absurd x
grown_then (a ∷ xs) (b ∷ ys) [] x y = absurd y
grown_then (a ∷ xs) (b ∷ ys) (c ∷ zs) ((es, e), x) ((fs, f), y) =
    ((es ++ fs, f ∙ ap (λ l. l ++ fs) e ∙ append_assoc a.entries es fs), grown_then xs ys zs x y)

gained_then : (a b c : Actor) (es fs : List Entry) → b.entries ≡ a.entries ++ es → c.entries ≡ b.entries ++ fs
    → io_of (gained a c) ≡ add_io (io_of (gained a b)) (io_of (gained b c))
gained_then a b c es fs e f =
    let first : gained a b ≡ es = ap (drop (length a.entries)) e ∙ drop-append_seam a.entries es in
    let last : gained b c ≡ fs = ap (drop (length b.entries)) f ∙ drop-append_seam b.entries fs in
    let both : gained a c ≡ es ++ fs =
    ap (drop (length a.entries)) (f ∙ ap (λ l. l ++ fs) e ∙ append_assoc a.entries es fs)
    ∙ drop-append_seam a.entries (es ++ fs) in
    ap io_of both ∙ io_append es fs ∙ (λ i. add_io (io_of (sym first i)) (io_of (sym last i)))

io_then : (xs ys zs : List Actor) → Grown xs ys → Grown ys zs
    → io_gained xs zs ≡ add_io (io_gained xs ys) (io_gained ys zs)
io_then [] [] [] x y = refl
io_then [] [] (c ∷ zs) x y = absurd y
io_then [] (b ∷ ys) zs x y = absurd x
io_then (a ∷ xs) [] zs x y = absurd x
io_then (a ∷ xs) (b ∷ ys) [] x y = absurd y
io_then (a ∷ xs) (b ∷ ys) (c ∷ zs) ((es, e), x) ((fs, f), y) =
    (λ i. add_io (gained_then a b c es fs e f i) (io_then xs ys zs x y i))
    ∙ swapped (io_of (gained a b)) (io_of (gained b c)) (io_gained xs ys) (io_gained ys zs)

-- ---- what a visit leaves

-- idle actors of the same files, whose ledgers have at most so many entries more
pub record Passed (before after : List Actor) (most : ℕ) : Type 0 where
  pub idle : All IsIdle after
  pub filed : All IsFiled after
  pub facts : facts_in after ≡ facts_in before
  pub grown : Grown before after
  pub low : Below (io_gained before after) most

below_more : (x : Io) (m n : ℕ) → m ≤ n → Below x m → Below x n
below_more x m n le b =
    let p = b.pieces in
    let c = b.copies in
    let r = b.parities in
    let s = b.misses in
    let w = b.writes in
    let q = b.probes in
    let d = b.drops in
    record {
      pieces = omega arith;
      copies = omega arith;
      parities = omega arith;
      misses = omega arith;
      writes = omega arith;
      probes = omega arith;
      drops = omega arith;
    }

below_sum : (x y : Io) (m n k : ℕ) → m + n ≡ k → Below x m → Below y n → Below (add_io x y) k
below_sum x y m n k e a b = record {
  pieces = let p = a.pieces in let q = b.pieces in omega arith;
  copies = let p = a.copies in let q = b.copies in omega arith;
  parities = let p = a.parities in let q = b.parities in omega arith;
  misses = let p = a.misses in let q = b.misses in omega arith;
  writes = let p = a.writes in let q = b.writes in omega arith;
  probes = let p = a.probes in let q = b.probes in omega arith;
  drops = let p = a.drops in let q = b.drops in omega arith;
}

nothing_low : (n : ℕ) → Below no_io n
nothing_low n = record {
  pieces = omega arith;
  copies = omega arith;
  parities = omega arith;
  misses = omega arith;
  writes = omega arith;
  probes = omega arith;
  drops = omega arith;
}

visit_passes : (v : Visit) (before after : List Actor) → v.due ≤ 4 → All IsIdle before → All IsFiled before
    → OnFile v.file (Visits v) before after → Passed before after 7920020
visit_passes v before after low idle kept on =
    let within = slice_get_within before v.file on.old on.was in
    let at = get_or_from_slice_get before v.file on.old on.old on.was in
    let was_kept : IsFiled on.old = subst IsFiled at (kept v.file on.old within) in
    let was_idle : IsIdle on.old = subst IsIdle at (idle v.file on.old within) in
    let left = turn_leaves v.due v.changes on.old on.new on.goes.converts was_idle in
    let adds = turn_adds v.due v.changes on.old on.new was_kept.layout was_idle on.goes.converts in
    let facts = λ (a : Actor). a.facts in
    let few = all_few v.due v.changes on.goes.all in
    let most = adds.few in
    let gains : gained on.old on.new ≡ adds.entries =
    ap (drop (length on.old.entries)) adds.are ∙ drop-append_seam on.old.entries adds.entries in
    let now_kept : IsFiled on.new = subst (λ (f : Facts). Rattle.mf_vault.specs.Licence.IsFile f) (sym left.facts)
    was_kept in
    record {
      idle = subst (All IsIdle) (sym on.is) (All-set IsIdle before v.file on.new left.idle idle);
      filed = subst (All IsFiled) (sym on.is) (All-set IsFiled before v.file on.new now_kept kept);
      facts = ap facts_in on.is ∙ Rattle.std.proofs.Math.Seq.map-set_same facts before v.file on.new on.old
          (left.facts ∙ ap facts (sym at));
      grown = subst (Grown before) (sym on.is) (grown_set before v.file on.old on.new adds.entries within
          (adds.are ∙ ap (λ (a : Actor). a.entries ++ adds.entries) (sym at)));
      low = subst (λ x. Below x 7920020) (sym (ap (io_gained before) on.is
          ∙ io_set before v.file on.old on.new within
          ∙ ap (λ (a : Actor). io_of (gained a on.new)) at ∙ ap io_of gains))
          (below_more (io_of adds.entries) (length adds.entries) 7920020 (omega arith) (io_low adds.entries));
    }

-- one visit more
passed_then : (a b c : List Actor) (m n k : ℕ) → m + n ≡ k → Passed a b m → Passed b c n → Passed a c k
passed_then a b c m n k e x y = record {
  idle = y.idle;
  filed = y.filed;
  facts = y.facts ∙ x.facts;
  grown = grown_then a b c x.grown y.grown;
  low = subst (λ z. Below z k) (sym (io_then a b c x.grown y.grown))
      (below_sum (io_gained a b) (io_gained b c) m n k e x.low y.low);
}

abbrev pub AreLow : List Visit → Type 0
AreLow [] = Unit {0}
AreLow (v ∷ vs) = (v.due ≤ 4) × AreLow vs

pub visits_pass : (vs : List Visit) (before after : List Actor) → AreLow vs → All IsIdle before → All IsFiled before
    → VisitsInTurn vs before after → Passed before after (length vs * 7920020)
visits_pass [] before after low idle kept e =
    subst (λ (l : List Actor). Passed before l 0) (sym e) (record {
      idle = idle;
      filed = kept;
      facts = refl;
      grown = grown_same before;
      low = subst (λ x. Below x 0) (sym (io_same before)) (nothing_low 0);
    })
visits_pass (v ∷ vs) before after low idle kept (mid, one, others) =
    let x = visit_passes v before mid low.0 idle kept one in
    let y = visits_pass vs mid after low.1 x.idle x.filed others in
    passed_then before mid after 7920020 (length vs * 7920020) (length (v ∷ vs) * 7920020) (omega arith) x y

visits_more : (vs : List Visit) (v : Visit) (a b c : List Actor) → VisitsInTurn vs a b → OnFile v.file (Visits v) b c
    → VisitsInTurn (vs ++ v ∷ []) a c
visits_more [] v a b c x y = (c, subst (λ (l : List Actor). OnFile v.file (Visits v) l c) x y, refl)
visits_more (w ∷ vs) v a b c (mid, one, others) y = (mid, one, visits_more vs v mid b c others y)

-- ---- a loop

pub none_visited : (before : List Actor) (parts now : List Part) → now ≡ parts
    → VisitedAll [] before before parts now
none_visited before parts now same = record {
  visits = [];
  due = refl;
  turn = refl;
  told = same ∙ sym (append-nil parts);
}

pub one_visited : (dues : List (ℕ × ℕ)) (file due : ℕ) (before mid after : List Actor) (first now last : List Part)
    → VisitedAll dues before mid first now → OnFile file (λ a b. Visited file due a b now last) mid after
    → VisitedAll (dues ++ (file, due) ∷ []) before after first last
one_visited dues file due before mid after first now last x on =
    let one = on.goes in
    let v : Visit = record { file = file; due = due; changes = one.changes } in
    record {
      visits = x.visits ++ v ∷ [];
      due = map-append (λ (w : Visit). (w.file, w.due)) x.visits (v ∷ []) ∙ ap (λ l. l ++ (file, due) ∷ []) x.due;
      turn = visits_more x.visits v before mid after x.turn
          (record { old = on.old; new = on.new; was = on.was; goes = one.visits; is = on.is });
      told = one.told ∙ ap (λ l. l ++ parts_of file one.changes) x.told
          ∙ append_assoc first (parts_in x.visits) (parts_of file one.changes)
          ∙ ap (λ l. first ++ l) (sym (flat_map-append (λ (w : Visit). parts_of w.file w.changes) x.visits (v ∷ [])
          ∙ ap (λ l. parts_in x.visits ++ l) (append-nil (parts_of file one.changes))));
    }

-- the sums of operations fit
pub sums_fit : (x y : Io) (m n : ℕ) → m + n < 2 ^ 64 → Below x m → Below y n → SumFits x y
sums_fit x y m n low a b = record {
  pieces = let p = a.pieces in let q = b.pieces in omega arith;
  copies = let p = a.copies in let q = b.copies in omega arith;
  parities = let p = a.parities in let q = b.parities in omega arith;
  misses = let p = a.misses in let q = b.misses in omega arith;
  writes = let p = a.writes in let q = b.writes in omega arith;
  probes = let p = a.probes in let q = b.probes in omega arith;
  drops = let p = a.drops in let q = b.drops in omega arith;
}

-- a visit to the file of this number
pub on_visited : {X : Type 0} (f : X → Actor) (xs : List X) (file due : ℕ) (d y : X) (now last : List Part)
    → file < length xs → Visited file due (f (get_or xs file d)) (f y) now last
    → OnFile file (λ a b. Visited file due a b now last) (map f xs) (map f (set xs file y))
on_visited f xs file due d y now last low x = record {
  old = f (get_or xs file d);
  new = f y;
  was = got_at f xs file d low;
  goes = x;
  is = map-set f xs file y;
}

visit_of : (file due : ℕ) (before after : List Actor) (now last : List Part)
    → (on : OnFile file (λ a b. Visited file due a b now last) before after)
    → OnFile file (Visits (record { file = file; due = due; changes = on.goes.changes })) before after
visit_of file due before after now last on =
    record { old = on.old; new = on.new; was = on.was; goes = on.goes.visits; is = on.is }

pub visited_passes : (file due : ℕ) (before after : List Actor) (now last : List Part) → due ≤ 4
    → All IsIdle before → All IsFiled before → OnFile file (λ a b. Visited file due a b now last) before after
    → Passed before after 7920020
visited_passes file due before after now last low idle kept on =
    visit_passes (record { file = file; due = due; changes = on.goes.changes }) before after low idle kept
    (visit_of file due before after now last on)

-- the operations of one visit more
pub io_more : (before mid after : List Actor) (file : ℕ) (d y : Actor) (m n : ℕ) (sum one all : Io)
    → Passed before mid m → Passed mid after n → after ≡ set mid file y → file < length mid
    → sum ≡ io_gained before mid → one ≡ io_of (gained (get_or mid file d) y) → all ≡ add_io sum one
    → all ≡ io_gained before after
io_more before mid after file d y m n sum one all x z is low a b e =
    e ∙ (λ i. add_io (a i) (b i))
    ∙ ap (add_io (io_gained before mid)) (sym (io_set mid file d y low) ∙ ap (io_gained mid) (sym is))
    ∙ sym (io_then before mid after x.grown z.grown)

pub parts_low : (file due : ℕ) (a b : Actor) (before after : List Part) → Visited file due a b before after
    → length after ≤ length before + due
parts_low file due a b before after x =
    let e = ap length x.told ∙ length-append before (parts_of file x.changes) in
    let p = parts_few file x.changes in
    let few = all_few due x.changes x.visits.all in omega arith

pub visit_low : (file due : ℕ) (a b : Actor) (before after : List Part) → due ≤ 4 → IsBook a.facts.book → IsIdle a
    → Visited file due a b before after → Below (io_of (gained a b)) 7920020
visit_low file due a b before after low book idle x =
    let adds = turn_adds due x.changes a b book idle x.visits.converts in
    let few = all_few due x.changes x.visits.all in
    let most = adds.few in
    let gains : gained a b ≡ adds.entries =
    ap (drop (length a.entries)) adds.are ∙ drop-append_seam a.entries adds.entries in
    subst (λ es. Below (io_of es) 7920020) (sym gains)
    (below_more (io_of adds.entries) (length adds.entries) 7920020 (omega arith) (io_low adds.entries))

-- the ledger only grew
pub visit_grown : (file due : ℕ) (a b : Actor) (before after : List Part) → IsBook a.facts.book → IsIdle a
    → Visited file due a b before after → length a.entries ≤ length b.entries
visit_grown file due a b before after book idle x =
    let adds = turn_adds due x.changes a b book idle x.visits.converts in
    let long = ap length adds.are ∙ length-append a.entries adds.entries in omega arith
