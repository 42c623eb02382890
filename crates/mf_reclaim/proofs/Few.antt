-- The entries of a reclaim are few: one a generation and one a name at most.
use Rattle.std.proofs.Common.{◌≡◌, ℕ, ◌+◌, ◌^◌, ◌<◌, ◌≤◌, List, [], ◌∷◌, ◌++◌, length, length-append, filter, refl}
use Rattle.std.proofs.Common.{sym, ap, ◌∙◌}
use Rattle.std.proofs.Common.{subst, arith, suc, not, Bool, append_assoc}
use Rattle.std.proofs.lemmas.List.Filters.{length-filter_both}
use Rattle.mf_machine.specs.declared.answer.Closed.{Closed}
use Rattle.mf_machine.specs.declared.answer.Slot.TheVariants.{Work}
use Rattle.mf_places.specs.declared.Name.{Name}
use Rattle.mf_places.specs.Facts.{BookFacts, IsBook, chunks_of}
use Rattle.mf_places.specs.Names.{all_names, count_of}
use Rattle.mf_places.proofs.Names.{count_of-is}
use Rattle.mf_places.proofs.Counts.{first_in-le}
use Rattle.mf_shape.specs.Stages.{max_width}
use Rattle.mf_shape.proofs.Widths.{max_width-le-limit}
use Rattle.mf_vault.specs.declared.answers.Pinned.TheVariants as pinned
use Rattle.mf_vault.specs.Facts.{Facts, stages}
use Rattle.mf_vault.specs.Actor.{Actor, Call, entry_of}
use Rattle.mf_vault.specs.Licence.{Does, entries_of}
use Rattle.mf_vault.proofs.Entering.{pin_is}
use Rattle.mf_reclaim.specs.declared.outcome.ReclaimOutcome.{ReclaimOutcome}
use Rattle.mf_reclaim.specs.Reclaim as licence
use Rattle.mf_reclaim.specs.Reclaim.{Reclaims, IsReclaim, Learns, closes, discards, is_free, free_names}

entries_append : (xs ys : List Call) → entries_of (xs ++ ys) ≡ entries_of xs ++ entries_of ys
entries_append [] ys = refl
entries_append (c ∷ xs) ys = ap (λ l. entry_of c ++ l) (entries_append xs ys)
    ∙ sym (append_assoc (entry_of c) (entries_of xs) (entries_of ys))

closes_few : (g : ℕ) (answers : List Closed) → length (entries_of (closes g answers)) ≡ length answers
closes_few g [] = refl
closes_few g (c ∷ answers) = ap (λ n. suc n) (closes_few (g + 1) answers)

discards_few : (names : List Name) (changed : List Bool) → length (entries_of (discards names changed)) ≤ length names
discards_few [] changed = omega arith
discards_few (x ∷ names) [] = omega arith
discards_few (x ∷ names) (b ∷ changed) = let r = discards_few names changed in omega arith

learns_none : {f : Facts} {end : ℕ} {first : List Call} → Learns f end first → length (entries_of first) ≡ 0
learns_none (licence.published gs g) = refl
learns_none (licence.removed gs) = refl

learns_low : {f : Facts} {end : ℕ} {first : List Call} (rest : List Call) {a b : Actor} → Learns f end first
    → f ≡ a.facts
    → Does (first ++ rest) a b → end ≤ stages a.facts
learns_low rest {a = a} (licence.published gs g) e d =
    let low = (pin_is a.facts gs (pinned.At g) a.view d.fair.0).0 in omega arith
learns_low rest (licence.removed gs) e d = let same = ap stages e in omega arith

count_few : (b : BookFacts) → IsBook b → count_of b ≤ 300000
count_few b book = let wide = max_width-le-limit book.shape.chain in
    subst (λ n. n ≤ 300000) (sym (count_of-is b)) (first_in-le book.shape.chain (chunks_of b)
    (max_width b.shape.stages + 1)
    book.chunks (omega arith))

passing_few : (p : Name → Bool) (xs : List Name) → length (filter p xs) ≤ length xs
passing_few p xs = let both = length-filter_both p (λ x. not (p x)) (λ x. refl) xs in omega arith

names_few : (b : BookFacts) (answers : List Closed) → IsBook b → length (free_names b answers) ≤ 300000
unfolding count_of
names_few b answers book = let few = count_few b book in let less = passing_few (is_free b answers)
    (all_names b) in omega arith

by_licence : {a b : Actor} {o : ReclaimOutcome} {calls : List Call} → IsBook a.facts.book → IsReclaim a.facts o calls
    → Does calls a b → length (entries_of calls) ≤ 300004
by_licence book licence.no_memory d = omega arith
by_licence book (licence.absent gs) d = omega arith
by_licence {a = a} book (licence.reclaimed first answers changed learns long) d =
    let names = free_names a.facts.book answers in
    let rest = closes 0 answers ++ discards names changed in
    let e = ap length (entries_append first rest) ∙ length-append (entries_of first) (entries_of rest) in
    let f = ap length (entries_append (closes 0 answers) (discards names changed))
    ∙ length-append (entries_of (closes 0 answers)) (entries_of (discards names changed)) in
    let none = learns_none learns in
    let low = learns_low rest learns refl d in
    let some = book.shape.chain.few in
    let c = closes_few 0 answers in
    let n = discards_few names changed in
    let k = names_few a.facts.book answers book in
    omega arith

pub entries_few : {o : ReclaimOutcome} {a b : Actor} → IsBook a.facts.book → (r : Reclaims o a b)
    → length (entries_of r.calls) < 2 ^ 24
entries_few book r = let few = by_licence book r.licence r.does in omega arith
