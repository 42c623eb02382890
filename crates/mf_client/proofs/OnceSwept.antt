-- Where the whole state is told, a sweep has one result.
use Rattle.std.proofs.Common.{◌≡◌, ◌≢◌, ◌⊎◌, ℕ, zero, suc, Bool, true, false, Option, Some, None, List, [], ◌∷◌, length}
use Rattle.std.proofs.Common.{All}
use Rattle.std.proofs.Common.{refl, sym, ap, ◌∙◌, subst, arith, inl, inr, get_or, drop}
use Rattle.std.specs.Prelude.{slice_get, slice_set}
use Rattle.std.specs.List.{list_any}
use Rattle.std.proofs.lemmas.Bool.{or_parts}
use Rattle.std.proofs.lemmas.List.Folds.{list_any-append}
use Rattle.std.proofs.lemmas.List.Elements.{All-head, All-tail, All-set}
use Rattle.mf_vault.specs.Actor.{Actor}
use Rattle.mf_convert.specs.declared.change.Change.{Change}
use Rattle.mf_convert.specs.declared.change.Change.TheVariants as change
use Rattle.mf_convert.proofs.OnceConverted.{converts_once}
use Rattle.mf_client.specs.declared.done.Outcome.{Outcome}
use Rattle.mf_client.specs.declared.done.Outcome.TheVariants as outcome
use Rattle.mf_client.specs.declared.done.Part.{Part}
use Rattle.mf_client.specs.Lacks.{change_lacks, outcome_lacks}
use Rattle.mf_client.specs.Laws.{IsWhole}
use Rattle.mf_client.specs.OnFile.{OnFile}
use Rattle.mf_client.specs.Sweeps.{Visit, Visits, ConvertsInTurn, VisitsInTurn, AreAll, IsSwept, Sweeps}
use Rattle.mf_client.specs.Sweeps.{is_converted, parts_of, parts_in, dues_of}
use Rattle.mf_client.proofs.Went.{whole_on}

pub true_false : true ≡ false → ⊥
true_false e = let z : true ≡ false = e in cc

pub had_change : (x : Change) → change_lacks x ≡ false → x ≢ change.Memory
had_change x had e = true_false (sym (ap change_lacks e) ∙ had)

pub some_is : {X : Type 0} (x y : X) → Some x ≡ Some y → x ≡ y
some_is x y e = let z : Some x ≡ Some y = e in cc

pub at_whole : (xs : List Actor) (n : ℕ) (a : Actor) → All IsWhole xs → slice_get xs n ≡ Some a → IsWhole a
at_whole [] n a w e = absurd (let z : None ≡ Some a = e in cc)
at_whole (x ∷ xs) zero a w e = subst IsWhole (some_is x a e) (All-head IsWhole x xs w)
at_whole (x ∷ xs) (suc n) a w e = at_whole xs n a (All-tail IsWhole x xs w) e

-- ---- memory

abbrev HadAll : List Change → Type 0
HadAll [] = Unit {0}
HadAll (c ∷ cs) = (change_lacks c ≡ false) × HadAll cs

abbrev HadVisits : List Visit → Type 0
HadVisits [] = Unit {0}
HadVisits (v ∷ vs) = HadAll v.changes × HadVisits vs

abbrev lacking : Part → Bool
lacking part = change_lacks part.change

had_changes : (file : ℕ) (cs : List Change) → list_any lacking (parts_of file cs) ≡ false → HadAll cs
had_changes file [] e = tt
had_changes file (change.Memory ∷ cs) e = absurd (true_false e)
had_changes file (other ∷ cs) e = (refl, had_changes file cs e)

had_visits : (vs : List Visit) → list_any lacking (parts_in vs) ≡ false → HadVisits vs
had_visits [] e = tt
had_visits (v ∷ vs) e =
    let both = or_parts (list_any lacking (parts_of v.file v.changes)) (list_any lacking (parts_in vs))
    (sym (list_any-append lacking (parts_of v.file v.changes) (parts_in vs)) ∙ e) in
    (had_changes v.file v.changes both.0, had_visits vs both.1)

-- ---- one file

turn_whole : (upto : ℕ) (cs : List Change) (a b : Actor) → ConvertsInTurn upto cs a b → IsWhole a → IsWhole b
turn_whole upto [] a b e w = subst IsWhole (sym e) w
turn_whole upto (c ∷ cs) a b (mid, one, others) w = turn_whole upto cs mid b others (whole_on one.does w)

-- what follows a change
goes_on : (c : Change) (n : ℕ) (cs : List Change) → AreAll (suc n) (c ∷ cs)
    → ((is_converted c ≡ true) × AreAll n cs) ⊎ ((is_converted c ≡ false) × (cs ≡ []))
goes_on (change.Converted from to made) n cs x = inl (refl, x)
goes_on other n cs x = inr (refl, x)

turn_once : (upto n : ℕ) (cs ds : List Change) (a b c : Actor) → IsWhole a → ConvertsInTurn upto cs a b
    → ConvertsInTurn upto ds a c → AreAll n cs → AreAll n ds → HadAll cs → HadAll ds → (cs ≡ ds) × (b ≡ c)
turn_once upto n [] [] a b c w x y p q had also = (refl, x ∙ sym y)
turn_once upto zero [] (d ∷ ds) a b c w x y p q had also = absurd (let z = ap length q in omega arith)
turn_once upto (suc n) [] (d ∷ ds) a b c w x y p q had also = absurd p
turn_once upto zero (e ∷ cs) ds a b c w x y p q had also = absurd (let z = ap length p in omega arith)
turn_once upto (suc n) (e ∷ cs) [] a b c w x y p q had also = absurd q
turn_once upto (suc n) (e ∷ cs) (d ∷ ds) a b c (w, is) (mid, x, xs) (other, y, ys) p q had also =
    let r = converts_once a mid other w upto None e d is x y (had_change e had.0) (had_change d also.0) in
    let there : ConvertsInTurn upto ds mid c =
    subst (λ (z : Actor). ConvertsInTurn upto ds z c) (sym r.1) ys in
    elim (goes_on e n cs p) [
      | inl (went, more) ↦ elim (goes_on d n ds q) [
        | inl (so, all) ↦
            let s = turn_once upto n cs ds mid b c (whole_on x.does (w, is)) xs there more all had.1 also.1 in
            ((λ i. r.0 i ∷ s.0 i), s.1)
        | inr (none, over) ↦ absurd (true_false (sym went ∙ ap is_converted r.0 ∙ none))
      ]
      | inr (none, over) ↦ elim (goes_on d n ds q) [
        | inl (so, all) ↦ absurd (true_false (sym so ∙ ap is_converted (sym r.0) ∙ none))
        | inr (not_so, also_over) ↦
            let first : b ≡ mid = subst (λ l. ConvertsInTurn upto l mid b) over xs in
            let last : c ≡ mid = subst (λ l. ConvertsInTurn upto l mid c) also_over there in
            ((λ i. r.0 i ∷ (over ∙ sym also_over) i), first ∙ sym last)
      ]
    ]

-- ---- all files

visit_whole : (v : Visit) (before after : List Actor) → All IsWhole before → OnFile v.file (Visits v) before after
    → All IsWhole after
visit_whole v before after w on =
    subst (All IsWhole) (sym on.is) (All-set IsWhole before v.file on.new
    (turn_whole v.due v.changes on.old on.new on.goes.converts (at_whole before v.file on.old w on.was)) w)

visits_whole : (vs : List Visit) (before after : List Actor) → All IsWhole before → VisitsInTurn vs before after
    → All IsWhole after
visits_whole [] before after w e = subst (All IsWhole) (sym e) w
visits_whole (v ∷ vs) before after w (mid, one, others) =
    visits_whole vs mid after (visit_whole v before mid w one) others

visits_once : (vs ws : List Visit) (before after others : List Actor) → All IsWhole before
    → VisitsInTurn vs before after → VisitsInTurn ws before others → dues_of vs ≡ dues_of ws → HadVisits vs
    → HadVisits ws → (vs ≡ ws) × (after ≡ others)
visits_once [] [] before after others w x y e had also = (refl, x ∙ sym y)
visits_once [] (v ∷ vs) before after others w x y e had also = absurd (let z = ap length e in omega arith)
visits_once (v ∷ vs) [] before after others w x y e had also = absurd (let z = ap length e in omega arith)
visits_once (v ∷ vs) (u ∷ us) before after others w (mid, x, xs) (other, y, ys) e had also =
    let z : (v.file, v.due) ∷ dues_of vs ≡ (u.file, u.due) ∷ dues_of us = e in
    let heads : (v.file, v.due) ≡ (u.file, u.due) = ap (λ (l : List (ℕ × ℕ)). get_or l 0 (0, 0)) z in
    let file : v.file ≡ u.file = ap (λ (d : ℕ × ℕ). d.0) heads in
    let due : v.due ≡ u.due = ap (λ (d : ℕ × ℕ). d.1) heads in
    let rest : dues_of vs ≡ dues_of us = ap (λ (l : List (ℕ × ℕ)). drop 1 l) z in
    let old = some_is x.old y.old (sym x.was ∙ ap (slice_get before) file ∙ y.was) in
    let there : ConvertsInTurn v.due u.changes x.old y.new =
    subst (λ (a : Actor). ConvertsInTurn v.due u.changes a y.new) (sym old)
    (subst (λ k. ConvertsInTurn k u.changes y.old y.new) (sym due) y.goes.converts) in
    let t = turn_once v.due v.due v.changes u.changes x.old x.new y.new (at_whole before v.file x.old w x.was)
    x.goes.converts there x.goes.all (subst (λ k. AreAll k u.changes) (sym due) y.goes.all) had.0 also.0 in
    let middle : mid ≡ other = x.is ∙ (λ i. slice_set before (file i) (t.1 i)) ∙ sym y.is in
    let r = visits_once vs us mid after others (visit_whole v before mid w x) xs
    (subst (λ (l : List Actor). VisitsInTurn us l others) (sym middle) ys) rest had.1 also.1 in
    ((λ i. (record { file = file i; due = due i; changes = t.0 i }) ∷ r.0 i), r.1)

sweeps_once : (policies : List (Option (List ℕ))) (n m : ℕ) (ps qs : List Part) (before after others : List Actor)
    → All IsWhole before → Sweeps policies n ps before after → Sweeps policies m qs before others
    → list_any lacking ps ≡ false → list_any lacking qs ≡ false → (n ≡ m) × (ps ≡ qs) × (after ≡ others)
sweeps_once policies n m ps qs before after others w x y had also =
    let r = visits_once x.visits y.visits before after others w x.turn y.turn (x.due ∙ sym y.due)
    (had_visits x.visits (sym (ap (list_any lacking) x.told) ∙ had))
    (had_visits y.visits (sym (ap (list_any lacking) y.told) ∙ also)) in
    let parts = x.told ∙ ap parts_in r.0 ∙ sym y.told in
    let count : n ≡ m = x.count
    ∙ ap (Rattle.std.specs.List.count_by (λ (part : Part). is_converted part.change)) parts ∙ sym y.count in
    (count, parts, r.1)

swept_by : (policies : List (Option (List ℕ))) (n : ℕ) (p : Outcome) (ps qs : List Part) (before after others : List Actor)
    → All IsWhole before → Sweeps policies n ps before after → IsSwept policies p qs before others
    → list_any lacking ps ≡ false → outcome_lacks p ≡ false → list_any lacking qs ≡ false
    → (outcome.Swept n ≡ p) × (ps ≡ qs) × (after ≡ others)
swept_by policies n (outcome.Swept m) ps qs before after others w x y had none also =
    let r = sweeps_once policies n m ps qs before after others w x y had also in
    (ap (λ k. outcome.Swept k) r.0, r.1, r.2)
swept_by policies n outcome.Memory ps qs before after others w x y had none also = absurd (true_false none)
swept_by policies n other ps qs before after others w x y had none also = absurd y

pub swept_once : (policies : List (Option (List ℕ))) (o p : Outcome) (ps qs : List Part) (before after others : List Actor)
    → All IsWhole before → IsSwept policies o ps before after → IsSwept policies p qs before others
    → outcome_lacks o ≡ false → list_any lacking ps ≡ false → outcome_lacks p ≡ false → list_any lacking qs ≡ false
    → (o ≡ p) × (ps ≡ qs) × (after ≡ others)
swept_once policies (outcome.Swept n) p ps qs before after others w x y had parts none also =
    swept_by policies n p ps qs before after others w x y parts none also
swept_once policies outcome.Memory p ps qs before after others w x y had parts none also =
    absurd (true_false had)
swept_once policies other p ps qs before after others w x y had parts none also = absurd x

pub swept_whole : (policies : List (Option (List ℕ))) (o : Outcome) (parts : List Part) (before after : List Actor) → All IsWhole before
    → IsSwept policies o parts before after → All IsWhole after
swept_whole policies (outcome.Swept n) parts before after w x = visits_whole x.visits before after w x.turn
swept_whole policies outcome.Memory parts before after w x = subst (All IsWhole) (sym x.1) w
swept_whole policies other parts before after w x = absurd x
