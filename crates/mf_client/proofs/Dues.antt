-- The files of a sweep that are due.
use Rattle.std.proofs.Common.{◌≡◌, ℕ, zero, suc, ◌+◌, ◌*◌, ◌<◌, ◌≤◌, Bool, not, eqb, List, [], ◌∷◌, ◌++◌}
use Rattle.std.proofs.Common.{length, map, take, get_or, All, inl, inr, refl, sym, ap, ◌∙◌, subst, arith}
use Rattle.std.proofs.Common.{Option, Some, None, IfSome}
use Rattle.std.specs.List.{range_with_len}
use Rattle.std.proofs.lemmas.Bool.{cases_Bool, cond-true, cond-false}
use Rattle.std.proofs.lemmas.List.{length-map, get_or-map, length-take, map-append, take_more}
use Rattle.std.proofs.lemmas.List.FromFn.{length-map-range_with_len, length-range_with_len, get_or-range_with_len}
use Rattle.std.proofs.lemmas.List.Sums.{length-filter, count_by-le-length}
use Rattle.std.proofs.lemmas.List.Elements.{All-head, All-tail, All-filter, All-map, All-take}
use Rattle.mf_policy.specs.Due.{greatest, has_reached, due_by, due_file, sweep_of}
use Rattle.mf_policy.proofs.Greatest.{due_within}
use Rattle.mf_shape.specs.Chain.{Chain}
use Rattle.mf_lines.specs.Meaning.{Script}
use Rattle.mf_script.specs.Families.{block_at, policies_in, policy_at, family_of, file_code, file_policies}
use Rattle.mf_script.specs.Families.{FamiliesFit, FilesBelong}
use Rattle.mf_vault.specs.Facts.{Facts, age, stages}
use Rattle.mf_vault.specs.Actor.{Actor}
use Rattle.mf_vault.specs.Conditions.{IsIdle, IsOfFamily}
use Rattle.mf_client.specs.declared.done.Part.{Part}
use Rattle.mf_client.specs.Clients.{facts_in}
use Rattle.mf_client.specs.Sweeps.{Visit, ages_in, dues_of}
use Rattle.mf_client.specs.Steps.{AreDue, IsDueOf, AreOfFamilies, VisitedAll}
use Rattle.mf_client.proofs.Numbered.{IsFiled}
use Rattle.mf_client.proofs.Visiting.{AreLow, Passed, visits_pass}

greatest_low : (p : ℕ → Bool) (n : ℕ) → greatest p n ≤ n
greatest_low p zero = omega arith
greatest_low p (suc n) =
    elim (cases_Bool (p n)) [
      | inl holds ↦ let at : greatest p (suc n) ≡ n = cond-true _ _ _ holds in omega (arith, at)
      | inr fails ↦
          let at : greatest p (suc n) ≡ greatest p n = cond-false _ _ _ fails in omega (arith, at, greatest_low p n)
    ]

-- due stages are few
abbrev LowDues : List (ℕ × ℕ) → Type 0
LowDues dues = All (λ (d : ℕ × ℕ). d.1 ≤ 4) dues

-- a policy has at most 4 thresholds, where there is one
abbrev pub IsFew : Option (List ℕ) → Type 0
IsFew policy = IfSome policy (λ thresholds. length thresholds ≤ 4)

few_at : (policies : List (Option (List ℕ))) (k : ℕ) → All IsFew policies → IsFew (get_or policies k None)
few_at [] k few = tt
few_at (p ∷ policies) zero few = All-head IsFew p policies few
few_at (p ∷ policies) (suc k) few = few_at policies k (All-tail IsFew p policies few)

low_by : (policy : Option (List ℕ)) (age : ℕ) → IsFew policy → due_by policy age ≤ 4
low_by None age few = omega arith
low_by (Some thresholds) age few =
    let most = greatest_low (has_reached thresholds age) (length thresholds) in omega arith

due_low : (policies : List (Option (List ℕ))) (ages : List ℕ) → All IsFew policies → LowDues (sweep_of policies ages)
due_low policies ages few =
    let files = range_with_len 0 (length ages) in
    All-filter (λ (d : ℕ × ℕ). not (eqb d.1 0)) (λ (d : ℕ × ℕ). d.1 ≤ 4) (map (due_file policies ages) files)
    (All-map (λ (d : ℕ × ℕ). d.1 ≤ 4) (due_file policies ages) files
    (λ k d low. let file = get_or files k d in
    low_by (get_or policies file None) (get_or ages file 0) (few_at policies file few)))

low_visits : (visits : List Visit) (dues : List (ℕ × ℕ)) → dues_of visits ≡ dues → LowDues dues → AreLow visits
low_visits [] dues e all = tt
low_visits (v ∷ visits) dues e all =
    let here = subst LowDues (sym e) all in (
      All-head (λ (d : ℕ × ℕ). d.1 ≤ 4) (v.file, v.due) (dues_of visits) here,
      low_visits visits (dues_of visits) refl
          (All-tail (λ (d : ℕ × ℕ). d.1 ≤ 4) (v.file, v.due) (dues_of visits) here),
    )

pub are_low : (visits : List Visit) (policies : List (Option (List ℕ))) (ages : List ℕ)
    → dues_of visits ≡ sweep_of policies ages → All IsFew policies → AreLow visits
are_low visits policies ages e few = low_visits visits (sweep_of policies ages) e (due_low policies ages few)

pub visits_low : (s : Script) (visits : List Visit) (dues : List (ℕ × ℕ)) → dues_of visits ≡ dues → AreDue s dues
    → AreLow visits
visits_low s visits dues e all = low_visits visits dues e (λ k d low. let few = (all k d low).few in omega arith)

pub few_due : (policies : List (Option (List ℕ))) (actors : List Actor)
    → length (sweep_of policies (ages_in actors)) ≤ length actors
few_due policies actors =
    let ages = ages_in actors in
    let all = map (due_file policies ages) (range_with_len 0 (length ages)) in
    let due = λ (d : ℕ × ℕ). not (eqb d.1 0) in
    let kept = length-filter due all in
    let low = count_by-le-length due all in
    let many = length-map-range_with_len (due_file policies ages) 0 (length ages) in
    let same = length-map actors (λ (a : Actor). age a.facts) in omega arith

-- ---- by the families of the files

-- a policy that fits its family, where there is one
fewer : (policy : Option (List ℕ)) (n : ℕ) → n ≤ 4 → IfSome policy (λ thresholds. length thresholds ≡ n) → IsFew policy
fewer None n few fits = tt
fewer (Some thresholds) n few fits = omega arith

due_fits : (policy : Option (List ℕ)) (age stages : ℕ) → 0 < stages
    → IfSome policy (λ thresholds. length thresholds ≡ stages) → due_by policy age < stages
due_fits None age stages some fits = some
due_fits (Some thresholds) age stages some fits = let low = due_within thresholds age (omega arith) in omega arith

pub few_policies : (s : Script) → FamiliesFit s → FilesBelong s → All IsFew (file_policies s)
few_policies s fit belong =
    All-map IsFew (λ family. get_or (policies_in s) family None) s.file_families
    (λ k d low. let i = get_or s.file_families k d in let here = fit i (belong.each k d low) in
    fewer (policy_at s i) (length (block_at s i).stages) here.few here.policy)

due_of_file : (s : Script) (age file : ℕ) → FamiliesFit s → FilesBelong s → file < length s.files
    → IsDueOf s (file, due_by (get_or (file_policies s) file None) age)
due_of_file s age file fit belong low =
    let count = belong.count in
    let i = family_of s file in
    let here = fit i (belong.each file 0 (omega arith)) in
    let stages = length (block_at s i).stages in
    let is : get_or (file_policies s) file None ≡ policy_at s i =
    get_or-map (λ family. get_or (policies_in s) family None) s.file_families file 0 None (omega arith) in
    let stage : due_by (get_or (file_policies s) file None) age < stages =
    subst (λ p. due_by p age < stages) (sym is) (due_fits (policy_at s i) age stages here.some here.policy) in
    let few = here.few in
    record { file = low; stage = stage; few = omega arith }

pub all_due : (s : Script) (actors : List Actor) → FamiliesFit s → FilesBelong s → length actors ≡ length s.files
    → AreDue s (sweep_of (file_policies s) (ages_in actors))
all_due s actors fit belong count =
    let ages = ages_in actors in
    let policies = file_policies s in
    let files = range_with_len 0 (length ages) in
    All-filter (λ (d : ℕ × ℕ). not (eqb d.1 0)) (IsDueOf s) (map (due_file policies ages) files)
    (All-map (IsDueOf s) (due_file policies ages) files
    (λ k d low.
    let n = length-range_with_len 0 (length ages) in
    let at = get_or-range_with_len 0 (length ages) k d (omega arith) in
    let same = length-map actors (λ (a : Actor). age a.facts) in
    due_of_file s (get_or ages (get_or files k d) 0) (get_or files k d) fit belong (omega arith)))

-- the family of a file is the same as before
pub family_at : (s : Script) (before now : List Actor) (n : ℕ) (d : Actor) → AreOfFamilies s before
    → facts_in now ≡ facts_in before → n < length now
    → IsOfFamily (file_code s n).shape (file_code s n).points (get_or now n d).facts.book
family_at s before now n d of e low =
    let facts = λ (a : Actor). a.facts in
    let same = ap length e in
    let a = length-map before facts in
    let b = length-map now facts in
    let lt : n < length before = omega arith in
    let path = sym (get_or-map facts before n d d.facts lt) ∙ ap (λ (l : List Facts). get_or l n d.facts) (sym e)
    ∙ get_or-map facts now n d d.facts low in
    subst (λ (f : Facts). IsOfFamily (file_code s n).shape (file_code s n).points f.book) path (of.each n d lt)

pub stage_at : (chain : Chain) (points : List ℕ) (f : Facts) (due : ℕ) → IsOfFamily chain points f.book
    → due < length chain.stages → due < stages f
stage_at chain points f due is low =
    subst (λ (c : Chain). due < length c.stages) (sym is.shape) low

-- what the first k visits leave
pub visited_passed : (s : Script) (dues : List (ℕ × ℕ)) (k : ℕ) (before now : List Actor) (first last : List Part)
    → AreDue s dues → All IsIdle before → All IsFiled before
    → (v : VisitedAll (take k dues) before now first last) → Passed before now (length v.visits * 7920020)
visited_passed s dues k before now first last all idle kept v =
    visits_pass v.visits before now (visits_low s v.visits (take k dues) v.due (All-take (IsDueOf s) k dues all))
    idle kept v.turn

pub visits_few : (dues : List (ℕ × ℕ)) (k : ℕ) (before now : List Actor) (first last : List Part)
    → (v : VisitedAll (take k dues) before now first last) → length v.visits ≤ length dues
visits_few dues k before now first last v =
    let long = sym (length-map v.visits (λ (w : Visit). (w.file, w.due))) ∙ ap length v.due in
    let cut = length-take k dues in omega arith

pub ages_more : (xs : List Actor) (i : ℕ) (d : Actor) (old new : List ℕ) (x : ℕ) → old ≡ ages_in (take i xs)
    → i < length xs → new ≡ old ++ x ∷ [] → x ≡ age (get_or xs i d).facts → new ≡ ages_in (take (i + 1) xs)
ages_more xs i d old new x a low b e =
    b ∙ (λ j. a j ++ e j ∷ [])
    ∙ sym (map-append (λ (y : Actor). age y.facts) (take i xs) (get_or xs i d ∷ []))
    ∙ ap ages_in (sym (take_more xs i d low))
