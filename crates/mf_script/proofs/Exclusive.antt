-- A text has one answer: one script, or one fault.
use Rattle.std.proofs.Common.{◌≡◌, ◌≢◌, ℕ, zero, suc, ◌+◌, ◌-◌, ◌<◌, ◌≤◌, List, [], ◌∷◌, get_or, length}
use Rattle.std.proofs.Common.{Ok, refl, sym, ap, ◌∙◌, subst, arith, inl, inr, ◌⊎◌, length-take-le}
use Rattle.std.proofs.lemmas.Bool.{cases_lt}
use Rattle.std.proofs.Math.Nat.{eq-or-lt_of_le}
use Rattle.mf_shape.specs.declared.Stage.{Stage}
use Rattle.mf_shape.specs.declared.ShapeFault.{ShapeFault}
use Rattle.mf_shape.specs.declared.ShapeFault.TheVariants as shape
use Rattle.mf_shape.specs.Stages.{stage_at, parities_at}
use Rattle.mf_shape.specs.Chain.{Chain, IsShape, IsChain, IsStep}
use Rattle.mf_shape.specs.Faults as shapes
use Rattle.mf_shape.specs.Faults.{Comes}
use Rattle.mf_check.specs.declared.FamilyFault.{FamilyFault}
use Rattle.mf_check.specs.declared.FamilyFault.TheVariants as family
use Rattle.mf_check.specs.Sets as sets
use Rattle.mf_check.specs.Families.{IsFamily, IsCode, IsStageDecodable, stage_points}
use Rattle.mf_check.specs.Faults.{IsFault as IsFamilyFaultOf, IsUndecodable, IsFirstPair}
use Rattle.mf_check.proofs.Stages.{parities_le}
use Rattle.mf_lines.specs.declared.parts.Kind.{Kind}
use Rattle.mf_lines.specs.declared.parts.Kind.TheVariants as kind
use Rattle.mf_lines.specs.declared.forms.Form.{Form}
use Rattle.mf_lines.specs.Meaning.{Script, SoFar, no_block, so_of, main_of}
use Rattle.mf_script.specs.Texts.{HasForms, IsLineFault}
use Rattle.mf_script.specs.Scripts.{IsScript}
use Rattle.mf_script.specs.Faults.{main_code, IsFault}
use Rattle.mf_script.specs.Laws.{bare, OneAnswer}
use Rattle.mf_script.proofs.PassLemmas.{line_in, kind_in, read_text-have, read_text-fault}
use Rattle.mf_script.proofs.SoundLemmas.{sound}

-- ---- what the lines of a text add up to is one thing, and a fault of its lines is no script

so_same : (text : List ℕ) (one other : List Form) → HasForms text one → HasForms text other → so_of one ≡ so_of other
so_same text one other a b =
    let x = read_text-have text one a in
    let y = read_text-have text other b in
    let both : Ok (so_of one) ≡ Ok (so_of other) = sym x ∙ y in
    cc

no_line_fault : (text : List ℕ) (forms : List Form) (n : ℕ) (k : Kind) → HasForms text forms → IsLineFault text n k → ⊥
no_line_fault text forms n k a h =
    let x = sym (read_text-have text forms a) ∙ read_text-fault text n k h in
    absurd cc

-- ---- no fault of the stages comes at a shape, and none of the points at a family

step_to : (stages : List Stage) (g : ℕ) → IsChain stages → g < length stages → 0 < g
    → IsStep (stage_at stages (g - 1)) (stage_at stages g)
step_to stages g chain lt some =
    let next : g - 1 + 1 ≡ g = omega arith in
    subst (λ h. IsStep (stage_at stages (g - 1)) (stage_at stages h)) next (chain.steps (g - 1) (omega arith))

no_shape_fault : (s : Chain) (fault : ShapeFault) → IsShape s → fault ≢ shape.Memory → Comes s.stages s.servers fault
    → ⊥
no_shape_fault s shape.NoStage is other h = let some = is.chain.some in omega arith
no_shape_fault s shape.TooManyStages is other h = let few = is.chain.few in omega arith
no_shape_fault s (shape.Width g) is other h = h.1 (is.chain.widths g h.0)
no_shape_fault s (shape.Parities g) is other h = h.1 (is.chain.parities g h.0)
no_shape_fault s (shape.Copies g) is other h = h.1 (is.chain.copies g h.0)
no_shape_fault s (shape.NotMultiple g) is other h = h.2 (step_to s.stages g is.chain h.0 h.1).width
no_shape_fault s (shape.ParitiesGrow g) is other h = h.2 (step_to s.stages g is.chain h.0 h.1).parities
no_shape_fault s (shape.CopiesGrow g) is other h = h.2 (step_to s.stages g is.chain h.0 h.1).copies
no_shape_fault s (shape.ParitiesOverWidth g) is other h = h.2 (step_to s.stages g is.chain h.0 h.1).fits
no_shape_fault s shape.CopiesDontFit is other h = h is.copies
no_shape_fault s (shape.Servers n) is other h = h.1 is.servers
no_shape_fault s shape.Memory is other h = other refl

stage_size : (stages : List Stage) (points : List ℕ) (g : ℕ) → IsChain stages → g < length stages
    → length points ≡ parities_at stages 0 → length (stage_points stages points g) ≡ parities_at stages g
stage_size stages points g chain lt count =
    let few : parities_at stages g ≤ parities_at stages 0 = parities_le stages chain g lt in
    length-take-le (parities_at stages g) points (omega arith)

set_decodable : (stages : List Stage) (points : List ℕ) (g : ℕ) (places kernel : List ℕ) → IsChain stages
    → length points ≡ parities_at stages 0 → IsStageDecodable stages points g
    → IsUndecodable stages points g places kernel → ⊥
set_decodable stages points g places kernel chain count decodable h =
    let long : length (stage_points stages points g) ≡ parities_at stages g =
    stage_size stages points g chain h.stage count in
    h.undecodable (decodable.each places (rw long h.set))

no_family_fault : (stages : List Stage) (points : List ℕ) (fault : FamilyFault) → IsChain stages
    → IsFamily stages points → fault ≢ family.Memory → IsFamilyFaultOf stages points fault → ⊥
no_family_fault stages points (family.PointCount n) chain is other h = h.0 is.points_ok.len
no_family_fault stages points (family.PointZero i) chain is other h =
    let within = h.1.within in
    is.points_ok.nonzero i (omega (arith, h.0)) h.1.zero_here
no_family_fault stages points (family.PointTwice i j) chain is other h =
    let within = h.2.within in
    is.points_ok.distinct i j h.2.ordered (omega (arith, h.0)) h.2.equal
no_family_fault stages points (family.Undecodable g places kernel) chain is other h =
    set_decodable stages points g places kernel chain is.points_ok.len (is.decodable g h.1.stage) h.1
no_family_fault stages points family.Memory chain is other h = other refl

-- ---- a text with a fault is no script

main_kept : (text : List ℕ) (s : Script) (is : IsScript text s) → IsCode (main_code (so_of is.forms).script)
main_kept text s is =
    let one = ap length (sound text s is).one.families in
    subst (λ x. IsCode (main_code x)) is.says (is.families 0 no_block (omega arith))

pub fault_is_no_script : (text : List ℕ) (n : ℕ) (k : Kind) → IsFault text n k → (s : Script) → IsScript text s → ⊥
fault_is_no_script text n k (inl h) s is = no_line_fault text is.forms n k is.lines h
fault_is_no_script text n k (inr (inl h)) s is =
    let same = so_same text is.forms h.forms is.lines h.lines in
    let code = subst (λ (x : SoFar). IsCode (main_code x.script)) same (main_kept text s is) in
    no_shape_fault (main_code (so_of h.forms).script).shape h.fault code.shape_ok h.not_memory h.first.comes
fault_is_no_script text n k (inr (inr h)) s is =
    let same = so_same text is.forms h.forms is.lines h.lines in
    let code = subst (λ (x : SoFar). IsCode (main_code x.script)) same (main_kept text s is) in
    no_family_fault (main_of (so_of h.forms).script).stages
    (main_of (so_of h.forms).script).points h.fault code.shape_ok.chain code.family h.not_memory h.first

pub told_is_no_script : (text : List ℕ) (n : ℕ) (k : Kind) → (k ≡ kind.Memory) ⊎ IsFault text n k → k ≢ kind.Memory
    → (s : Script) → IsScript text s → ⊥
told_is_no_script text n k (inl memory) other s is = absurd (other memory)
told_is_no_script text n k (inr fault) other s is = fault_is_no_script text n k fault s is

-- ---- a chain has one first fault

-- the fault of a kind's place that names this number
fault_at : ℕ → ℕ → ShapeFault
fault_at k n =
    get_or (shape.NoStage ∷ shape.TooManyStages ∷ shape.Width n ∷ shape.Parities n ∷ shape.Copies n
    ∷ shape.NotMultiple n ∷ shape.ParitiesGrow n ∷ shape.CopiesGrow n ∷ shape.ParitiesOverWidth n
    ∷ shape.CopiesDontFit ∷ shape.Servers n ∷ []) k shape.Memory

fault_is : (f : ShapeFault) → fault_at (shapes.rank_of f) (shapes.said_by f) ≡ f
unfolding fault_at
fault_is shape.NoStage = refl
fault_is f = refl

one_shape_fault : (stages : List Stage) (servers : ℕ) (f g : ShapeFault) → shapes.IsFirst stages servers f
    → shapes.IsFirst stages servers g → f ≡ g
one_shape_fault stages servers f g a b =
    elim (cases_lt (shapes.rank_of f) (shapes.rank_of g)) [
      | inl lt ↦ absurd (b.none_before f (inl lt) a.comes)
      | inr le ↦ elim (eq-or-lt_of_le le) [
        | inr lt ↦ absurd (a.none_before g (inl lt) b.comes)
        | inl kinds ↦ elim (cases_lt (shapes.said_by f) (shapes.said_by g)) [
          | inl lt ↦ absurd (b.none_before f (inr (sym kinds, lt)) a.comes)
          | inr le ↦ elim (eq-or-lt_of_le le) [
            | inr lt ↦ absurd (a.none_before g (inr (kinds, lt)) b.comes)
            | inl numbers ↦ sym (fault_is f) ∙ (λ i. fault_at (sym kinds i) (sym numbers i)) ∙ fault_is g
          ]
        ]
      ]
    ]

-- ---- points have one fault

-- the least number with a property
one_least : (P : ℕ → Type 0) (i j : ℕ) → P i → P j → ((k : ℕ) → k < i → P k → ⊥) → ((k : ℕ) → k < j → P k → ⊥) → i ≡ j
one_least P i j a b first_i first_j =
    elim (cases_lt i j) [
      | inl lt ↦ absurd (first_j i lt a)
      | inr le ↦ elim (eq-or-lt_of_le le) [ inl same ↦ sym same | inr lt ↦ absurd (first_i j lt b) ]
    ]

one_pair : (points : List ℕ) (i j a b : ℕ) → IsFirstPair points i j → IsFirstPair points a b → (i ≡ a) × (j ≡ b)
one_pair points i j a b p q =
    elim (cases_lt i a) [
      | inl lt ↦ absurd (q.none_before i j p.ordered p.within (inl lt) p.equal)
      | inr le ↦ elim (eq-or-lt_of_le le) [
        | inr lt ↦ absurd (p.none_before a b q.ordered q.within (inl lt) q.equal)
        | inl same ↦ elim (cases_lt j b) [
          | inl lt ↦ absurd (q.none_before i j p.ordered p.within (inr (sym same, lt)) p.equal)
          | inr le ↦ elim (eq-or-lt_of_le le) [
            | inr lt ↦ absurd (p.none_before a b q.ordered q.within (inr (same, lt)) q.equal)
            | inl second ↦ (sym same, sym second)
          ]
        ]
      ]
    ]

-- of two sets of as many places, one comes first where they differ
before_cons : (x : ℕ) (s t : List ℕ) → sets.IsBefore s t → sets.IsBefore (x ∷ s) (x ∷ t)
before_cons x s t (k, within, same, less) = (suc k, omega arith, equal, less)
  where
    equal : (i : ℕ) → i < suc k → get_or (x ∷ s) i 0 ≡ get_or (x ∷ t) i 0
    equal zero lt = refl
    equal (suc i) lt = same i (omega arith)

compared : (s t : List ℕ) → length s ≡ length t → (s ≡ t) ⊎ (sets.IsBefore s t ⊎ sets.IsBefore t s)
compared [] [] e = inl refl
compared [] (y ∷ t) e = absurd (omega arith)
compared (x ∷ s) [] e = absurd (omega arith)
compared (x ∷ s) (y ∷ t) e =
    elim (cases_lt x y) [
      | inl lt ↦ inr (inl (0, omega arith, (λ i low. absurd (omega arith)), lt))
      | inr le ↦ elim (eq-or-lt_of_le le) [
        | inr lt ↦ inr (inr (0, omega arith, (λ i low. absurd (omega arith)), lt))
        | inl same ↦ elim (compared s t (omega arith)) [
          | inl rest ↦ inl (λ i. sym same i ∷ rest i)
          | inr (inl first) ↦
              inr (inl (subst (λ z. sets.IsBefore (x ∷ s) (z ∷ t)) (sym same) (before_cons x s t first)))
          | inr (inr second) ↦
              inr (inr (subst (λ z. sets.IsBefore (z ∷ t) (x ∷ s)) (sym same) (before_cons x t s second)))
        ]
      ]
    ]

one_set : (stages : List Stage) (points : List ℕ) (g : ℕ) (p q kernel other : List ℕ)
    → IsUndecodable stages points g p kernel → IsUndecodable stages points g q other → p ≡ q
one_set stages points g p q kernel other a b =
    elim (compared p q (a.set.len ∙ sym b.set.len)) [
      | inl same ↦ same
      | inr (inl first) ↦ absurd (a.undecodable (b.first p a.set first))
      | inr (inr second) ↦ absurd (b.undecodable (a.first q b.set second))
    ]

one_undecodable : (stages : List Stage) (points : List ℕ) (g h : ℕ) (p q kernel other : List ℕ) → IsChain stages
    → length points ≡ parities_at stages 0 → IsUndecodable stages points g p kernel
    → IsUndecodable stages points h q other
    → bare (kind.Family (family.Undecodable g p kernel)) ≡ bare (kind.Family (family.Undecodable h q other))
one_undecodable stages points g h p q kernel other chain count a b =
    let stage : g ≡ h = elim (cases_lt g h) [
      | inl lt ↦ absurd (set_decodable stages points g p kernel chain count (b.before g lt) a)
      | inr le ↦
          elim (eq-or-lt_of_le le) [
            | inl same ↦ sym same
            | inr lt ↦
                absurd (set_decodable stages points h q other chain count (a.before h lt) b)
          ]
    ] in
    let there = subst (λ x. IsUndecodable stages points x q other) (sym stage) b in
    let places : p ≡ q = one_set stages points g p q kernel other a there in
    (λ i. kind.Family (family.Undecodable (stage i) (places i) []))

one_family_fault : (stages : List Stage) (points : List ℕ) (f g : FamilyFault) → IsChain stages → f ≢ family.Memory
    → g ≢ family.Memory → IsFamilyFaultOf stages points f → IsFamilyFaultOf stages points g
    → bare (kind.Family f) ≡ bare (kind.Family g)
one_family_fault stages points (family.PointCount m) (family.PointCount n) chain f g a b =
    ap (λ n. kind.Family (family.PointCount n)) (a.1 ∙ sym b.1)
one_family_fault stages points (family.PointCount m) (family.PointZero i) chain f g a b = absurd (a.0 b.0)
one_family_fault stages points (family.PointCount m) (family.PointTwice i j) chain f g a b = absurd (a.0 b.0)
one_family_fault stages points (family.PointCount m) (family.Undecodable h q other) chain f g a b = absurd (a.0 b.0.len)
one_family_fault stages points (family.PointZero i) (family.PointCount n) chain f g a b = absurd (b.0 a.0)
one_family_fault stages points (family.PointZero i) (family.PointZero j) chain f g a b =
    ap (λ n. kind.Family (family.PointZero n))
    (one_least (λ k. get_or points k 0 ≡ 0) i j a.1.zero_here b.1.zero_here a.1.none_before b.1.none_before)
one_family_fault stages points (family.PointZero i) (family.PointTwice k j) chain f g a b =
    absurd (let within = a.1.within in b.1 i (omega (arith, a.0)) a.1.zero_here)
one_family_fault stages points (family.PointZero i) (family.Undecodable h q other) chain f g a b =
    absurd (let within = a.1.within in b.0.nonzero i (omega (arith, a.0)) a.1.zero_here)
one_family_fault stages points (family.PointTwice i j) (family.PointCount n) chain f g a b = absurd (b.0 a.0)
one_family_fault stages points (family.PointTwice i j) (family.PointZero k) chain f g a b =
    absurd (let within = b.1.within in a.1 k (omega (arith, b.0)) b.1.zero_here)
one_family_fault stages points (family.PointTwice i j) (family.PointTwice k l) chain f g a b =
    let same = one_pair points i j k l a.2 b.2 in (λ x. kind.Family (family.PointTwice (same.0 x) (same.1 x)))
one_family_fault stages points (family.PointTwice i j) (family.Undecodable h q other) chain f g a b =
    absurd (let within = a.2.within in b.0.distinct i j a.2.ordered (omega (arith, a.0)) a.2.equal)
one_family_fault stages points (family.Undecodable h q other) (family.PointCount n) chain f g a b = absurd (b.0 a.0.len)
one_family_fault stages points (family.Undecodable h q other) (family.PointZero k) chain f g a b =
    absurd (let within = b.1.within in a.0.nonzero k (omega (arith, b.0)) b.1.zero_here)
one_family_fault stages points (family.Undecodable h q other) (family.PointTwice i j) chain f g a b =
    absurd (let within = b.2.within in a.0.distinct i j b.2.ordered (omega (arith, b.0)) b.2.equal)
one_family_fault stages points (family.Undecodable h p kernel) (family.Undecodable k q other) chain f g a b =
    one_undecodable stages points h k p q kernel other chain a.0.len a.1 b.1
one_family_fault stages points family.Memory y chain f g a b = absurd (f refl)
one_family_fault stages points x family.Memory chain f g a b = absurd (g refl)

-- ---- a text has one fault

one_fault : (text : List ℕ) (m n : ℕ) (j k : Kind) → IsFault text m j → IsFault text n k → (m ≡ n) × (bare j ≡ bare k)
one_fault text m n j k (inl a) (inl b) =
    let same = sym (read_text-fault text m j a) ∙ read_text-fault text n k b in
    (ap line_in same, ap (λ r. bare (kind_in r)) same)
one_fault text m n j k (inl a) (inr (inl b)) = absurd (no_line_fault text b.forms m j b.lines a)
one_fault text m n j k (inl a) (inr (inr b)) = absurd (no_line_fault text b.forms m j b.lines a)
one_fault text m n j k (inr (inl a)) (inl b) = absurd (no_line_fault text a.forms n k a.lines b)
one_fault text m n j k (inr (inr a)) (inl b) = absurd (no_line_fault text a.forms n k a.lines b)
one_fault text m n j k (inr (inl a)) (inr (inl b)) =
    let so = so_same text a.forms b.forms a.lines b.lines in
    let first = subst (λ (x : SoFar). shapes.IsFirst (main_of x.script).stages x.script.servers a.fault) so a.first in
    let fault =
    one_shape_fault (main_of (so_of b.forms).script).stages
    (so_of b.forms).script.servers a.fault b.fault first b.first in
    (a.line ∙ ap (λ (x : SoFar). x.stage_line) so ∙ sym b.line, ap bare (a.is ∙ ap kind.Shape fault ∙ sym b.is))
one_fault text m n j k (inr (inl a)) (inr (inr b)) =
    let so = so_same text a.forms b.forms a.lines b.lines in
    let comes = subst (λ (x : SoFar). Comes (main_of x.script).stages x.script.servers a.fault) so a.first.comes in
    absurd (no_shape_fault (main_code (so_of b.forms).script).shape a.fault b.shape_ok a.not_memory comes)
one_fault text m n j k (inr (inr a)) (inr (inl b)) =
    let so = so_same text b.forms a.forms b.lines a.lines in
    let comes = subst (λ (x : SoFar). Comes (main_of x.script).stages x.script.servers b.fault) so b.first.comes in
    absurd (no_shape_fault (main_code (so_of a.forms).script).shape b.fault a.shape_ok b.not_memory comes)
one_fault text m n j k (inr (inr a)) (inr (inr b)) =
    let so = so_same text a.forms b.forms a.lines b.lines in
    let first =
    subst (λ (x : SoFar). IsFamilyFaultOf (main_of x.script).stages (main_of x.script).points a.fault) so a.first in
    let fault =
    one_family_fault (main_of (so_of b.forms).script).stages
    (main_of (so_of b.forms).script).points a.fault b.fault b.shape_ok.chain a.not_memory b.not_memory first
    b.first in
    (a.line ∙ ap (λ (x : SoFar). x.stage_line) so ∙ sym b.line, ap bare a.is ∙ fault ∙ ap bare (sym b.is))

pub one_answer : OneAnswer
one_answer = record {
  script = λ text s t a b. a.says ∙ ap (λ (x : SoFar). x.script) (so_same text a.forms b.forms a.lines b.lines)
      ∙ sym b.says;
  fault = one_fault;
  either = λ text s n k is fault. fault_is_no_script text n k fault s is;
}
