-- Points have one fault at most, and good points have none.
use Rattle.std.proofs.Common.{◌≡◌, ℕ, ◌<◌, ◌⊎◌, inl, inr, List, sym, ap, ap₂, ◌∙◌, arith}
use Rattle.std.proofs.lemmas.Bool.{cases_lt}
use Rattle.mf_check.specs.Families.{ArePoints}
use Rattle.mf_check.specs.Faults.{IsFirstZero, IsFirstPair, IsPointFault}
use Rattle.mf_check.specs.declared.FamilyFault.{FamilyFault}
use Rattle.mf_check.specs.declared.FamilyFault.TheVariants as family

first_zero-one : (points : List ℕ) (i j : ℕ) → IsFirstZero points i → IsFirstZero points j → i ≡ j
first_zero-one points i j a b = elim (cases_lt i j) [
  | inl low ↦ absurd (b.none_before i low a.zero_here)
  | inr le ↦ elim (cases_lt j i)
      [ inl low ↦ absurd (a.none_before j low b.zero_here) | inr ge ↦ (let e : i ≡ j = omega arith in e) ]
]

-- of two first pairs neither comes before the other
pair_before : (points : List ℕ) (i j k l : ℕ) → IsFirstPair points i j → IsFirstPair points k l
    → (k < i) ⊎ ((k ≡ i) × (l < j)) → ⊥
pair_before points i j k l a b before = a.none_before k l b.ordered b.within before b.equal

first_pair-one : (points : List ℕ) (i j k l : ℕ) → IsFirstPair points i j → IsFirstPair points k l → (i ≡ k) × (j ≡ l)
first_pair-one points i j k l a b = elim (cases_lt i k) [
  | inl low ↦ absurd (pair_before points k l i j b a (inl low))
  | inr le ↦ elim (cases_lt k i) [
    | inl low ↦ absurd (pair_before points i j k l a b (inl low))
    | inr ge ↦
        let same : i ≡ k = omega arith in
        elim (cases_lt j l) [
          | inl low ↦ absurd (pair_before points k l i j b a (inr (same, low)))
          | inr more ↦ elim (cases_lt l j) [
            | inl low ↦ absurd (pair_before points i j k l a b (inr (sym same, low)))
            | inr less ↦ (same, let e : j ≡ l = omega arith in e)
          ]
        ]
  ]
]

pub point_fault-one : (count : ℕ) (points : List ℕ) (f g : FamilyFault) → IsPointFault count points f
    → IsPointFault count points g → f ≡ g
point_fault-one count points (family.PointCount m) (family.PointCount n) a b = ap family.PointCount (a.1 ∙ sym b.1)
point_fault-one count points (family.PointCount m) (family.PointZero i) a b = absurd (a.0 b.0)
point_fault-one count points (family.PointCount m) (family.PointTwice i j) a b = absurd (a.0 b.0)
point_fault-one count points (family.PointZero i) (family.PointCount n) a b = absurd (b.0 a.0)
point_fault-one count points (family.PointZero i) (family.PointZero k) a b =
    ap family.PointZero (first_zero-one points i k a.1 b.1)
point_fault-one count points (family.PointZero i) (family.PointTwice k l) a b =
    let within = a.1.within in absurd (b.1 i (omega (arith, b.0)) a.1.zero_here)
point_fault-one count points (family.PointTwice i j) (family.PointCount n) a b = absurd (b.0 a.0)
point_fault-one count points (family.PointTwice i j) (family.PointZero k) a b =
    let within = b.1.within in absurd (a.1 k (omega (arith, a.0)) b.1.zero_here)
point_fault-one count points (family.PointTwice i j) (family.PointTwice k l) a b =
    let same = first_pair-one points i j k l a.2 b.2 in ap₂ family.PointTwice same.0 same.1
point_fault-one count points f (family.Undecodable g places kernel) a b = absurd b
point_fault-one count points f family.Memory a b = absurd b
point_fault-one count points (family.Undecodable g places kernel) h a b = absurd a
point_fault-one count points family.Memory h a b = absurd a

pub no_point_fault : (count : ℕ) (points : List ℕ) (f : FamilyFault) → ArePoints count points
    → IsPointFault count points f → ⊥
no_point_fault count points (family.PointCount n) good h = h.0 good.len
no_point_fault count points (family.PointZero i) good h = let within = h.1.within in
    good.nonzero i (omega (arith, h.0)) h.1.zero_here
no_point_fault count points (family.PointTwice i j) good h = let within = h.2.within in good.distinct i j h.2.ordered
    (omega (arith, h.0)) h.2.equal
no_point_fault count points (family.Undecodable g places kernel) good h = h
no_point_fault count points family.Memory good h = h
