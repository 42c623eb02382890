-- The search through the sets, in their order.
use Rattle.std.proofs.Common.{◌≡◌, ℕ, ◌+◌, ◌<◌, ◌≤◌, inl, inr, Option, Some, None, List, [], ◌∷◌, ◌++◌, length, get_or}
use Rattle.std.proofs.Common.{refl, sym, ap, subst, ◌∙◌, arith}
use Rattle.std.proofs.lemmas.Bool.{cases_lt, cases_eq}
use Rattle.std.proofs.Common.{◌-◌, Result, Ok, Err, IfOk, take}
use Rattle.std.proofs.lemmas.List.{take_at, ext_get_or, length_push, get_or_append_left, get_or_push, get_or_default}
use Rattle.std.proofs.lemmas.List.Kept.{AllPairs-from_increasing}
use Rattle.mf_code.specs.Decodable.{IsPlaceSet, IsDecodableAt}
use Rattle.mf_check.specs.Sets.{IsBefore}
use Rattle.mf_check.specs.Search.{SetAnswer, IsFront, Continues, AllDecodable, IsFirstUndecodable, SearchAnswer}

-- one number more
pushed_at : (p : List ℕ) (x : ℕ) → get_or (p ++ x ∷ []) (length p) 0 ≡ x
pushed_at p x = get_or_push p x 0 (length p) refl

pushed_before : (p : List ℕ) (x i : ℕ) → i < length p → get_or (p ++ x ∷ []) i 0 ≡ get_or p i 0
pushed_before p x i lt = get_or_append_left p (x ∷ []) 0 i lt

pub IsFront-push : (n size from x : ℕ) (p : List ℕ) → IsFront n size from p → length p < size → from ≤ x → x < n
    → IsFront n size (x + 1) (p ++ x ∷ [])
IsFront-push n size from x p front room le lt =
    let len : length (p ++ x ∷ []) ≡ length p + 1 = length_push p x in
    record {
      short = omega arith;
      ascending = λ k l. elim (cases_lt (k + 1) (length p)) [
        | inl low ↦
            let a = pushed_before p x k (omega arith) in
            let b = pushed_before p x (k + 1) low in
            let h = front.ascending k low in omega arith
        | inr high ↦
            let k_is : k + 1 ≡ length p = omega arith in
            let a = pushed_before p x k (omega arith) in
            let b : get_or (p ++ x ∷ []) (k + 1) 0 ≡ x = ap (λ (m : ℕ). get_or (p ++ x ∷ []) m 0) k_is
            ∙ pushed_at p x in
            let h = front.below k (omega arith) in omega arith
      ];
      below = λ i l. elim (cases_lt i (length p)) [
        | inl low ↦ (let a = pushed_before p x i low in let h = front.below i low in omega arith)
        | inr high ↦
            let i_is : i ≡ length p = omega arith in
            let b : get_or (p ++ x ∷ []) i 0 ≡ x = ap (λ (m : ℕ). get_or (p ++ x ∷ []) m 0) i_is ∙ pushed_at p x in
            omega arith
      ];
      fits = omega arith;
    }

module _ (points : List ℕ) (width from : ℕ) (p : List ℕ)
    (front : IsFront (width + length points) (length points) from p) where
  -- a whole front is the one set that continues it
  whole_set : length p ≡ length points → IsPlaceSet (width + length points) (length points) p
  whole_set len = record {
    len = len;
    ascending = front.ascending;
    below = λ k d l. (let e = get_or_default p k d 0 l in let h = front.below k l in let f = front.fits in omega arith);
  }

  only_set : length p ≡ length points → (s : List ℕ) → IsPlaceSet (width + length points) (length points) s
      → Continues p from s → s ≡ p
  only_set len s set continues = ext_get_or 0 s p (set.len ∙ sym len)
      (λ i l. continues.begins i (let b = set.len in omega arith))

  pub SearchAnswer-whole : length p ≡ length points → (answer : Option (List ℕ)) → SetAnswer points width p answer
      → SearchAnswer points width p from p answer
  SearchAnswer-whole len None decodable = (
    refl,
    record {
      each = λ s set continues _. subst (IsDecodableAt points width)
          (sym (only_set len s set continues)) decodable;
    },
  )
  SearchAnswer-whole len (Some kernel) (undecodable, kernel_list) = record {
    set = whole_set len;
    continues = record { begins = λ i l. refl; rest = λ i le l. absurd (omega arith) };
    undecodable = undecodable;
    kernel_list = kernel_list;
    first = record {
      each = λ s set continues before.
          let same : get_or s before.0 0 ≡ get_or p before.0 0 = ap (λ (l : List ℕ). get_or l before.0 0)
          (only_set len s set continues) in
          let less = before.3 in absurd (omega arith);
    };
  }

  -- sets whose next place is below i are decodable
  pub none_yet : length p < length points → AllDecodable points width p from (λ s. get_or s (length p) 0 < from)
  none_yet room = record {
    each = λ s set continues lt.
        (let inside : length p < length s = (let e = set.len in omega arith) in let h = continues.rest (length p)
        (omega arith) inside in absurd (omega arith));
  }

  pushed : (i : ℕ) (s : List ℕ) → length p < length points → IsPlaceSet (width + length points) (length points) s
      → Continues p from s → get_or s (length p) 0 ≡ i
      → Continues (p ++ i ∷ []) (i + 1) s
  pushed i s room set continues here =
      let len : length (p ++ i ∷ []) ≡ length p + 1 = length_push p i in
      record {
        begins = λ k l. elim (cases_lt k (length p)) [
          | inl low ↦ continues.begins k low ∙ sym (pushed_before p i k low)
          | inr high ↦
              let k_is : k ≡ length p = omega arith in
              ap (λ (m : ℕ). get_or s m 0) k_is ∙ here
              ∙ sym (ap (λ (m : ℕ). get_or (p ++ i ∷ []) m 0) k_is ∙ pushed_at p i)
        ];
        rest = λ k le l. (let h : get_or s (length p) 0 < get_or s k 0 = AllPairs-from_increasing s set.ascending
            (length p) k 0 (omega arith) l in omega arith);
      }

  pub one_more : (i : ℕ) → length p < length points → AllDecodable points width p from (λ s. get_or s (length p) 0 < i)
      → AllDecodable points width (p ++ i ∷ []) (i + 1) (λ s. Unit {0})
      → AllDecodable points width p from (λ s. get_or s (length p) 0 < i + 1)
  one_more i room done next = record {
    each = λ s set continues lt. elim (cases_lt (get_or s (length p) 0) i) [
      | inl low ↦ done.each s set continues low
      | inr high ↦ next.each s set
          (pushed i s room set continues (let e : get_or s (length p) 0 ≡ i = omega arith in e)) tt
    ];
  }

  pub all_done : (i : ℕ) → length p < length points → width + length points ≤ i
      → AllDecodable points width p from (λ s. get_or s (length p) 0 < i)
      → AllDecodable points width p from (λ s. Unit {0})
  all_done i room le done = record {
    each = λ s set continues _.
        done.each s set continues
        (let inside : length p < length s = (let e = set.len in omega arith) in let h =
        set.below (length p) 0 inside in omega arith);
  }

  pub found : (i : ℕ) (places kernel : List ℕ) → length p < length points → from ≤ i
      → AllDecodable points width p from (λ s. get_or s (length p) 0 < i)
      → IsFirstUndecodable points width (p ++ i ∷ []) (i + 1) places kernel
      → IsFirstUndecodable points width p from places kernel
  found i places kernel room le done f =
      let len : length (p ++ i ∷ []) ≡ length p + 1 = length_push p i in
      let here : get_or places (length p) 0 ≡ i = f.continues.begins (length p) (omega arith) ∙ pushed_at p i in
      let front_same : (k : ℕ) → k < length p → get_or places k 0 ≡ get_or p k 0 =
      λ k l. f.continues.begins k (omega arith) ∙ pushed_before p i k l in
      record {
        set = f.set;
        continues = record {
          begins = front_same;
          rest = λ k lk l. elim (cases_eq k (length p)) [
            | inl at ↦ (let e : get_or places k 0 ≡ i = ap (λ (m : ℕ). get_or places m 0) at ∙ here in omega arith)
            | inr past ↦ (let h = f.continues.rest k (omega arith) l in omega arith)
          ];
        };
        undecodable = f.undecodable;
        kernel_list = f.kernel_list;
        first = record {
          each = λ s set continues before. elim (cases_lt before.0 (length p)) [
            | inl low ↦ (
                let e : get_or s before.0 0 ≡ get_or places before.0 0 = continues.begins before.0 low
                ∙ sym (front_same before.0 low) in
                let less = before.3 in absurd (omega arith))
            | inr high ↦ elim (cases_eq before.0 (length p)) [
              | inl at ↦
                  let less : get_or s (length p) 0 < get_or places (length p) 0 =
                  subst (λ m. get_or s m 0 < get_or places m 0) at before.3 in
                  done.each s set continues (omega arith)
              | inr past ↦
                  let e : get_or s (length p) 0 ≡ i = before.2 (length p) (omega arith) ∙ here in
                  f.first.each s set (pushed i s room set continues e) before
            ]
          ];
        };
      }

-- the answer at a whole front
pub answer_whole : {E : Type 0} (points : List ℕ) (width from : ℕ) (p read : List ℕ)
    → IsFront (width + length points) (length points) from p → length p ≡ length points → read ≡ p
    → (r : Result (Option (List ℕ)) E) → IfOk r (SetAnswer points width read)
    → IfOk r (SearchAnswer points width p from p)
answer_whole points width from p read front len same (Ok answer) h =
    SearchAnswer-whole points width from p front len answer (subst (λ l. SetAnswer points width l answer) same h)
answer_whole points width from p read front len same (Err e) h = tt

-- what is left when the last number is taken off again
pub popped : (p items after : List ℕ) (x n : ℕ) → items ≡ p ++ x ∷ [] → n ≡ length items → after ≡ take (n - 1) items
    → after ≡ p
popped p items after x n is len taken =
    taken
    ∙ ap (take (n - 1)) is
    ∙ ap (λ (m : ℕ). take m (p ++ x ∷ []))
    (let l : length items ≡ length p + 1 = ap length is ∙ length_push p x in let e : n - 1 ≡ length p = omega arith in
    e)
    ∙ take_at p (x ∷ []) (length p) refl

-- a set that begins with place 0 continues it
pub begins_with_zero : (n size : ℕ) (s : List ℕ) → IsPlaceSet n size s → get_or s 0 0 ≡ 0 → Continues (0 ∷ []) 1 s
begins_with_zero n size s set zero = record {
  begins = λ i l. (let z : i ≡ 0 = omega arith in ap (λ (m : ℕ). get_or s m 0) z ∙ zero
      ∙ sym (ap (λ (m : ℕ). get_or (0 ∷ []) m 0) z));
  rest = λ i le l. (let h : get_or s 0 0 < get_or s i 0 = AllPairs-from_increasing s set.ascending 0 i 0 (omega arith)
      l in omega arith);
}

-- a set before one that begins with place 0 begins with it too
pub zero_before : (s t : List ℕ) → IsBefore s t → get_or t 0 0 ≡ 0 → get_or s 0 0 ≡ 0
zero_before s t (k, lt, same, less) zero = elim (cases_eq k 0) [
  | inl at ↦ (let l : get_or s 0 0 < get_or t 0 0 = subst (λ m. get_or s m 0 < get_or t m 0) at less in
      absurd (omega arith))
  | inr past ↦ same 0 (omega arith) ∙ zero
]
