-- The parts of a set of places, and the matrix of its erasure.
use Rattle.std.proofs.Common.{◌≡◌, ◌≢◌, ℕ, suc, ◌+◌, ◌-◌, ◌<◌, ◌≤◌, inl, inr, cond, eqb, List, [], ◌∷◌, ◌++◌, length}
use Rattle.std.proofs.Common.{map, take, drop, get_or, refl, sym, ap, ap₂, subst, ◌∙◌, arith, append_assoc, append-nil}
use Rattle.std.proofs.lemmas.Bool.{cases_lt}
use Rattle.std.proofs.lemmas.Bool.Decides.{eqb_tells}
use Rattle.std.proofs.lemmas.List.{take_at, drop_at, get_or_append_left, get_or-append-add, drop_more, drop_all}
use Rattle.std.proofs.lemmas.List.{get_or-map}
use Rattle.mf_code.specs.Decodable.{IsPlaceSet}
use Rattle.mf_erasure.specs.Erasure.{others_from, places_of, Splits}
use Rattle.mf_erasure.proofs.Places.{erasure_of_set, length-places_of}
use Rattle.mf_check.specs.Search.{IsDataFront}

-- the parities of the places from `next` on
abbrev pub gone_from : ℕ → ℕ → List ℕ → List ℕ
gone_from width next places = map (λ place. place - width) (drop next places)

-- the parity p is the next one of the places
pub next_gone : (width p n next : ℕ) (places : List ℕ) → next < length places → get_or places next 0 ≡ width + p
    → others_from p (suc n) (gone_from width next places) ≡ others_from (p + 1) n (gone_from width (next + 1) places)
unfolding others_from
next_gone width p n next places lt at =
    ap (λ (l : List ℕ). others_from p (suc n) (map (λ place. place - width) l)) (drop_more places next 0 lt)
    ∙ same (get_or places next 0 - width) (gone_from width (next + 1) places)
    (let e : get_or places next 0 - width ≡ p = omega arith in e)
  where
    same : (one : ℕ) (ones : List ℕ) → one ≡ p → cond (eqb one p) (others_from (p + 1) n ones)
        (p ∷ others_from (p + 1) n (one ∷ ones)) ≡ others_from (p + 1) n ones
    same one ones e = elim (eqb_tells one p) [
      | inl t ↦ ap (λ b. cond b (others_from (p + 1) n ones) (p ∷ others_from (p + 1) n (one ∷ ones))) t.0
      | inr f ↦
          absurd (f.1 e)
    ]

-- the parity p is not the next one of the places, so it is kept
pub next_kept : (width p n next : ℕ) (places : List ℕ) → (next < length places → width ≤ get_or places next 0)
    → (next < length places → get_or places next 0 ≢ width + p)
    → others_from p (suc n) (gone_from width next places) ≡ p ∷ others_from (p + 1) n (gone_from width next places)
unfolding others_from
next_kept width p n next places high other = elim (cases_lt next (length places)) [
  | inl lt ↦
      let one = get_or places next 0 - width in
      let ones = gone_from width (next + 1) places in
      let is : gone_from width next places ≡ one ∷ ones = ap (map (λ place. place - width))
      (drop_more places next 0 lt) in
      ap (others_from p (suc n)) is
      ∙ differ one ones (λ e. other lt (let h = high lt in let g : get_or places next 0 ≡ width + p = omega arith in g))
      ∙ ap (λ (l : List ℕ). p ∷ others_from (p + 1) n l) (sym is)
  | inr past ↦
      let is : gone_from width next places ≡ [] = ap (map (λ place. place - width)) (drop_all next places past) in
      ap (others_from p (suc n)) is ∙ ap (λ (l : List ℕ). p ∷ others_from (p + 1) n l) (sym is)
]
  where
    differ : (one : ℕ) (ones : List ℕ) → one ≢ p → cond (eqb one p) (others_from (p + 1) n ones)
        (p ∷ others_from (p + 1) n (one ∷ ones)) ≡ p ∷ others_from (p + 1) n (one ∷ ones)
    differ one ones d = elim (eqb_tells one p) [
      | inl t ↦ absurd (d t.1)
      | inr f ↦
          ap (λ b. cond b (others_from (p + 1) n ones) (p ∷ others_from (p + 1) n (one ∷ ones))) f.0
    ]

raised_and_lowered : (width : ℕ) (gone : List ℕ) → map (λ place. place - width) (map (λ p. width + p) gone) ≡ gone
raised_and_lowered width [] = refl
raised_and_lowered width (p ∷ gone) = ap₂ (λ (x : ℕ) (xs : List ℕ). x ∷ xs)
    (let e : width + p - width ≡ p = omega arith in e) (raised_and_lowered width gone)

-- the front of data places is the list of lost ones
front_is_lost : (width : ℕ) (places lost gone : List ℕ) (e : ℕ) → places ≡ places_of width lost gone
    → ((i : ℕ) → i < length lost → get_or lost i 0 < width)
    → IsDataFront width places e → e ≡ length lost
front_is_lost width places lost gone e made low front =
    let len : length places ≡ length lost + length gone = ap length made ∙ length-places_of width lost gone in
    elim (cases_lt e (length lost)) [
      | inl short ↦ (
          let within : e < length places = omega arith in
          let h = front.others within in
          let at : get_or places e 0 ≡ get_or lost e 0 = ap (λ (l : List ℕ). get_or l e 0) made
          ∙ get_or_append_left lost (map (λ p. width + p) gone) 0 e short in
          let b = low e short in absurd (omega arith))
      | inr le ↦ elim (cases_lt (length lost) e) [
        | inl long ↦ (
            let within = front.within in
            let some : 0 < length gone = omega arith in
            let h = front.data_places (length lost) long in
            let at : get_or places (length lost) 0 ≡ width + get_or gone 0 0 =
            ap (λ (l : List ℕ). get_or l (length lost) 0) made
            ∙ ap (λ (m : ℕ). get_or (lost ++ map (λ p. width + p) gone) m 0)
            (let z : length lost ≡ length lost + 0 = omega arith in z)
            ∙ get_or-append-add lost (map (λ p. width + p) gone) 0 0
            ∙ get_or-map (λ p. width + p) gone 0 0 0 some in
            absurd (omega arith))
        | inr ge ↦ (let s : e ≡ length lost = omega arith in s)
      ]
    ]

-- the parts of a set as the code takes it apart
pub Splits-of_front : (width count : ℕ) (places : List ℕ) (e : ℕ) → IsPlaceSet (width + count) count places
    → IsDataFront width places e
    → Splits width count places (take e places) (others_from 0 count (gone_from width e places))
Splits-of_front width count places e set front =
    let parts = erasure_of_set width count places set in
    let lost = parts.0 in
    let gone = parts.1 in
    let made = parts.2 in
    let splits : Splits width count places lost (others_from 0 count gone) = parts.3 in
    let e_is : e ≡ length lost = front_is_lost width places lost gone e made
    (λ i l. splits.erasure.lost_places.below i 0 l) front in
    let front_of : take e places ≡ lost = ap₂ (λ (n : ℕ) (l : List ℕ). take n l) e_is made
    ∙ take_at lost (map (λ p. width + p) gone) (length lost) refl in
    let back : gone_from width e places ≡ gone =
    ap₂ (λ (n : ℕ) (l : List ℕ). map (λ place. place - width) (drop n l)) e_is made
    ∙ ap (map (λ place. place - width)) (drop_at lost (map (λ p. width + p) gone) (length lost) refl)
    ∙ raised_and_lowered width gone in
    subst (λ (l : List ℕ). Splits width count places l (others_from 0 count (gone_from width e places))) (sym front_of)
    (subst (λ (l : List ℕ). Splits width count places lost (others_from 0 count l)) (sym back) splits)

-- one parity more that is gone, or kept
pub gone_step : (width p count next : ℕ) (places kept whole : List ℕ) → p < count → next < length places
    → get_or places next 0 ≡ width + p
    → kept ++ others_from p (count - p) (gone_from width next places) ≡ whole
    → kept ++ others_from (p + 1) (count - (p + 1)) (gone_from width (next + 1) places) ≡ whole
gone_step width p count next places kept whole lp lt at so_far =
    ap (λ (l : List ℕ). kept ++ l)
    (sym (next_gone width p (count - (p + 1)) next places lt at)
    ∙ ap (λ (n : ℕ). others_from p n (gone_from width next places))
    (let e : suc (count - (p + 1)) ≡ count - p = omega arith in e))
    ∙ so_far

pub kept_step : (width p count next : ℕ) (places kept whole : List ℕ) → p < count
    → (next < length places → width ≤ get_or places next 0)
    → (next < length places → get_or places next 0 ≢ width + p)
    → kept ++ others_from p (count - p) (gone_from width next places) ≡ whole
    → (kept ++ p ∷ []) ++ others_from (p + 1) (count - (p + 1)) (gone_from width next places) ≡ whole
kept_step width p count next places kept whole lp high other so_far =
    append_assoc kept (p ∷ []) (others_from (p + 1) (count - (p + 1)) (gone_from width next places))
    ∙ ap (λ (l : List ℕ). kept ++ l)
    (sym (next_kept width p (count - (p + 1)) next places high other)
    ∙ ap (λ (n : ℕ). others_from p n (gone_from width next places))
    (let e : suc (count - (p + 1)) ≡ count - p = omega arith in e))
    ∙ so_far

-- no parity is left
pub all_kept : (width p count next : ℕ) (places kept whole : List ℕ) → count ≤ p
    → kept ++ others_from p (count - p) (gone_from width next places) ≡ whole → kept ≡ whole
unfolding others_from
all_kept width p count next places kept whole le so_far =
    sym (append-nil kept)
    ∙ ap (λ (n : ℕ). kept ++ others_from p n (gone_from width next places)) (let e : 0 ≡ count - p = omega arith in e)
    ∙ so_far
