-- One column of a stripe: the bytes that a decoding gives are those of the one list that agrees with what is there.
use Rattle.std.proofs.Common.{◌≡◌, ◌≢◌, ℕ, ◌<◌, inl, inr, List, length, map, get_or, Option, Some, cond, bit_xor, refl}
use Rattle.std.proofs.Common.{sym, ap, ap₂, ◌∙◌, subst, arith, zero-add}
use Rattle.std.specs.Prelude.{slice_get}
use Rattle.std.specs.Int.Bits.{xor_assoc, xor_zero_r, xor_self}
use Rattle.std.proofs.lemmas.Nat.{xor_comm, xor_lt}
use Rattle.std.proofs.lemmas.Bool.{eq-eqb}
use Rattle.std.proofs.lemmas.Bool.Decides.{eqb_tells}
use Rattle.std.proofs.lemmas.List.{length-map, get_or-map, get_or_default, ext_get_or}
use Rattle.std.proofs.lemmas.Option.{get_or_from_slice_get}
use Rattle.mf_code.specs.Field.{times, power}
use Rattle.mf_code.specs.Sums.{sum_below, weighted}
use Rattle.mf_code.specs.Rows.{list_of}
use Rattle.mf_code.proofs.Sums.{sum_below-same, sum_below-lt, sum_below_xor}
use Rattle.mf_code.proofs.Lists.{length-list_of, list_of_at}
use Rattle.mf_field.proofs.FieldLaws.{zero-times, one-times, times_assoc, times_add, times-lt}
use Rattle.mf_field.proofs.Powers.{power-lt}
use Rattle.mf_field.proofs.SumLaws.{times_sum, sum_times, sum_below_swap, sum_below-single}
use Rattle.mf_lemmas.proofs.Lists.{byte_at}
use Rattle.mf_erasure.proofs.Bridge.{all_list_of}
use Rattle.mf_matrix.specs.Tables.{GivesIdentity, product_at, identity_at}
use Rattle.mf_decode.specs.Decoding.{gaps_from, filled, AgreesInColumn}
use Rattle.mf_decode.specs.Columns.{there}
use Rattle.mf_decode.proofs.Filling.{length-filled, filled-there, all-filled, refilled, there-lt, weighted_from}
use Rattle.mf_decode.proofs.Filling.{sum_at_is, sum_from-filled}

-- each number is a byte
abbrev pub Bytes : (ℕ → ℕ) → Type 0
Bytes f = (k : ℕ) → f k < 256

-- ---- tables applied to lists

-- a product of two tables, applied to a list, is the one after the other
pub applied_twice : (n : ℕ) (a b : ℕ → ℕ → ℕ) (x : ℕ → ℕ) (i : ℕ) → ((j : ℕ) → a i j < 256) → ((j l : ℕ) → b j l < 256)
    → Bytes x
    → sum_below n (λ j. times (a i j) (sum_below n (λ l. times (b j l) (x l))))
    ≡ sum_below n (λ l. times (product_at n a b i l) (x l))
applied_twice n a b x i la lb lx =
    sum_below-same n (λ j. times (a i j) (sum_below n (λ l. times (b j l) (x l))))
    (λ j. sum_below n (λ l. times (times (a i j) (b j l)) (x l)))
    (λ j _. times_sum (a i j) n (λ l. times (b j l) (x l))
    ∙ sum_below-same n (λ l. times (a i j) (times (b j l) (x l))) (λ l. times (times (a i j) (b j l)) (x l))
    (λ l _. sym (times_assoc (a i j) (b j l) (x l) (la j) (lb j l) (lx l))))
    ∙ sum_below_swap n n (λ j l. times (times (a i j) (b j l)) (x l))
    ∙ sum_below-same n (λ l. sum_below n (λ j. times (times (a i j) (b j l)) (x l)))
    (λ l. times (product_at n a b i l) (x l))
    (λ l _. sym (sum_times (x l) n (λ j. times (a i j) (b j l))))

identity_same : (i x : ℕ) → x < 256 → times (identity_at i i) x ≡ x
identity_same i x lt = ap (λ b. times (cond b 1 0) x) (eq-eqb i i refl) ∙ one-times x lt

identity_other : (i l x : ℕ) → i ≢ l → times (identity_at i l) x ≡ 0
identity_other i l x ne = elim (eqb_tells i l) [
  | inl (is, same) ↦ absurd (ne same)
  | inr (isnt, differ) ↦ ap (λ b. times (cond b 1 0) x) isnt ∙ zero-times x
]

-- the identity leaves a list as it is
pub identity_applied : (n : ℕ) (a b : ℕ → ℕ → ℕ) (x : ℕ → ℕ) (i : ℕ) → i < n → GivesIdentity n a b
    → ((j : ℕ) → a i j < 256) → ((j l : ℕ) → b j l < 256) → Bytes x
    → sum_below n (λ j. times (a i j) (sum_below n (λ l. times (b j l) (x l)))) ≡ x i
identity_applied n a b x i lt one la lb lx =
    applied_twice n a b x i la lb lx
    ∙ sum_below-same n (λ l. times (product_at n a b i l) (x l)) (λ l. times (identity_at i l) (x l))
    (λ l ll. ap (λ (c : ℕ). times c (x l)) (one i l lt ll))
    ∙ sum_below-single n i (λ l. times (identity_at i l) (x l)) lt
    (λ l _ ne. identity_other i l (x l) (λ e. ne (sym e)))
    ∙ identity_same i (x i) (lx i)

-- ---- what a decoding gives

-- the factor of piece t in erased byte i: the sum, over the parities j, of entry (i, j) of the inverse times point j ^
-- t
abbrev pub table_weight : (ℕ → ℕ → ℕ) → List ℕ → ℕ → ℕ → ℕ
table_weight v points i t = sum_below (length points) (λ j. times (v i j) (power (get_or points j 0) t))

-- erased byte i: the parities times row i of the inverse, and the pieces times their factors
abbrev pub decoded : (ℕ → ℕ → ℕ) → List ℕ → List ℕ → List ℕ → ℕ → ℕ
decoded v points parities known i =
    bit_xor (sum_below (length points) (λ j. times (v i j) (get_or parities j 0)))
    (sum_below (length known) (λ t. times (table_weight v points i t) (get_or known t 0)))

-- a parity less the part that the pieces have in it
abbrev pub rest_of : List ℕ → List ℕ → List ℕ → ℕ → ℕ
rest_of points parities known j = bit_xor (get_or parities j 0) (weighted (get_or points j 0) known)

-- erased byte i is row i of the inverse times what is left of the parities
pub decoded_is : (v : ℕ → ℕ → ℕ) (points parities known : List ℕ) (i : ℕ) → ((j : ℕ) → v i j < 256)
    → Bytes (λ j. get_or points j 0) → Bytes (λ t. get_or known t 0)
    → decoded v points parities known i
    ≡ sum_below (length points) (λ j. times (v i j) (rest_of points parities known j))
decoded_is v points parities known i lv lp lk =
    let e = length points in
    let n = length known in
    let p : ℕ → ℕ → ℕ = λ j t. power (get_or points j 0) t in
    let s : ℕ → ℕ = λ t. get_or known t 0 in
    let q : ℕ → ℕ = λ j. times (v i j) (get_or parities j 0) in
    let swapped : sum_below n (λ t. times (table_weight v points i t) (s t))
    ≡ sum_below e (λ j. times (v i j) (weighted (get_or points j 0) known)) =
    sum_below-same n (λ t. times (table_weight v points i t) (s t))
    (λ t. sum_below e (λ j. times (v i j) (times (p j t) (s t))))
    (λ t _. sum_times (s t) e (λ j. times (v i j) (p j t))
    ∙ sum_below-same e (λ j. times (times (v i j) (p j t)) (s t)) (λ j. times (v i j) (times (p j t) (s t)))
    (λ j _. times_assoc (v i j) (p j t) (s t) (lv j) (power-lt (get_or points j 0) t (lp j)) (lk t)))
    ∙ sum_below_swap n e (λ t j. times (v i j) (times (p j t) (s t)))
    ∙ sum_below-same e (λ j. sum_below n (λ t. times (v i j) (times (p j t) (s t))))
    (λ j. times (v i j) (weighted (get_or points j 0) known))
    (λ j _. sym (times_sum (v i j) n (λ t. times (p j t) (s t)))) in
    ap (bit_xor (sum_below e q)) swapped
    ∙ sym (sum_below_xor e q (λ j. times (v i j) (weighted (get_or points j 0) known)))
    ∙ sum_below-same e (λ j. bit_xor (q j) (times (v i j) (weighted (get_or points j 0) known)))
    (λ j. times (v i j) (rest_of points parities known j))
    (λ j _. sym (times_add (v i j) (get_or parities j 0) (weighted (get_or points j 0) known)))

-- a sum by a point of bytes is a byte
pub weighted-lt : (point : ℕ) (xs : List ℕ) → point < 256 → Bytes (λ t. get_or xs t 0) → weighted point xs < 256
weighted-lt point xs lp lx = sum_below-lt (length xs) (λ t. times (power point t) (get_or xs t 0))
    (λ t _. times-lt (power point t) (get_or xs t 0) (power-lt point t lp) (lx t))

-- the parity of a filled list: the part of the pieces, and the part of what fills the gaps
pub weighted-filled : (point : ℕ) (ps : List (Option ℕ)) (ks : List ℕ) → length ks ≡ length (gaps_from 0 ps)
    → weighted point (filled 0 ps ks)
    ≡ bit_xor (weighted point (there ps))
    (sum_below (length (gaps_from 0 ps)) (λ l. times (power point (get_or (gaps_from 0 ps) l 0)) (get_or ks l 0)))
weighted-filled point ps ks e =
    weighted_from point (filled 0 ps ks) ∙ sum_from-filled point 0 ps ks e
    ∙ ap₂ bit_xor (sym (weighted_from point (there ps))) (sum_at_is point (gaps_from 0 ps) ks e)

-- adding twice
pub xor_back : (a b : ℕ) → bit_xor a (bit_xor b a) ≡ b
xor_back a b = ap (bit_xor a) (xor_comm b a) ∙ sym (xor_assoc a a b) ∙ ap (λ (z : ℕ). bit_xor z b) (xor_self a)
    ∙ xor_comm 0 b ∙ xor_zero_r b

pub xor_forth : (a b : ℕ) → bit_xor (bit_xor a b) a ≡ b
xor_forth a b = xor_comm (bit_xor a b) a ∙ ap (bit_xor a) (xor_comm a b) ∙ xor_back a b

-- ---- the one list

-- v inverts the matrix of these points and erased places
pub record Inverts (points erased : List ℕ) (v : ℕ → ℕ → ℕ) : Type 0 where
  pub even : length erased ≡ length points
  pub entries : (i j : ℕ) → v i j < 256
  pub point_bytes : Bytes (λ j. get_or points j 0)
  pub right : GivesIdentity (length points) (λ j l. power (get_or points j 0) (get_or erased l 0)) v
  pub left : GivesIdentity (length points) v (λ j l. power (get_or points j 0) (get_or erased l 0))

pub decoded-lt : (v : ℕ → ℕ → ℕ) (points parities known : List ℕ) (i : ℕ) → ((j : ℕ) → v i j < 256)
    → Bytes (λ j. get_or points j 0) → Bytes (λ j. get_or parities j 0) → Bytes (λ t. get_or known t 0)
    → decoded v points parities known i < 256
decoded-lt v points parities known i lv lp lq lk =
    xor_lt 8 (sum_below (length points) (λ j. times (v i j) (get_or parities j 0)))
    (sum_below (length known) (λ t. times (table_weight v points i t) (get_or known t 0)))
    (sum_below-lt (length points) (λ j. times (v i j) (get_or parities j 0))
    (λ j _. times-lt (v i j) (get_or parities j 0) (lv j) (lq j)))
    (sum_below-lt (length known) (λ t. times (table_weight v points i t) (get_or known t 0))
    (λ t _. times-lt (table_weight v points i t) (get_or known t 0)
    (sum_below-lt (length points) (λ j. times (v i j) (power (get_or points j 0) t))
    (λ j _. times-lt (v i j) (power (get_or points j 0) t) (lv j) (power-lt (get_or points j 0) t (lp j))))
    (lk t)))

-- what a decoding gives, for all gaps
abbrev pub decoded_list : (ℕ → ℕ → ℕ) → List ℕ → List ℕ → List (Option ℕ) → List ℕ
decoded_list v points parities ps = list_of (length points) (decoded v points parities (there ps))

-- each parity of the filled list is the parity that was had
decoded_parity : (v : ℕ → ℕ → ℕ) (points : List ℕ) (ps : List (Option ℕ)) (parities : List ℕ)
    → Inverts points (gaps_from 0 ps) v → Bytes (λ t. get_or (there ps) t 0) → Bytes (λ j. get_or parities j 0)
    → (j : ℕ) → j < length points
    → weighted (get_or points j 0) (filled 0 ps (decoded_list v points parities ps)) ≡ get_or parities j 0
decoded_parity v points ps parities inv lk lq j lt =
    let e = length points in
    let gaps = gaps_from 0 ps in
    let point = get_or points j 0 in
    let rest : ℕ → ℕ = rest_of points parities (there ps) in
    let m : ℕ → ℕ → ℕ = λ j l. power (get_or points j 0) (get_or gaps l 0) in
    let lr : Bytes rest = λ k. xor_lt 8 (get_or parities k 0) (weighted (get_or points k 0) (there ps)) (lq k)
    (weighted-lt (get_or points k 0) (there ps) (inv.point_bytes k) lk) in
    weighted-filled point ps (decoded_list v points parities ps)
    (length-list_of e (decoded v points parities (there ps)) ∙ sym inv.even)
    ∙ ap (bit_xor (weighted point (there ps)))
    (ap (λ (n : ℕ). sum_below n (λ l. times (m j l) (get_or (decoded_list v points parities ps) l 0))) inv.even
    ∙ sum_below-same e (λ l. times (m j l) (get_or (decoded_list v points parities ps) l 0))
    (λ l. times (m j l) (sum_below e (λ k. times (v l k) (rest k))))
    (λ l ll. ap (times (m j l))
    (list_of_at e (decoded v points parities (there ps)) l ll
    ∙ decoded_is v points parities (there ps) l (inv.entries l) inv.point_bytes lk))
    ∙ identity_applied e m v rest j lt inv.right (λ l. power-lt point (get_or gaps l 0) (inv.point_bytes j)) inv.entries
    lr)
    ∙ xor_back (weighted point (there ps)) (get_or parities j 0)

-- the filled list agrees with what was there
pub decoded_agrees : (v : ℕ → ℕ → ℕ) (points : List ℕ) (ps : List (Option ℕ)) (parities : List ℕ)
    → Inverts points (gaps_from 0 ps) v → length parities ≡ length points
    → ((t b : ℕ) → slice_get ps t ≡ Some (Some b) → b < 256) → Bytes (λ j. get_or parities j 0)
    → AgreesInColumn points ps parities (filled 0 ps (decoded_list v points parities ps))
decoded_agrees v points ps parities inv same lp lq =
    let e = length points in
    let list = filled 0 ps (decoded_list v points parities ps) in
    let lk = there-lt ps lp in
    record {
      list_is = record {
        len = length-filled 0 ps (decoded_list v points parities ps);
        bytes = all-filled (λ b. b < 256) 0 0 ps (decoded_list v points parities ps)
            (length-list_of e (decoded v points parities (there ps)) ∙ sym inv.even) lp
            (all_list_of e (decoded v points parities (there ps))
            (λ i _. decoded-lt v points parities (there ps) i (inv.entries i) inv.point_bytes lq lk));
      };
      pieces_are = λ t b h. filled-there 0 ps (decoded_list v points parities ps) t b h;
      parities_are = ext_get_or 0 parities (map (λ point. weighted point list) points)
          (same ∙ sym (length-map points (λ point. weighted point list)))
          (λ j lt. let near : j < length points = omega arith
          in sym (get_or-map (λ point. weighted point list) points j 0 0 near
          ∙ decoded_parity v points ps parities inv lk lq j near));
    }

-- each list that agrees with what was there has these bytes at the gaps
pub decoded_only : (v : ℕ → ℕ → ℕ) (points : List ℕ) (ps : List (Option ℕ)) (parities : List ℕ)
    → Inverts points (gaps_from 0 ps) v → (list : List ℕ) → AgreesInColumn points ps parities list
    → (i : ℕ) → i < length points → get_or list (get_or (gaps_from 0 ps) i 0) 0 ≡ decoded v points parities (there ps) i
decoded_only v points ps parities inv list agrees i lt =
    let e = length points in
    let gaps = gaps_from 0 ps in
    let bytes = byte_at list agrees.list_is.bytes in
    let x : ℕ → ℕ = λ l. get_or list (get_or gaps l 0) 0 in
    let ks : List ℕ = map (λ g. get_or list g 0) gaps in
    let m : ℕ → ℕ → ℕ = λ j l. power (get_or points j 0) (get_or gaps l 0) in
    let lk : Bytes (λ t. get_or (there ps) t 0) = there-lt ps
    (λ t b h. subst (λ (n : ℕ). n < 256) (get_or_from_slice_get list t b 0 (agrees.pieces_are t b h)) (bytes t)) in
    let refill : filled 0 ps ks
    ≡ list = refilled 0 (λ g. get_or list g 0) 0 ps list agrees.list_is.len agrees.pieces_are
    (λ k d l. ap (λ (n : ℕ). get_or list n 0) (zero-add k) ∙ get_or_default list k 0 d l) in
    let inside : (j : ℕ) → j < e → rest_of points parities (there ps) j ≡ sum_below e (λ l. times (m j l) (x l)) =
    λ j lj.
    let point = get_or points j 0 in
    ap (λ (n : ℕ). bit_xor n (weighted point (there ps)))
    (ap (λ (l : List ℕ). get_or l j 0) agrees.parities_are ∙ get_or-map (λ (p : ℕ). weighted p list) points j 0 0 lj
    ∙ ap (weighted point) (sym refill) ∙ weighted-filled point ps ks (length-map gaps (λ g. get_or list g 0))
    ∙ ap (bit_xor (weighted point (there ps)))
    (ap (λ (n : ℕ). sum_below n (λ l. times (m j l) (get_or ks l 0))) inv.even
    ∙ sum_below-same e (λ l. times (m j l) (get_or ks l 0)) (λ l. times (m j l) (x l))
    (λ l ll. ap (times (m j l))
    (get_or-map (λ g. get_or list g 0) gaps l 0 0 (subst (λ (n : ℕ). l < n) (sym inv.even) ll)))))
    ∙ xor_forth (weighted point (there ps)) (sum_below e (λ l. times (m j l) (x l))) in
    sym
    (decoded_is v points parities (there ps) i (inv.entries i) inv.point_bytes lk
    ∙ sum_below-same e (λ j. times (v i j) (rest_of points parities (there ps) j))
    (λ j. times (v i j) (sum_below e (λ l. times (m j l) (x l)))) (λ j lj. ap (times (v i j)) (inside j lj))
    ∙ identity_applied e v m x i lt inv.left (inv.entries i)
    (λ j l. power-lt (get_or points j 0) (get_or gaps l 0) (inv.point_bytes j)) (λ l. bytes (get_or gaps l 0)))
