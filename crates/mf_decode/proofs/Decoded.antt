-- What the rows of a plan give is what a decoding is.
use Rattle.std.proofs.Common.{◌≡◌, ℕ, zero, suc, ◌<◌, ◌≤◌, List, [], ◌∷◌, length, get_or, Option, Some, None, bit_xor}
use Rattle.std.proofs.Common.{refl, sym, ap, ap₂, ◌∙◌, subst, arith}
use Rattle.std.specs.Prelude.{slice_get, All, IfSome, unwrap_or}
use Rattle.std.proofs.lemmas.Option.{slice_get_within, get_or_from_slice_get}
use Rattle.std.specs.Option.{option_map}
use Rattle.std.proofs.lemmas.List.{length-map, get_or-map}
use Rattle.mf_code.specs.Field.{times, power}
use Rattle.mf_code.specs.Sums.{sum_below}
use Rattle.mf_code.specs.Rows.{column}
use Rattle.mf_code.proofs.Sums.{sum_below-same}
use Rattle.mf_code.proofs.Lists.{list_of_at}
use Rattle.mf_matrix.specs.Tables.{GivesIdentity}
use Rattle.mf_matrix.specs.Matrix.{Grid, entry as entry_of}
use Rattle.mf_erasure.specs.Erasure.{entry}
use Rattle.mf_lemmas.proofs.Lists.{byte_at}
use Rattle.mf_decode.specs.Decoding.{Plan, points_of, gaps_from, filled, column_of, AgreesInColumn, IsDecodedAt}
use Rattle.mf_decode.specs.Columns.{there, weight_of, row_entries}
use Rattle.mf_decode.specs.Plans.{IsPlan}
use Rattle.mf_decode.proofs.Filling.{gaps_from-map}
use Rattle.mf_matrix.proofs.Same.{SameBelow, is_inverse-same}
use Rattle.mf_decode.proofs.Solving.{Bytes, Inverts, table_weight, decoded, decoded_list, decoded_agrees, decoded_only}

-- each piece that is there is bytes
abbrev pub PieceBytes : List (Option (List ℕ)) → Type 0
PieceBytes pieces = (t : ℕ) (chunk : List ℕ) → slice_get pieces t ≡ Some (Some chunk) → All (λ b. b < 256) chunk

-- each parity is bytes
abbrev pub ParityBytes : List (List ℕ) → Type 0
ParityBytes parities = All (λ chunk. All (λ b. b < 256) chunk) parities

-- the same, piece by piece
pub piece_bytes : (pieces : List (Option (List ℕ)))
    → All (λ (piece : Option (List ℕ)). IfSome piece (λ chunk. All (λ b. b < 256) chunk)) pieces → PieceBytes pieces
piece_bytes pieces each t chunk is =
    subst (λ (o : Option (List ℕ)). IfSome o (λ bytes. All (λ b. b < 256) bytes))
    (get_or_from_slice_get pieces t (Some chunk) (Some chunk) is)
    (each t (Some chunk) (slice_get_within pieces t (Some chunk) is))

pub column_of-lt : (x : ℕ) (pieces : List (Option (List ℕ))) → PieceBytes pieces → (t b : ℕ)
    → slice_get (column_of x pieces) t ≡ Some (Some b) → b < 256
column_of-lt x [] known t b e = absurd (cc)
column_of-lt x (Some chunk ∷ pieces) known zero b e = subst (λ (n : ℕ). n < 256)
    (let h : Some (Some (get_or chunk x 0)) ≡ Some (Some b) = e in (cc)) (byte_at chunk (known 0 chunk refl) x)
column_of-lt x (None ∷ pieces) known zero b e = absurd (cc)
column_of-lt x (piece ∷ pieces) known (suc t) b e = column_of-lt x pieces (λ k chunk h. known (suc k) chunk h) t b e

pub column-lt : (x : ℕ) (parities : List (List ℕ)) → ParityBytes parities → Bytes (λ j. get_or (column x parities) j 0)
column-lt x [] known j = omega arith
column-lt x (chunk ∷ parities) known zero = byte_at chunk (known 0 chunk (omega arith)) x
column-lt x (chunk ∷ parities) known (suc j) = column-lt x parities (λ k other lt. known (suc k) other (omega arith)) j

-- the table of the plan's rows
abbrev pub rows_table : Plan → Grid → ℕ → ℕ → ℕ
rows_table plan inverse i j = entry_of inverse i j

-- the plan's rows invert the matrix of the points that it chose
pub plan_inverts_chosen : (plan : Plan) (chosen : List ℕ) (inverse : Grid) → IsPlan plan chosen inverse
    → Inverts chosen plan.erased (rows_table plan inverse)
plan_inverts_chosen plan chosen inverse p =
    let n = length plan.erased in
    let v = rows_table plan inverse in
    let even = p.erasure.even in
    let long : length chosen ≡ length plan.parities = ap length p.chosen_are
    ∙ length-map plan.parities (λ q. get_or plan.points q 0) in
    let same : SameBelow n (entry plan.points plan.erased plan.parities)
    (λ j l. power (get_or chosen j 0) (get_or plan.erased l 0)) =
    λ i j li lj. ap (λ (q : ℕ). power q (get_or plan.erased j 0))
    (sym (ap (λ (l : List ℕ). get_or l i 0) p.chosen_are
    ∙ get_or-map (λ q. get_or plan.points q 0) plan.parities i 0 0 (omega arith))) in
    let inv = is_inverse-same n (entry plan.points plan.erased plan.parities)
    (λ j l. power (get_or chosen j 0) (get_or plan.erased l 0)) v v same (λ i j _ _. refl) p.inverts.bytes p.inverts
    in
    let size : n ≡ length chosen = even ∙ sym long in
    record {
      even = size;
      entries = λ i j. p.inverts.bytes i j;
      point_bytes = p.chosen_bytes;
      right = subst (λ (m : ℕ). GivesIdentity m (λ j l. power (get_or chosen j 0) (get_or plan.erased l 0)) v) size
          inv.on_the_right;
      left = subst (λ (m : ℕ). GivesIdentity m v (λ j l. power (get_or chosen j 0) (get_or plan.erased l 0))) size
          inv.on_the_left;
    }

-- the gaps of a column are the erased places
pub column_gaps : (x : ℕ) (pieces : List (Option (List ℕ))) → gaps_from 0 (column_of x pieces) ≡ gaps_from 0 pieces
column_gaps x pieces = gaps_from-map (λ chunk. get_or chunk x 0) 0 pieces

-- the inverse at a column's gaps
pub column_inverts : (plan : Plan) (chosen : List ℕ) (inverse : Grid) (pieces : List (Option (List ℕ))) (x : ℕ)
    → IsPlan plan chosen inverse → gaps_from 0 pieces ≡ plan.erased
    → Inverts chosen (gaps_from 0 (column_of x pieces)) (rows_table plan inverse)
column_inverts plan chosen inverse pieces x p gaps = subst (λ (l : List ℕ). Inverts chosen l (rows_table plan inverse))
    (sym (column_gaps x pieces ∙ gaps)) (plan_inverts_chosen plan chosen inverse p)

-- a list that agrees with column x
pub column_agrees : (plan : Plan) (chosen : List ℕ) (inverse : Grid) (pieces : List (Option (List ℕ)))
    (parities : List (List ℕ)) (x : ℕ) → IsPlan plan chosen inverse → gaps_from 0 pieces ≡ plan.erased
    → length parities ≡ length plan.parities → PieceBytes pieces → ParityBytes parities
    → AgreesInColumn (points_of plan) (column_of x pieces) (column x parities)
    (filled 0 (column_of x pieces)
    (decoded_list (rows_table plan inverse) chosen (column x parities) (column_of x pieces)))
column_agrees plan chosen inverse pieces parities x p gaps count lp lq =
    let v = rows_table plan inverse in
    let list = filled 0 (column_of x pieces) (decoded_list v chosen (column x parities) (column_of x pieces)) in
    subst (λ (points : List ℕ). AgreesInColumn points (column_of x pieces) (column x parities) list) p.chosen_are
    (decoded_agrees v chosen (column_of x pieces) (column x parities)
    (column_inverts plan chosen inverse pieces x p gaps)
    (length-map parities (λ l. get_or l x 0) ∙ count ∙ sym (length-map plan.parities (λ q. get_or plan.points q 0))
    ∙ ap length (sym p.chosen_are))
    (column_of-lt x pieces lp) (column-lt x parities lq))

-- the byte that the rows give is the byte of the one list
pub is_decoded : (plan : Plan) (chosen : List ℕ) (inverse : Grid) (pieces : List (Option (List ℕ)))
    (parities : List (List ℕ)) (x e b : ℕ) → IsPlan plan chosen inverse → gaps_from 0 pieces ≡ plan.erased
    → length parities ≡ length plan.parities → PieceBytes pieces → ParityBytes parities → e < length plan.erased
    → b ≡ decoded (rows_table plan inverse) chosen (column x parities) (there (column_of x pieces)) e
    → IsDecodedAt plan pieces parities x (get_or plan.erased e 0) b
is_decoded plan chosen inverse pieces parities x e b p gaps count lp lq lt is =
    let v = rows_table plan inverse in
    let inv = column_inverts plan chosen inverse pieces x p gaps in
    record {
      agreeing = (
        filled 0 (column_of x pieces) (decoded_list v chosen (column x parities) (column_of x pieces)),
        column_agrees plan chosen inverse pieces parities x p gaps count lp lq,
      );
      only = λ list agrees.
          ap (λ (l : List ℕ). get_or list (get_or l e 0) 0) (sym (column_gaps x pieces ∙ gaps))
          ∙ decoded_only v chosen (column_of x pieces) (column x parities) inv list
          (subst (λ (points : List ℕ). AgreesInColumn points (column_of x pieces) (column x parities) list)
          (sym p.chosen_are) agrees) e
          (let even = (plan_inverts_chosen plan chosen inverse p).even in omega arith)
          ∙ sym is;
    }

-- ---- the row that the code reads

-- its weights are those of the table
row_weight : (plan : Plan) (chosen : List ℕ) (inverse : Grid) (e t : ℕ) → IsPlan plan chosen inverse
    → weight_of (row_entries inverse e) chosen t ≡ table_weight (rows_table plan inverse) chosen e t
row_weight plan chosen inverse e t p =
    let even = (plan_inverts_chosen plan chosen inverse p).even in
    let wide = p.columns_are in
    sum_below-same (length chosen) (λ j. times (get_or (row_entries inverse e) j 0) (power (get_or chosen j 0) t))
    (λ j. times (entry_of inverse e j) (power (get_or chosen j 0) t))
    (λ j lj. ap (λ (x : ℕ). times x (power (get_or chosen j 0) t))
    (list_of_at inverse.columns (entry_of inverse e) j (omega arith)))

-- what the code makes of the row is the byte of the one list
pub row_is_decoded : (plan : Plan) (chosen : List ℕ) (inverse : Grid) (pieces : List (Option (List ℕ)))
    (parities : List (List ℕ)) (x e b : ℕ) → IsPlan plan chosen inverse
    → gaps_from 0 pieces ≡ plan.erased → length parities ≡ length plan.parities → PieceBytes pieces
    → ParityBytes parities → e < length plan.erased
    → b ≡ bit_xor (sum_below (length parities) (λ j. times (entry_of inverse e j) (get_or (column x parities) j 0)))
    (sum_below (length pieces)
    (λ t. times (weight_of (row_entries inverse e) chosen t) (get_or (there (column_of x pieces)) t 0)))
    → IsDecodedAt plan pieces parities x (get_or plan.erased e 0) b
row_is_decoded plan chosen inverse pieces parities x e b p gaps count lp lq lt is =
    let known = there (column_of x pieces) in
    let long : length known ≡ length pieces = length-map (column_of x pieces) (λ o. unwrap_or o 0)
    ∙ length-map pieces (λ o. option_map (λ chunk. get_or chunk x 0) o) in
    let chosen_long : length chosen ≡ length plan.parities = ap length p.chosen_are
    ∙ length-map plan.parities (λ q. get_or plan.points q 0) in
    is_decoded plan chosen inverse pieces parities x e b p gaps count lp lq lt
    (is
    ∙ ap₂ bit_xor
    (ap (λ (n : ℕ). sum_below n (λ j. times (entry_of inverse e j) (get_or (column x parities) j 0)))
    (count ∙ sym chosen_long))
    (ap (λ (n : ℕ). sum_below n (λ t. times (weight_of (row_entries inverse e) chosen t) (get_or known t 0))) (sym long)
    ∙ sum_below-same (length known) (λ t. times (weight_of (row_entries inverse e) chosen t) (get_or known t 0))
    (λ t. times (table_weight (rows_table plan inverse) chosen e t) (get_or known t 0))
    (λ t _. ap (λ (w : ℕ). times w (get_or known t 0)) (row_weight plan chosen inverse e t p))))

-- a decoded byte is a byte
pub is_decoded-lt : (plan : Plan) (pieces : List (Option (List ℕ))) (parities : List (List ℕ)) (x t b : ℕ)
    → IsDecodedAt plan pieces parities x t b → b < 256
is_decoded-lt plan pieces parities x t b d =
    let (list, agrees) = d.agreeing in
    subst (λ (n : ℕ). n < 256) (d.only list agrees) (byte_at list agrees.list_is.bytes t)

-- how many of all there are
pub record Sizes (plan : Plan) (chosen : List ℕ) (inverse : Grid) : Type 0 where
  pub few : length plan.erased ≤ 8
  pub even : length plan.erased ≡ length plan.parities
  pub chosen_long : length plan.erased ≡ length chosen
  pub rows_are : inverse.rows ≡ length plan.erased
  pub columns_are : inverse.columns ≡ length plan.erased

pub plan_sizes : (plan : Plan) (chosen : List ℕ) (inverse : Grid) → IsPlan plan chosen inverse
    → Sizes plan chosen inverse
plan_sizes plan chosen inverse p = record {
  few = p.few;
  even = p.erasure.even;
  chosen_long = p.erasure.even ∙ sym (ap length p.chosen_are ∙ length-map plan.parities (λ q. get_or plan.points q 0));
  rows_are = p.rows_are;
  columns_are = p.columns_are;
}
