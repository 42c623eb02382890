-- Rows of coefficients over what is there.
use Rattle.std.proofs.Common.{◌≡◌, ℕ, zero, suc, ◌+◌, ◌<◌, List, [], ◌∷◌, ◌++◌, length, map, get_or, Option, Some, None}
use Rattle.std.proofs.Common.{true, false, bit_xor, refl, sym, ap, ap₂, ◌∙◌, arith, add-zero}
use Rattle.std.specs.Prelude.{All, IfSome, is_some}
use Rattle.std.specs.List.{range_with_len}
use Rattle.std.specs.Int.Bits.{xor_zero_r}
use Rattle.std.proofs.lemmas.Nat.{xor_comm}
use Rattle.std.proofs.lemmas.List.{map-append, length-append, length-map, get_or-map, get_or_append_left}
use Rattle.std.proofs.lemmas.List.{get_or-append-add}
use Rattle.std.proofs.lemmas.List.FromFn.{length-map-range_with_len, get_or-map-range_with_len}
use Rattle.mf_code.specs.Field.{times}
use Rattle.mf_code.specs.Rows.{column}
use Rattle.mf_code.specs.Sums.{sum_below}
use Rattle.mf_code.proofs.Sums.{sum_below-none, sum_below-first, sum_below-same, sum_below-add}
use Rattle.mf_code.proofs.Lists.{length-list_of, list_of_at}
use Rattle.mf_field.proofs.FieldLaws.{times-zero}
use Rattle.mf_kernel.specs.Dots.{dot, combined}
use Rattle.mf_kernel.proofs.Blocks.{length-column}
use Rattle.mf_matrix.specs.Matrix.{Grid, entry as entry_of}
use Rattle.mf_decode.specs.Decoding.{column_of}
use Rattle.mf_decode.specs.Columns.{there, weight_of, row_entries, present, weights_from, decode_row}

-- ---- what is there

pub present-append : {A : Type 0} (xs ys : List (Option A)) → present (xs ++ ys) ≡ present xs ++ present ys
present-append [] ys = refl
present-append {A = A} (Some x ∷ xs) ys = ap (λ (l : List A). x ∷ l) (present-append xs ys)
present-append (None ∷ xs) ys = present-append xs ys

pub present_all : {A : Type 0} (P : A → Type 0) (ps : List (Option A)) → All (λ (o : Option A). IfSome o P) ps
    → All P (present ps)
present_all P [] each k d lt = absurd (omega arith)
present_all P (Some x ∷ ps) each zero d lt = each 0 (Some x) (omega arith)
present_all P (Some x ∷ ps) each (suc k) d lt = present_all P ps (λ i o below. each (suc i) o (omega arith)) k d
    (omega arith)
present_all P (None ∷ ps) each k d lt = present_all P ps (λ i o below. each (suc i) o (omega arith)) k d lt

pub length-weights : {A : Type 0} (row points : List ℕ) (t : ℕ) (ps : List (Option A))
    → length (weights_from row points t ps) ≡ length (present ps)
length-weights row points t [] = refl
length-weights row points t (Some x ∷ ps) = ap suc (length-weights row points (t + 1) ps)
length-weights row points t (None ∷ ps) = length-weights row points (t + 1) ps

-- one more piece, whether it is there or not
pub weights-push-some : {A : Type 0} (row points : List ℕ) (t n : ℕ) (ps : List (Option A)) (o : Option A)
    → is_some o ≡ true → t + length ps ≡ n
    → weights_from row points t (ps ++ o ∷ []) ≡ weights_from row points t ps ++ weight_of row points n ∷ []
weights-push-some row points t n [] (Some x) is e = ap (λ (k : ℕ). weight_of row points k ∷ [])
    (let d : t ≡ n = omega arith in d)
weights-push-some row points t n [] None is e = absurd (cc)
weights-push-some row points t n (Some y ∷ ps) o is e = ap (λ (l : List ℕ). weight_of row points t ∷ l)
    (weights-push-some row points (t + 1) n ps o is (omega arith))
weights-push-some row points t n (None ∷ ps) o is e = weights-push-some row points (t + 1) n ps o is (omega arith)

pub weights-push-none : {A : Type 0} (row points : List ℕ) (t : ℕ) (ps : List (Option A)) (o : Option A)
    → is_some o ≡ false → weights_from row points t (ps ++ o ∷ []) ≡ weights_from row points t ps
weights-push-none row points t [] (Some x) is = absurd (cc)
weights-push-none row points t [] None is = refl
weights-push-none row points t (Some y ∷ ps) o is = ap (λ (l : List ℕ). weight_of row points t ∷ l)
    (weights-push-none row points (t + 1) ps o is)
weights-push-none row points t (None ∷ ps) o is = weights-push-none row points (t + 1) ps o is

-- ---- sums

-- the sum over what is there is the sum over all, with 0 for what isn't
present_sum : (row points : List ℕ) (t x : ℕ) (ps : List (Option (List ℕ)))
    → sum_below (length (present ps))
    (λ i. times (get_or (weights_from row points t ps) i 0) (get_or (column x (present ps)) i 0))
    ≡ sum_below (length ps) (λ i. times (weight_of row points (t + i)) (get_or (there (column_of x ps)) i 0))
present_sum row points t x [] = sum_below-none (λ i. times 0 0)
    ∙ sym (sum_below-none (λ i. times (weight_of row points (t + i)) 0))
present_sum row points t x (Some chunk ∷ ps) =
    sum_below-first (length (present ps))
    (λ i. times (get_or (weight_of row points t ∷ weights_from row points (t + 1) ps) i 0)
    (get_or (get_or chunk x 0 ∷ column x (present ps)) i 0))
    ∙ ap₂ bit_xor (ap (λ (n : ℕ). times (weight_of row points n) (get_or chunk x 0)) (sym (add-zero t)))
    (present_sum row points (t + 1) x ps
    ∙ sum_below-same (length ps) (λ i. times (weight_of row points (t + 1 + i)) (get_or (there (column_of x ps)) i 0))
    (λ i. times (weight_of row points (t + suc i)) (get_or (there (column_of x ps)) i 0))
    (λ i _. ap (λ (n : ℕ). times (weight_of row points n) (get_or (there (column_of x ps)) i 0))
    (let e : t + 1 + i ≡ t + suc i = omega arith in e)))
    ∙ sym (sum_below-first (length ps)
    (λ i. times (weight_of row points (t + i)) (get_or (get_or chunk x 0 ∷ there (column_of x ps)) i 0)))
present_sum row points t x (None ∷ ps) =
    let s = sum_below (length ps) (λ i. times (weight_of row points (t + suc i)) (get_or (there (column_of x ps)) i 0))
    in
    present_sum row points (t + 1) x ps
    ∙ sum_below-same (length ps) (λ i. times (weight_of row points (t + 1 + i)) (get_or (there (column_of x ps)) i 0))
    (λ i. times (weight_of row points (t + suc i)) (get_or (there (column_of x ps)) i 0))
    (λ i _. ap (λ (n : ℕ). times (weight_of row points n) (get_or (there (column_of x ps)) i 0))
    (let e : t + 1 + i ≡ t + suc i = omega arith in e))
    ∙ sym (xor_zero_r s) ∙ xor_comm s 0 ∙ ap (λ (n : ℕ). bit_xor n s) (sym (times-zero (weight_of row points (t + 0))))
    ∙ sym (sum_below-first (length ps)
    (λ i. times (weight_of row points (t + i)) (get_or (0 ∷ there (column_of x ps)) i 0)))

-- the sum over two lists of chunks
joined_sum : (row ws : List ℕ) (x : ℕ) (firsts seconds : List (List ℕ)) → length row ≡ length firsts
    → dot (row ++ ws) (column x (firsts ++ seconds))
    ≡ bit_xor (sum_below (length firsts) (λ j. times (get_or row j 0) (get_or (column x firsts) j 0)))
    (sum_below (length seconds) (λ i. times (get_or ws i 0) (get_or (column x seconds) i 0)))
joined_sum row ws x firsts seconds long =
    let m = length firsts in
    let n = length seconds in
    let a = column x firsts in
    let b = column x seconds in
    let la : length a ≡ m = length-column x firsts in
    let lb : length b ≡ n = length-column x seconds in
    ap (λ (bytes : List ℕ). dot (row ++ ws) bytes) (map-append (λ (xs : List ℕ). get_or xs x 0) firsts seconds)
    ∙ ap (λ (k : ℕ). sum_below k (λ t. times (get_or (row ++ ws) t 0) (get_or (a ++ b) t 0)))
    (length-append a b ∙ ap₂ (λ (p q : ℕ). p + q) la lb)
    ∙ sum_below-add m n (λ t. times (get_or (row ++ ws) t 0) (get_or (a ++ b) t 0))
    ∙ ap₂ bit_xor
    (sum_below-same m (λ t. times (get_or (row ++ ws) t 0) (get_or (a ++ b) t 0))
    (λ j. times (get_or row j 0) (get_or a j 0))
    (λ j lt. ap₂ times (get_or_append_left row ws 0 j (omega arith)) (get_or_append_left a b 0 j (omega arith))))
    (sum_below-same n (λ i. times (get_or (row ++ ws) (m + i) 0) (get_or (a ++ b) (m + i) 0))
    (λ i. times (get_or ws i 0) (get_or b i 0))
    (λ i lt. ap₂ times
    (ap (λ (k : ℕ). get_or (row ++ ws) (k + i) 0) (sym long) ∙ get_or-append-add row ws i 0)
    (ap (λ (k : ℕ). get_or (a ++ b) (k + i) 0) (sym la) ∙ get_or-append-add a b i 0)))

-- the sum by the row of an erased chunk
pub row_sum : (m : Grid) (points : List ℕ) (x e : ℕ) (parities : List (List ℕ)) (pieces : List (Option (List ℕ)))
    → m.columns ≡ length parities
    → dot (decode_row m points pieces e) (column x (parities ++ present pieces))
    ≡ bit_xor (sum_below (length parities) (λ j. times (entry_of m e j) (get_or (column x parities) j 0)))
    (sum_below (length pieces)
    (λ t. times (weight_of (row_entries m e) points t) (get_or (there (column_of x pieces)) t 0)))
row_sum m points x e parities pieces wide =
    let row = row_entries m e in
    joined_sum row (weights_from row points 0 pieces) x parities (present pieces)
    (length-list_of m.columns (entry_of m e) ∙ wide)
    ∙ ap₂ bit_xor
    (sum_below-same (length parities) (λ j. times (get_or row j 0) (get_or (column x parities) j 0))
    (λ j. times (entry_of m e j) (get_or (column x parities) j 0))
    (λ j lt. ap (λ (f : ℕ). times f (get_or (column x parities) j 0))
    (list_of_at m.columns (entry_of m e) j (omega arith))))
    (present_sum row points 0 x pieces
    ∙ sum_below-same (length pieces)
    (λ i. times (weight_of row points (0 + i)) (get_or (there (column_of x pieces)) i 0))
    (λ t. times (weight_of row points t) (get_or (there (column_of x pieces)) t 0))
    (λ i _. ap (λ (n : ℕ). times (weight_of row points n) (get_or (there (column_of x pieces)) i 0))
    (let z : 0 + i ≡ i = omega arith in z)))

-- ---- the lists that are made

module _ (size count : ℕ) (m : Grid) (points : List ℕ) (pieces : List (Option (List ℕ)))
    (sources made lists : List (List ℕ))
    (made_are : made ≡ map (decode_row m points pieces) (range_with_len 0 count))
    (lists_are : lists ≡ map (combined size sources) made) where
  pub length-made : length lists ≡ count
  length-made =
      ap length lists_are ∙ length-map made (combined size sources) ∙ ap length made_are
      ∙ length-map-range_with_len (decode_row m points pieces) 0 count

  pub list_at : (e : ℕ) (d : List ℕ) → e < count
      → get_or lists e d ≡ combined size sources (decode_row m points pieces e)
  list_at e d lt =
      let long : length made ≡ count = ap length made_are
      ∙ length-map-range_with_len (decode_row m points pieces) 0 count in
      ap (λ (l : List (List ℕ)). get_or l e d) lists_are ∙ get_or-map (combined size sources) made e [] d (omega arith)
      ∙ ap (combined size sources)
      (ap (λ (l : List (List ℕ)). get_or l e []) made_are
      ∙ get_or-map-range_with_len (decode_row m points pieces) 0 count e e [] lt
      (let z : 0 + e ≡ e = omega arith in z))

  pub byte_at_list : (e x : ℕ) (d : List ℕ) → e < count → x < size
      → get_or (get_or lists e d) x 0 ≡ dot (decode_row m points pieces e) (column x sources)
  byte_at_list e x d lt lx =
      ap (λ (l : List ℕ). get_or l x 0) (list_at e d lt)
      ∙ list_of_at size (λ y. dot (decode_row m points pieces e) (column y sources)) x lx
