-- A plan from its parts.
use Rattle.std.proofs.Common.{◌≡◌, ℕ, zero, suc, ◌<◌, ◌≤◌, List, [], ◌∷◌, length, map, get_or, refl, sym, ◌∙◌, subst}
use Rattle.std.proofs.Common.{arith}
use Rattle.mf_matrix.specs.declared.NoInverse.{NoInverse}
use Rattle.mf_matrix.specs.declared.NoInverse.TheVariants as no_inverse
use Rattle.mf_matrix.specs.Matrix.{Grid, entry as entry_of}
use Rattle.mf_matrix.specs.Tables.{IsInverse}
use Rattle.mf_matrix.specs.NoInverses.{IsNoInverse}
use Rattle.mf_matrix.proofs.Same.{SameBelow, same_back, is_inverse-same, has_inverse-same, is_kernel-same}
use Rattle.mf_erasure.specs.Erasure.{entry, IsErasure, IsPlaces}
use Rattle.mf_erasure.proofs.Places.{others_complement}
use Rattle.mf_decode.specs.Plans.{IsNoPlan, no_plan_of, IsPlan}

-- places below a count are at most as many
pub few_places : (count : ℕ) (places : List ℕ) → IsPlaces count places → length places ≤ count
few_places count places p = let e = (others_complement count places p).lengths in omega arith

-- an erasure has at most as many places as there are parities
pub few_erased : (width count : ℕ) (erased parities : List ℕ) → IsErasure width count erased parities
    → length erased ≤ count
few_erased width count erased parities e = let even = e.even in let few = few_places count parities e.kept_places
    in omega arith

-- why there is no inverse is why there is no plan
pub no_plan-from : (n : ℕ) (a a' : ℕ → ℕ → ℕ) (reason : NoInverse) → SameBelow n a a' → IsNoInverse n a reason
    → IsNoPlan n a' (no_plan_of reason)
no_plan-from n a a' (no_inverse.Kernel x) same (kernel, only, none) = (
  is_kernel-same n a a' x same kernel,
  λ y k. only y (is_kernel-same n a' a y (same_back n a a' same) k),
  λ h. none (has_inverse-same n a' a (same_back n a a' same) h),
)
no_plan-from n a a' no_inverse.Memory same h = h

-- bytes taken from a list of bytes
map_bytes : (points ps : List ℕ) → ((k : ℕ) → get_or points k 0 < 256) → (j : ℕ)
    → get_or (map (λ p. get_or points p 0) ps) j 0 < 256
map_bytes points [] lp j = omega arith
map_bytes points (p ∷ ps) lp zero = lp p
map_bytes points (p ∷ ps) lp (suc j) = map_bytes points ps lp j

-- the matrix has the entries of the erasure's
pub entries_same : (points erased parities : List ℕ) (m : Grid) (n : ℕ) → length erased ≡ n → length parities ≡ n
    → ((i j : ℕ) → i < length parities → j < length erased → entry_of m i j ≡ entry points erased parities i j)
    → SameBelow n (entry_of m) (entry points erased parities)
entries_same points erased parities m n ne np at i j li lj = at i j (omega arith) (omega arith)

-- its inverse inverts the erasure's matrix
pub plan_inverts : (points erased parities : List ℕ) (m b : Grid) → length erased ≡ length parities
    → m.columns ≡ length erased
    → ((i j : ℕ) → i < length parities → j < length erased → entry_of m i j ≡ entry points erased parities i j)
    → IsInverse m.columns (entry_of m) (entry_of b)
    → IsInverse (length erased) (entry points erased parities) (entry_of b)
plan_inverts points erased parities m b even wide at inv =
    let here : IsInverse (length erased) (entry_of m) (entry_of b) = subst
    (λ (n : ℕ). IsInverse n (entry_of m) (entry_of b)) wide inv in
    is_inverse-same (length erased) (entry_of m) (entry points erased parities) (entry_of b) (entry_of b)
    (entries_same points erased parities m (length erased) refl (sym even) at) (λ i j li lj. refl) here.bytes here

-- the plan is one
pub is_plan-from : (points : List ℕ) (width : ℕ) (erased parities chosen : List ℕ) (m b : Grid) → width ≤ 64
    → length points ≤ 4 → IsErasure width (length points) erased parities
    → ((k : ℕ) → get_or points k 0 < 256) → chosen ≡ map (λ p. get_or points p 0) parities → m.rows ≡ length parities
    → m.columns ≡ length erased
    → ((i j : ℕ) → i < length parities → j < length erased → entry_of m i j ≡ entry points erased parities i j)
    → b.rows ≡ m.rows → b.columns ≡ m.columns
    → IsInverse m.columns (entry_of m) (entry_of b)
    → IsPlan (record { points = points; width = width; erased = erased; parities = parities }) chosen b
is_plan-from points width erased parities chosen m b narrow small erasure lp is rows columns at same_rows same_columns
    inv = record {
      narrow = narrow;
      few = let h = few_erased width (length points) erased parities erasure in omega arith;
      erasure = erasure;
      chosen_are = is;
      chosen_bytes = λ j. subst (λ (l : List ℕ). get_or l j 0 < 256) (sym is) (map_bytes points parities lp j);
      rows_are = same_rows ∙ rows ∙ sym erasure.even;
      columns_are = same_columns ∙ columns;
      inverts = plan_inverts points erased parities m b erasure.even columns at inv;
    }
