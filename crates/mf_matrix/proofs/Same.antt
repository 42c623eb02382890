-- Tables with the same entries have the same inverses and the same kernel lists.
use Rattle.std.proofs.Common.{◌≡◌, ℕ, ◌<◌, List, inl, inr, get_or, refl, sym, ap, ap₂, ◌∙◌, arith}
use Rattle.std.proofs.lemmas.Bool.{cases_lt}
use Rattle.std.proofs.lemmas.List.{get_or_past}
use Rattle.mf_code.specs.Field.{times}
use Rattle.mf_code.proofs.Sums.{sum_below-same}
use Rattle.mf_matrix.specs.Tables.{IsTable, IsInverse, HasInverse, GivesIdentity, SendsToZero, OnlyZero}
use Rattle.mf_matrix.specs.Tables.{DependsOnEarlier, IsKernel}

-- the same entry in each row and column below n
abbrev pub SameBelow : ℕ → (ℕ → ℕ → ℕ) → (ℕ → ℕ → ℕ) → Type 0
SameBelow n a b = (i j : ℕ) → i < n → j < n → a i j ≡ b i j

pub same_back : (n : ℕ) (a b : ℕ → ℕ → ℕ) → SameBelow n a b → SameBelow n b a
same_back n a b s i j li lj = sym (s i j li lj)

-- ---- inverses

gives_identity-same : (n : ℕ) (a a' b b' : ℕ → ℕ → ℕ) → SameBelow n a a' → SameBelow n b b' → GivesIdentity n a b
    → GivesIdentity n a' b'
gives_identity-same n a a' b b' sa sb one i j li lj =
    sum_below-same n (λ k. times (a' i k) (b' k j)) (λ k. times (a i k) (b k j))
    (λ k lk. ap₂ times (sym (sa i k li lk)) (sym (sb k j lk lj))) ∙ one i j li lj

pub is_inverse-same : (n : ℕ) (a a' b b' : ℕ → ℕ → ℕ) → SameBelow n a a' → SameBelow n b b' → IsTable b'
    → IsInverse n a b → IsInverse n a' b'
is_inverse-same n a a' b b' sa sb bytes inv = record {
  bytes = bytes;
  on_the_right = gives_identity-same n a a' b b' sa sb inv.on_the_right;
  on_the_left = gives_identity-same n b b' a a' sb sa inv.on_the_left;
}

pub has_inverse-same : (n : ℕ) (a a' : ℕ → ℕ → ℕ) → SameBelow n a a' → HasInverse n a → HasInverse n a'
has_inverse-same n a a' sa (b, inv) = (b, is_inverse-same n a a' b b sa (λ i j _ _. refl) inv.bytes inv)

-- ---- zeros

sends-same : (n : ℕ) (a a' : ℕ → ℕ → ℕ) (x : ℕ → ℕ) → SameBelow n a a' → SendsToZero n a x → SendsToZero n a' x
sends-same n a a' x sa zeros i li = sum_below-same n (λ j. times (a' i j) (x j)) (λ j. times (a i j) (x j))
    (λ j lj. ap (λ (y : ℕ). times y (x j)) (sym (sa i j li lj))) ∙ zeros i li

depends-same : (n : ℕ) (a a' : ℕ → ℕ → ℕ) (c : ℕ) → c < n → SameBelow n a a' → DependsOnEarlier n a c
    → DependsOnEarlier n a' c
depends-same n a a' c lc sa (w, lw, is) = (
  w,
  lw,
  λ i li. sym (sa i c li lc) ∙ is i li ∙ sum_below-same c (λ j. times (a i j) (w j)) (λ j. times (a' i j) (w j))
      (λ j lj. ap (λ (x : ℕ). times x (w j)) (sa i j li (omega arith))),
)

pub is_kernel-same : (n : ℕ) (a a' : ℕ → ℕ → ℕ) (x : List ℕ) → SameBelow n a a' → IsKernel n a x → IsKernel n a' x
is_kernel-same n a a' x sa k =
    let (c, first, zeros) = k.zero_after in
    let within = first.within in
    record {
      len = k.len;
      bytes = k.bytes;
      to_zero = sends-same n a a' (λ j. get_or x j 0) sa k.to_zero;
      zero_after = (
        c,
        record {
          within = within;
          depends = depends-same n a a' c within sa first.depends;
          first = λ d ld on. first.first d ld (depends-same n a' a d (omega arith) (same_back n a a' sa) on);
        },
        zeros,
      );
      begins_with_one = k.begins_with_one;
    }

-- tables with the same entries send the same lists to zero
pub only_zero-same : (n : ℕ) (a a' : ℕ → ℕ → ℕ) → SameBelow n a a' → OnlyZero n a → OnlyZero n a'
only_zero-same n a a' sa only x lx zeros = only x lx (sends-same n a' a x (same_back n a a' sa) zeros)

-- a table that sends only zeros to zero has no kernel list
pub no_kernel : (n : ℕ) (a : ℕ → ℕ → ℕ) (x : List ℕ) → OnlyZero n a → IsKernel n a x → ⊥
no_kernel n a x only k =
    let (j, one, zeros) = k.begins_with_one in
    elim (cases_lt j n) [
      | inl lt ↦ (let zero = only (λ i. get_or x i 0) k.bytes k.to_zero j lt in omega arith)
      | inr le ↦ (let long = k.len in let zero = get_or_past x j 0 (omega arith) in omega arith)
    ]
