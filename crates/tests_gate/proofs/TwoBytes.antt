-- The file of the tests rests.
use Rattle.std.proofs.Common.{◌≡◌, ℕ, zero, suc, ◌<◌, true, false, List, [], ◌∷◌, get_or, sym, refl, ap}
use Rattle.std.proofs.Common.{arith}
use Rattle.mf_machine.specs.File.{HasCell}
use Rattle.mf_machine.specs.File.Home.{keeps}
use Rattle.mf_machine.proofs.Words.{cell_here}
use Rattle.mf_places.specs.declared.losses.LoseLine.{LoseLine}
use Rattle.mf_places.specs.Names.{count_of, name_at, all_names, data_names, copies_named, copy_names, stripe_parities}
use Rattle.mf_places.specs.Names.{width_parities, parity_names}
use Rattle.mf_code.specs.Chunks.{chunk, parity, parity_byte}
use Rattle.mf_code.specs.Field.{times, remainder, carryless, power}
use Rattle.mf_code.specs.Sums.{sum_below}
use Rattle.mf_gate.specs.Resting.{AtRest}
use Rattle.mf_gate.specs.Table.{facts_of, file_of}
use Rattle.tests_gate.specs.Files.{file_ab}

seven : (ls : List LoseLine) → (file_of (file_ab ls)).names ≡ 7
unfolding count_of all_names data_names copies_named copy_names stripe_parities width_parities parity_names
seven ls = refl

data_0 : (ls : List LoseLine) → (file_of (file_ab ls)).cell 0 ≡ 97 ∷ []
unfolding name_at all_names data_names copies_named copy_names stripe_parities width_parities parity_names chunk
data_0 ls = refl

data_1 : (ls : List LoseLine) → (file_of (file_ab ls)).cell 1 ≡ 98 ∷ []
unfolding name_at all_names data_names copies_named copy_names stripe_parities width_parities parity_names chunk
data_1 ls = refl

copy_0 : (ls : List LoseLine) → (file_of (file_ab ls)).cell 2 ≡ 97 ∷ []
unfolding name_at all_names data_names copies_named copy_names stripe_parities width_parities parity_names chunk
copy_0 ls = refl

copy_1 : (ls : List LoseLine) → (file_of (file_ab ls)).cell 3 ≡ 98 ∷ []
unfolding name_at all_names data_names copies_named copy_names stripe_parities width_parities parity_names chunk
copy_1 ls = refl

narrow_0 : (ls : List LoseLine) → (file_of (file_ab ls)).cell 4 ≡ 97 ∷ []
unfolding name_at all_names data_names copies_named copy_names stripe_parities width_parities parity_names chunk
    parity parity_byte sum_below times remainder carryless power
narrow_0 ls = refl

narrow_1 : (ls : List LoseLine) → (file_of (file_ab ls)).cell 5 ≡ 98 ∷ []
unfolding name_at all_names data_names copies_named copy_names stripe_parities width_parities parity_names chunk
    parity parity_byte sum_below times remainder carryless power
narrow_1 ls = refl

wide : (ls : List LoseLine) → (file_of (file_ab ls)).cell 6 ≡ 3 ∷ []
unfolding name_at all_names data_names copies_named copy_names stripe_parities width_parities parity_names chunk
    parity parity_byte sum_below times remainder carryless power
wide ls = refl

-- what becomes of a fact of each name
each_name : (ls : List LoseLine) (P : ℕ → Type 0) → P 0 → P 1 → P 2 → P 3 → P 4 → P 5 → P 6 → (n : ℕ)
    → n < (file_of (file_ab ls)).names → P n
each_name ls P a b c d e f h zero l = a
each_name ls P a b c d e f h (suc zero) l = b
each_name ls P a b c d e f h (suc (suc zero)) l = c
each_name ls P a b c d e f h (suc (suc (suc zero))) l = d
each_name ls P a b c d e f h (suc (suc (suc (suc zero)))) l = e
each_name ls P a b c d e f h (suc (suc (suc (suc (suc zero))))) l = f
each_name ls P a b c d e f h (suc (suc (suc (suc (suc (suc zero)))))) l = h
each_name ls P a b c d e f h (suc (suc (suc (suc (suc (suc (suc n))))))) l = let t = seven ls in absurd (omega arith)

is_here : (ls : List LoseLine) (n : ℕ) → n < (file_of (file_ab ls)).names
    → (facts_of (file_ab ls)).opening.name n ≡ 1
is_here ls = each_name ls (λ n. (facts_of (file_ab ls)).opening.name n ≡ 1) refl refl refl refl refl refl refl

none_closed : (g : ℕ) → get_or (false ∷ false ∷ false ∷ []) g false ≡ true → ⊥
none_closed zero e = let z : false ≡ true = e in cc
none_closed (suc zero) e = let z : false ≡ true = e in cc
none_closed (suc (suc zero)) e = let z : false ≡ true = e in cc
none_closed (suc (suc (suc g))) e = let z : false ≡ true = e in cc

-- a name keeps its cell
kept : (ls : List LoseLine) (n b : ℕ) → (file_of (file_ab ls)).cell n ≡ b ∷ []
    → HasCell (file_of (file_ab ls)) n (keeps (b ∷ []))
kept ls n b e = cell_here (file_of (file_ab ls)) n (keeps (b ∷ [])) (ap keeps (sym e))

pub rests : (ls : List LoseLine) → AtRest (file_ab ls)
rests ls = record {
  closed = refl;
  names = sym (seven ls);
  rest = record {
    number = omega arith;
    closed = λ g l e. absurd (none_closed g e);
    born = λ g l e n i h z. let o = is_here ls n i in absurd (omega arith);
    settled = λ n i z. let o = is_here ls n i in absurd (omega arith);
    dropped = λ n i z. let o = is_here ls n i in absurd (omega arith);
    lost = λ n l i z. let o = is_here ls n i in absurd (omega arith);
    here = λ n i e. each_name ls (λ m. HasCell (file_of (file_ab ls)) m ((facts_of (file_ab ls)).opening.home m))
        (kept ls 0 97 (data_0 ls)) (kept ls 1 98 (data_1 ls)) (kept ls 2 97 (copy_0 ls)) (kept ls 3 98 (copy_1 ls))
        (kept ls 4 97 (narrow_0 ls)) (kept ls 5 98 (narrow_1 ls)) (kept ls 6 3 (wide ls)) n i;
    bare = λ n i ne. absurd (ne (is_here ls n i));
  };
}
