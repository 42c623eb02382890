-- Texts that are drawn, piece by piece, by a loop.
use Rattle.std.proofs.Common.{◌≡◌, ℕ, zero, suc, ◌+◌, ◌*◌, List, [], ◌∷◌, ◌++◌, sym, ap, ◌∙◌, arith}
use Rattle.std.specs.List.{flat_map, range_with_len}
use Rattle.std.proofs.lemmas.Grind.{flat_map-append}
use Rattle.std.proofs.lemmas.List.{append_assoc, append-nil}
use Rattle.mf_script.specs.Seeds.{next, behind}

-- m draws behind k draws
pub behind-add : (m k x : ℕ) → behind (m + k) x ≡ behind m (behind k x)
behind-add zero k x = ap (λ n. behind n x) (let e : 0 + k ≡ k = omega arith in e)
behind-add (suc m) k x =
    ap (λ n. behind n x) (let e : suc m + k ≡ suc (m + k) = omega arith in e) ∙ ap next (behind-add m k x)

-- m draws more behind i pieces of m draws each
pub one_more : (m i x : ℕ) → behind m (behind (m * i) x) ≡ behind (m * (i + 1)) x
one_more m i x =
    sym (behind-add m (m * i) x) ∙ ap (λ n. behind n x) (let e : m + m * i ≡ m * (i + 1) = omega arith in e)

range_more : (a n : ℕ) → range_with_len a (n + 1) ≡ range_with_len a n ++ (a + n) ∷ []
range_more a zero = ap (λ n. n ∷ []) (let e : a ≡ a + 0 = omega arith in e)
range_more a (suc n) =
    ap (λ k. range_with_len a k) (let e : suc n + 1 ≡ suc (n + 1) = omega arith in e)
    ∙ ap (λ r. a ∷ r) (range_more (a + 1) n)
    ∙ ap (λ k. a ∷ (range_with_len (a + 1) n ++ k ∷ [])) (let e : a + 1 + n ≡ a + suc n = omega arith in e)

-- no piece yet
pub no_piece : (f : ℕ → List ℕ) (out : List ℕ) → out ≡ out ++ flat_map f (range_with_len 0 0)
no_piece f out = sym (append-nil out)

-- the next piece
pub next_piece : (f : ℕ → List ℕ) (front out : List ℕ) (i : ℕ) → out ≡ front ++ flat_map f (range_with_len 0 i)
    → out ++ f i ≡ front ++ flat_map f (range_with_len 0 (i + 1))
next_piece f front out i e =
    ap (λ o. o ++ f i) e
    ∙ append_assoc front (flat_map f (range_with_len 0 i)) (f i)
    ∙ ap (λ r. front ++ r)
    (ap (λ r. flat_map f (range_with_len 0 i) ++ r) (sym (append-nil (f i)))
    ∙ ap (λ k. flat_map f (range_with_len 0 i) ++ flat_map f (k ∷ [])) (let e : i ≡ 0 + i = omega arith in e)
    ∙ sym (flat_map-append f (range_with_len 0 i) ((0 + i) ∷ []))
    ∙ ap (λ r. flat_map f r) (sym (range_more 0 i)))

-- ---- pieces with draws of their own

-- i pieces stand behind the front, each of m draws, and this is the state behind them
pub record Drawn (f : ℕ → ℕ → List ℕ) (m x : ℕ) (front : List ℕ) (i : ℕ) (out : List ℕ) (s : ℕ) : Type 0 where
  pub text : out ≡ front ++ flat_map (λ k. f (behind (m * k) x) k) (range_with_len 0 i)
  pub state : s ≡ behind (m * i) x

pub none_drawn : (f : ℕ → ℕ → List ℕ) (m x : ℕ) (front : List ℕ) → Drawn f m x front 0 front x
none_drawn f m x front = record {
  text = no_piece (λ k. f (behind (m * k) x) k) front;
  state = ap (λ n. behind n x) (let e : 0 ≡ m * 0 = omega arith in e);
}

pub one_drawn : (f : ℕ → ℕ → List ℕ) (m x : ℕ) (front : List ℕ) (i : ℕ) (out new : List ℕ) (s t : ℕ)
    → Drawn f m x front i out s → new ≡ out ++ f s i → t ≡ behind m s → Drawn f m x front (i + 1) new t
one_drawn f m x front i out new s t before text state = record {
  text =
      text ∙ ap (λ s. out ++ f s i) before.state
      ∙ next_piece (λ k. f (behind (m * k) x) k) front out i before.text;
  state = state ∙ ap (λ s. behind m s) before.state ∙ one_more m i x;
}
