-- The names on a server, row by row.
use Rattle.std.proofs.Common.{◌≡◌, ℕ, zero, suc, ◌+◌, ◌-◌, ◌*◌, ◌%◌, ◌<◌, inl, inr, Bool, List, [], ◌∷◌, ◌++◌, map, filter, cond, ap, ◌∙◌}
use Rattle.std.proofs.Common.{sym, subst, arith, min, append_assoc, refl, true, false}
use Rattle.std.proofs.Math.Nat.{mod-lt}
use Rattle.std.proofs.lemmas.Bool.{cases_Bool, eqb-true}
use Rattle.std.proofs.lemmas.List.{append-nil}
use Rattle.std.proofs.lemmas.List.Elements.{filter-append}
use Rattle.std.proofs.lemmas.List.FromFn.{filter_of_map_range_with_len_more}
use Rattle.std.specs.List.{flat_map, range_with_len}
use Rattle.mf_shape.specs.Stages.{copies_at, max_width, max_copied_width}
use Rattle.mf_shape.proofs.Widths.{one-le-max_width}
use Rattle.mf_places.specs.declared.Name.{Name}
use Rattle.mf_places.specs.declared.Name.TheVariants as name
use Rattle.mf_places.specs.Facts.{BookFacts, IsBook, chunks_of}
use Rattle.mf_places.specs.Names.{stripes_of, parities_of, data_names, copies_named, copy_names, stripe_parities}
use Rattle.mf_places.specs.Names.{width_parities, parity_names, all_names}
use Rattle.mf_places.specs.Placement.{is_on, column_of, server_of}
use Rattle.mf_places.specs.Rows.{step_behind, HasNoneOn}
use Rattle.mf_places.proofs.Apart.{same-mod}
use Rattle.mf_places.proofs.Filters.{filter-no_piece}
use Rattle.mf_places.proofs.Ranges.{flat_map-more}

-- one element more of a row that is made over a range
pub row-more : {X : Type 0} (p : X → Bool) (f : ℕ → X) (xs : List X) (n : ℕ)
    → (xs ++ filter p (map f (range_with_len 0 n))) ++ filter p (f n ∷ [])
    ≡ xs ++ filter p (map f (range_with_len 0 (n + 1)))
row-more p f xs n =
    append_assoc xs (filter p (map f (range_with_len 0 n))) (filter p (f n ∷ []))
    ∙ ap (λ ys. xs ++ ys) (sym (filter_of_map_range_with_len_more p f 0 n n (omega arith)))

-- one row more
pub rows-more : {X : Type 0} (p : X → Bool) (f : ℕ → List X) (xs : List X) (n : ℕ)
    → (xs ++ filter p (flat_map f (range_with_len 0 n))) ++ filter p (f n)
    ≡ xs ++ filter p (flat_map f (range_with_len 0 (n + 1)))
rows-more p f xs n =
    append_assoc xs (filter p (flat_map f (range_with_len 0 n))) (filter p (f n))
    ∙ ap (λ ys. xs ++ ys) (sym (filter-append p (flat_map f (range_with_len 0 n)) (f n))
    ∙ ap (filter p) (sym (flat_map-more f n)))

-- ---- chunks that are passed over

-- in a row the column goes with the chunk, moved on by so much, over the greatest width
abbrev IsRow : BookFacts → (ℕ → Name) → (moved : ℕ) → Type 0
IsRow b f moved = (i : ℕ) → column_of b (f i) ≡ (i + moved) % max_width b.shape.stages

-- behind a chunk on the server the next ones aren't
behind-off : (b : BookFacts) → IsBook b → (server : ℕ) (f : ℕ → Name) (moved : ℕ) → IsRow b f moved → (i k : ℕ)
    → is_on b server (f i) ≡ true → 0 < k → k < max_width b.shape.stages → is_on b server (f (i + k)) ≡ false
behind-off b book server f moved row i k on some low = elim (cases_Bool (is_on b server (f (i + k)))) [
  | inl there ↦
      let w = max_width b.shape.stages in
      let wide = one-le-max_width book.shape.chain in
      let room = book.shape.servers.0 in
      let first = eqb-true (server_of b (f i)) server on in
      let second = eqb-true (server_of b (f (i + k))) server there in
      let near = mod-lt (i + moved) wide in
      let far = mod-lt (i + k + moved) wide in
      let one = row i in
      let other = row (i + k) in
      let sums : b.file + column_of b (f i) ≡ b.file + column_of b (f (i + k)) =
      same-mod (b.file + column_of b (f i)) (b.file + column_of b (f (i + k))) b.shape.servers (omega arith)
      (first ∙ sym second) (omega arith) (omega arith) in
      let columns : (i + moved) % w ≡ (i + k + moved) % w = sym one ∙ omega arith ∙ other in
      let same = same-mod (i + moved) (i + k + moved) w wide columns (omega arith) (omega arith) in
      absurd (omega arith)
  | inr off ↦ off
]

-- so nothing more is kept of them
passed-over : (b : BookFacts) → IsBook b → (server : ℕ) (f : ℕ → Name) (moved : ℕ) → IsRow b f moved → (i k : ℕ)
    → is_on b server (f i) ≡ true → k < max_width b.shape.stages
    → filter (is_on b server) (map f (range_with_len 0 (i + 1 + k)))
    ≡ filter (is_on b server) (map f (range_with_len 0 (i + 1)))
passed-over b book server f moved row i zero on low =
    let e : i + 1 + 0 ≡ i + 1 = omega arith in
    ap (λ n. filter (is_on b server) (map f (range_with_len 0 n))) e
passed-over b book server f moved row i (suc k) on low =
    let p = is_on b server in
    let e : i + 1 + suc k ≡ i + 1 + k + 1 = omega arith in
    let at : i + (k + 1) ≡ i + 1 + k = omega arith in
    let off = subst (λ n. p (f n) ≡ false) at (behind-off b book server f moved row i (k + 1) on (omega arith)
    (omega arith)) in
    ap (λ n. filter p (map f (range_with_len 0 n))) e
    ∙ filter_of_map_range_with_len_more p f 0 (i + 1 + k) (i + 1 + k) (omega arith)
    ∙ ap (λ z. filter p (map f (range_with_len 0 (i + 1 + k))) ++ cond z (f (i + 1 + k) ∷ []) []) off
    ∙ append-nil (filter p (map f (range_with_len 0 (i + 1 + k))))
    ∙ passed-over b book server f moved row i k on (omega arith)

-- one chunk more, and those that are passed over behind it
row-step : (b : BookFacts) → IsBook b → (server : ℕ) (f : ℕ → Name) (moved m i step : ℕ) (on : Bool)
    (xs ys zs : List Name) → IsRow b f moved → i < m → on ≡ is_on b server (f i) → step ≡ step_behind b on
    → ys ≡ xs ++ filter (is_on b server) (map f (range_with_len 0 (min i m)))
    → zs ≡ ys ++ filter (is_on b server) (f i ∷ [])
    → zs ≡ xs ++ filter (is_on b server) (map f (range_with_len 0 (min (i + step) m)))
row-step b book server f moved m i step true xs ys zs row low is go so more =
    let p = is_on b server in
    let wide = one-le-max_width book.shape.chain in
    let here : min i m ≡ i = omega arith in
    let k = min (i + step) m - (i + 1) in
    let last : i + 1 + k ≡ min (i + step) m = omega arith in
    more ∙ ap (λ l. l ++ filter p (f i ∷ [])) (so ∙ ap (λ n. xs ++ filter p (map f (range_with_len 0 n))) here)
    ∙ row-more p f xs i
    ∙ ap (λ l. xs ++ l) (sym (passed-over b book server f moved row i k (sym is) (omega arith)))
    ∙ ap (λ n. xs ++ filter p (map f (range_with_len 0 n))) last
row-step b book server f moved m i step false xs ys zs row low is go so more =
    let p = is_on b server in
    let here : min i m ≡ i = omega arith in
    let last : i + 1 ≡ min (i + step) m = omega arith in
    more ∙ ap (λ l. l ++ filter p (f i ∷ [])) (so ∙ ap (λ n. xs ++ filter p (map f (range_with_len 0 n))) here)
    ∙ row-more p f xs i ∙ ap (λ n. xs ++ filter p (map f (range_with_len 0 n))) last

pub data-step : (b : BookFacts) → IsBook b → (server i step : ℕ) (on : Bool) (xs ys zs : List Name)
    → i < chunks_of b → on ≡ is_on b server (name.Data i) → step ≡ step_behind b on
    → ys ≡ xs ++ filter (is_on b server) (map (λ i. name.Data i) (range_with_len 0 (min i (chunks_of b))))
    → zs ≡ ys ++ filter (is_on b server) (name.Data i ∷ [])
    → zs ≡ xs ++ filter (is_on b server) (map (λ i. name.Data i) (range_with_len 0 (min (i + step) (chunks_of b))))
data-step b book server i step on xs ys zs = row-step b book server (λ k. name.Data k) 0 (chunks_of b) i step on xs ys zs
    (λ k. let e : k ≡ k + 0 = omega arith in ap (λ n. n % max_width b.shape.stages) e)

pub copies-step : (b : BookFacts) → IsBook b → (server c i step : ℕ) (on : Bool) (xs ys zs : List Name)
    → i < chunks_of b → on ≡ is_on b server (name.Copy c i) → step ≡ step_behind b on
    → ys ≡ xs ++ filter (is_on b server) (map (λ i. name.Copy c i) (range_with_len 0 (min i (chunks_of b))))
    → zs ≡ ys ++ filter (is_on b server) (name.Copy c i ∷ [])
    → zs ≡ xs ++ filter (is_on b server) (map (λ i. name.Copy c i) (range_with_len 0 (min (i + step) (chunks_of b))))
copies-step b book server c i step on xs ys zs = row-step b book server (λ k. name.Copy c k)
    ((c + 1) * max_copied_width b.shape.stages) (chunks_of b) i step on xs ys zs (λ k. refl)

-- ---- whole rows

pub data-on : (b : BookFacts) (server n : ℕ) (xs ys : List Name) → n ≡ chunks_of b
    → ys ≡ xs ++ filter (is_on b server) (map (λ i. name.Data i) (range_with_len 0 n))
    → ys ≡ xs ++ filter (is_on b server) (data_names b)
unfolding data_names
data-on b server n xs ys count is =
    is ∙ ap (λ k. xs ++ filter (is_on b server) (map (λ i. name.Data i) (range_with_len 0 k))) count

pub copies-on : (b : BookFacts) (server c n : ℕ) (xs ys : List Name) → n ≡ chunks_of b
    → ys ≡ xs ++ filter (is_on b server) (map (λ i. name.Copy c i) (range_with_len 0 n))
    → ys ≡ xs ++ filter (is_on b server) (copies_named b c)
unfolding copies_named
copies-on b server c n xs ys count is =
    is ∙ ap (λ k. xs ++ filter (is_on b server) (map (λ i. name.Copy c i) (range_with_len 0 k))) count

pub stripe-on : (b : BookFacts) (server width j n : ℕ) (xs ys : List Name) → n ≡ parities_of b width
    → ys ≡ xs ++ filter (is_on b server) (map (λ p. name.Parity width j p) (range_with_len 0 n))
    → ys ≡ xs ++ filter (is_on b server) (stripe_parities b width j)
unfolding stripe_parities
stripe-on b server width j n xs ys count is =
    is ∙ ap (λ k. xs ++ filter (is_on b server) (map (λ p. name.Parity width j p) (range_with_len 0 k))) count

pub width-on : (b : BookFacts) (server width n : ℕ) (xs ys : List Name) → n ≡ stripes_of b width
    → ys ≡ xs ++ filter (is_on b server) (flat_map (stripe_parities b width) (range_with_len 0 n))
    → ys ≡ xs ++ filter (is_on b server) (width_parities b width)
unfolding width_parities
width-on b server width n xs ys count is =
    is ∙ ap (λ k. xs ++ filter (is_on b server) (flat_map (stripe_parities b width) (range_with_len 0 k))) count

-- a width whose parities are elsewhere
none-on : (b : BookFacts) (server width j n : ℕ) → HasNoneOn b server n
    → filter (is_on b server) (map (λ p. name.Parity width j p) (range_with_len 0 n)) ≡ []
none-on b server width j zero none = refl
none-on b server width j (suc n) none =
    let p = is_on b server in
    let e : suc n ≡ n + 1 = omega arith in
    ap (λ k. filter p (map (λ p. name.Parity width j p) (range_with_len 0 k))) e
    ∙ filter_of_map_range_with_len_more p (λ p. name.Parity width j p) 0 n n (omega arith)
    ∙ ap (λ z. filter p (map (λ p. name.Parity width j p) (range_with_len 0 n)) ++ cond z (name.Parity width j n ∷ []) [])
    (none n (omega arith))
    ∙ append-nil (filter p (map (λ p. name.Parity width j p) (range_with_len 0 n)))
    ∙ none-on b server width j n (λ q low. none q (omega arith))

stripe-off : (b : BookFacts) (server width j : ℕ) → HasNoneOn b server (parities_of b width)
    → filter (is_on b server) (stripe_parities b width j) ≡ []
unfolding stripe_parities
stripe-off b server width j none = none-on b server width j (parities_of b width) none

pub width-off : (b : BookFacts) (server width : ℕ) (xs : List Name) → HasNoneOn b server (parities_of b width)
    → xs ≡ xs ++ filter (is_on b server) (width_parities b width)
unfolding width_parities
width-off b server width xs none =
    sym (append-nil xs) ∙ ap (λ ys. xs ++ ys) (sym (filter-no_piece (is_on b server) (stripe_parities b width)
    (stripes_of b width) (λ j low. stripe-off b server width j none)))

-- data and copies
pub front-on : (b : BookFacts) (server n : ℕ) (ys : List Name) → n ≡ copies_at b.shape.stages 0
    → ys ≡ filter (is_on b server) (data_names b)
    ++ filter (is_on b server) (flat_map (copies_named b) (range_with_len 0 n))
    → ys ≡ filter (is_on b server) (data_names b ++ copy_names b)
    ++ filter (is_on b server) (flat_map (width_parities b) (range_with_len 0 0))
unfolding copy_names
front-on b server n ys count is =
    is ∙ ap (λ k. filter (is_on b server) (data_names b)
    ++ filter (is_on b server) (flat_map (copies_named b) (range_with_len 0 k))) count
    ∙ sym (filter-append (is_on b server) (data_names b) (copy_names b))
    ∙ sym (append-nil (filter (is_on b server) (data_names b ++ copy_names b)))

-- all names
pub all-on : (b : BookFacts) (server n : ℕ) (ys : List Name) → n ≡ max_width b.shape.stages + 1
    → ys ≡ filter (is_on b server) (data_names b ++ copy_names b)
    ++ filter (is_on b server) (flat_map (width_parities b) (range_with_len 0 n))
    → ys ≡ filter (is_on b server) (all_names b)
unfolding all_names parity_names
all-on b server n ys count is =
    is ∙ ap (λ k. filter (is_on b server) (data_names b ++ copy_names b)
    ++ filter (is_on b server) (flat_map (width_parities b) (range_with_len 0 k))) count
    ∙ sym (filter-append (is_on b server) (data_names b ++ copy_names b) (parity_names b))
