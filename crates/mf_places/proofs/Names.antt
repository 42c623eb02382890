-- The names of a book by their numbers.
use Rattle.std.proofs.Common.{◌≡◌, ℕ, suc, zero, ◌+◌, ◌-◌, ◌*◌, ◌/◌, ◌%◌, ◌<◌, ◌≤◌, List, [], ◌∷◌, ◌++◌, length, take}
use Rattle.std.proofs.Common.{filter, get_or, cond, Bool, true, false, Option, Some, None, IfSome, IfNone, OnSome, All}
use Rattle.std.proofs.Common.{refl, ap, ◌∙◌, sym, subst, ⊎_elim, arith, length-append}
use Rattle.std.proofs.Math.Nat.{mul_comm}
use Rattle.std.proofs.lemmas.Bool.{cases_lt}
use Rattle.std.proofs.lemmas.List.Elements.{All-filter, filter_more, All-same, All-from_get_or}
use Rattle.std.proofs.lemmas.List.{take_all, append-nil, get_or_append_left, get_or-append-add}
use Rattle.std.proofs.lemmas.List.FromFn.{length-range_with_len, get_or-range_with_len, length-map-range_with_len}
use Rattle.std.proofs.lemmas.List.FromFn.{get_or-map-range_with_len}
use Rattle.std.proofs.lemmas.List.Concat.{get_or-flat_map}
use Rattle.std.proofs.lemmas.Nat.{mul-add-lt, div-add-mod', div_below, mod_below}
use Rattle.std.specs.List.{flat_map, range_with_len}
use Rattle.mf_shape.specs.Stages.{copies_at, max_width}
use Rattle.mf_places.specs.declared.Name.{Name}
use Rattle.mf_places.specs.declared.Name.TheVariants as name
use Rattle.mf_places.specs.Facts.{BookFacts, chunks_of}
use Rattle.mf_places.specs.Names.{stripes_of, parities_of, data_names, copies_named, copy_names, stripe_parities}
use Rattle.mf_places.specs.Names.{width_parities, parity_names, all_names, count_of, name_at, HasName}
use Rattle.mf_places.specs.Numbers.{parities_in, parities_below, first_in, number_of}
use Rattle.mf_places.specs.Rows.{IsNumber}
use Rattle.mf_lemmas.proofs.Parts.{take-range}
use Rattle.mf_places.proofs.Ranges.{flat_map-more}
use Rattle.mf_places.proofs.Counts.{max_parities-some, parities_below-grows, parities_below-find}

-- ---- lists that are made over a range

-- pieces of one length
length-flat_map_even : {X : Type 0} (f : ℕ → List X) (k : ℕ) → ((i : ℕ) → length (f i) ≡ k) → (n : ℕ)
    → length (flat_map f (range_with_len 0 n)) ≡ n * k
length-flat_map_even f k each zero = omega arith
length-flat_map_even f k each (suc n) =
    let e : suc n ≡ n + 1 = omega arith in
    ap (λ i. length (flat_map f (range_with_len 0 i))) e ∙ ap length (flat_map-more f n)
    ∙ omega (arith, length-append (flat_map f (range_with_len 0 n)) (f n), length-flat_map_even f k each n, each n)

-- the j-th element of piece i stands behind the pieces before
at-flat_map : {X : Type 0} (f : ℕ → List X) (n i j before : ℕ) (d : X) → i < n → j < length (f i)
    → length (flat_map f (range_with_len 0 i)) ≡ before
    → get_or (flat_map f (range_with_len 0 n)) (before + j) d ≡ get_or (f i) j d
at-flat_map f n i j before d lt within e =
    let g : get_or (range_with_len 0 n) i 0 ≡ i = get_or-range_with_len 0 n i 0 lt ∙ omega arith in
    let t = take-range i 0 n (omega arith) in
    let h = get_or-flat_map f (range_with_len 0 n) i j 0 d (omega (arith, length-range_with_len 0 n)) (rw g within) in
    rw (g, t, e) at h

-- ---- how many names there are

length-data : (b : BookFacts) → length (data_names b) ≡ chunks_of b
unfolding data_names
length-data b = length-map-range_with_len _ 0 (chunks_of b)

length-copies_named : (b : BookFacts) (c : ℕ) → length (copies_named b c) ≡ chunks_of b
unfolding copies_named
length-copies_named b c = length-map-range_with_len _ 0 (chunks_of b)

length-copies_below : (b : BookFacts) (c : ℕ) → length (flat_map (copies_named b) (range_with_len 0 c))
    ≡ c * chunks_of b
length-copies_below b c = length-flat_map_even (copies_named b) (chunks_of b) (length-copies_named b) c

length-copies : (b : BookFacts) → length (copy_names b) ≡ copies_at b.shape.stages 0 * chunks_of b
unfolding copy_names
length-copies b = length-copies_below b (copies_at b.shape.stages 0)

length-stripe : (b : BookFacts) (width j : ℕ) → length (stripe_parities b width j) ≡ parities_of b width
unfolding stripe_parities
length-stripe b width j = length-map-range_with_len _ 0 (parities_of b width)

length-stripes_below : (b : BookFacts) (width j : ℕ) → length (flat_map (stripe_parities b width) (range_with_len 0 j))
    ≡ j * parities_of b width
length-stripes_below b width j =
    length-flat_map_even (stripe_parities b width) (parities_of b width) (length-stripe b width) j

length-width : (b : BookFacts) (width : ℕ) → length (width_parities b width)
    ≡ parities_in (chunks_of b) b.shape.stages width
unfolding width_parities
length-width b width = length-stripes_below b width (stripes_of b width)

length-widths_below : (b : BookFacts) (width : ℕ) → length (flat_map (width_parities b) (range_with_len 0 width))
    ≡ parities_below (chunks_of b) b.shape.stages width
length-widths_below b zero = refl
length-widths_below b (suc width) =
    let e : suc width ≡ width + 1 = omega arith in
    ap (λ i. length (flat_map (width_parities b) (range_with_len 0 i))) e
    ∙ ap length (flat_map-more (width_parities b) width)
    ∙ omega (
      arith,
      length-append (flat_map (width_parities b) (range_with_len 0 width)) (width_parities b width),
      length-widths_below b width,
      length-width b width,
    )

length-parities : (b : BookFacts) → length (parity_names b)
    ≡ parities_below (chunks_of b) b.shape.stages (max_width b.shape.stages + 1)
unfolding parity_names
length-parities b = length-widths_below b (max_width b.shape.stages + 1)

length-front : (b : BookFacts) → length (data_names b ++ copy_names b) ≡ first_in (chunks_of b) b.shape.stages 0
length-front b = omega (arith, length-append (data_names b) (copy_names b), length-data b, length-copies b)

-- the number behind the last
pub count_of-is : (b : BookFacts) → count_of b ≡ first_in (chunks_of b) b.shape.stages (max_width b.shape.stages + 1)
unfolding count_of all_names
count_of-is b =
    omega (arith, length-append (data_names b ++ copy_names b) (parity_names b), length-front b, length-parities b)

-- ---- each name stands at its number

-- a name stands at a number
pub record IsAt (b : BookFacts) (x : Name) (n : ℕ) : Type 0 where
  pub below : n < count_of b
  pub at : name_at b n ≡ x

at-data : (b : BookFacts) (i : ℕ) → i < chunks_of b → get_or (data_names b) i (name.Data 0) ≡ name.Data i
unfolding data_names
at-data b i h = get_or-map-range_with_len (λ (k : ℕ). name.Data k) 0 (chunks_of b) i i (name.Data 0) h (omega arith)

at-copies_named : (b : BookFacts) (c i : ℕ) → i < chunks_of b
    → get_or (copies_named b c) i (name.Data 0) ≡ name.Copy c i
unfolding copies_named
at-copies_named b c i h =
    get_or-map-range_with_len (λ (k : ℕ). name.Copy c k) 0 (chunks_of b) i i (name.Data 0) h (omega arith)

at-copy : (b : BookFacts) (c i : ℕ) → c < copies_at b.shape.stages 0 → i < chunks_of b
    → get_or (copy_names b) (c * chunks_of b + i) (name.Data 0) ≡ name.Copy c i
unfolding copy_names
at-copy b c i hc hi =
    at-flat_map (copies_named b) (copies_at b.shape.stages 0) c i (c * chunks_of b) (name.Data 0) hc
    (omega (arith, length-copies_named b c)) (length-copies_below b c)
    ∙ at-copies_named b c i hi

at-stripe : (b : BookFacts) (width j p : ℕ) → p < parities_of b width
    → get_or (stripe_parities b width j) p (name.Data 0) ≡ name.Parity width j p
unfolding stripe_parities
at-stripe b width j p h =
    get_or-map-range_with_len (λ (k : ℕ). name.Parity width j k) 0 (parities_of b width) p p (name.Data 0) h
    (omega arith)

at-width : (b : BookFacts) (width j p : ℕ) → j < stripes_of b width → p < parities_of b width
    → get_or (width_parities b width) (j * parities_of b width + p) (name.Data 0) ≡ name.Parity width j p
unfolding width_parities
at-width b width j p hj hp =
    at-flat_map (stripe_parities b width) (stripes_of b width) j p (j * parities_of b width) (name.Data 0) hj
    (omega (arith, length-stripe b width j)) (length-stripes_below b width j)
    ∙ at-stripe b width j p hp

-- a parity is one of those of its width
within-width : (b : BookFacts) (width j p : ℕ) → j < stripes_of b width → p < parities_of b width
    → j * parities_of b width + p < parities_in (chunks_of b) b.shape.stages width
within-width b width j p hj hp =
    let h = mul-add-lt j (parities_of b width) p (stripes_of b width) hj hp in
    omega (arith, h, mul_comm (parities_of b width) (stripes_of b width))

at-parity : (b : BookFacts) (width j p : ℕ) → j < stripes_of b width → p < parities_of b width
    → get_or (parity_names b) (parities_below (chunks_of b) b.shape.stages width + (j * parities_of b width + p))
    (name.Data 0) ≡ name.Parity width j p
unfolding parity_names
at-parity b width j p hj hp =
    let wide = max_parities-some width b.shape.stages (omega arith) in
    at-flat_map (width_parities b) (max_width b.shape.stages + 1) width (j * parities_of b width + p)
    (parities_below (chunks_of b) b.shape.stages width) (name.Data 0) (omega arith)
    (rw length-width (within-width b width j p hj hp)) (length-widths_below b width)
    ∙ at-width b width j p hj hp

-- a name that a file has stands at its number
pub IsAt-number : (b : BookFacts) (x : Name) → HasName b x → IsAt b x (number_of b x)
unfolding name_at all_names
IsAt-number b (name.Data i) h = record {
  below = omega (arith, count_of-is b);
  at = get_or_append_left (data_names b ++ copy_names b) (parity_names b) (name.Data 0) i (omega (
    arith,
    length-front b,
  ))
      ∙ get_or_append_left (data_names b) (copy_names b) (name.Data 0) i (omega (arith, length-data b))
      ∙ at-data b i h;
}
IsAt-number b (name.Copy c i) h =
    let within : c * chunks_of b + i < copies_at b.shape.stages 0 * chunks_of b =
    omega (
      arith,
      mul-add-lt c (chunks_of b) i (copies_at b.shape.stages 0) h.0 h.1,
      mul_comm (chunks_of b) (copies_at b.shape.stages 0),
    ) in
    let e : number_of b (name.Copy c i) ≡ length (data_names b) + (c * chunks_of b + i) =
    omega (arith, length-data b) in
    record {
      below = omega (arith, count_of-is b);
      at = get_or_append_left (data_names b
          ++ copy_names b) (parity_names b) (name.Data 0) (number_of b (name.Copy c i)) (omega (arith, length-front b))
          ∙ ap (λ n. get_or (data_names b ++ copy_names b) n (name.Data 0)) e
          ∙ get_or-append-add (data_names b) (copy_names b) (c * chunks_of b + i) (name.Data 0)
          ∙ at-copy b c i h.0 h.1;
    }
IsAt-number b (name.Parity width j p) h =
    let wide = max_parities-some width b.shape.stages (omega (arith, h.1)) in
    let within = within-width b width j p h.0 h.1 in
    let more = parities_below-grows (chunks_of b) b.shape.stages (suc width) (max_width b.shape.stages + 1)
    (omega arith) in
    let e : number_of b (name.Parity width j p) ≡ length (data_names b
    ++ copy_names b) + (parities_below (chunks_of b) b.shape.stages width + (j * parities_of b width + p)) =
    omega (arith, length-front b) in
    record {
      below = omega (arith, count_of-is b);
      at = ap (λ n. get_or (data_names b ++ copy_names b ++ parity_names b) n (name.Data 0)) e
          ∙ get_or-append-add (data_names b
          ++ copy_names b) (parity_names b)
          (parities_below (chunks_of b) b.shape.stages width + (j * parities_of b width + p)) (name.Data 0)
          ∙ at-parity b width j p h.0 h.1;
    }

-- ---- each number is a name's

-- a name that a file has, at this number
pub record IsNamed (b : BookFacts) (n : ℕ) : Type 0 where
  pub x : Name
  pub had : HasName b x
  pub number : number_of b x ≡ n

some_chunk : (m c n : ℕ) → m ≤ n → n < m + c * m → 0 < m
some_chunk zero c n from below = omega arith
some_chunk (suc m) c n from below = omega arith

named-copy : (b : BookFacts) (n : ℕ) → chunks_of b ≤ n → n < chunks_of b + copies_at b.shape.stages 0 * chunks_of b
    → IsNamed b n
named-copy b n from below =
    let m = chunks_of b in
    let some : 0 < m = some_chunk m (copies_at b.shape.stages 0) n from below in
    record {
      x = name.Copy ((n - m) / m) ((n - m) % m);
      had = (div_below (n - m) m (copies_at b.shape.stages 0) some (omega arith), mod_below (n - m) m some);
      number = omega (arith, div-add-mod' (n - m) m);
    }

some_parity : (j r at : ℕ) → at < j * r → 0 < r
some_parity j zero at below = omega arith
some_parity j (suc r) at below = omega arith

named-parity : (b : BookFacts) (n : ℕ) → first_in (chunks_of b) b.shape.stages 0 ≤ n → n < count_of b → IsNamed b n
named-parity b n from below =
    let k = n - first_in (chunks_of b) b.shape.stages 0 in
    let found = parities_below-find (chunks_of b) b.shape.stages (max_width b.shape.stages + 1) k (omega (
      arith,
      count_of-is b,
    )) in
    let width = found.0 in
    let r = parities_of b width in
    let at = k - parities_below (chunks_of b) b.shape.stages width in
    let below_all : at < stripes_of b width * r = omega (arith, found.2, found.3) in
    let some : 0 < r = some_parity (stripes_of b width) r at below_all in
    record {
      x = name.Parity width (at / r) (at % r);
      had = (div_below at r (stripes_of b width) some below_all, mod_below at r some);
      number = omega (arith, div-add-mod' at r, found.2);
    }

pub IsNamed-each : (b : BookFacts) (n : ℕ) → n < count_of b → IsNamed b n
IsNamed-each b n below = ⊎_elim
    (λ front. record { x = name.Data n; had = front; number = refl })
    (λ behind. ⊎_elim (named-copy b n behind) (λ from. named-parity b n (omega arith) below)
    (cases_lt n (chunks_of b + copies_at b.shape.stages 0 * chunks_of b)))
    (cases_lt n (chunks_of b))

-- number n is that of name number n, which the file has
pub number_of-name_at : (b : BookFacts) (n : ℕ) → n < count_of b
    → HasName b (name_at b n) × (number_of b (name_at b n) ≡ n)
number_of-name_at b n below =
    let named = IsNamed-each b n below in
    let at : name_at b n ≡ named.x = ap (name_at b) (sym named.number) ∙ (IsAt-number b named.x named.had).at in
    let P : Name → Type 0 = λ x. HasName b x × (number_of b x ≡ n) in
    subst P (sym at) (named.had, named.number)

-- what stands at a number is had, with that number
pub IsNumber-at : (b : BookFacts) (x : Name) (n : ℕ) → n < count_of b → name_at b n ≡ x → IsNumber b x n
IsNumber-at b x n below at =
    let P : Name → Type 0 = λ y. IsNumber b y n in
    let own = number_of-name_at b n below in
    subst P at (record { had = own.0; number = sym own.1 })

-- a name stands at its number, and nowhere else
pub found-some : (b : BookFacts) (x : Name) (r : Option ℕ) → IfSome r (IsNumber b x)
    → IfSome r (λ n. (n < count_of b) × (name_at b n ≡ x))
found-some b x None h = tt
found-some b x (Some n) h =
    let at = IsAt-number b x h.had in
    let P : ℕ → Type 0 = λ k. (k < count_of b) × (name_at b k ≡ x) in
    subst P (sym h.number) (at.below, at.at)

pub found-only : (b : BookFacts) (x : Name) (r : Option ℕ) → IfNone r (HasName b x → ⊥) → IfSome r (IsNumber b x)
    → (n : ℕ) → n < count_of b → name_at b n ≡ x → r ≡ Some n
found-only b x None none some n below at = absurd (none (IsNumber-at b x n below at).had)
found-only b x (Some k) none some n below at = ap (λ i. Some i) (some.number ∙ sym (IsNumber-at b x n below at).number)

pub found-had : (b : BookFacts) (x : Name) (r : Option ℕ) → IfSome r (IsNumber b x) → OnSome r (HasName b x)
found-had b x None h = tt
found-had b x (Some n) h = h.had

-- what has a number is what stands there
pub name_at-number : (b : BookFacts) (x : Name) (n : ℕ) → HasName b x → number_of b x ≡ n → x ≡ name_at b n
name_at-number b x n had number = sym (IsAt-number b x had).at ∙ ap (name_at b) number

-- a number among the copies
pub name_at-copy : (b : BookFacts) (n : ℕ) → chunks_of b ≤ n
    → n < chunks_of b + copies_at b.shape.stages 0 * chunks_of b
    → name.Copy ((n - chunks_of b) / chunks_of b) ((n - chunks_of b) % chunks_of b) ≡ name_at b n
name_at-copy b n from below =
    let m = chunks_of b in
    let some : 0 < m = some_chunk m (copies_at b.shape.stages 0) n from below in
    name_at-number b (name.Copy ((n - m) / m) ((n - m) % m)) n
    (div_below (n - m) m (copies_at b.shape.stages 0) some (omega arith), mod_below (n - m) m some)
    (omega (arith, div-add-mod' (n - m) m))

-- ---- a loop over the names

pub filter-next : (b : BookFacts) (p : Name → Bool) (n : ℕ) → n < count_of b
    → filter p (take (n + 1) (all_names b)) ≡ filter p (take n (all_names b))
    ++ cond (p (name_at b n)) (name_at b n ∷ []) []
unfolding name_at count_of
filter-next b p n below = filter_more p (all_names b) n (name.Data 0) below

pub filter-all : (b : BookFacts) (p : Name → Bool) (n : ℕ) → count_of b ≤ n
    → filter p (take n (all_names b)) ≡ filter p (all_names b)
unfolding count_of
filter-all b p n end = ap (filter p) (take_all n (all_names b) end)

-- name number n is kept, or left out
pub filter-keeps : (b : BookFacts) (p : Name → Bool) (n : ℕ) (x : Name) → n < count_of b → x ≡ name_at b n → p x ≡ true
    → filter p (take (n + 1) (all_names b)) ≡ filter p (take n (all_names b)) ++ x ∷ []
filter-keeps b p n x below at pass =
    filter-next b p n below ∙ ap (λ y. filter p (take n (all_names b)) ++ cond (p y) (y ∷ []) []) (sym at)
    ∙ ap (λ test. filter p (take n (all_names b)) ++ cond test (x ∷ []) []) pass

pub filter-drops : (b : BookFacts) (p : Name → Bool) (n : ℕ) (x : Name) → n < count_of b → x ≡ name_at b n → p x ≡ false
    → filter p (take (n + 1) (all_names b)) ≡ filter p (take n (all_names b))
filter-drops b p n x below at fail =
    filter-next b p n below ∙ ap (λ y. filter p (take n (all_names b)) ++ cond (p y) (y ∷ []) []) (sym at)
    ∙ ap (λ test. filter p (take n (all_names b)) ++ cond test (x ∷ []) []) fail ∙ append-nil _

-- ---- the file has each of its names

All-names : (b : BookFacts) → All (HasName b) (all_names b)
unfolding name_at count_of
All-names b = All-from_get_or (HasName b) (all_names b) (name.Data 0) (λ i below. (number_of-name_at b i below).0)

-- and so each name of a sublist
pub All-sublist : (b : BookFacts) (p : Name → Bool) (found : List Name) → found ≡ filter p (all_names b)
    → All (HasName b) found
All-sublist b p found is =
    All-same (HasName b) found (filter p (all_names b)) is (All-filter p (HasName b) (all_names b) (All-names b))
