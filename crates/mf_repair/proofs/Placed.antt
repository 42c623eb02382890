-- The cells of a stripe's names, among the chunks and the parities that were made.
use Rattle.std.proofs.Common.{◌≡◌, ℕ, ◌+◌, ◌-◌, ◌*◌, ◌/◌, ◌%◌, ◌<◌, ◌≤◌, ◌==◌, min, true, IsTrue, List, [], ◌∷◌, ◌++◌}
use Rattle.std.proofs.Common.{length, map, take, get_or}
use Rattle.std.proofs.Common.{All, refl, sym, ap, ◌∙◌, subst, arith, rules}
use Rattle.std.specs.List.{range_with_len}
use Rattle.std.proofs.lemmas.Bool.{eqb-true}
use Rattle.mf_code.proofs.Lists.{length-chunk}
use Rattle.std.proofs.lemmas.List.{length-map, get_or-map, get_or-take, length-take-le, map-append, take_more}
use Rattle.std.proofs.lemmas.List.Elements.{All-map}
use Rattle.std.proofs.lemmas.List.FromFn.{get_or-map-range_with_len}
use Rattle.std.proofs.lemmas.Nat.{div-add-mod', mod_below}
use Rattle.mf_check.specs.Families.{Code, IsCode}
use Rattle.mf_code.specs.Chunks.{chunk, chunk_count, parity}
use Rattle.mf_code.specs.Stripes.{stripe}
use Rattle.mf_places.specs.declared.Name.{Name}
use Rattle.mf_places.specs.declared.Name.TheVariants as name
use Rattle.mf_places.specs.Facts.{BookFacts, IsBook, chunks_of}
use Rattle.mf_places.specs.Generations.{holds, stripe_of, pieces_of}
use Rattle.mf_places.specs.Names.{stripes_of}
use Rattle.mf_places.proofs.Held.{Holds, Holds-from, parities_at-le-first}
use Rattle.mf_shape.specs.Chain.{Chain}
use Rattle.mf_shape.specs.declared.Stage.{Stage}
use Rattle.mf_shape.specs.Stages.{width_at, parities_at, stage_at}
use Rattle.mf_stripe.proofs.Stripes.{length-stripe}
use Rattle.mf_vault.specs.Conditions.{IsOfFamily}
use Rattle.mf_vault.specs.Facts.{cell}
use Rattle.mf_repair.specs.declared.cells.Made.{Made}
use Rattle.mf_repair.specs.Mending.{HasStripe, IsIn, AreMade}
use Rattle.mf_repair.proofs.Listing.{in_holds}

-- what a name of the stripe says
held : (b : BookFacts) (g j : ℕ) (x y : Name) → IsIn b g j x → x ≡ y → Holds b g y × (stripe_of b g y ≡ j)
held b g j x y is e = subst (λ z. Holds b g z × (stripe_of b g z ≡ j)) e
    (let h = in_holds b g j x is in (Holds-from b g x h.0, eqb-true (stripe_of b g x) j h.1))

-- a chunk of the stripe stands behind those before it
record Placed (b : BookFacts) (g j i : ℕ) : Type 0 where
  pub from : j * width_at b.shape.stages g ≤ i
  pub below : i - j * width_at b.shape.stages g < pieces_of b g j

placed : (b : BookFacts) (g j i : ℕ) → IsBook b → HasStripe g j b → i < chunks_of b
    → i / width_at b.shape.stages g ≡ j
    → Placed b g j i
placed b g j i book has low at =
    let w = width_at b.shape.stages g in
    let wide : 0 < w = let r = (book.shape.chain.widths g has.stage).0 in omega arith in
    let parts = div-add-mod' i w in
    let rest = mod_below i w wide in
    let is : i / w * w ≡ j * w = ap (λ n. n * w) at in
    let end : (j + 1) * w ≡ j * w + w = omega arith in
    record { from = omega arith; below = omega arith }

long : {b : BookFacts} {file : List ℕ} {g j : ℕ} {made : Made} → AreMade b file g j made
    → length made.chunks.now ≡ pieces_of b g j
long {b = b} {file = file} {g = g} {j = j} m =
    let w = width_at b.shape.stages g in
    ap length m.chunks ∙ (length-stripe b.chunk file 0 w j
    ∙ ap (λ n. min ((j + 1) * w) (chunk_count b.chunk n) - j * w) m.long)

pub data_from : {b : BookFacts} {file : List ℕ} {g j : ℕ} {made : Made} (x : Name) (i : ℕ) → AreMade b file g j made
    → IsIn b g j x → x ≡ name.Data i → made.start ≤ i
data_from {b = b} {g = g} {j = j} x i m is e =
    let h = held b g j x (name.Data i) is e in
    let p = placed b g j i m.book m.has h.0 h.1 in let f = p.from in let s = m.start in omega arith

pub copy_from : {b : BookFacts} {file : List ℕ} {g j : ℕ} {made : Made} (x : Name) (c i : ℕ) → AreMade b file g j made
    → IsIn b g j x → x ≡ name.Copy c i → made.start ≤ i
copy_from {b = b} {g = g} {j = j} x c i m is e =
    let h = held b g j x (name.Copy c i) is e in
    let p = placed b g j i m.book m.has h.0.1 h.1 in let f = p.from in let s = m.start in omega arith

pub data_below : {b : BookFacts} {file : List ℕ} {g j : ℕ} {made : Made} (x : Name) (i : ℕ) → AreMade b file g j made
    → IsIn b g j x → x ≡ name.Data i → i - made.start < length made.chunks.now
data_below {b = b} {g = g} {j = j} x i m is e =
    let h = held b g j x (name.Data i) is e in
    let p = placed b g j i m.book m.has h.0 h.1 in let f = p.below in let s = m.start in let l = long m in omega arith

pub copy_below : {b : BookFacts} {file : List ℕ} {g j : ℕ} {made : Made} (x : Name) (c i : ℕ)
    → AreMade b file g j made → IsIn b g j x → x ≡ name.Copy c i → i - made.start < length made.chunks.now
copy_below {b = b} {g = g} {j = j} x c i m is e =
    let h = held b g j x (name.Copy c i) is e in
    let p = placed b g j i m.book m.has h.0.1 h.1 in let f = p.below in let s = m.start in let l = long m in omega
    arith

chunk_there : {b : BookFacts} {file : List ℕ} {g j : ℕ} {made : Made} (i : ℕ) (d : List ℕ) → AreMade b file g j made
    → Placed b g j i → get_or made.chunks.now (i - made.start) d ≡ chunk b.chunk file i
unfolding stripe
chunk_there {b = b} {file = file} {g = g} {j = j} i d m p =
    let w = width_at b.shape.stages g in
    let from = p.from in
    let below = p.below in
    let n = ap (λ k. min ((j + 1) * w) (chunk_count b.chunk k) - j * w) m.long in
    (λ k. get_or (m.chunks k) (i - m.start k) d)
    ∙ get_or-map-range_with_len (chunk b.chunk file) (j * w) (min ((j + 1) * w) (chunk_count b.chunk
    (length file)) - j * w)
    (i - j * w) i d (omega arith) (omega arith)

pub data_is : {b : BookFacts} {file : List ℕ} {g j : ℕ} {made : Made} (x : Name) (i : ℕ) (v : List ℕ)
    → AreMade b file g j made → IsIn b g j x → x ≡ name.Data i → v ≡ get_or made.chunks.now (i - made.start) v
    → v ≡ cell b file x
data_is {b = b} {file = file} {g = g} {j = j} x i v m is e at =
    let h = held b g j x (name.Data i) is e in
    at ∙ (chunk_there i v m (placed b g j i m.book m.has h.0 h.1) ∙ ap (cell b file) (sym e))

pub copy_is : {b : BookFacts} {file : List ℕ} {g j : ℕ} {made : Made} (x : Name) (c i : ℕ) (v : List ℕ)
    → AreMade b file g j made → IsIn b g j x → x ≡ name.Copy c i → v ≡ get_or made.chunks.now (i - made.start) v
    → v ≡ cell b file x
copy_is {b = b} {file = file} {g = g} {j = j} x c i v m is e at =
    let h = held b g j x (name.Copy c i) is e in
    at ∙ (chunk_there i v m (placed b g j i m.book m.has h.0.1 h.1) ∙ ap (cell b file) (sym e))

-- the points of the generation
points_long : (b : BookFacts) (g : ℕ) → IsBook b → g < length b.shape.stages
    → length (take (parities_at b.shape.stages g) b.points) ≡ parities_at b.shape.stages g
points_long b g book low =
    let most = parities_at-le-first book.shape.chain g low in
    let all = book.points in
    length-take-le (parities_at b.shape.stages g) b.points (omega arith)

pub parity_below : {b : BookFacts} {file : List ℕ} {g j : ℕ} {made : Made} (x : Name) (w k p : ℕ) (all : List
    (List ℕ))
    → AreMade b file g j made → IsIn b g j x → x ≡ name.Parity w k p → all ≡ made.parities.items → p < length all
parity_below {b = b} {file = file} {g = g} {j = j} x w k p all m is e same =
    let h = held b g j x (name.Parity w k p) is e in
    let low = h.0.2 in
    let points = points_long b g m.book m.has.stage in
    let n = ap length same ∙ (ap length m.parities ∙ length-map (take (parities_at b.shape.stages g) b.points)
    (λ point. parity b.chunk file point (width_at b.shape.stages g) j)) in
    omega arith

pub parity_is : {b : BookFacts} {file : List ℕ} {g j : ℕ} {made : Made} (x : Name) (w k p : ℕ) (all : List (List ℕ))
    (v : List ℕ) → AreMade b file g j made → IsIn b g j x → x ≡ name.Parity w k p → all ≡ made.parities.items
    → v ≡ get_or all p v → v ≡ cell b file x
parity_is {b = b} {file = file} {g = g} {j = j} x w k p all v m is e same at =
    let h = held b g j x (name.Parity w k p) is e in
    let r = parities_at b.shape.stages g in
    let low : p < r = h.0.2 in
    let points = points_long b g m.book m.has.stage in
    at ∙ (ap (λ l. get_or l p v) (same ∙ m.parities)
    ∙ (get_or-map (λ point. parity b.chunk file point (width_at b.shape.stages g) j) (take r b.points) p 0 v
    (omega arith)
    ∙ (ap (λ point. parity b.chunk file point (width_at b.shape.stages g) j) (get_or-take r b.points p 0 low)
    ∙ ((λ i. parity b.chunk file (get_or b.points p 0) (sym h.0.0 i) (sym h.1 i)) ∙ ap (cell b file) (sym e)))))

-- the family's points are those of the book
pub points_are : (b : BookFacts) (code : Code) (g r : ℕ) (points : List ℕ) → IsOfFamily code.shape code.points b
    → points ≡ code.points → r ≡ parities_at code.shape.stages g
    → take r points ≡ take (parities_at b.shape.stages g) b.points
points_are b code g r points of is count = (λ k. take (count k) (is k))
    ∙ (λ k. take (parities_at (sym of.shape k).stages g) (sym of.points k))

pub points_taken : (b : BookFacts) (code : Code) (g r : ℕ) (points : List ℕ) → IsBook b
    → g < length b.shape.stages → IsOfFamily code.shape code.points b → points ≡ code.points
    → r ≡ parities_at code.shape.stages g → r ≡ length (take r points)
points_taken b code g r points book low of is count =
    let same = ap (λ (s : Chain). parities_at s.stages g) of.shape in
    let most = parities_at-le-first book.shape.chain g low in
    let all = book.points in
    let long = ap length is in
    let mine = ap length of.points in
    sym (length-take-le r points (omega arith))

-- the chunks of a stripe: how long each is, and how many there are
pub stripe_lengths : (size : ℕ) (file : List ℕ) (width j : ℕ) → All (λ piece. length piece ≡ size)
    (stripe size file width j)
unfolding stripe
stripe_lengths size file width j = All-map (λ (piece : List ℕ). length piece ≡ size) (chunk size file)
    (range_with_len (j * width) (min ((j + 1) * width) (chunk_count size (length file)) - j * width))
    (λ k d low. length-chunk size file (get_or (range_with_len (j * width)
    (min ((j + 1) * width) (chunk_count size (length file)) - j * width)) k d))

pub stripe_few : (size : ℕ) (file : List ℕ) (width j : ℕ) → length (stripe size file width j) ≤ width
stripe_few size file width j = let l = length-stripe size file 0 width j in
    let e : (j + 1) * width ≡ j * width + width = omega arith in omega arith

-- the parities of the stripe, in the words of the book
pub parities_made : (b : BookFacts) (code : Code) (file : List ℕ) (g j size : ℕ) (s : Stage) (points : List ℕ)
    (made : List (List ℕ)) → IsOfFamily code.shape code.points b → size ≡ b.chunk → s ≡ stage_at code.shape.stages g
    → points ≡ code.points
    → made ≡ map (λ point. parity size file point s.width j) (take s.parities points)
    → made ≡ map (λ point. parity b.chunk file point (width_at b.shape.stages g) j)
    (take (parities_at b.shape.stages g) b.points)
parities_made b code file g j size s points made of chunk stage is e =
    let wide : s.width ≡ width_at b.shape.stages g = ap (λ (t : Stage). t.width) stage
    ∙ sym (ap (λ (c : Chain). width_at c.stages g) of.shape) in
    let taken = points_are b code g s.parities points of is (ap (λ (t : Stage). t.parities) stage) in
    e ∙ (λ k. map (λ point. parity (chunk k) file point (wide k) j) (taken k))

-- one cell more
pub cells_more : (f : Name → List ℕ) (names : List Name) (i : ℕ) (d : Name) (cells next : List (List ℕ)) (x : List ℕ)
    → i < length names → cells ≡ map f (take i names) → x ≡ f (get_or names i d) → next ≡ cells ++ x ∷ []
    → next ≡ map f (take (i + 1) names)
cells_more f names i d cells next x low so_far is e =
    e ∙ ((λ k. so_far k ++ is k ∷ []) ∙ (sym (map-append f (take i names) (get_or names i d ∷ []))
    ∙ ap (map f) (sym (take_more names i d low))))
