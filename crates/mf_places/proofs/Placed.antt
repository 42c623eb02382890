-- Columns and stripes of names are within their bounds.
use Rattle.std.proofs.Common.{ℕ, ◌+◌, ◌*◌, ◌/◌, ◌<◌, ◌≤◌, length, subst, arith, IsTrue}
use Rattle.std.proofs.Math.Nat.{mod-lt}
use Rattle.std.proofs.lemmas.Nat.{div_below}
use Rattle.std.proofs.lemmas.Grind.{div_ceil_times}
use Rattle.std.specs.Int.{div_ceil}
use Rattle.mf_shape.specs.Stages.{width_at, max_copied_width}
use Rattle.mf_shape.proofs.Widths.{one-le-max_width, max_width-le-limit}
use Rattle.mf_places.specs.declared.Name.{Name}
use Rattle.mf_places.specs.declared.Name.TheVariants as name
use Rattle.mf_places.specs.Facts.{BookFacts, IsBook, chunks_of}
use Rattle.mf_places.specs.Names.{HasName, stripes_of}
use Rattle.mf_places.specs.Generations.{holds, stripe_of}
use Rattle.mf_places.specs.Placement.{column_of}
use Rattle.mf_places.proofs.Counts.{max_parities-le-four}
use Rattle.mf_places.proofs.Held.{Holds-from}

-- a column is small
pub column_of-le : (b : BookFacts) → IsBook b → (x : Name) → HasName b x → column_of b x ≤ 68
column_of-le b book (name.Data i) h =
    let wide = max_width-le-limit book.shape.chain in
    let low = mod-lt i (one-le-max_width book.shape.chain) in omega arith
column_of-le b book (name.Copy c i) h =
    let wide = max_width-le-limit book.shape.chain in
    let low = mod-lt (i + (c + 1) * max_copied_width b.shape.stages) (one-le-max_width book.shape.chain) in omega arith
column_of-le b book (name.Parity width j p) h =
    let wide = max_width-le-limit book.shape.chain in
    let few = max_parities-le-four book.shape.chain width in
    let low = h.1 in omega arith

-- a chunk is in one of the stripes
pub chunk-in_stripe : (i m width : ℕ) → 0 < width → i < m → i / width < div_ceil m width
chunk-in_stripe i m width pos below =
    div_below i width (div_ceil m width) pos (omega (arith, (div_ceil_times m width pos).0))

-- the stripe of a held name is one of the file's
pub stripe_of-below : (b : BookFacts) → IsBook b → (g : ℕ) → g < length b.shape.stages → (x : Name)
    → IsTrue (holds b g x) → stripe_of b g x < stripes_of b (width_at b.shape.stages g)
stripe_of-below b book g below (name.Data i) held =
    chunk-in_stripe i (chunks_of b) (width_at b.shape.stages g) (book.shape.chain.widths g below).0
    (Holds-from b g (name.Data i) held)
stripe_of-below b book g below (name.Copy c i) held =
    chunk-in_stripe i (chunks_of b) (width_at b.shape.stages g) (book.shape.chain.widths g below).0
    (Holds-from b g (name.Copy c i) held).1
stripe_of-below b book g below (name.Parity w j p) held =
    let h = Holds-from b g (name.Parity w j p) held in
    subst (λ (k : ℕ). j < stripes_of b k) h.0 h.1
