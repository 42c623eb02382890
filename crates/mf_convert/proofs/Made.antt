-- The cells of names of the first generation, among the chunks and the parities that were made.
use Rattle.std.proofs.Common.{◌≡◌, ℕ, ◌+◌, ◌<◌, List, [], ◌∷◌, ◌++◌, length, map, get_or, sym, ap, ◌∙◌, subst, arith}
use Rattle.std.specs.List.{range_with_len}
use Rattle.std.specs.declared.vec.Vec.{Vec}
use Rattle.std.specs.declared.alloc.Global.{Global}
use Rattle.std.proofs.lemmas.List.{length-map, map-append, get_or-map}
use Rattle.std.proofs.lemmas.List.FromFn.{get_or-map-range_with_len, length-range_with_len, map-range_with_len_more}
use Rattle.mf_code.specs.Chunks.{chunks, chunk, parity, chunk_count}
use Rattle.mf_places.specs.declared.Name.{Name}
use Rattle.mf_places.specs.declared.Name.TheVariants as name
use Rattle.mf_places.specs.Facts.{BookFacts, chunks_of}
use Rattle.mf_places.specs.Names.{stripes_of}
use Rattle.mf_places.proofs.Held.{Holds, Holds-from}
use Rattle.mf_shape.specs.Stages.{width_at, parities_at}
use Rattle.mf_stripe.proofs.Cuts.{length-chunks}
use Rattle.mf_vault.specs.Facts.{cell}
use Rattle.mf_check.specs.Families.{Code}
use Rattle.mf_convert.specs.declared.cells.Made.{Made}
use Rattle.mf_vault.specs.Conditions.{IsOfFamily}
use Rattle.mf_convert.specs.Cells.{IsFirst, AreMade, parities_of, first_stripes, rows_of}

-- what a name of the first generation says
held : (b : BookFacts) (x y : Name) → IsFirst b x → x ≡ y → Holds b 0 y
held b x y f e = subst (Holds b 0) e (Holds-from b 0 x f.1)

long : {b : BookFacts} {file : List ℕ} {made : Made} → AreMade b file made → length made.chunks.items ≡ chunks_of b
long {b = b} {file = file} m = ap length m.chunks
    ∙ (length-chunks b.chunk file ∙ ap (λ n. chunk_count b.chunk n) m.long)

pub chunk_below : {b : BookFacts} {file : List ℕ} {made : Made} (i : ℕ) → AreMade b file made → i < chunks_of b
    → i < length made.chunks.items
chunk_below i m low = let e = long m in omega arith

pub chunk_there : {b : BookFacts} {file : List ℕ} {made : Made} (i : ℕ) (d : List ℕ) → AreMade b file made
    → i < chunks_of b
    → get_or made.chunks.items i d ≡ chunk b.chunk file i
unfolding chunks
chunk_there {b = b} {file = file} i d m low = ap (λ l. get_or l i d) m.chunks
    ∙ get_or-map-range_with_len (chunk b.chunk file) 0 (chunk_count b.chunk (length file)) i i d
    (let e = ap (λ n. chunk_count b.chunk n) m.long in omega arith) (omega arith)

-- the parities of a stripe
row_count : {b : BookFacts} {file : List ℕ} {made : Made} → AreMade b file made
    → length made.parities.items ≡ first_stripes b
row_count {b = b} {file = file} {made = made} m = sym
    (length-map made.parities.items (λ (v : Vec (List ℕ) Global). v.items)) ∙ (ap length m.parities
    ∙ (length-map (range_with_len 0 (first_stripes b)) (parities_of b file)
    ∙ length-range_with_len 0 (first_stripes b)))

pub row_below : {b : BookFacts} {file : List ℕ} {made : Made} (j : ℕ) → AreMade b file made → j < first_stripes b
    → j < length made.parities.items
row_below j m low = let e = row_count m in omega arith

row_there : {b : BookFacts} {file : List ℕ} {made : Made} (j : ℕ) (v : Vec (List ℕ) Global) → AreMade b file made
    → j < first_stripes b
    → v ≡ get_or made.parities.items j v → v.items ≡ parities_of b file j
row_there {b = b} {file = file} {made = made} j v m low is =
    ap (λ (u : Vec (List ℕ) Global). u.items) is
    ∙ (sym (get_or-map (λ (u : Vec (List ℕ) Global). u.items) made.parities.items j v v.items (row_below j m low))
    ∙ (ap (λ l. get_or l j v.items) m.parities
    ∙ get_or-map-range_with_len (parities_of b file) 0 (first_stripes b) j j v.items low (omega arith)))

pub parity_below : {b : BookFacts} {file : List ℕ} {made : Made} (j p : ℕ) (v : Vec (List ℕ) Global)
    → AreMade b file made → j < first_stripes b
    → v ≡ get_or made.parities.items j v → p < parities_at b.shape.stages 0 → p < length v.items
parity_below {b = b} {file = file} j p v m low is below =
    let n = ap length (row_there j v m low is)
    ∙ length-map b.points (λ point. parity b.chunk file point (width_at b.shape.stages 0) j) in
    let points = m.book.points in omega arith

pub parity_there : {b : BookFacts} {file : List ℕ} {made : Made} (j p : ℕ) (v : Vec (List ℕ) Global) (d : List ℕ)
    → AreMade b file made → j < first_stripes b
    → v ≡ get_or made.parities.items j v → p < parities_at b.shape.stages 0
    → get_or v.items p d ≡ parity b.chunk file (get_or b.points p 0) (width_at b.shape.stages 0) j
parity_there {b = b} {file = file} j p v d m low is below =
    ap (λ l. get_or l p d) (row_there j v m low is)
    ∙ get_or-map (λ point. parity b.chunk file point (width_at b.shape.stages 0) j) b.points p 0 d
    (let points = m.book.points in omega arith)

-- where the reads of a cell are in range
pub data_below : {b : BookFacts} {file : List ℕ} {made : Made} (x : Name) (i : ℕ) (all : List (List ℕ))
    → AreMade b file made → IsFirst b x
    → x ≡ name.Data i → all ≡ made.chunks.items → i < length all
data_below {b = b} x i all m f e is = let low = chunk_below i m (held b x (name.Data i) f e) in let n = ap length is
    in omega arith

pub copy_below : {b : BookFacts} {file : List ℕ} {made : Made} (x : Name) (c i : ℕ) (all : List (List ℕ))
    → AreMade b file made → IsFirst b x
    → x ≡ name.Copy c i → all ≡ made.chunks.items → i < length all
copy_below {b = b} x c i all m f e is = let low = chunk_below i m (held b x (name.Copy c i) f e).1
    in let n = ap length is in omega arith

stripe_low : (b : BookFacts) (w j p : ℕ) → Holds b 0 (name.Parity w j p) → j < first_stripes b
stripe_low b w j p h = subst (λ k. j < stripes_of b k) h.0 h.1

pub stripe_below : {b : BookFacts} {file : List ℕ} {made : Made} (x : Name) (w j p : ℕ)
    (all : List (Vec (List ℕ) Global)) → AreMade b file made
    → IsFirst b x → x ≡ name.Parity w j p → all ≡ made.parities.items → j < length all
stripe_below {b = b} x w j p all m f e is =
    let low = row_below j m (stripe_low b w j p (held b x (name.Parity w j p) f e)) in let n = ap length is
    in omega arith

pub point_below : {b : BookFacts} {file : List ℕ} {made : Made} (x : Name) (w j p : ℕ)
    (all : List (Vec (List ℕ) Global)) (v : Vec (List ℕ) Global)
    (row : List (List ℕ)) → AreMade b file made → IsFirst b x → x ≡ name.Parity w j p → all ≡ made.parities.items
    → v ≡ get_or all j v
    → row ≡ v.items → p < length row
point_below {b = b} x w j p all v row m f e is at same =
    let h = held b x (name.Parity w j p) f e in
    let low = parity_below j p v m (stripe_low b w j p h) (at ∙ ap (λ l. get_or l j v) is) h.2 in
    let n = ap length same in omega arith

-- and what they read
pub data_is : {b : BookFacts} {file : List ℕ} {made : Made} (x : Name) (i : ℕ) (all : List (List ℕ)) (v : List ℕ)
    → AreMade b file made
    → IsFirst b x → x ≡ name.Data i → all ≡ made.chunks.items → v ≡ get_or all i v → v ≡ cell b file x
data_is {b = b} {file = file} x i all v m f e is at = at ∙ (ap (λ l. get_or l i v) is
    ∙ (chunk_there i v m (held b x (name.Data i) f e) ∙ ap (cell b file) (sym e)))

pub copy_is : {b : BookFacts} {file : List ℕ} {made : Made} (x : Name) (c i : ℕ) (all : List (List ℕ)) (v : List ℕ)
    → AreMade b file made
    → IsFirst b x → x ≡ name.Copy c i → all ≡ made.chunks.items → v ≡ get_or all i v → v ≡ cell b file x
copy_is {b = b} {file = file} x c i all v m f e is at = at ∙ (ap (λ l. get_or l i v) is
    ∙ (chunk_there i v m (held b x (name.Copy c i) f e).1 ∙ ap (cell b file) (sym e)))

pub parity_is : {b : BookFacts} {file : List ℕ} {made : Made} (x : Name) (w j p : ℕ) (all : List (Vec (List ℕ) Global))
    (u : Vec (List ℕ) Global)
    (row : List (List ℕ)) (v : List ℕ) → AreMade b file made → IsFirst b x → x ≡ name.Parity w j p
    → all ≡ made.parities.items
    → u ≡ get_or all j u → row ≡ u.items → v ≡ get_or row p v → v ≡ cell b file x
parity_is {b = b} {file = file} x w j p all u row v m f e is at same read =
    let h = held b x (name.Parity w j p) f e in
    read ∙ (ap (λ l. get_or l p v) same
    ∙ (parity_there j p u v m (stripe_low b w j p h) (at ∙ ap (λ l. get_or l j u) is) h.2
    ∙ (ap (λ k. parity b.chunk file (get_or b.points p 0) k j) (sym h.0) ∙ ap (cell b file) (sym e))))

-- the parities of one stripe more
pub parities_more : (b : BookFacts) (file : List ℕ) (j : ℕ) (all next : List (Vec (List ℕ) Global))
    (v : Vec (List ℕ) Global)
    → rows_of all ≡ map (parities_of b file) (range_with_len 0 j) → next ≡ all ++ v ∷ []
    → v.items ≡ parities_of b file j
    → rows_of next ≡ map (parities_of b file) (range_with_len 0 (j + 1))
parities_more b file j all next v so_far is made =
    ap rows_of is ∙ (map-append (λ (u : Vec (List ℕ) Global). u.items) all (v ∷ [])
    ∙ (ap (λ l. l ++ v.items ∷ []) so_far ∙ (ap (λ r. map (parities_of b file) (range_with_len 0 j) ++ r ∷ []) made
    ∙ sym (map-range_with_len_more (parities_of b file) 0 j j (omega arith)))))

-- the parities that an encoding by the family makes
pub parities_made : (b : BookFacts) (code : Code) (file : List ℕ) (j : ℕ) (points : List ℕ) (size width : ℕ)
    (all : List (List ℕ))
    → IsOfFamily code.shape code.points b → points ≡ code.points → size ≡ b.chunk → width ≡ width_at code.shape.stages 0
    → all ≡ map (λ point. parity size file point width j) points → all ≡ parities_of b file j
parities_made b code file j points size width all of ps is wide made = made
    ∙ (ap (λ l. map (λ point. parity size file point width j) l) (ps ∙ sym of.points)
    ∙ (ap (λ n. map (λ point. parity n file point width j) b.points) is
    ∙ ap (λ w. map (λ point. parity b.chunk file point w j) b.points)
    (wide ∙ ap (λ s. width_at s.stages 0) (sym of.shape))))
