-- Data lists and their columns.
use Rattle.std.proofs.Common.{◌≡◌, ℕ, ◌<◌, List, [], ◌∷◌, length, map, get_or, Option, Some, None, refl, sym, ap, ap₂}
use Rattle.std.proofs.Common.{◌∙◌, subst, arith, zero-add}
use Rattle.std.specs.Prelude.{slice_get, All, IfSome}
use Rattle.std.specs.Option.{option_map}
use Rattle.std.proofs.lemmas.List.{length-map, get_or-map, ext_get_or, get_or_default}
use Rattle.std.proofs.lemmas.Option.{slice_get-map, slice_get_within, get_or_from_slice_get}
use Rattle.mf_code.specs.Sums.{weighted}
use Rattle.mf_code.specs.Rows.{column}
use Rattle.mf_code.proofs.Lists.{list_of_at, list_of_from}
use Rattle.mf_code.specs.Decodable.{IsData}
use Rattle.mf_lemmas.proofs.Lists.{byte_at}
use Rattle.mf_decode.specs.Stripes.{IsChunk, IsDataList, parity_of}
use Rattle.mf_decode.specs.Decoding.{Plan, points_of, gaps_from, filled, column_of, Agrees, AgreesInColumn, IsDecodedAt}
use Rattle.mf_matrix.specs.Matrix.{Grid}
use Rattle.mf_decode.specs.Plans.{IsPlan}
use Rattle.mf_decode.proofs.Filling.{length-filled, filled-there, all-filled, refilled, map-filled}
use Rattle.mf_decode.proofs.Solving.{decoded, decoded_list}
use Rattle.mf_decode.proofs.Decoded.{PieceBytes, ParityBytes, rows_table, column_gaps, column_agrees}

-- ---- a column of a data list

-- a column of a data list is data
pub column_is_data : (count size : ℕ) (list : List (List ℕ)) (x : ℕ) → IsDataList count size list
    → IsData count (column x list)
column_is_data count size list x d = record {
  len = length-map list (λ l. get_or l x 0) ∙ d.len;
  bytes = λ k other lt.
      let near : k < length list = subst (λ (n : ℕ). k < n) (length-map list (λ l. get_or l x 0)) lt in
      subst (λ (n : ℕ). n < 256) (sym (get_or-map (λ l. get_or l x 0) list k [] other near))
      (byte_at (get_or list k []) (d.chunks k [] near).bytes x);
}

-- byte x of a piece that is there is byte x of its chunk in the list
column_there : (pieces : List (Option (List ℕ))) (list : List (List ℕ)) (x : ℕ)
    → ((t : ℕ) (chunk : List ℕ) → slice_get pieces t ≡ Some (Some chunk) → slice_get list t ≡ Some chunk)
    → (t b : ℕ) → slice_get (column_of x pieces) t ≡ Some (Some b) → slice_get (column x list) t ≡ Some b
column_there pieces list x has t b h = found (slice_get pieces t) refl (sym (slice_get-map part pieces t) ∙ h)
  where
    byte : List ℕ → ℕ
    byte chunk = get_or chunk x 0

    part : Option (List ℕ) → Option ℕ
    part o = option_map (λ (chunk : List ℕ). get_or chunk x 0) o

    found : (o : Option (Option (List ℕ))) → slice_get pieces t ≡ o → option_map part o ≡ Some (Some b)
        → slice_get (column x list) t ≡ Some b
    found None at e = absurd (cc)
    found (Some None) at e = absurd (cc)
    found (Some (Some chunk)) at e = slice_get-map (λ (chunk : List ℕ). get_or chunk x 0) list t
        ∙ ap (option_map (λ (chunk : List ℕ). get_or chunk x 0)) (has t chunk at) ∙ (cc)

-- byte x of parities
column_of_parities : (size x : ℕ) (list : List (List ℕ)) (points : List ℕ) → x < size
    → column x (map (λ point. parity_of size point list) points) ≡ map (λ point. weighted point (column x list)) points
column_of_parities size x list [] lt = refl
column_of_parities size x list (point ∷ points) lt = ap₂ (λ (b : ℕ) (l : List ℕ). b ∷ l)
    (list_of_at size (λ y. weighted point (column y list)) x lt) (column_of_parities size x list points lt)

-- a list that agrees agrees in each column
pub agrees_in_column : (plan : Plan) (size : ℕ) (pieces : List (Option (List ℕ))) (parities list : List (List ℕ))
    (x : ℕ) → Agrees plan size pieces parities list → x < size
    → AgreesInColumn (points_of plan) (column_of x pieces) (column x parities) (column x list)
agrees_in_column plan size pieces parities list x a lt = record {
  list_is = (let d = column_is_data (length pieces) size list x a.list_is
      in record
      { len = d.len ∙ sym (length-map pieces (λ o. option_map (λ chunk. get_or chunk x 0) o)); bytes = d.bytes });
  pieces_are = column_there pieces list x a.pieces_are;
  parities_are = ap (column x) a.parities_are ∙ column_of_parities size x list (points_of plan) lt;
}

-- two data lists with the same columns are one
pub same_columns : (count size : ℕ) (a b : List (List ℕ)) → IsDataList count size a → IsDataList count size b
    → ((x : ℕ) → x < size → column x a ≡ column x b) → a ≡ b
same_columns count size a b da db same =
    ext_get_or [] a b (da.len ∙ sym db.len)
    (λ t lt.
    let near : t < length b = subst (λ (n : ℕ). t < n) (da.len ∙ sym db.len) lt in
    let la = (da.chunks t [] lt).len in
    let lb = (db.chunks t [] near).len in
    ext_get_or 0 (get_or a t []) (get_or b t []) (la ∙ sym lb)
    (λ x lx. sym (get_or-map (λ l. get_or l x 0) a t [] 0 lt)
    ∙ ap (λ (l : List ℕ). get_or l t 0) (same x (subst (λ (n : ℕ). x < n) la lx))
    ∙ get_or-map (λ l. get_or l x 0) b t [] 0 near))

-- a data list that has the pieces and agrees in each column agrees
pub agrees_from_columns : (plan : Plan) (size : ℕ) (pieces : List (Option (List ℕ))) (parities list : List (List ℕ))
    → IsDataList (length pieces) size list
    → ((t : ℕ) (chunk : List ℕ) → slice_get pieces t ≡ Some (Some chunk) → slice_get list t ≡ Some chunk)
    → length parities ≡ length plan.parities → All (λ chunk. length chunk ≡ size) parities
    → ((x : ℕ) → x < size → AgreesInColumn (points_of plan) (column_of x pieces) (column x parities) (column x list))
    → Agrees plan size pieces parities list
agrees_from_columns plan size pieces parities list d has count long at = record {
  list_is = d;
  pieces_are = has;
  parities_are =
      let points = points_of plan in
      let sums : ℕ → List ℕ = λ point. parity_of size point list in
      let many : length parities ≡ length points = count
      ∙ sym (length-map plan.parities (λ p. get_or plan.points p 0)) in
      ext_get_or [] parities (map sums points) (many ∙ sym (length-map points sums))
      (λ j lt.
      let near : j < length points = subst (λ (n : ℕ). j < n) many lt in
      list_of_from size (λ x. weighted (get_or points j 0) (column x list)) (get_or parities j []) (long j [] lt)
      (λ x lx.
      sym (get_or-map (λ l. get_or l x 0) parities j [] 0 lt) ∙ ap (λ (l : List ℕ). get_or l j 0) (at x lx).parities_are
      ∙ get_or-map (λ point. weighted point (column x list)) points j 0 0 near)
      ∙ sym (get_or-map sums points j 0 [] near));
}

-- ---- the pieces, filled with what was decoded

-- a list that agrees in a column has there what was decoded
same_as_agreeing : (plan : Plan) (pieces : List (Option (List ℕ))) (parities chunks : List (List ℕ)) (x : ℕ)
    (list : List ℕ) → gaps_from 0 pieces ≡ plan.erased → length chunks ≡ length plan.erased
    → ((i : ℕ) → i < length plan.erased
    → IsDecodedAt plan pieces parities x (get_or plan.erased i 0) (get_or (get_or chunks i []) x 0))
    → AgreesInColumn (points_of plan) (column_of x pieces) (column x parities) list
    → column x (filled [] pieces chunks) ≡ list
same_as_agreeing plan pieces parities chunks x list gaps count decoded a =
    let ps = column_of x pieces in
    let erased : gaps_from 0 ps ≡ plan.erased = column_gaps x pieces ∙ gaps in
    let at : ℕ → ℕ = λ g. get_or list g 0 in
    let fillings : column x chunks ≡ map at (gaps_from 0 ps) =
    ext_get_or 0 (column x chunks) (map at (gaps_from 0 ps))
    (length-map chunks (λ l. get_or l x 0) ∙ count ∙ sym (ap length erased) ∙ sym (length-map (gaps_from 0 ps) at))
    (λ i lt.
    let near : i < length chunks = subst (λ (n : ℕ). i < n) (length-map chunks (λ l. get_or l x 0)) lt in
    let place : i < length plan.erased = subst (λ (n : ℕ). i < n) count near in
    get_or-map (λ l. get_or l x 0) chunks i [] 0 near ∙ sym ((decoded i place).only list a)
    ∙ ap (λ (l : List ℕ). at (get_or l i 0)) (sym erased)
    ∙ sym (get_or-map at (gaps_from 0 ps) i 0 0 (subst (λ (l : List ℕ). i < length l) (sym erased) place))) in
    map-filled (λ (l : List ℕ). get_or l x 0) [] pieces chunks ∙ ap (filled 0 ps) fillings
    ∙ refilled 0 at 0 ps list a.list_is.len a.pieces_are (λ i d lt. ap at (zero-add i) ∙ get_or_default list i 0 d lt)

-- what was handed in to a decoding, and the chunks that it gave
pub record Given (plan : Plan) (size : ℕ) (pieces : List (Option (List ℕ))) (parities chunks : List (List ℕ)) : Type 0
  where
    pub gaps : gaps_from 0 pieces ≡ plan.erased
    pub count : length parities ≡ length plan.parities
    pub piece_sizes : All (λ piece. IfSome piece (λ bytes. length bytes ≡ size)) pieces
    pub parity_sizes : All (λ bytes. length bytes ≡ size) parities
    pub piece_bytes : PieceBytes pieces
    pub parity_bytes : ParityBytes parities
    pub many : length chunks ≡ length plan.erased
    pub chunks_are : (i : ℕ) (other : List ℕ) → i < length chunks → IsChunk size (get_or chunks i other)
    pub decoded : (i x : ℕ) → i < length plan.erased → x < size
        → IsDecodedAt plan pieces parities x (get_or plan.erased i 0) (get_or (get_or chunks i []) x 0)

-- the filled list is a data list
filled_is_list : (plan : Plan) (size : ℕ) (pieces : List (Option (List ℕ))) (parities chunks : List (List ℕ))
    → Given plan size pieces parities chunks → IsDataList (length pieces) size (filled [] pieces chunks)
filled_is_list plan size pieces parities chunks g = record {
  len = length-filled [] pieces chunks;
  chunks = all-filled (IsChunk size) [] 0 pieces chunks (g.many ∙ sym (ap length g.gaps))
      (λ t chunk h. record {
        len = (let s = g.piece_sizes t (Some chunk) (slice_get_within pieces t (Some chunk) h)
            in subst (λ (o : Option (List ℕ)). IfSome o (λ bytes. length bytes ≡ size))
            (get_or_from_slice_get pieces t (Some chunk) (Some chunk) h) s);
        bytes = g.piece_bytes t chunk h;
      })
      g.chunks_are;
}

-- the filled list agrees with what was handed in
pub filled_agrees : (plan : Plan) (chosen : List ℕ) (inverse : Grid) (size : ℕ) (pieces : List (Option (List ℕ)))
    (parities chunks : List (List ℕ)) → IsPlan plan chosen inverse → Given plan size pieces parities chunks
    → Agrees plan size pieces parities (filled [] pieces chunks)
filled_agrees plan chosen inverse size pieces parities chunks p g =
    agrees_from_columns plan size pieces parities (filled [] pieces chunks)
    (filled_is_list plan size pieces parities chunks g) (λ t chunk h. filled-there [] pieces chunks t chunk h)
    g.count g.parity_sizes
    (λ x lt.
    let solution = filled 0 (column_of x pieces)
    (decoded_list (rows_table plan inverse) chosen (column x parities) (column_of x pieces)) in
    let agrees = column_agrees plan chosen inverse pieces parities x p g.gaps g.count g.piece_bytes g.parity_bytes in
    subst (λ (l : List ℕ). AgreesInColumn (points_of plan) (column_of x pieces) (column x parities) l)
    (sym (same_as_agreeing plan pieces parities chunks x solution g.gaps g.many (λ i li. g.decoded i x li lt) agrees))
    agrees)

-- each list that agrees is the filled one
pub only_filled : (plan : Plan) (size : ℕ) (pieces : List (Option (List ℕ))) (parities chunks : List (List ℕ))
    → Given plan size pieces parities chunks
    → (list : List (List ℕ)) → Agrees plan size pieces parities list → list ≡ filled [] pieces chunks
only_filled plan size pieces parities chunks g list a =
    same_columns (length pieces) size list (filled [] pieces chunks) a.list_is
    (filled_is_list plan size pieces parities chunks g)
    (λ x lt. sym (same_as_agreeing plan pieces parities chunks x (column x list) g.gaps g.many
    (λ i li. g.decoded i x li lt) (agrees_in_column plan size pieces parities list x a lt)))

-- ---- pieces with no gap

-- they are a data list
pub no_gaps_list : (size : ℕ) (found : List (Option (List ℕ))) → gaps_from 0 found ≡ []
    → All (λ piece. IfSome piece (λ bytes. length bytes ≡ size)) found
    → PieceBytes found → IsDataList (length found) size (filled [] found [])
no_gaps_list size found none sizes bytes = record {
  len = length-filled [] found [];
  chunks = all-filled (IsChunk size) [] 0 found [] (sym (ap length none))
      (λ t chunk h. record {
        len = (let s = sizes t (Some chunk) (slice_get_within found t (Some chunk) h)
            in subst (λ (o : Option (List ℕ)). IfSome o (λ bytes. length bytes ≡ size))
            (get_or_from_slice_get found t (Some chunk) (Some chunk) h) s);
        bytes = bytes t chunk h;
      })
      (λ k d lt. absurd (omega arith));
}

-- each list that agrees is the one that they are
pub no_gaps_only : (plan : Plan) (size : ℕ) (found : List (Option (List ℕ))) (parities list : List (List ℕ))
    → gaps_from 0 found ≡ [] → Agrees plan size found parities list → list ≡ filled [] found []
no_gaps_only plan size found parities list none a =
    let at : ℕ → List ℕ = λ i. get_or list i [] in
    sym (ap (λ (gs : List ℕ). filled [] found (map at gs)) (sym none)
    ∙ refilled [] at 0 found list a.list_is.len a.pieces_are
    (λ i d lt. ap at (zero-add i) ∙ get_or_default list i [] d lt))
