-- The chunks that the rows of a plan give are those that a decoding gives.
use Rattle.std.proofs.Common.{◌≡◌, ℕ, ◌+◌, ◌<◌, List, [], ◌++◌, All, length, map, get_or, Option, sym, ap, ap₂, ◌∙◌}
use Rattle.std.proofs.Common.{subst, arith}
use Rattle.std.specs.Prelude.{IfSome}
use Rattle.std.specs.List.{range_with_len}
use Rattle.std.proofs.lemmas.List.{length-append, get_or_default}
use Rattle.std.proofs.lemmas.List.Elements.{All-map, All-append}
use Rattle.mf_code.proofs.Lists.{length-list_of}
use Rattle.mf_code.specs.Rows.{column}
use Rattle.mf_kernel.specs.Dots.{dot, combined}
use Rattle.mf_matrix.specs.Matrix.{Grid, entry as entry_of}
use Rattle.mf_decode.specs.Stripes.{IsChunk}
use Rattle.mf_decode.specs.Decoding.{Plan, IsDecodedAt, gaps_from}
use Rattle.mf_decode.specs.Columns.{row_entries, present, weights_from, decode_row}
use Rattle.mf_decode.specs.Plans.{IsPlan}
use Rattle.mf_decode.proofs.Decoded.{PieceBytes, ParityBytes, row_is_decoded, is_decoded-lt, plan_sizes}
use Rattle.mf_decode.proofs.Lists.{Given}
use Rattle.mf_decode.proofs.Sources.{present_all, length-weights, row_sum, length-made, list_at, byte_at_list}

-- a coefficient for each source
pub rows_long : (count : ℕ) (m : Grid) (points : List ℕ) (pieces : List (Option (List ℕ)))
    (parities sources made : List (List ℕ)) → m.columns ≡ length parities
    → sources ≡ parities ++ present pieces → made ≡ map (decode_row m points pieces) (range_with_len 0 count)
    → All (λ (row : List ℕ). length row ≡ length sources) made
rows_long count m points pieces parities sources made wide are rows_are = λ k d lt.
    let all : length sources ≡ length parities + length (present pieces) = ap length are
    ∙ length-append parities (present pieces) in
    ap (λ (l : List (List ℕ)). length (get_or l k d)) rows_are
    ∙ All-map (λ (row : List ℕ). length row ≡ length sources) (decode_row m points pieces) (range_with_len 0 count)
    (λ i e below.
    let place = get_or (range_with_len 0 count) i e in
    length-append (row_entries m place) (weights_from (row_entries m place) points 0 pieces)
    ∙ ap₂ (λ (a b : ℕ). a + b) (length-list_of m.columns (entry_of m place) ∙ wide)
    (length-weights (row_entries m place) points 0 pieces) ∙ sym all)
    k d (omega (arith, ap length rows_are))

-- each source has as many bytes
pub sources_long : (size : ℕ) (pieces : List (Option (List ℕ))) (parities sources : List (List ℕ))
    → sources ≡ parities ++ present pieces
    → All (λ piece. IfSome piece (λ bytes. length bytes ≡ size)) pieces → All (λ bytes. length bytes ≡ size) parities
    → All (λ (bytes : List ℕ). length bytes ≡ size) sources
sources_long size pieces parities sources are piece_sizes parity_sizes =
    subst (λ (l : List (List ℕ)). All (λ (bytes : List ℕ). length bytes ≡ size) l) (sym are)
    (All-append (λ (bytes : List ℕ). length bytes ≡ size) parities (present pieces) parity_sizes
    (present_all (λ (bytes : List ℕ). length bytes ≡ size) pieces piece_sizes))

-- what is known of the chunks that are made
pub given_applied : (plan : Plan) (chosen : List ℕ) (m : Grid) (size count : ℕ) (pieces : List (Option (List ℕ)))
    (parities sources made lists : List (List ℕ)) → IsPlan plan chosen m
    → count ≡ length plan.erased → sources ≡ parities ++ present pieces
    → made ≡ map (decode_row m chosen pieces) (range_with_len 0 count) → lists ≡ map (combined size sources) made
    → gaps_from 0 pieces ≡ plan.erased → length parities ≡ length plan.parities
    → All (λ piece. IfSome piece (λ bytes. length bytes ≡ size)) pieces
    → All (λ bytes. length bytes ≡ size) parities
    → PieceBytes pieces → ParityBytes parities → Given plan size pieces parities lists
given_applied plan chosen m size count pieces parities sources made lists p many are made_are lists_are gaps
    parity_count piece_sizes parity_sizes lp lq = record {
      gaps = gaps;
      count = parity_count;
      piece_sizes = piece_sizes;
      parity_sizes = parity_sizes;
      piece_bytes = lp;
      parity_bytes = lq;
      many = long ∙ many;
      chunks_are = chunk_at;
      decoded = decoded;
    }
  where
    long : length lists ≡ count
    long = length-made size count m chosen pieces sources made lists made_are lists_are

    decoded : (i x : ℕ) → i < length plan.erased → x < size
        → IsDecodedAt plan pieces parities x (get_or plan.erased i 0) (get_or (get_or lists i []) x 0)
    decoded i x li lx =
        let s = plan_sizes plan chosen m p in
        row_is_decoded plan chosen m pieces parities x i (get_or (get_or lists i []) x 0) p gaps parity_count lp lq li
        (byte_at_list size count m chosen pieces sources made lists made_are lists_are i x [] (omega (arith, many)) lx
        ∙ ap (λ (l : List (List ℕ)). dot (decode_row m chosen pieces i) (column x l)) are
        ∙ row_sum m chosen x i parities pieces (s.columns_are ∙ s.even ∙ sym parity_count))

    chunk_at : (i : ℕ) (other : List ℕ) → i < length lists → IsChunk size (get_or lists i other)
    chunk_at i other lt =
        let li : i < count = omega (arith, long) in
        let same : get_or lists i other ≡ get_or lists i [] = get_or_default lists i other [] lt in
        let len : length (get_or lists i other) ≡ size =
        ap length (list_at size count m chosen pieces sources made lists made_are lists_are i other li)
        ∙ length-list_of size (λ x. dot (decode_row m chosen pieces i) (column x sources)) in
        record {
          len = len;
          bytes = λ x d lx.
              subst (λ (n : ℕ). n < 256)
              (sym (get_or_default (get_or lists i other) x d 0 lx ∙ ap (λ (l : List ℕ). get_or l x 0) same))
              (is_decoded-lt plan pieces parities x (get_or plan.erased i 0) (get_or (get_or lists i []) x 0)
              (decoded i x (omega (arith, many)) (omega arith)));
        }
