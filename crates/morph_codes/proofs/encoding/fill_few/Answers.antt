use Rattle.std.proofs.Common.{◌≡◌, ℕ, [], length, map, sym, ap, ◌∙◌, arith}
use Rattle.std.proofs.lemmas.List.{length-map, get_or-map, ext_get_or}
use Rattle.mf_code.specs.Rows.{weighted_lists}
use Rattle.mf_kernel.specs.Dots.{combined}
use Rattle.morph_codes.specs.Decoded.{row_at}
use Rattle.morph_codes.specs.Handed.{bytes_of, rooms_of}
use Rattle.morph_codes.proofs.Pieces.{length-bytes_of}
use Rattle.morph_codes.proofs.Encodings.{parity_row}
use Rattle.morph_codes.proofs.encoding.fill_few.Goals as goal

pub returns : goal.returns
returns c =
    let a = c.args in
    let pieces = bytes_of a.pieces.now in
    let rows = c.put_powers.new.rows in
    let made = rooms_of c.fill_by_rows.new.rooms in
    let many = length-bytes_of a.pieces.now in
    let f = λ (point : ℕ). weighted_lists a.size point pieces in
    ext_get_or [] made (map f a.points.now)
    (c.fill_by_rows.ensures.len ∙ c.requires.count ∙ sym (length-map a.points.now f))
    (λ i lt.
    let below : length made ≡ length a.points.now = c.fill_by_rows.ensures.len ∙ c.requires.count in
    c.fill_by_rows.ensures.sum i (omega (arith, c.fill_by_rows.ensures.len))
    ∙ ap (λ (k : ℕ). combined a.size pieces (row_at k rows i)) many
    ∙ parity_row a.points.now rows (length a.pieces.now) i a.size pieces many c.put_powers.ensures.length (omega arith)
    c.put_powers.ensures.powers
    ∙ sym (get_or-map f a.points.now i 0 [] (omega arith)))
