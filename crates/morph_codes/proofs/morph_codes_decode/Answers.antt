use Rattle.std.proofs.Common.{length, subst, sym, arith}
use Rattle.morph_codes.specs.Decoded.{AreDecodingRows}
use Rattle.morph_codes.specs.Handed.{plan_of, bytes_of, rooms_of}
use Rattle.morph_codes.proofs.Pieces.{length-bytes_of}
use Rattle.morph_codes.proofs.Decodings.{decoded}
use Rattle.morph_codes.proofs.morph_codes_decode.Goals as goal

pub returns-in-Ok-clause-done : goal.returns-in-Ok-clause-done
returns-in-Ok-clause-done c _ =
    let a = c.args in
    let plan = plan_of a.points.now a.count a.lost.now a.had.now in
    decoded plan a.count a.size (length a.rooms.now) c.deref.result.now (bytes_of a.left.now)
    (rooms_of c.fill_by_rows.new.rooms) (omega arith) (omega (arith, length-bytes_of a.left.now))
    (subst (AreDecodingRows plan a.count) (sym c.deref.ensures.value) c.in-Ok.ensures.rows) c.fill_by_rows.ensures
