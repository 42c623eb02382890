use Rattle.std.proofs.Common.{length, ap, arith}
use Rattle.morph_codes.specs.Handed.{plan_of}
use Rattle.morph_codes.proofs.Losses.{row_long}
use Rattle.morph_codes.proofs.morph_codes_decode_row.Goals as goal

pub returns-in-Ok-clause-count : goal.returns-in-Ok-clause-count
returns-in-Ok-clause-count c two erasure place size =
    let a = c.args in
    let long = row_long (plan_of a.points.now a.count a.lost.now a.had.now) a.e a.count c.in-Ok.made.items
    c.in-Ok.ensures.row erasure in
    c.put_row.ensures.count two (omega (arith, long, size, ap length c.deref.ensures.value))
