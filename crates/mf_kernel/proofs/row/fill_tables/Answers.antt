use Rattle.std.proofs.Common.{◌*◌, length, ap, ◌∙◌, arith}
use Rattle.std.proofs.lemmas.Simd.{length-put_chunk}
use Rattle.mf_kernel.proofs.RowTables.{entries_more}
use Rattle.mf_kernel.proofs.row.fill_tables.Goals as goal

pub loop-t-preserved : goal.loop-t-preserved
loop-t-preserved c =
    let a = c.args in
    let t = c.loop-t.t in
    let same = c.loop-t.invariant.0 in (
      ap length c.put_lanes.ensures ∙ length-put_chunk (t * 32) c.loop-t.tables c.tables.result ∙ same,
      entries_more t c.new.result a.row.now c.loop-t.tables c.put_lanes.new.bytes c.tables.result
          (omega (arith, same, c.requires)) c.tables.ensures.length c.put_lanes.ensures c.new.ensures
          c.tables.ensures.lower
          c.tables.ensures.upper c.loop-t.invariant.1,
    )
