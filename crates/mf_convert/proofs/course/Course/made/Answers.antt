use Rattle.std.proofs.Common.{ap, arith, length}
use Rattle.mf_vault.specs.declared.io.Io.{Io}
use Rattle.mf_vault.proofs.Counted.{io_low}
use Rattle.mf_convert.proofs.course.Course.made.Goals as goal

pub overflow_cast-result : goal.overflow_cast-result
overflow_cast-result g c =
    let e = ap (λ (i : Io). i.writes) c.count_io.ensures in
    let low = (io_low c.since.result.now).writes in
    let n = ap length c.since.ensures in
    let few = c.requires.few in
    omega arith
