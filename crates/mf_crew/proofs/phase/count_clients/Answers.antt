use Rattle.std.proofs.Common.{length, ap, arith}
use Rattle.mf_crew.proofs.phase.count_clients.Goals as goal

pub overflow_cast-result : goal.overflow_cast-result
overflow_cast-result c =
    let few = c.clients.ensures.many c.requires.1 in
    record { fits = omega (arith, ap length c.clients.ensures.value, few.1) }

pub returns-clause-count : goal.returns-clause-count
returns-clause-count c = ap length c.clients.ensures.value

pub returns-clause-few : goal.returns-clause-few
returns-clause-few c =
    let few = c.clients.ensures.many c.requires.1 in
    let same = ap length c.clients.ensures.value in
    (omega (arith, same, few.0), omega (arith, same, few.1))
