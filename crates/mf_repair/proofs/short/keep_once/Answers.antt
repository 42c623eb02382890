use Rattle.mf_repair.proofs.Same.{found_before}
use Rattle.mf_repair.proofs.short.keep_once.Goals as goal

pub returns-else-not-has : goal.returns-else-not-has
returns-else-not-has c = found_before c.args.items.now.items c.deref.result.now c.args.found c.in-Some.found
    c.has.result
    c.in-Some.is c.has.ensures c.deref.ensures.value c.if-not-has.false
