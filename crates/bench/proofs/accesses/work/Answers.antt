use Rattle.std.proofs.Common.{sym, ap, ◌∙◌}
use Rattle.mf_vault.specs.Actor.{Actor}
use Rattle.bench.proofs.accesses.work.Goals as goal

pub returns : goal.returns
returns g c =
    c.finish-seat.ensures.of c.args.shared.now
    (sym (c.get_often-here.ensures ∙ ap (λ (a : Actor). a.facts) c.new-access.ensures))
