use Rattle.std.proofs.Common.{List, ◌++◌, sym, ap}
use Rattle.mf_places.specs.declared.losses.LoseLine.{LoseLine}
use Rattle.tests_life.proofs.turns.shared_of.Goals as goal

pub by_shares-requires-clause-lines : goal.by_shares-requires-clause-lines
by_shares-requires-clause-lines g c = let all = c.args.losses.now in
    (all, sym (ap (λ (known : List LoseLine). known ++ all) c.in_ok-plain.ensures.file.losses))
