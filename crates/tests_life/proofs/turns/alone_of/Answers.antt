use Rattle.std.proofs.Common.{List, ◌++◌, sym, ap}
use Rattle.mf_places.specs.declared.losses.LoseLine.{LoseLine}
use Rattle.tests_life.proofs.turns.alone_of.Goals as goal

pub alone-requires-clause-lines : goal.alone-requires-clause-lines
alone-requires-clause-lines c = let all = c.args.losses.now in
    (all, sym (ap (λ (known : List LoseLine). known ++ all) c.in_ok-plain.ensures.file.losses))
