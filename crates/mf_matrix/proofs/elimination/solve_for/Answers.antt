use Rattle.mf_matrix.specs.Elimination.{coefficient}
use Rattle.mf_matrix.proofs.Steps.{SameSolutions-trans}
use Rattle.mf_matrix.proofs.elimination.solve_for.Goals as goal

pub returns-in-Some-clause-same : goal.returns-in-Some-clause-same
returns-in-Some-clause-same c =
    let e0 = coefficient c.args.equations.now in
    let e1 = coefficient c.bring.new.equations in
    let e2 = coefficient c.normalize.new.equations in
    let e3 = coefficient c.clear.new.equations in
    SameSolutions-trans c.args.size c.args.unknowns e0 e1 e3 c.bring.ensures.same
    (SameSolutions-trans c.args.size c.args.unknowns e1 e2 e3 c.normalize.ensures.same c.clear.ensures.same)
