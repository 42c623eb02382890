use Rattle.std.proofs.Common.{◌<◌, arith, ◌∙◌}
use Rattle.mf_field.proofs.FieldLaws.{times_comm}
use Rattle.mf_matrix.specs.Elimination.{coefficient}
use Rattle.mf_matrix.proofs.Steps.{SameSolutions-scales}
use Rattle.mf_matrix.proofs.Pivots.{scales-solved}
use Rattle.mf_matrix.proofs.elimination.normalize.Goals as goal

pub returns-clause-same : goal.returns-clause-same
returns-clause-same c =
    let e = coefficient c.args.equations.now in
    let column = c.args.column in
    let byte : c.in-Some.factor < 256 = omega arith in
    SameSolutions-scales c.args.size c.args.unknowns column c.in-Some.factor (e column column) e
    (coefficient c.scale.new.equations)
    byte (c.requires.solved.bytes column column) c.requires.solved.bytes c.scale.ensures c.in-Some.ensures.product

pub returns-clause-solved : goal.returns-clause-solved
returns-clause-solved c =
    let byte : c.in-Some.factor < 256 = omega arith in
    scales-solved c.args.unknowns (coefficient c.args.equations.now) (coefficient c.scale.new.equations) c.args.column
    c.in-Some.factor c.scale.ensures
    c.args.size byte c.requires.within c.requires.solved

pub returns-clause-one : goal.returns-clause-one
returns-clause-one c =
    let e = coefficient c.args.equations.now in
    let column = c.args.column in
    let byte : c.in-Some.factor < 256 = omega arith in
    c.scale.ensures.here column (omega arith)
    ∙ times_comm c.in-Some.factor (e column column) byte (c.requires.solved.bytes column column)
    ∙ c.in-Some.ensures.product
