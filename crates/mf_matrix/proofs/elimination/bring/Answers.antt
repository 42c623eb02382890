use Rattle.std.proofs.Common.{ℕ, arith, ap, sym, ◌∙◌}
use Rattle.mf_matrix.specs.Elimination.{coefficient}
use Rattle.mf_matrix.proofs.Steps.{SameSolutions-adds}
use Rattle.mf_matrix.proofs.Pivots.{adds-solved, brought}
use Rattle.mf_matrix.proofs.elimination.bring.Goals as goal

pub returns-then-equations-column-eq0-clause-same : goal.returns-then-equations-column-eq0-clause-same
returns-then-equations-column-eq0-clause-same c =
    let old = c.args.equations.now in
    SameSolutions-adds c.args.size c.args.unknowns c.args.column 1 c.args.with (coefficient old)
    (coefficient c.add_to.new.equations)
    (omega arith) c.requires.solved.bytes c.add_to.ensures
    (λ e. c.requires.has (ap (λ (m : ℕ). coefficient old m c.args.column) (sym e) ∙ c.if-equations-column-eq0.true))
    c.requires.within

pub returns-then-equations-column-eq0-clause-solved : goal.returns-then-equations-column-eq0-clause-solved
returns-then-equations-column-eq0-clause-solved c =
    adds-solved c.args.unknowns (coefficient c.args.equations.now) (coefficient c.add_to.new.equations) c.args.column 1
    c.args.with c.add_to.ensures
    c.args.size c.args.column (omega arith) c.requires.within c.requires.behind c.requires.solved

pub returns-then-equations-column-eq0-clause-has : goal.returns-then-equations-column-eq0-clause-has
returns-then-equations-column-eq0-clause-has c =
    brought c.args.unknowns (coefficient c.args.equations.now) (coefficient c.add_to.new.equations) c.args.column
    c.args.with c.add_to.ensures (omega arith)
    c.requires.solved.bytes c.if-equations-column-eq0.true c.requires.has
