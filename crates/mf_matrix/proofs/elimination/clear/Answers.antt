use Rattle.std.proofs.Common.{◌≡◌, ◌≢◌, ℕ, ◌+◌, List, sym, subst, arith}
use Rattle.mf_matrix.specs.Elimination.{coefficient, IsCleared}
use Rattle.mf_matrix.proofs.Pivots.{IsCleared-skip, IsCleared-step}
use Rattle.mf_matrix.proofs.elimination.clear.Goals as goal
use Rattle.mf_matrix.proofs.elimination.clear.Goals.{then-i-column, else-i-column}

pub loop-i-preserved : goal.loop-i-preserved
loop-i-preserved c =
    let start = coefficient c.args.equations.now in
    let e = coefficient c.loop-i.equations in
    let P : List (List ℕ) → Type 0 = λ rows. IsCleared c.args.size c.args.unknowns c.args.column (c.loop-i.i + 1) start
    (coefficient rows) in
    elim c.if-i-column.branch [
      | then-i-column w ↦
          subst P (sym w.equations-is)
          (IsCleared-step c.args.size c.args.unknowns c.args.column c.loop-i.i start e
          (coefficient w.add_to.new.equations)
          (let d : c.loop-i.i ≢ c.args.column = omega arith in d) c.requires.within (omega arith) w.add_to.ensures
          c.loop-i.invariant)
      | else-i-column w ↦
          subst P (sym w.equations-is)
          (IsCleared-skip c.args.size c.args.unknowns c.args.column c.loop-i.i start e
          (let s : c.loop-i.i ≡ c.args.column = omega arith in s) c.loop-i.invariant)
    ]
