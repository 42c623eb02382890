use Rattle.std.proofs.Common.{◌≡◌, ◌+◌, ◌<◌, length, sym, subst, arith, rules}
use Rattle.mf_route.specs.Plans.{IsStage}
use Rattle.mf_route.specs.Tables.{IsChoice}
use Rattle.mf_route.proofs.Ways.{goes_on, through_cost}
use Rattle.mf_route.proofs.table.best_choice.Goals as goal

pub loop-j-preserved : goal.loop-j-preserved
loop-j-preserved c =
    let s = c.args.terms.now in
    let t = c.args.table.now in
    let i = c.args.i in
    let j = c.loop-j.j in
    let within : j < length s.candidates = search rules in
    let stage : IsStage s i = search rules in
    let so_far = c.loop-j.invariant in
    record {
      later = omega (arith, so_far.later);
      best = subst (IsChoice s t i (j + 1)) (sym c.cheaper-best.ensures)
          (goes_on s t i j c.requires.table within stage so_far.later c.loop-j.best
          c.cost_through.result
          (through_cost s t i j c.requires.table within c.cost_through.result
          c.cost_through.ensures.some c.cost_through.ensures.none) so_far.best);
    }

pub returns : goal.returns
returns c =
    let s = c.args.terms.now in
    let all : c.loop-j.j ≡ length s.candidates = search rules in
    subst (λ n. IsChoice s c.args.table.now c.args.i n c.loop-j.best) all c.loop-j.invariant.best
