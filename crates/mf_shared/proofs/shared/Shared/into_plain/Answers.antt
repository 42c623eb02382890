use Rattle.std.proofs.Common.{sym, subst}
use Rattle.mf_shared.specs.Left.{LeftBy}
use Rattle.mf_shared.specs.Seats.{view_of}
use Rattle.mf_shared.specs.Shared.{facts_in}
use Rattle.mf_shared.proofs.Leaving.{stored_left}
use Rattle.mf_shared.proofs.shared.Shared.into_plain.Goals as goal

pub returns : goal.returns
returns c = let s = c.args.self in let seat = c.args.seat in let left = c.rest-published in
    subst (LeftBy (facts_in s) (view_of seat)) (sym c.together.ensures)
    (stored_left s seat c.requires.of left.result.0 left.result.1.items left.result.2.items c.birth-born.result
    c.pick-told.result.value left.ensures c.pick-told.ensures c.birth-born.ensures)
