use Rattle.mf_plain.specs.Parts.{resting_in}
use Rattle.mf_shared.proofs.Beginning.{rests_here}
use Rattle.mf_shared.proofs.shared.Shared.of_plain.Goals as goal

pub new-requires : goal.new-requires
new-requires c = let p = c.apart-book in
    rests_here (resting_in p.result) c.args.plain c.args.losses.now c.pick-bytes.result.value c.as_slice.result.now
    p.ensures.same p.ensures.rests c.requires.lines c.pick-bytes.ensures c.as_slice.ensures.value
