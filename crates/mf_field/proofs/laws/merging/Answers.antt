use Rattle.std.proofs.Common.{◌*◌}
use Rattle.mf_field.proofs.SumLaws.{merging, weighted_front}
use Rattle.mf_field.proofs.laws.merging.Goals as goal

pub returns-clause-blocks : goal.returns-clause-blocks
returns-clause-blocks c = merging c.args.point c.args.n c.args.k _ c.ranges.point.fits (λ t lt. (c.type_inv.x t).fits)

pub returns-clause-whole : goal.returns-clause-whole
returns-clause-whole c = λ reach. weighted_front c.args.point c.args.x.now (c.args.n * c.args.k) reach
