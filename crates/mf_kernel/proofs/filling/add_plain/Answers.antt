use Rattle.mf_kernel.proofs.Dotted.{added_once}
use Rattle.mf_kernel.proofs.filling.add_plain.Goals as goal

pub returns : goal.returns
returns c = added_once c.args.sums c.args.lanes c.fits-lanes.1
