use Rattle.std.proofs.Common.{◌∙◌}
use Rattle.mf_kernel.proofs.Scaled.{by_zero, by_one}
use Rattle.mf_kernel.proofs.kernels.scale.Goals as goal

pub returns-in-0 : goal.returns-in-0
returns-in-0 c = c.fill.ensures.after (λ y e. e) ∙ by_zero c.args.c c.args.dst.now c.in-0.is

pub returns-in-1 : goal.returns-in-1
returns-in-1 c = by_one c.args.c c.args.dst.now c.in-1.is c.type_inv.dst
