use Rattle.std.proofs.Common.{length, ap, arith}
use Rattle.mf_stripe.proofs.Cuts.{stripe-slice, length-chunks}
use Rattle.mf_stripe.proofs.cutting.stripe_pieces.Goals as goal

pub returns-clause-of_file : goal.returns-clause-of_file
returns-clause-of_file c = λ size file is.
    rw is (stripe-slice size file c.args.width c.args.j c.min-end.result (omega (
      arith,
      ap length is,
      length-chunks size file,
    )) (omega (arith, c.requires)))
