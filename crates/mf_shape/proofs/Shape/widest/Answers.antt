use Rattle.mf_shape.proofs.Widths.{one-le-max_width, max_width-le-limit}
use Rattle.mf_shape.proofs.Shape.widest.Goals as goal

pub returns-clause-within : goal.returns-clause-within
returns-clause-within c =
    let chain = c.self.invariant.chain in
    rw (c.greatest_width.ensures, c.as_slice.ensures.value) (one-le-max_width chain, max_width-le-limit chain)
