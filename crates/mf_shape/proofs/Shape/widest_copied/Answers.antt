use Rattle.mf_shape.proofs.Widths.{max_copied_width-le-limit}
use Rattle.mf_shape.proofs.Shape.widest_copied.Goals as goal

pub returns-clause-within : goal.returns-clause-within
returns-clause-within c =
    rw (c.greatest_copied_width.ensures, c.as_slice.ensures.value) (max_copied_width-le-limit c.self.invariant.chain)
