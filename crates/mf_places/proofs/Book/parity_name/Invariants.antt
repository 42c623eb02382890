use Rattle.std.proofs.Common.{◌+◌, ◌-◌, ◌≤◌}
use Rattle.mf_shape.specs.Stages.{max_width}
use Rattle.mf_places.specs.Facts.{chunks_of}
use Rattle.mf_places.specs.Numbers.{first_in}
use Rattle.mf_places.proofs.Book.parity_name.Given as goal

abbrev pub invariant-loop-width : goal.invariant-loop-width
invariant-loop-width l = record {
  behind : first_in (chunks_of l.self) l.self.shape.stages l.width ≤ l.n;
  within : l.width ≤ max_width l.self.shape.stages;
  small : l.width ≤ 64;
}

abbrev pub decreases-loop-width : goal.decreases-loop-width
decreases-loop-width l = max_width l.self.shape.stages + 1 - l.width
