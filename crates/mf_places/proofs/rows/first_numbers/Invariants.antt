use Rattle.std.proofs.Common.{◌≡◌, ◌+◌}
use Rattle.mf_places.specs.Numbers.{first_in}
use Rattle.mf_places.specs.Rows.{IsFirsts}
use Rattle.mf_places.proofs.rows.first_numbers.Given as goal

abbrev pub invariant-loop-width : goal.invariant-loop-width
invariant-loop-width l = record {
  table : IsFirsts l.chunks l.stages (l.width + 1) l.firsts.items;
  next : l.first ≡ first_in l.chunks l.stages l.width;
}
