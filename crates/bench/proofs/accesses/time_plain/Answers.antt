use Rattle.bench.proofs.Filling.{no_lines, born_before, first_fills}
use Rattle.bench.proofs.accesses.time_plain.Goals as goal

pub new-access-requires-clause-since : goal.new-access-requires-clause-since
new-access-requires-clause-since g c = born_before 0 c.in_ok-plain.ensures

pub new-access-requires-clause-lines : goal.new-access-requires-clause-lines
new-access-requires-clause-lines g c = no_lines c.new-losses.result c.new-losses.ensures c.in_ok-plain.ensures

pub fill-requires : goal.fill-requires
fill-requires g c = first_fills c.in_ok-plain.ensures c.new-access.ensures
