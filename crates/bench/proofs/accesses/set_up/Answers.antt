use Rattle.std.proofs.Common.{sym, ap, ◌∙◌, arith}
use Rattle.mf_machine.specs.declared.view.View.{View}
use Rattle.mf_vault.specs.Actor.{Actor}
use Rattle.bench.proofs.Filling.{no_lines, born_before, entered_fills}
use Rattle.bench.proofs.accesses.set_up.Goals as goal

pub of_plain-requires-clause-since : goal.of_plain-requires-clause-since
of_plain-requires-clause-since g c = born_before 0 c.in_ok-plain.ensures

pub of_plain-requires-clause-lines : goal.of_plain-requires-clause-lines
of_plain-requires-clause-lines g c = no_lines c.new-losses.result c.new-losses.ensures c.in_ok-plain.ensures

pub deal-requires-clause-share : goal.deal-requires-clause-share
deal-requires-clause-share g c = let share = ap (λ (v : View). v.share) c.in-Ok.ensures.made.view in omega arith

pub fill-made-requires : goal.fill-made-requires
fill-made-requires g c =
    entered_fills c.deal.new.seat c.in_ok-plain.ensures c.in-Ok.ensures.made c.new-access.ensures

pub returns-clause-seat : goal.returns-clause-seat
returns-clause-seat g c =
    c.finish-seat.ensures.of c.in-Ok.shared
    (sym (c.fill-made.ensures ∙ ap (λ (a : Actor). a.facts) c.new-access.ensures))
