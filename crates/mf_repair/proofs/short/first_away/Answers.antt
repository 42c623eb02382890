use Rattle.std.proofs.Common.{sym, ◌∙◌}
use Rattle.mf_repair.proofs.Telling.{away_found, away_stay, some_of, none_of, any_entry}
use Rattle.mf_repair.proofs.short.first_away.Goals as goal

pub returns-then-is_some : goal.returns-then-is_some
returns-then-is_some c =
    let (x, is) = some_of c.away-found.result (sym c.is_some.ensures ∙ c.if-is_some.true) in
    away_found c.args.entries.now c.loop-entry.entry-index any_entry c.away-found.result x c.loop-entry-test.true
    c.loop-entry.invariant c.away-found.ensures is

pub loop-entry-preserved : goal.loop-entry-preserved
loop-entry-preserved c =
    away_stay c.args.entries.now c.loop-entry.entry-index any_entry c.loop-entry-test.true c.loop-entry.invariant
    (none_of c.away-found.result (sym c.is_some.ensures ∙ c.if-is_some.false) ∙ c.away-found.ensures)
