use Rattle.std.proofs.Common.{◌∙◌, sym, ap, Some, arith}
use Rattle.mf_text.proofs.LineLemmas.{first_line_whole, first_line_cr, first_line_lf}
use Rattle.mf_text.proofs.lines.first_line.Goals as goal

pub returns-in-None-clause-first : goal.returns-in-None-clause-first
returns-in-None-clause-first c = first_line_whole c.args.text.now (sym c.line_feed.ensures ∙ c.in-None.is) c.requires

pub returns-in-Some-eq0-clause-first : goal.returns-in-Some-eq0-clause-first
returns-in-Some-eq0-clause-first c = first_line_lf c.args.text.now 0
    (sym c.line_feed.ensures ∙ c.in-Some-eq0.is ∙ ap Some c.in-Some-eq0.field-0-test) (λ some. omega arith)

pub returns-in-Some-clause-first : goal.returns-in-Some-clause-first
returns-in-Some-clause-first c = first_line_cr c.args.text.now c.in-Some.k (sym c.line_feed.ensures ∙ c.in-Some.is)
    (omega arith) c.if-text-k-eq-CR.true

pub returns-in-Some-2-clause-first : goal.returns-in-Some-2-clause-first
returns-in-Some-2-clause-first c = first_line_lf c.args.text.now c.in-Some.k (sym c.line_feed.ensures ∙ c.in-Some.is)
    (λ some. c.if-text-k-eq-CR.false)
