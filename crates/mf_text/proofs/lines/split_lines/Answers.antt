use Rattle.std.proofs.Common.{◌≡◌, ◌∙◌, sym, length, rules}
use Rattle.mf_text.proofs.LineLemmas.{Split-start, Split-next, Split-refused, Split-end}
use Rattle.mf_text.proofs.lines.split_lines.Goals as goal

pub loop-start-init : goal.loop-start-init
loop-start-init c = rw c.new-spans.ensures.items (Split-start c.args.text.now)

pub loop-start-preserved : goal.loop-start-preserved
loop-start-preserved c =
    let h = c.first_line-len.ensures in
    rw c.in_ok-push.ensures.items
    (Split-next c.args.text.now c.loop-start.spans.items c.loop-start.start c.first_line-len.result.0
    c.first_line-len.result.1 c.loop-start.invariant h.first
    (sym c.bad_byte.ensures ∙ c.in_default.is) h.ordered h.bounded h.progress)

pub returns-in-Some-clause-fault : goal.returns-in-Some-clause-fault
returns-in-Some-clause-fault c =
    let count : c.len.result ≡ length c.loop-start.spans.items = search rules in
    rw count (Split-refused c.args.text.now c.loop-start.spans.items c.loop-start.start c.first_line-len.result.0
    c.first_line-len.result.1 c.loop-start.invariant c.first_line-len.ensures.first
    c.in-Some.k (sym c.bad_byte.ensures ∙ c.in-Some.is))

pub returns-clause-spans : goal.returns-clause-spans
returns-clause-spans c =
    (Split-end c.args.text.now c.loop-start.spans.items c.loop-start.start c.loop-start.invariant
    c.loop-start-test.false).places

pub returns-clause-lines : goal.returns-clause-lines
returns-clause-lines c =
    (Split-end c.args.text.now c.loop-start.spans.items c.loop-start.start c.loop-start.invariant
    c.loop-start-test.false).lines

pub returns-clause-clean : goal.returns-clause-clean
returns-clause-clean c =
    (Split-end c.args.text.now c.loop-start.spans.items c.loop-start.start c.loop-start.invariant
    c.loop-start-test.false).clean
