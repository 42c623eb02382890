use Rattle.std.proofs.Common.{◌∙◌, sym}
use Rattle.mf_text.proofs.WordLemmas.{Words-start, Words-more, Words-end}
use Rattle.mf_text.proofs.words.split_words.Goals as goal

pub loop-len-init : goal.loop-len-init
loop-len-init c = rw c.new-spans.ensures.items (Words-start c.args.line.now)

pub loop-len-preserved : goal.loop-len-preserved
loop-len-preserved c =
    rw c.in_ok-push.ensures.items
    (Words-more c.args.line.now c.loop-len.spans.items c.loop-len.start c.in-Some.len c.loop-len.invariant
    (sym c.space.ensures ∙ c.in-Some.is))

pub returns-clause-spans : goal.returns-clause-spans
returns-clause-spans c =
    rw c.in_ok-push-2.ensures.items
    (Words-end c.args.line.now c.loop-len.spans.items c.loop-len.start c.loop-len.invariant
    (sym c.space.ensures ∙ c.in_default.is)).places

pub returns-clause-words : goal.returns-clause-words
returns-clause-words c =
    rw c.in_ok-push-2.ensures.items
    (Words-end c.args.line.now c.loop-len.spans.items c.loop-len.start c.loop-len.invariant
    (sym c.space.ensures ∙ c.in_default.is)).words
