use Rattle.std.proofs.Common.{◌≡◌, ◌+◌, ◌∙◌, ap, length, arith}
use Rattle.mf_lines.specs.Words.{behind}
use Rattle.mf_lines.proofs.ListLemmas.{are_so_many}
use Rattle.mf_lines.proofs.ages.has_words.Goals as goal

pub returns : goal.returns
returns c =
    let all = c.loop-test.false in
    let most = c.loop.auto.counter-end in
    let end : c.loop.counter ≡ c.args.many = omega arith in
    are_so_many c.loop.left c.is_none.result (length (behind c.args.rest)) c.args.many c.is_none.ensures
    (c.loop.invariant ∙ ap (λ n. n + length (behind c.loop.left)) end)
