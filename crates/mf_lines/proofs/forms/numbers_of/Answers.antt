use Rattle.std.proofs.Common.{◌∙◌, Ok, ap, sym, length, arith, append-nil}
use Rattle.mf_lines.specs.Words.{behind}
use Rattle.mf_lines.specs.Lines.{numbers_in}
use Rattle.mf_lines.proofs.ListLemmas.{numbers_with, numbers_start, numbers_more, numbers_refused}
use Rattle.mf_lines.proofs.forms.numbers_of.Goals as goal

pub loop-left-init : goal.loop-left-init
loop-left-init c =
    numbers_start (behind c.args.rest)
    ∙ ap (λ front. numbers_with front (numbers_in (behind c.args.rest))) (sym c.new-numbers.ensures.items)

pub loop-left-smaller : goal.loop-left-smaller
loop-left-smaller c = omega (arith, ap (λ rest. length (behind rest)) c.in-Some.is, ap length c.split_word.ensures)

pub loop-left-preserved : goal.loop-left-preserved
loop-left-preserved c =
    c.loop-left.invariant
    ∙ numbers_more c.loop-left.numbers.items (behind c.loop-left.left) c.split_word.result.0.now
    (behind c.split_word.result.1) c.in-Ok.n (ap behind c.in-Some.is ∙ c.split_word.ensures)
    (sym c.spelled.ensures ∙ c.in-Ok.is)
    ∙ ap (λ front. numbers_with front (numbers_in (behind c.split_word.result.1)))
    (sym c.in_ok-push-in-Ok.ensures.items)

pub returns-in-Err : goal.returns-in-Err
returns-in-Err c _ =
    c.loop-left.invariant
    ∙ numbers_refused c.loop-left.numbers.items (behind c.loop-left.left) c.split_word.result.0.now
    (behind c.split_word.result.1) c.in-Err.kind (ap behind c.in-Some.is ∙ c.split_word.ensures)
    (sym c.spelled.ensures ∙ c.in-Err.is)

pub returns : goal.returns
returns c =
    c.loop-left.invariant
    ∙ ap (λ rest. numbers_with c.loop-left.numbers.items (numbers_in (behind rest))) c.in_default.is
    ∙ ap Ok (append-nil c.loop-left.numbers.items)
