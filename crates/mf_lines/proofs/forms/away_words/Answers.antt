use Rattle.std.proofs.Common.{◌∙◌, ◌∷◌, ap, sym}
use Rattle.std.specs.Str.{bytes_eq}
use Rattle.std.proofs.lemmas.Bool.{not-false, not-true}
use Rattle.mf_lines.specs.Words.{behind}
use Rattle.mf_lines.proofs.ListLemmas.{away_other, away_listed, behind_some}
use Rattle.mf_lines.proofs.forms.away_words.Goals as goal

pub returns-then-ne-clause-none : goal.returns-then-ne-clause-none
returns-then-ne-clause-none c =
    away_other (behind c.args.rest) c.in_ok-name.name.now c.split_word.result.0.now (behind c.split_word.result.1)
    (c.in_ok-name.ensures.some ∙ ap (λ ws. c.in_ok-name.name.now ∷ ws) (ap behind c.in-Some.is ∙ c.split_word.ensures))
    (ap (bytes_eq c.split_word.result.0.now) (sym c.as_slice.ensures)
    ∙ not-true (bytes_eq c.split_word.result.0.now c.as_slice.result.now) (sym c.ne.ensures ∙ c.if-ne.true))

pub returns-clause-some : goal.returns-clause-some
returns-clause-some c =
    away_listed (behind c.args.rest) c.in_ok-name.name.now c.split_word.result.0.now (behind c.split_word.result.1)
    (c.in_ok-name.ensures.some ∙ ap (λ ws. c.in_ok-name.name.now ∷ ws) (ap behind c.in-Some.is ∙ c.split_word.ensures))
    (ap (bytes_eq c.split_word.result.0.now) (sym c.as_slice.ensures)
    ∙ not-false (bytes_eq c.split_word.result.0.now c.as_slice.result.now) (sym c.ne.ensures ∙ c.if-ne.false))
    (behind_some c.split_word.result.1 c.if-is_none.ensures)
