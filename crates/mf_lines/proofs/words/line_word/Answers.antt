use Rattle.std.proofs.Common.{◌∙◌, sym, ap}
use Rattle.std.specs.Str.{bytes_eq}
use Rattle.mf_lines.specs.Words.{word_text, line_words}
use Rattle.mf_lines.proofs.ListLemmas.{find_step}
use Rattle.mf_lines.proofs.words.line_word.Goals as goal

pub loop-word-preserved : goal.loop-word-preserved
loop-word-preserved c =
    c.loop-word.invariant
    ∙ find_step (λ w. bytes_eq c.args.bytes.now (word_text w)) line_words c.loop-word.word-index _ c.loop-word-test.true
    (ap (bytes_eq c.args.bytes.now) (sym (c.as_bytes.ensures.value ∙ c.text.ensures)) ∙ sym c.eq.ensures ∙ c.if-eq.false)
