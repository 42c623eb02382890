use Rattle.std.proofs.Common.{◌∙◌, sym, ap}
use Rattle.mf_lines.specs.Words.{behind, no_words}
use Rattle.mf_lines.proofs.ListLemmas.{no_words-some}
use Rattle.mf_lines.proofs.words.end_words.Goals as goal

pub returns-in-Some : goal.returns-in-Some
returns-in-Some c = sym (ap (λ rest. no_words (behind rest)) c.in-Some.is ∙ no_words-some c.in-Some.field-0.now)
