use Rattle.std.proofs.Common.{◌∙◌, sym}
use Rattle.mf_lines.proofs.ListLemmas.{words_of-at, words_of-whole}
use Rattle.mf_lines.proofs.words.split_word.Goals as goal

pub returns-in-Some : goal.returns-in-Some
returns-in-Some c = words_of-at c.args.line.now c.in-Some.at (sym c.space.ensures ∙ c.in-Some.is)

pub returns-in-None : goal.returns-in-None
returns-in-None c = words_of-whole c.args.line.now (sym c.space.ensures ∙ c.in-None.is)
