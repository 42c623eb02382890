use Rattle.mf_lines.proofs.FormLemmas.{line_is}
use Rattle.mf_lines.proofs.laws.lines_keep.Goals as goal

pub returns : goal.returns
returns c so line form e = (line_is so line form e).keeps
