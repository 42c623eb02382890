use Rattle.std.proofs.Common.{◌∙◌, ap, subst, not}
use Rattle.mf_lines.specs.Words.{behind}
use Rattle.mf_lines.specs.Lines.{Says, points_in}
use Rattle.mf_lines.proofs.ListLemmas.{behind_some, points_are}
use Rattle.mf_lines.proofs.forms.points_line.Goals as goal

pub returns : goal.returns
returns c =
    subst (Says c.points_of.result)
    (ap points_in c.deref.ensures.value
    ∙ points_are (behind c.args.rest) c.in_ok-numbers.numbers.items
    (behind_some c.args.rest (c.is_none.ensures ∙ ap not c.if-is_none.false)) c.in_ok-numbers.ensures)
    c.points_of.ensures
