use Rattle.mf_lines.specs.Drafts.{so_in}
use Rattle.mf_lines.proofs.FormLemmas.{line_is, is_new}
use Rattle.mf_lines.proofs.draft.Draft.add_line.Goals as goal

pub add-requires-clause-new : goal.add-requires-clause-new
add-requires-clause-new c =
    is_new c.args.self.now c.in_ok-form.form
    (line_is (so_in c.args.self.now) c.args.line.now c.in_ok-form.form c.in_ok-form.ensures).new
