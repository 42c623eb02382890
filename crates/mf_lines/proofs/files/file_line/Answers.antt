use Rattle.std.proofs.Common.{sym, ◌∙◌}
use Rattle.mf_lines.specs.Drafts.{so_in}
use Rattle.mf_lines.proofs.NameLemmas.{name_kept}
use Rattle.mf_lines.proofs.files.file_line.Goals as goal

pub file_name-requires : goal.file_name-requires
file_name-requires c =
    name_kept (so_in c.args.draft.now) c.in_ok-name.name.now c.in_ok-content.content
    (sym c.file_limits.ensures ∙ c.in_ok-file_limits.was)
