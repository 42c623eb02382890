use Rattle.std.proofs.Common.{sym, subst}
use Rattle.std.specs.Str.{IsUtf8}
use Rattle.mf_lines.proofs.NameLemmas.{name_is_text}
use Rattle.mf_lines.proofs.files.file_name.Goals as goal

pub unwrap-text-requires : goal.unwrap-text-requires
unwrap-text-requires c =
    c.from_utf8.ensures.succeeds
    (subst IsUtf8 (sym c.in_ok-from_slice.ensures.items) (name_is_text c.args.bytes.now c.requires))
