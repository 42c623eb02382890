use Rattle.std.proofs.Common.{◌∙◌, sym, ap}
use Rattle.std.specs.List.{list_any}
use Rattle.std.specs.Str.{bytes_eq}
use Rattle.mf_lines.proofs.ListLemmas.{list_any-map}
use Rattle.mf_lines.proofs.draft.Draft.has_file.Goals as goal

pub returns : goal.returns
returns c =
    c.contains.ensures ∙ sym (list_any-map (bytes_eq c.args.name.now) (λ n. n.items) c.args.self.now.names.keys)
    ∙ ap (list_any (bytes_eq c.args.name.now)) c.requires.names
