use Rattle.std.proofs.Common.{◌∙◌, sym, ap, length, rules}
use Rattle.std.specs.List.{position}
use Rattle.std.specs.Str.{bytes_eq}
use Rattle.std.proofs.lemmas.List.{length-map}
use Rattle.mf_lines.proofs.ListLemmas.{position-map}
use Rattle.mf_lines.proofs.draft.Draft.file_number.Goals as goal

pub overflow_cast-result : goal.overflow_cast-result
overflow_cast-result c =
    let keys = length-map c.args.self.now.names.keys (λ n. n.items) in
    let files = length-map c.args.self.now.files.items (λ f. f.name) in
    let same = ap length c.requires.names in
    let few = c.requires.files in
    let room = c.requires.lines in
    let within = c.in-Some.ensures.within in
    search rules

pub returns-in-Some : goal.returns-in-Some
returns-in-Some c =
    sym c.in-Some.is ∙ c.get_index_of.ensures.index
    ∙ sym (position-map (bytes_eq c.args.name.now) (λ n. n.items) c.args.self.now.names.keys)
    ∙ ap (position (bytes_eq c.args.name.now)) c.requires.names

pub returns-in-None : goal.returns-in-None
returns-in-None c =
    sym c.in-None.is ∙ c.get_index_of.ensures.index
    ∙ sym (position-map (bytes_eq c.args.name.now) (λ n. n.items) c.args.self.now.names.keys)
    ∙ ap (position (bytes_eq c.args.name.now)) c.requires.names
