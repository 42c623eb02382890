use Rattle.std.proofs.Common.{◌≡◌, ◌++◌, ◌∷◌, [], ◌∙◌, ap, sym, subst, false, length, arith}
use Rattle.std.specs.List.{list_any}
use Rattle.std.specs.Str.{bytes_eq}
use Rattle.std.proofs.lemmas.Bool.{cond-false}
use Rattle.std.proofs.lemmas.List.{map_push, length_push}
use Rattle.mf_lines.specs.Drafts.{names_of, IsNew}
use Rattle.mf_lines.specs.Meaning.{names_in}
use Rattle.mf_lines.proofs.ListLemmas.{list_any-map}
use Rattle.mf_lines.proofs.draft.Draft.add.Goals as goal

pub returns-in_ok-push-in-File-2-clause-draft : goal.returns-in_ok-push-in-File-2-clause-draft
returns-in_ok-push-in-File-2-clause-draft c =
    let keys = c.args.self.now.names.keys in
    let files = c.args.self.now.files.items in
    let few = c.requires.draft.files in
    let some = c.requires.draft.commands in
    let room = c.requires.room in
    let is = c.in_ok-name-in-File.ensures.items ∙ c.as_bytes.ensures.value ∙ c.as_str.ensures in
    let new = subst (IsNew c.args.self.now) c.in-File.is c.requires.new in
    let absent : list_any (λ k. bytes_eq c.in_ok-name-in-File.name.items k.items) c.args.self.now.names.keys ≡ false =
    rw is (sym (list_any-map (bytes_eq c.in-File.file.name) (λ n. n.items) keys)
    ∙ ap (list_any (bytes_eq c.in-File.file.name)) c.requires.draft.names ∙ new) in
    let more = c.in_ok-push-in-File.ensures.items in
    let long = length_push files c.in-File.file in
    let size = ap length more in
    record {
      names = ap names_of (c.in_ok-insert-in-File.ensures.keys ∙ cond-false _ _ _ absent)
          ∙ map_push (λ n. n.items) keys c.in_ok-name-in-File.name
          ∙ (λ i. c.requires.draft.names i ++ is i ∷ [])
          ∙ sym (ap names_in more ∙ map_push (λ f. f.name) files c.in-File.file);
      stages = let stages = c.requires.draft.stages in omega arith;
      files = omega arith;
      phases = let phases = c.requires.draft.phases in omega arith;
      clients = let clients = c.requires.draft.clients in omega arith;
      commands = omega arith;
      lines = omega arith;
    }
