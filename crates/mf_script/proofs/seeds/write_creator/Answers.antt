use Rattle.std.proofs.Common.{◌+◌, ◌*◌, List, ℕ, ◌++◌, ◌∙◌, ap}
use Rattle.std.specs.Prelude.{codes}
use Rattle.std.specs.String.{string_bytes}
use Rattle.std.proofs.lemmas.List.{append_assoc}
use Rattle.mf_script.specs.Seeds.{ended, on_file}
use Rattle.mf_script.proofs.TextLemmas.{on_ok-map}
use Rattle.mf_script.proofs.seeds.write_creator.Goals as goal

pub returns : goal.returns
returns c =
    let old : List ℕ = string_bytes c.args.out.now in
    let client : List ℕ = ended (codes "client") in
    let first : List ℕ = ended (on_file (codes "create") (2 * c.args.client)) in
    let second : List ℕ = ended (on_file (codes "create") (2 * c.args.client + 1)) in
    on_ok-map c.write_on_file-2.result _ _
    (λ e. e
    ∙ ap (λ o. o ++ second) (c.in_ok-write_on_file.ensures ∙ ap (λ o. o ++ first) c.in_ok-writeln.ensures.bytes)
    ∙ append_assoc (old ++ client) first second ∙ append_assoc old client (first ++ second)) c.write_on_file-2.ensures
