use Rattle.std.proofs.Common.{◌++◌, ◌∷◌, [], ◌∙◌, ap, List}
use Rattle.mf_lines.specs.declared.parts.Command.{Command}
use Rattle.mf_lines.specs.Meaning.{client_with}
use Rattle.mf_lines.proofs.ListLemmas.{put_back}
use Rattle.mf_lines.proofs.draft.clients_with.Goals as goal

pub returns : goal.returns
returns c =
    put_back (client_with c.args.command) c.args.clients c.pop.new.self c.push-2.new.self c.pop.result
    c.in-Some.client c.pop.ensures.last c.in-Some.is
    (c.in_ok-push-2.ensures
    ∙ ap (λ (cs : List Command). c.pop.new.self ++ record { commands = cs } ∷ []) c.in_ok-push.ensures)
