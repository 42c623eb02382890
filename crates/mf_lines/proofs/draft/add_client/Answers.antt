use Rattle.std.proofs.Common.{◌++◌, ◌∷◌, [], ◌∙◌, ap}
use Rattle.mf_lines.specs.Meaning.{with_client}
use Rattle.mf_lines.proofs.ListLemmas.{put_back}
use Rattle.mf_lines.proofs.draft.add_client.Goals as goal

pub returns-in_ok-push : goal.returns-in_ok-push
returns-in_ok-push c =
    put_back with_client c.args.items.now.items c.pop.new.self.items c.push.new.self.items c.pop.result c.in-Some.item
    c.pop.ensures.items c.in-Some.is
    (c.in_ok-push.ensures.items ∙ ap (λ x. c.pop.new.self.items ++ x ∷ []) c.in_ok-with_client.ensures)
