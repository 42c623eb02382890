use Rattle.std.proofs.Common.{refl, ap, ◌∙◌}
use Rattle.mf_machine.specs.Steps.{drop_answer}
use Rattle.mf_places.specs.Facts.{BookFacts}
use Rattle.mf_places.specs.Numbers.{number_of}
use Rattle.mf_shared.proofs.Noting.{drop_meets}
use Rattle.mf_shared.proofs.calls.SharedAccessAccess.discard.Goals as goal

pub returns-clause-met : goal.returns-clause-met
returns-clause-met g c = let s = c.args.self.now in let row = c.drop_name-yes.ensures.row in
    let same = c.number-n.ensures.value ∙ ap (λ (b : BookFacts). number_of b c.args.name) s.shared.now.book_is in
    drop_meets s.shared.now s.pass c.drop_name-yes.new.pass c.args.name c.number-n.result s.at.1 same row.0
    c.drop_name-yes.result (drop_answer row.0) refl row.1
