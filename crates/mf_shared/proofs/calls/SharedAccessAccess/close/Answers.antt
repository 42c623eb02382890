use Rattle.std.proofs.Common.{rules, ◌≡◌, ◌<◌, length, sym, subst}
use Rattle.mf_machine.specs.Steps.{close_answer}
use Rattle.mf_vault.specs.Answers.{FairClose}
use Rattle.mf_vault.specs.Licence.{erased}
use Rattle.mf_gate.specs.declared.known.About.{About}
use Rattle.mf_gate.specs.Passes.{told, view}
use Rattle.mf_shared.proofs.Fair.{close_fair}
use Rattle.mf_shared.proofs.Noting.{close_meets}
use Rattle.mf_shared.proofs.calls.SharedAccessAccess.close.Goals as goal

pub returns-clause-goes : goal.returns-clause-goes
returns-clause-goes g c = let s = c.args.self.now in let v = view s.pass in let row = c.close-closed.ensures.row in
    let low = subst (λ (k : About). c.args.g < length k.book.shape.stages) (sym s.at.1) c.requires.may.0 in record {
      becomes = search rules;
      fair = subst (λ y. FairClose c.args.g y (erased v)) (sym row.2)
          (close_fair (told s.pass) v c.args.g row.0 row.1.met low);
      told = tt;
    }

pub returns-clause-met : goal.returns-clause-met
returns-clause-met g c = let row = c.close-closed.ensures.row in
    close_meets (λ x. c.close-closed.result ≡ close_answer x) c.args.g row.0 c.args.self.now.pass
    c.close-closed.new.pass row.1 row.2
