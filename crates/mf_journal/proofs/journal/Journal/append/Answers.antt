use Rattle.std.proofs.Common.{◌∙◌, arith}
use Rattle.mf_journal.proofs.journal.Journal.append.Goals as goal

pub returns-then-is_err-clause-any_moment : goal.returns-then-is_err-clause-any_moment
returns-then-is_err-clause-any_moment g c = λ ps keeps.
    c.commit.ensures.any_moment ps c.args.payload.now (omega arith)
    (c.deref.ensures.value ∙ c.in-Ok.ensures) keeps.rest

pub returns-clause-any_moment : goal.returns-clause-any_moment
returns-clause-any_moment g c = λ ps keeps.
    c.commit.ensures.any_moment ps c.args.payload.now (omega arith)
    (c.deref.ensures.value ∙ c.in-Ok.ensures) keeps.rest
