use Rattle.std.proofs.Common.{subst}
use Rattle.mf_places.specs.Facts.{BookFacts, IsBook}
use Rattle.mf_places.proofs.Apart.{IsApart-from}
use Rattle.mf_places.proofs.Book.server.Goals as goal

pub returns-clause-apart : goal.returns-clause-apart
returns-clause-apart c =
    IsApart-from c.args.self.now (subst (λ (v : BookFacts). IsBook v) c.self.view_is c.self.invariant.book) c.args.name
