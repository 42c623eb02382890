use Rattle.mf_places.proofs.Names.{IsNumber-at}
use Rattle.mf_shared.proofs.access.SharedAccess.number.Goals as goal

pub returns-clause-value : goal.returns-clause-value
returns-clause-value g c = let e = c.in-Some.ensures.some in
    (IsNumber-at c.args.self.now.shared.now.book c.args.name c.in-Some.n e.0 e.1).number
