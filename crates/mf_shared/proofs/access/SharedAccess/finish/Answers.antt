use Rattle.mf_shared.proofs.Files.{at_each}
use Rattle.mf_shared.proofs.access.SharedAccess.finish.Goals as goal

pub returns-clause-of : goal.returns-clause-of
returns-clause-of g c s e =
    at_each c.give_back.new.pass s c.args.self.shared.now c.give_back.ensures.at e
