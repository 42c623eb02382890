use Rattle.mf_places.proofs.Placed.{stripe_of-below}
use Rattle.mf_places.proofs.Book.stripe_of.Goals as goal

pub returns-in-Data-clause-within : goal.returns-in-Data-clause-within
returns-in-Data-clause-within c =
    let h = stripe_of-below c.args.self.now c.stage-stage.ensures.kept c.args.g c.requires.stage c.args.name
    c.requires.held in
    rw c.stage-stage.ensures.value (rw c.in-Data.is at h)

pub returns-in-Copy-clause-within : goal.returns-in-Copy-clause-within
returns-in-Copy-clause-within c =
    let h = stripe_of-below c.args.self.now c.stage-stage.ensures.kept c.args.g c.requires.stage c.args.name
    c.requires.held in
    rw c.stage-stage.ensures.value (rw c.in-Copy.is at h)
