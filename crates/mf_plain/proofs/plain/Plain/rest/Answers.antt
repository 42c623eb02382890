use Rattle.std.proofs.Common.{◌≡◌, ℕ, List, IfOk, OnErr, get_or, subst}
use Rattle.mf_places.specs.Numbers.{number_of}
use Rattle.mf_vault.specs.declared.answers.Rest.{Rest}
use Rattle.mf_vault.specs.declared.answers.Rest.TheVariants as rest
use Rattle.mf_plain.specs.Resting.{Resting}
use Rattle.mf_plain.proofs.Fresh.{rest_seen}
use Rattle.mf_plain.proofs.plain.Plain.rest.Goals as goal

pub returns-clause-state : goal.returns-clause-state
returns-clause-state c = let p = c.self.inside in
    subst (λ (z : Resting). IfOk c.share.result (λ r. r ≡ get_or z.names (number_of z.book c.args.name) rest.Unborn))
    c.self.view_is
    (subst (λ (y : Rest). IfOk c.share.result (λ r. r ≡ y))
    (rest_seen p.book c.args.name c.in-Some.n p.names.items c.index.result.now c.self.invariant.names
    c.in-Some.ensures.some c.index.ensures)
    c.share.ensures.same)

pub returns-clause-here : goal.returns-clause-here
returns-clause-here c = let p = c.self.inside in
    subst (λ (z : Resting). OnErr c.share.result ((x : List ℕ)
    × (get_or z.names (number_of z.book c.args.name) rest.Unborn ≡ rest.Here x))) c.self.view_is
    (subst (λ (y : Rest). OnErr c.share.result ((x : List ℕ) × (y ≡ rest.Here x)))
    (rest_seen p.book c.args.name c.in-Some.n p.names.items c.index.result.now c.self.invariant.names
    c.in-Some.ensures.some c.index.ensures)
    c.share.ensures.here)
