use Rattle.std.proofs.Common.{length, ap, ◌∙◌}
use Rattle.mf_lemmas.proofs.Lists.{map-same}
use Rattle.mf_lemmas.proofs.Results.{if_ok-map}
use Rattle.mf_code.specs.Rows.{weighted_lists}
use Rattle.mf_code.specs.Chunks.{parity}
use Rattle.mf_kernel.specs.Dots.{rows}
use Rattle.mf_stripe.proofs.Rowed.{combined_powers, powers_long}
use Rattle.mf_stripe.proofs.Stripes.{weighted_lists_stripe}
use Rattle.mf_stripe.proofs.encode.Goals as goal

pub combine_all-requires-clause-coefficients : goal.combine_all-requires-clause-coefficients
combine_all-requires-clause-coefficients c =
    powers_long (length c.args.pieces.now) c.args.points.now (rows c.deref.result.now)
    (ap rows c.deref.ensures.value ∙ c.in_ok-rows.ensures)

pub returns-clause-sums : goal.returns-clause-sums
returns-clause-sums c =
    let a = c.args in
    if_ok-map c.combine_all.result _ _
    (λ lists are. combined_powers a.chunk a.points.now a.pieces.now (rows c.deref.result.now) (rows lists.items)
    (ap rows c.deref.ensures.value ∙ c.in_ok-rows.ensures) are)
    c.combine_all.ensures

pub returns-clause-of_file : goal.returns-clause-of_file
returns-clause-of_file c = λ file j is.
    let a = c.args in
    if_ok-map c.combine_all.result _ _
    (λ lists are.
    combined_powers a.chunk a.points.now a.pieces.now (rows c.deref.result.now) (rows lists.items)
    (ap rows c.deref.ensures.value ∙ c.in_ok-rows.ensures) are
    ∙ map-same (λ point. weighted_lists a.chunk point a.pieces.now) (λ point. parity a.chunk file point a.width j)
    (λ point. ap (weighted_lists a.chunk point) is ∙ weighted_lists_stripe a.chunk file point a.width j) a.points.now)
    c.combine_all.ensures
