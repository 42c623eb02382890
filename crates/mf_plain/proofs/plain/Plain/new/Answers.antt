use Rattle.std.proofs.Common.{◌≡◌, arith, false, length, replicate, ap, ◌∙◌, subst}
use Rattle.mf_places.specs.Names.{count_of}
use Rattle.mf_vault.specs.declared.answers.Rest.TheVariants as rest
use Rattle.mf_plain.specs.Resting.{AtRest}
use Rattle.mf_plain.proofs.Fresh.{unborn_rests, unborn_is}
use Rattle.mf_plain.proofs.plain.Plain.new.Goals as goal

pub invariant_of-result : goal.invariant_of-result
invariant_of-result c = let b = c.args.book in let bytes = c.args.bytes.now in
    let value = c.count-end.ensures.value in let past = c.loop-test.false in let low = c.loop.auto.counter-end in
    let count : c.loop.counter ≡ count_of b = omega arith in
    let names : c.loop.names.items ≡ replicate (count_of b) rest.Unborn = c.loop.invariant
    ∙ ap (λ k. replicate k rest.Unborn) count in
    let closed : c.in_ok-closed.closed.items ≡ replicate (length b.shape.stages) false =
    c.in_ok-closed.ensures.items_if_clones_equal (λ y d. d) ∙ ap (λ k. replicate k false) c.stages.ensures.value in
    subst AtRest (unborn_is b bytes c.pick-told.result.value c.in_ok-closed.closed.items c.loop.names.items
    c.pick-told.ensures closed names)
    (unborn_rests b bytes c.chunk.ensures.kept c.requires c.are_bytes.ensures)
