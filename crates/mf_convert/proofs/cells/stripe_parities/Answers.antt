use Rattle.std.proofs.Common.{◌∙◌, length, ap, sym, arith}
use Rattle.mf_code.specs.Stripes.{stripe}
use Rattle.mf_convert.proofs.Made.{parities_more, parities_made}
use Rattle.mf_convert.proofs.cells.stripe_parities.Goals as goal

pub loop-j-preserved : goal.loop-j-preserved
loop-j-preserved c file is = parities_more c.args.book.now file c.loop-j.j c.loop-j.all.items c.push.new.self.items
    c.in_ok-chunks_of.field-0
    (c.loop-j.invariant file is) c.in_ok-push.ensures.items
    (c.in_ok-chunks_of.ensures
    ∙ parities_made c.args.book.now c.args.family.now file c.loop-j.j c.points.result.now _ _ _
    c.requires.family c.points.ensures.value c.chunk.ensures.value c.first_width-width.ensures.value
    (c.in_ok-lists.ensures.of_file file c.loop-j.j
    (c.stripe_pieces-stripe.ensures.of_file c.args.book.now.chunk file is
    ∙ ap (λ n. stripe n file c.first_width-width.result c.loop-j.j) (sym c.chunk.ensures.value))))

pub stripes-count-requires : goal.stripes-count-requires
stripes-count-requires c = let some = c.first_width-width.ensures.some in
    let same = ap (λ s. length s.stages) c.requires.family.shape in omega arith
