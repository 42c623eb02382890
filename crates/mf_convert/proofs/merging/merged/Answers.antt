use Rattle.std.proofs.Common.{◌*◌, List, ℕ, get_or, sym, ap, ◌∙◌, subst}
use Rattle.mf_code.specs.Chunks.{parity}
use Rattle.mf_code.specs.Stripes.{narrow_parities}
use Rattle.mf_places.specs.Facts.{BookFacts}
use Rattle.mf_convert.specs.Convert.{factor_at, gets}
use Rattle.mf_convert.specs.Converting.{TakesIn, Completes, Cuts}
use Rattle.mf_convert.specs.declared.change.Change.TheVariants as change
use Rattle.mf_convert.proofs.Merged.{point_there, row_is, row_some, row_few, one_length, sources_are, wide_cell}
use Rattle.mf_convert.proofs.Courses.{cut_after}
use Rattle.mf_convert.proofs.merging.merged.Goals as goal

pub bounds-points-p : goal.bounds-points-p
bounds-points-p g c = point_there
    (g.A.Access.actor c.args.access.now).facts c.args.course.now.from c.args.p c.points.result.now
    (g.met.A.Access.kept c.args.access.now).file c.requires.converter.low c.requires.parity.point
    (c.requires.family.points ∙ sym c.points.ensures.value)

pub merge_chunk-requires-clause-some : goal.merge_chunk-requires-clause-some
merge_chunk-requires-clause-some g c =
    let t = subst
    (λ (b : BookFacts). TakesIn b c.args.course.now.from c.args.j c.taken_in-first.result.0
    c.taken_in-first.result.1)
    c.book.ensures c.taken_in-first.ensures in
    row_some (g.A.Access.actor c.args.access.now).facts c.args.course.now.from c.args.j c.width_of-width.result c.args.p
    c.taken_in-first.result.0 c.taken_in-first.result.1 c.as_slice.result.now t (c.as_slice.ensures.value
    ∙ c.in_ok-parities.ensures.cells)

pub merge_chunk-requires-clause-at_most : goal.merge_chunk-requires-clause-at_most
merge_chunk-requires-clause-at_most g c =
    let t = subst
    (λ (b : BookFacts). TakesIn b c.args.course.now.from c.args.j c.taken_in-first.result.0
    c.taken_in-first.result.1)
    c.book.ensures c.taken_in-first.ensures in
    row_few (g.A.Access.actor c.args.access.now).facts c.args.course.now.from c.args.j c.width_of-width.result c.args.p
    c.taken_in-first.result.0 c.taken_in-first.result.1 c.as_slice.result.now
    (g.met.A.Access.kept c.args.access.now).file
    c.requires.converter.low t (c.as_slice.ensures.value ∙ c.in_ok-parities.ensures.cells)

pub merge_chunk-requires-clause-lengths : goal.merge_chunk-requires-clause-lengths
merge_chunk-requires-clause-lengths g c =
    one_length (g.A.Access.actor c.args.access.now).facts c.width_of-width.result c.args.p
    c.taken_in-first.result.0 c.taken_in-first.result.1 c.as_slice.result.now c.taken_in-first.ensures.some
    (c.as_slice.ensures.value ∙ c.in_ok-parities.ensures.cells)

pub returns-in-Ok-clause-cell : goal.returns-in-Ok-clause-cell
returns-in-Ok-clause-cell g c =
    let f = (g.A.Access.actor c.args.access.now).facts in
    let file = (g.met.A.Access.kept c.args.access.now).file in
    let w = c.width_of-width.result in
    let from = c.args.course.now.from in
    let factor = factor_at f.book from in
    let t = subst (λ (b : BookFacts). TakesIn b from c.args.j c.taken_in-first.result.0 c.taken_in-first.result.1)
    c.book.ensures c.taken_in-first.ensures in
    let point = ap (λ (l : List ℕ). get_or l c.args.p 0) (c.requires.family.points ∙ sym c.points.ensures.value) in
    let row = row_is f from c.args.j c.args.p w c.taken_in-first.result.0 c.taken_in-first.result.1
    c.as_slice.result.now file c.width_of-width.ensures.value t (c.as_slice.ensures.value
    ∙ c.in_ok-parities.ensures.cells) in
    wide_cell f from c.args.j c.args.p w c.in-Ok.chunk file c.requires.converter.low c.width_of-width.ensures.value
    (c.in-Ok.ensures f.book.chunk f.bytes factor c.args.j file.bytes
    (row ∙ ap (λ q. narrow_parities f.book.chunk f.bytes q w factor c.args.j) point)
    ∙ ap (λ q. parity f.book.chunk f.bytes q (factor * w) c.args.j) (sym point))

pub returns-in-Ok-clause-completes : goal.returns-in-Ok-clause-completes
returns-in-Ok-clause-completes g c =
    let f = (g.A.Access.actor c.args.access.now).facts in
    let t = subst
    (λ (b : BookFacts). TakesIn b c.args.course.now.from c.args.j c.taken_in-first.result.0
    c.taken_in-first.result.1)
    c.book.ensures c.taken_in-first.ensures in
    subst (λ l. Completes c.args.course.now (gets f l) (g.A.Access.actor c.args.access.now)
    (g.A.Access.actor c.fetch_all.new.access))
    (sources_are f.book c.args.course.now.from c.args.j c.args.p c.width_of-width.result c.taken_in-first.result.0
    c.taken_in-first.result.1 c.width_of-width.ensures.value t) c.in_ok-parities.ensures.completes

pub returns-clause-cuts : goal.returns-clause-cuts
returns-clause-cuts g c =
    let f = (g.A.Access.actor c.args.access.now).facts in
    let t = subst
    (λ (b : BookFacts). TakesIn b c.args.course.now.from c.args.j c.taken_in-first.result.0
    c.taken_in-first.result.1)
    c.book.ensures c.taken_in-first.ensures in
    subst (λ l. Cuts c.args.course.now (gets f l) change.Memory (g.A.Access.actor c.args.access.now)
    (g.A.Access.actor c.fetch_all.new.access))
    (sources_are f.book c.args.course.now.from c.args.j c.args.p c.width_of-width.result c.taken_in-first.result.0
    c.taken_in-first.result.1 c.width_of-width.ensures.value t) (cut_after c.in_ok-parities.ensures.completes)
