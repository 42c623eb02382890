use Rattle.std.proofs.Common.{◌≡◌, ℕ, [], length, ap, ◌∙◌, arith}
use Rattle.std.proofs.lemmas.List.{get_or_default, length-take}
use Rattle.mf_code.specs.Rows.{list_of}
use Rattle.mf_kernel.proofs.Fronts.{list_of-block}
use Rattle.mf_merge.specs.Merged.{first_length, merged_byte}
use Rattle.mf_merge.proofs.Merging.{merged_list}
use Rattle.mf_merge.proofs.merge.Goals as goal

pub loop-start-preserved : goal.loop-start-preserved
loop-start-preserved c =
    let a = c.args in (
      omega arith,
      list_of-block (merged_byte a.point a.width a.parities.now) c.loop-start.start c.min-count.result _
          c.loop-start.merged.items c.extend_from_slice.new.self.items c.merge_block.new.out _
          (omega (arith, c.min-count.array_long, length-take c.min-count.result c.loop-start.block))
          c.loop-start.invariant.1 c.merge_block.ensures c.in_ok-extend_from_slice.ensures.items,
    )

pub returns-clause-of_file : goal.returns-clause-of_file
returns-clause-of_file c = λ size file factor j bytes are.
    let a = c.args in
    let f = merged_byte a.point a.width a.parities.now in
    let sized : length c.bytes-size.result.now ≡ first_length a.parities.now =
    ap length (c.bytes-size.ensures.same ∙ c.index-parities-0.is
    ∙ get_or_default a.parities.now 0 c.index-parities-0.result [] (omega arith)) in
    let all : c.loop-start.start ≡ first_length a.parities.now = omega arith in
    c.loop-start.invariant.1 ∙ ap (λ (n : ℕ). list_of n f) all
    ∙ merged_list size file a.point a.width factor j c.ranges.point.fits bytes (omega arith) a.parities.now are
    (omega arith)
