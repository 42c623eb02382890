use Rattle.std.proofs.Common.{◌+◌, ◌%◌, ◌++◌, ◌∷◌, [], sym, ◌∙◌, arith}
use Rattle.std.proofs.lemmas.List.FromFn.{map-range_with_len_more}
use Rattle.mf_script.proofs.contents.period.Goals as goal

pub loop-x-preserved : goal.loop-x-preserved
loop-x-preserved c =
    c.in_ok-push.ensures.items
    ∙ (λ i. c.loop-x.invariant i ++ (c.from.ensures i + c.from-in-loop-x.ensures i) % 251 ∷ [])
    ∙ sym (map-range_with_len_more (λ x. (x + c.args.start) % 251) 0 c.loop-x.x c.loop-x.x (omega arith))
