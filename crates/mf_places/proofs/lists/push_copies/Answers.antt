use Rattle.std.proofs.Common.{◌++◌, ◌∷◌, [], ap, ◌∙◌, arith}
use Rattle.mf_places.specs.declared.Name.TheVariants as name
use Rattle.mf_places.proofs.Ranges.{run-push}
use Rattle.mf_places.proofs.lists.push_copies.Goals as goal

pub loop-i-preserved : goal.loop-i-preserved
loop-i-preserved c =
    c.in_ok-push.ensures.items ∙ ap (λ ys. ys ++ name.Copy c.args.c c.loop-i.i ∷ []) c.loop-i.invariant
    ∙ run-push (λ i. name.Copy c.args.c i) c.args.found.now.items c.args.from c.loop-i.i (omega arith)
