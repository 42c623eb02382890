use Rattle.std.proofs.Common.{ℕ, ◌++◌, ◌∷◌, [], map, ap, sym, ◌∙◌, arith, append_assoc}
use Rattle.std.proofs.lemmas.List.FromFn.{map-range_with_len_more}
use Rattle.std.specs.List.{range_with_len}
use Rattle.mf_places.specs.declared.Name.TheVariants as name
use Rattle.mf_places.proofs.lists.push_parities.Goals as goal

pub loop-p-preserved : goal.loop-p-preserved
loop-p-preserved c =
    let f = λ (p : ℕ). name.Parity c.args.width c.args.stripe p in
    c.in_ok-push.ensures.items ∙ ap (λ ys. ys ++ f c.loop-p.p ∷ []) c.loop-p.invariant
    ∙ append_assoc c.args.found.now.items (map f (range_with_len 0 c.loop-p.p)) (f c.loop-p.p ∷ [])
    ∙ ap (λ ys. c.args.found.now.items ++ ys) (sym (map-range_with_len_more f 0 c.loop-p.p c.loop-p.p (omega arith)))
