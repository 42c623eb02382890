use Rattle.std.proofs.Common.{ℕ, [], length, sym, ap, ◌∙◌, arith}
use Rattle.std.proofs.lemmas.List.{length-map, get_or-map}
use Rattle.std.specs.declared.vec.Vec.{Vec}
use Rattle.std.specs.declared.alloc.Global.{Global}
use Rattle.mf_kernel.proofs.combining.push_sums.Goals as goal

pub push_three-requires-clause-second : goal.push_three-requires-clause-second
push_three-requires-clause-second c =
    let rows = c.args.rows.now in
    let row = c.index-rows-1-else-rows-eq2.result in
    let many = length-map rows (λ (v : Vec ℕ Global). v.items) in
    ap length c.deref-else-rows-eq2-2.ensures.value
    ∙ ap (λ (v : Vec ℕ Global). length v.items) c.index-rows-1-else-rows-eq2.is
    ∙ sym (ap length (get_or-map (λ (v : Vec ℕ Global). v.items) rows 1 row [] (omega arith)))
    ∙ c.requires.coefficients 1 [] (omega (arith, many))

pub push_three-requires-clause-third : goal.push_three-requires-clause-third
push_three-requires-clause-third c =
    let rows = c.args.rows.now in
    let row = c.index-rows-2.result in
    let many = length-map rows (λ (v : Vec ℕ Global). v.items) in
    ap length c.deref-else-rows-eq2-3.ensures.value
    ∙ ap (λ (v : Vec ℕ Global). length v.items) c.index-rows-2.is
    ∙ sym (ap length (get_or-map (λ (v : Vec ℕ Global). v.items) rows 2 row [] (omega arith)))
    ∙ c.requires.coefficients 2 [] (omega (arith, many))
