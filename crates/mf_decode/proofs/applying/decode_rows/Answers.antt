use Rattle.std.proofs.Common.{◌≡◌, ℕ, ◌+◌, List, ◌++◌, ◌∷◌, [], sym, ap, ap₂, ◌∙◌, arith}
use Rattle.std.specs.declared.vec.Vec.{Vec}
use Rattle.std.specs.declared.alloc.Global.{Global}
use Rattle.std.proofs.lemmas.List.{map_push}
use Rattle.std.proofs.lemmas.List.FromFn.{map-range_with_len_more}
use Rattle.mf_kernel.specs.Dots.{rows}
use Rattle.mf_decode.specs.Columns.{decode_row, weights_from, row_entries}
use Rattle.mf_decode.proofs.applying.decode_rows.Goals as goal

pub loop-e-preserved : goal.loop-e-preserved
loop-e-preserved c =
    let a = c.args in
    let e = c.loop-e.e in
    let f = decode_row a.inverse.now a.points.now a.pieces.now in
    let row : c.push_weights.new.row.items ≡ f e =
    c.in_ok-push_weights.ensures
    ∙ ap (λ (l : List ℕ). l ++ weights_from (row_entries a.inverse.now e) a.points.now 0 a.pieces.now)
    c.in_ok-row.ensures in
    ap rows c.in_ok-push.ensures.items
    ∙ map_push (λ (w : Vec ℕ Global). w.items) c.loop-e.lists.items c.push_weights.new.row
    ∙ ap₂ (λ (l : List (List ℕ)) (r : List ℕ). l ++ r ∷ []) c.loop-e.invariant row
    ∙ sym (map-range_with_len_more f 0 e e (let z : 0 + e ≡ e = omega arith in z))
