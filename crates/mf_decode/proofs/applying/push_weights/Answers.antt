use Rattle.std.proofs.Common.{◌≡◌, ℕ, ◌+◌, ◌<◌, List, ◌++◌, ◌∷◌, [], length, take, sym, ap, ◌∙◌, arith, append_assoc}
use Rattle.std.proofs.lemmas.List.{take_more, length-take-le}
use Rattle.mf_decode.specs.Columns.{weights_from, row_entries}
use Rattle.mf_decode.proofs.Sources.{weights-push-some, weights-push-none}
use Rattle.mf_decode.proofs.applying.push_weights.Goals as goal
use Rattle.mf_decode.proofs.applying.push_weights.Goals.{then-is_some+in_ok-push, else-is_some}

pub loop-t-preserved : goal.loop-t-preserved
loop-t-preserved c =
    let a = c.args in
    let pieces = a.pieces.now in
    let t = c.loop-t.t in
    let piece = c.index-pieces-t.result in
    let row = row_entries a.inverse.now a.e in
    let lt : t < length pieces = c.loop-t-test.true in
    let more : take (t + 1) pieces ≡ take t pieces ++ piece ∷ [] = take_more pieces t piece lt
    ∙ ap (λ o. take t pieces ++ o ∷ []) (sym c.index-pieces-t.is) in
    let long : 0 + length (take t pieces) ≡ t = (let l = length-take-le t pieces (omega arith) in omega arith) in
    elim c.if-is_some.branch [
      | then-is_some+in_ok-push w ↦
          ap (λ v. v.items) w.row-is ∙ w.in_ok-push.ensures.items
          ∙ ap (λ (l : List ℕ). l ++ w.weight.result ∷ []) c.loop-t.invariant
          ∙ append_assoc a.row.now.items (weights_from row a.points.now 0 (take t pieces)) (w.weight.result ∷ [])
          ∙ ap (λ (l : List ℕ). a.row.now.items ++ l)
          (ap (λ (n : ℕ). weights_from row a.points.now 0 (take t pieces) ++ n ∷ []) w.weight.ensures
          ∙ sym (weights-push-some row a.points.now 0 t (take t pieces) piece
          (sym c.is_some.ensures ∙ w.if-is_some.true) long)
          ∙ ap (weights_from row a.points.now 0) (sym more))
      | else-is_some w ↦
          ap (λ v. v.items) w.row-is ∙ c.loop-t.invariant
          ∙ ap (λ (l : List ℕ). a.row.now.items ++ l)
          (sym (weights-push-none row a.points.now 0 (take t pieces) piece (sym c.is_some.ensures ∙ w.if-is_some.false))
          ∙ ap (weights_from row a.points.now 0) (sym more))
    ]
