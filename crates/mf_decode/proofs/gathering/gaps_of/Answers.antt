use Rattle.std.proofs.Common.{◌≡◌, ℕ, ◌+◌, ◌<◌, List, ◌++◌, ◌∷◌, [], length, take, sym, ap, ◌∙◌, arith}
use Rattle.std.specs.Prelude.{not}
use Rattle.std.proofs.lemmas.List.{take_more, length-take-le}
use Rattle.mf_decode.specs.Decoding.{gaps_from}
use Rattle.mf_decode.proofs.Filling.{gaps_from-push-none, gaps_from-push-some}
use Rattle.mf_decode.proofs.gathering.gaps_of.Goals as goal
use Rattle.mf_decode.proofs.gathering.gaps_of.Goals.{then-is_none+in_ok-push, else-is_none}

pub loop-t-preserved : goal.loop-t-preserved
loop-t-preserved c =
    let found = c.args.found.now in
    let t = c.loop-t.t in
    let piece = c.index-found-t.result in
    let lt : t < length found = c.loop-t-test.true in
    let more : take (t + 1) found ≡ take t found ++ piece ∷ [] = take_more found t piece lt
    ∙ ap (λ o. take t found ++ o ∷ []) (sym c.index-found-t.is) in
    elim c.if-is_none.branch [
      | then-is_none+in_ok-push w ↦
          ap (λ v. v.items) w.erased-is ∙ w.in_ok-push.ensures.items
          ∙ ap (λ (l : List ℕ). l ++ t ∷ []) c.loop-t.invariant
          ∙ sym (gaps_from-push-none 0 t (take t found) piece (c.is_none.ensures ∙ ap not w.if-is_none.true)
          (let l = length-take-le t found (omega arith) in omega arith)) ∙ ap (gaps_from 0) (sym more)
      | else-is_none w ↦
          ap (λ v. v.items) w.erased-is ∙ c.loop-t.invariant
          ∙ sym (gaps_from-push-some 0 (take t found) piece (c.is_none.ensures ∙ ap not w.if-is_none.false))
          ∙ ap (gaps_from 0) (sym more)
    ]
