use Rattle.std.proofs.Common.{◌≡◌, ℕ, ◌+◌, ◌<◌, List, Option, None, ◌++◌, ◌∷◌, [], length, take, get_or, sym, ap}
use Rattle.std.proofs.Common.{◌∙◌, arith, append_assoc, append-nil}
use Rattle.std.proofs.lemmas.List.{take_more, take_all, length-take-le, length_push}
use Rattle.mf_decode.specs.Decoding.{gaps_from}
use Rattle.mf_decode.specs.Columns.{row_entries, weights_from}
use Rattle.mf_decode.proofs.Filling.{gaps_from-push-none, gaps_from-push-some}
use Rattle.mf_decode.proofs.Places.{gap_met, piece_met}
use Rattle.mf_decode.proofs.Sources.{weights-push-some, weights-push-none}
use Rattle.mf_decode.proofs.rows.push_left.Goals as goal
use Rattle.mf_decode.proofs.rows.push_left.Goals.{then-is_at, else-is_at+in_ok-push}

pub loop-t-init : goal.loop-t-init
loop-t-init c = (omega arith, λ pieces long gaps. (omega arith, sym (append-nil c.args.row.now.items)))

pub loop-t-preserved : goal.loop-t-preserved
loop-t-preserved c =
    let a = c.args in
    let t = c.loop-t.t in
    let row = row_entries a.inverse.now a.e in
    let points = a.points.now in
    let old = c.loop-t.invariant in
    elim c.if-is_at.branch [
      | then-is_at w ↦
          let (below, here) = w.if-is_at.ensures.yes in (
            omega (arith, below, w.next-is),
            λ pieces long gaps.
                let so_far = old.1 pieces long gaps in
                let lt : t < length pieces = omega arith in
                let none = gap_met pieces a.erased.now t c.loop-t.next lt gaps so_far.0 below here in
                let more : take (t + 1) pieces ≡ take t pieces ++ get_or pieces t None ∷ [] =
                take_more pieces t None lt in
                let place : 0 + length (take t pieces) ≡ t = (let l = length-take-le t pieces (omega arith) in omega arith)
                in
                let gap : gaps_from 0 (take (t + 1) pieces) ≡ gaps_from 0 (take t pieces) ++ t ∷ [] =
                ap (gaps_from 0) more ∙ gaps_from-push-none 0 t (take t pieces) (get_or pieces t None) none place in (
                  omega (arith, w.next-is, so_far.0, ap length gap, length_push (gaps_from 0 (take t pieces)) t),
                  ap (λ v. v.items) w.row-is ∙ so_far.1
                      ∙ ap (λ (l : List ℕ). a.row.now.items ++ l)
                      (sym (weights-push-none row points 0 (take t pieces) (get_or pieces t None) none)
                      ∙ ap (weights_from row points 0) (sym more)),
                ),
          )
      | else-is_at+in_ok-push w ↦ (
        omega (arith, old.0, w.next-is),
        λ pieces long gaps.
            let so_far = old.1 pieces long gaps in
            let lt : t < length pieces = omega arith in
            let some = piece_met pieces a.erased.now t c.loop-t.next lt gaps so_far.0 w.if-is_at.ensures.no in
            let more : take (t + 1) pieces ≡ take t pieces ++ get_or pieces t None ∷ [] = take_more pieces t None lt in
            let place : 0 + length (take t pieces) ≡ t = (let l = length-take-le t pieces (omega arith) in omega arith)
            in
            let gap : gaps_from 0 (take (t + 1) pieces) ≡ gaps_from 0 (take t pieces) =
            ap (gaps_from 0) more ∙ gaps_from-push-some 0 (take t pieces) (get_or pieces t None) some in (
              omega (arith, w.next-is, so_far.0, ap length gap),
              ap (λ v. v.items) w.row-is ∙ w.in_ok-push.ensures.items
                  ∙ ap (λ (l : List ℕ). l ++ w.weight.result ∷ []) so_far.1
                  ∙ append_assoc a.row.now.items (weights_from row points 0 (take t pieces)) (w.weight.result ∷ [])
                  ∙ ap (λ (l : List ℕ). a.row.now.items ++ l)
                  (ap (λ (n : ℕ). weights_from row points 0 (take t pieces) ++ n ∷ []) w.weight.ensures
                  ∙ sym (weights-push-some row points 0 t (take t pieces) (get_or pieces t None) some place)
                  ∙ ap (weights_from row points 0) (sym more)),
            ),
      )
    ]

pub returns : goal.returns
returns c = λ pieces long gaps.
    (c.loop-t.invariant.1 pieces long gaps).1
    ∙ ap (λ (l : List (Option (List ℕ))). c.args.row.now.items
    ++ weights_from (row_entries c.args.inverse.now c.args.e) c.args.points.now 0 l)
    (take_all c.loop-t.t pieces (omega arith))
