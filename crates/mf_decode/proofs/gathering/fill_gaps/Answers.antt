use Rattle.std.proofs.Common.{◌≡◌, ℕ, ◌+◌, ◌<◌, List, ◌++◌, ◌∷◌, [], All, Option, length, get_or, take, sym, ap, ◌∙◌}
use Rattle.std.proofs.Common.{subst, arith}
use Rattle.std.specs.Prelude.{IfSome, unwrap_or}
use Rattle.std.proofs.lemmas.List.{take_more, length_push, length-take-le, get_or_default}
use Rattle.mf_decode.specs.Decoding.{gaps_from, filled}
use Rattle.mf_decode.proofs.Blocks.{one_more}
use Rattle.mf_decode.proofs.Filling.{filled-push, gaps_from-some, gaps_from-none, gaps_before}
use Rattle.mf_decode.proofs.gathering.fill_gaps.Goals as goal
use Rattle.mf_decode.proofs.gathering.fill_gaps.Goals.{in-Some+in_ok-shared-in-Some+in_ok-push-in-Some}
use Rattle.mf_decode.proofs.gathering.fill_gaps.Goals.{in-None+in_ok-shared-in-None+in_ok-push-in-None}

pub offset_bounds-fillings-gaps : goal.offset_bounds-fillings-gaps
offset_bounds-fillings-gaps c =
    let before = gaps_before 0 c.args.found.now c.loop-piece.piece-index c.piece-item.result c.loop-piece-test.true
    c.piece-item.is c.in-None.is in
    let bound : c.loop-piece.gaps
    < length c.args.fillings.now = omega (arith, c.loop-piece.invariant.gaps_so_far, c.requires) in
    record { fits = omega arith }

pub bounds-fillings-gaps : goal.bounds-fillings-gaps
bounds-fillings-gaps c =
    let before = gaps_before 0 c.args.found.now c.loop-piece.piece-index c.piece-item.result c.loop-piece-test.true
    c.piece-item.is c.in-None.is in
    omega (arith, c.loop-piece.invariant.gaps_so_far, c.requires)

pub overflow_add-gaps : goal.overflow_add-gaps
overflow_add-gaps c =
    let before = gaps_before 0 c.args.found.now c.loop-piece.piece-index c.piece-item.result c.loop-piece-test.true
    c.piece-item.is c.in-None.is in
    let bound : c.loop-piece.gaps
    < length c.args.fillings.now = omega (arith, c.loop-piece.invariant.gaps_so_far, c.requires) in
    record { fits = omega arith }

pub loop-piece-preserved : goal.loop-piece-preserved
loop-piece-preserved c =
    let found = c.args.found.now in
    let ks = c.args.fillings.now in
    let t = c.loop-piece.piece-index in
    let piece = c.piece-item.result in
    let lt : t < length found = c.loop-piece-test.true in
    let seen = take t found in
    let long : length seen ≡ t = length-take-le t found (omega arith) in
    let more : take (t + 1) found ≡ seen ++ piece ∷ [] = take_more found t piece lt
    ∙ ap (λ (o : Option (List ℕ)). seen ++ o ∷ []) (sym c.piece-item.is) in
    let v = c.loop-piece.invariant in
    elim c.match-piece.branch [
      | in-Some+in_ok-shared-in-Some+in_ok-push-in-Some w ↦
          let chunk = w.in-Some.chunk in
          record {
            filled_so_far = ap (λ a. a.items) w.all-is ∙ w.in_ok-push-in-Some.ensures.items
                ∙ ap (λ (l : List (List ℕ)). l ++ w.in_ok-shared-in-Some.field-0 ∷ []) v.filled_so_far
                ∙ ap (λ (x : List ℕ). filled [] seen ks ++ x ∷ []) w.in_ok-shared-in-Some.ensures.same
                ∙ ap (λ (o : Option (List ℕ)). filled [] seen ks
                ++ unwrap_or o (get_or ks (length (gaps_from 0 seen)) []) ∷ []) (sym w.in-Some.is)
                ∙ sym (filled-push [] 0 seen piece ks) ∙ ap (λ (l : List (Option (List ℕ))). filled [] l ks) (sym more);
            gaps_so_far = w.gaps-is ∙ v.gaps_so_far ∙ ap length (sym (gaps_from-some 0 seen chunk))
                ∙ ap (λ (o : Option (List ℕ)). length (gaps_from 0 (seen ++ o ∷ []))) (sym w.in-Some.is)
                ∙ ap (λ (l : List (Option (List ℕ))). length (gaps_from 0 l)) (sym more);
            bytes = one_more (λ (o : Option (List ℕ)). IfSome o (λ l. All (λ b. b < 256) l)) t found piece lt
                c.piece-item.is
                (subst (λ (o : Option (List ℕ)). IfSome o (λ l. All (λ b. b < 256) l)) (sym w.in-Some.is)
                w.in_ok-shared-in-Some.ensures.bytes) v.bytes;
          }
      | in-None+in_ok-shared-in-None+in_ok-push-in-None w ↦
          let before = gaps_before 0 found t piece lt c.piece-item.is w.in-None.is in
          let bound : c.loop-piece.gaps < length ks = omega (arith, v.gaps_so_far, c.requires) in
          record {
            filled_so_far = ap (λ a. a.items) w.all-is ∙ w.in_ok-push-in-None.ensures.items
                ∙ ap (λ (l : List (List ℕ)). l ++ w.in_ok-shared-in-None.field-0 ∷ []) v.filled_so_far
                ∙ ap (λ (x : List ℕ). filled [] seen ks ++ x ∷ [])
                (w.in_ok-shared-in-None.ensures.same ∙ w.index-fillings-gaps.is
                ∙ get_or_default ks c.loop-piece.gaps w.index-fillings-gaps.result [] bound
                ∙ ap (λ (n : ℕ). get_or ks n []) v.gaps_so_far)
                ∙ ap (λ (o : Option (List ℕ)). filled [] seen ks
                ++ unwrap_or o (get_or ks (length (gaps_from 0 seen)) []) ∷ []) (sym w.in-None.is)
                ∙ sym (filled-push [] 0 seen piece ks) ∙ ap (λ (l : List (Option (List ℕ))). filled [] l ks) (sym more);
            gaps_so_far = w.gaps-is ∙ ap (λ (n : ℕ). n + 1) v.gaps_so_far
                ∙ sym (length_push (gaps_from 0 seen) (length seen))
                ∙ ap length (sym (gaps_from-none 0 (length seen) seen (omega arith)))
                ∙ ap (λ (o : Option (List ℕ)). length (gaps_from 0 (seen ++ o ∷ []))) (sym w.in-None.is)
                ∙ ap (λ (l : List (Option (List ℕ))). length (gaps_from 0 l)) (sym more);
            bytes = one_more (λ (o : Option (List ℕ)). IfSome o (λ l. All (λ b. b < 256) l)) t found piece lt
                c.piece-item.is
                (subst (λ (o : Option (List ℕ)). IfSome o (λ l. All (λ b. b < 256) l)) (sym w.in-None.is) tt) v.bytes;
          }
    ]
