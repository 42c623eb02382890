use Rattle.std.proofs.Common.{◌≡◌, ℕ, ◌+◌, ◌<◌, List, ◌++◌, ◌∷◌, [], All, Option, length, take, sym, ap, ◌∙◌}
use Rattle.std.proofs.Common.{append_assoc}
use Rattle.std.specs.Prelude.{IfSome}
use Rattle.std.proofs.lemmas.List.{take_more}
use Rattle.mf_decode.specs.Columns.{present}
use Rattle.mf_decode.proofs.Blocks.{one_more}
use Rattle.mf_decode.proofs.Sources.{present-append}
use Rattle.mf_decode.proofs.applying.sources_of.Goals as goal

pub loop-piece-preserved : goal.loop-piece-preserved
loop-piece-preserved c =
    let pieces = c.args.pieces.now in
    let t = c.loop-piece.piece-index in
    let piece = c.piece-item.result in
    let lt : t < length pieces = c.loop-piece-test.true in
    let more : take (t + 1) pieces ≡ take t pieces ++ piece ∷ [] = take_more pieces t piece lt
    ∙ ap (λ o. take t pieces ++ o ∷ []) (sym c.piece-item.is) in
    record {
      shared = c.in_ok-push_present.ensures.items
          ∙ ap (λ (l : List (List ℕ)). l ++ present (piece ∷ [])) c.loop-piece.invariant.shared
          ∙ append_assoc c.args.parities.now (present (take t pieces)) (present (piece ∷ []))
          ∙ ap (λ (l : List (List ℕ)). c.args.parities.now ++ l)
          (sym (present-append (take t pieces) (piece ∷ [])) ∙ ap present (sym more));
      bytes = one_more (λ (o : Option (List ℕ)). IfSome o (λ chunk. All (λ b. b < 256) chunk)) t pieces piece lt
          c.piece-item.is c.in_ok-push_present.ensures.bytes c.loop-piece.invariant.bytes;
    }
