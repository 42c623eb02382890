use Rattle.std.proofs.Common.{◌≡◌, ℕ, ◌+◌, List, ◌++◌, length, sym, ap, ap₂, ◌∙◌, subst}
use Rattle.std.proofs.lemmas.List.{length-append}
use Rattle.mf_code.proofs.Lists.{length-list_of}
use Rattle.mf_code.specs.Rows.{column}
use Rattle.mf_kernel.specs.Dots.{dot}
use Rattle.mf_matrix.specs.Matrix.{entry as entry_of}
use Rattle.mf_decode.specs.Decoding.{Plan, gaps_from}
use Rattle.mf_decode.specs.Columns.{row_entries, weights_from, present, decode_row}
use Rattle.mf_decode.specs.Plans.{IsPlan}
use Rattle.mf_decode.proofs.Decoded.{row_is_decoded, piece_bytes, plan_sizes}
use Rattle.mf_decode.proofs.Sources.{row_sum, length-weights}
use Rattle.mf_decode.proofs.rows.decode_row.Goals as goal

pub returns : goal.returns
returns c =
    let a = c.args in
    let m = c.plan.inside.inverse in
    let chosen = c.plan.inside.chosen.items in
    let plan = a.plan.now in
    let entries = row_entries m a.e in
    let made : IsPlan plan chosen m = subst (λ (p : Plan). IsPlan p chosen m) c.plan.view_is c.plan.invariant in
    let s = plan_sizes plan chosen m made in
    record {
      decodes = λ pieces parities count gaps many piece_all parity_all.
          let erased : gaps_from 0 pieces ≡ c.deref-2.result.now =
          gaps ∙ sym (ap (λ (p : Plan). p.erased) c.plan.view_is) ∙ sym c.deref-2.ensures.value in
          let row : c.push_left.new.row.items ≡ decode_row m chosen pieces a.e =
          c.in_ok-push_left.ensures pieces count erased
          ∙ ap₂ (λ (xs points : List ℕ). xs ++ weights_from entries points 0 pieces) c.in_ok-row.ensures
          c.deref.ensures.value in
          let wide : m.columns ≡ length parities = s.columns_are ∙ s.even ∙ sym many in
          let sources = parities ++ present pieces in (
            ap length row ∙ length-append entries (weights_from entries chosen 0 pieces)
                ∙ ap₂ (λ (x y : ℕ). x + y) (length-list_of m.columns (entry_of m a.e) ∙ wide)
                (length-weights entries chosen 0 pieces)
                ∙ sym (length-append parities (present pieces)),
            λ x.
                row_is_decoded plan chosen m pieces parities x a.e (dot c.push_left.new.row.items (column x sources))
                made gaps many (piece_bytes pieces piece_all) parity_all c.requires.place
                (ap (λ (r : List ℕ). dot r (column x sources)) row ∙ row_sum m chosen x a.e parities pieces wide),
          );
    }
