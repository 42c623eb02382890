use Rattle.std.proofs.Common.{◌≡◌, ◌≤◌, ℕ, List, length, sym, ap, ◌∙◌, subst, arith, rules}
use Rattle.mf_erasure.specs.Erasure.{IsErasure}
use Rattle.mf_decode.specs.Decoding.{gaps_from}
use Rattle.mf_decode.proofs.Whole.{gaps_erasure}
use Rattle.tests_codes.proofs.decodings.decoded.Goals as goal

pub plan-requires-clause-erasure : goal.plan-requires-clause-erasure
plan-requires-clause-erasure c =
    let pieces = c.args.pieces.now in
    let spare = c.args.spare.now in
    let width = length pieces in
    let count = length c.args.points.now in
    let first : c.len.result ≡ length c.in_ok-erased.erased.items = search rules in
    let second : c.len-2.result ≡ length c.in_ok-had.had.items = search rules in
    let same : c.len.result ≡ c.len-2.result = search rules in
    let few : length spare ≤ count = c.requires.points.1 in
    let even : length (gaps_from 0 pieces) ≡ length (gaps_from 0 spare) = ap length (sym c.in_ok-erased.ensures)
    ∙ sym first ∙ same ∙ second ∙ ap length c.in_ok-had.ensures in
    subst (λ (l : List ℕ). IsErasure width count l c.as_slice-2.result.now)
    (sym (c.as_slice.ensures.value ∙ c.in_ok-erased.ensures))
    (subst (λ (l : List ℕ). IsErasure width count (gaps_from 0 pieces) l)
    (sym (c.as_slice-2.ensures.value ∙ c.in_ok-had.ensures))
    (gaps_erasure width count pieces spare (omega arith) few even))
