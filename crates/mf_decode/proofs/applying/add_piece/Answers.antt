use Rattle.std.proofs.Common.{◌≡◌, ℕ, ◌+◌, ◌≤◌, List, length, get_or, Option, bit_xor, refl, sym, ap, ◌∙◌, subst}
use Rattle.std.specs.Prelude.{unwrap_or, IfSome}
use Rattle.std.specs.Option.{option_map}
use Rattle.std.specs.Int.Bits.{xor_zero_r}
use Rattle.mf_code.specs.Field.{times}
use Rattle.mf_field.proofs.FieldLaws.{times-zero}
use Rattle.mf_decode.proofs.Blocks.{added_at}
use Rattle.mf_decode.proofs.applying.add_piece.Goals as goal

pub returns-in-Some-clause-sum : goal.returns-in-Some-clause-sum
returns-in-Some-clause-sum c = λ x lt.
    let a = c.args in
    let chunk = c.in-Some.chunk in
    let bytes = c.bytes-bytes.result.now in
    let same : bytes ≡ chunk = c.bytes-bytes.ensures.same in
    let at_chunk : a.start + length a.out.now
    ≤ length chunk = subst (λ (o : Option (List ℕ)). IfSome o (λ l. a.start + length a.out.now ≤ length l))
    c.in-Some.is c.requires in
    let long : a.start + length a.out.now
    ≤ length bytes = subst (λ (l : List ℕ). a.start + length a.out.now ≤ length l) (sym same) at_chunk in
    ap (λ (l : List ℕ). get_or l x 0) c.add_scaled.ensures
    ∙ added_at a.out.now bytes a.factor a.start (a.start + length a.out.now) x refl long lt
    ∙ ap (λ (v : ℕ). bit_xor (get_or a.out.now x 0) (times a.factor v))
    (ap (λ (l : List ℕ). get_or l (a.start + x) 0) same
    ∙ sym (ap (λ (o : Option (List ℕ)). unwrap_or (option_map (λ l. get_or l (a.start + x) 0) o) 0) c.in-Some.is))

pub returns-in_default-clause-sum : goal.returns-in_default-clause-sum
returns-in_default-clause-sum c = λ x lt.
    let a = c.args in
    sym (xor_zero_r (get_or a.out.now x 0))
    ∙ ap (bit_xor (get_or a.out.now x 0))
    (sym (ap (λ (o : Option (List ℕ)). times a.factor (unwrap_or (option_map (λ l. get_or l (a.start + x) 0) o) 0))
    c.in_default.is ∙ times-zero a.factor))
