use Rattle.std.proofs.Common.{◌∙◌, ℕ, get_or, bit_xor, refl, sym, ap, arith}
use Rattle.std.specs.Int.Bits.{xor_zero_r}
use Rattle.std.proofs.lemmas.Simd.{get_or-zip2}
use Rattle.mf_code.specs.Field.{times}
use Rattle.mf_field.proofs.FieldLaws.{zero-times, one-times}
use Rattle.mf_kernel.proofs.Zips.{zip2_from_places}
use Rattle.mf_kernel.proofs.kernels.add_scaled.Goals as goal

pub returns-in-0 : goal.returns-in-0
returns-in-0 c =
    let a = c.args in
    zip2_from_places (λ y x. bit_xor y (times a.c x)) a.dst.now a.src.now a.dst.now refl c.requires
    (λ k lt.
    sym (xor_zero_r (get_or a.dst.now k 0))
    ∙ ap (bit_xor (get_or a.dst.now k 0))
    (sym (ap (λ (f : ℕ). times f (get_or a.src.now k 0)) c.in-0.is ∙ zero-times (get_or a.src.now k 0))))

pub returns-in-1 : goal.returns-in-1
returns-in-1 c =
    let a = c.args in
    zip2_from_places (λ y x. bit_xor y (times a.c x)) a.dst.now a.src.now c.add_into.new.dst (omega arith) c.requires
    (λ k lt.
    ap (λ l. get_or l k 0) c.add_into.ensures
    ∙ get_or-zip2 bit_xor a.dst.now a.src.now k 0 0 0 (omega arith) (omega arith)
    ∙ ap (bit_xor (get_or a.dst.now k 0))
    (sym (ap (λ (f : ℕ). times f (get_or a.src.now k 0)) c.in-1.is
    ∙ one-times (get_or a.src.now k 0) (c.type_inv.src k).fits)))
