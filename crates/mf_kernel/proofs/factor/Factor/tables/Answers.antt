use Rattle.std.proofs.Common.{◌≡◌, ℕ, ◌+◌, ◌-◌, ◌*◌, ◌^◌, ◌++◌, get_or, map, refl, ap, ◌∙◌, arith}
use Rattle.std.specs.List.{range_with_len}
use Rattle.std.proofs.lemmas.List.{get_or_append_left, get_or-append_right}
use Rattle.std.proofs.lemmas.List.FromFn.{get_or-map-range_with_len}
use Rattle.mf_code.specs.Field.{times}
use Rattle.mf_kernel.proofs.factor.Factor.tables.Goals as goal

pub returns-clause-lower : goal.returns-clause-lower
returns-clause-lower c n ln =
    let low = c.self.inside.low in
    let high = c.self.inside.high in
    let pick = λ (j : ℕ). get_or (low ++ high) j 0 in
    get_or_append_left (map pick (range_with_len 0 16)) (map pick (range_with_len 48 16)) 0 n ln
    ∙ get_or-map-range_with_len pick 0 16 n n 0 ln (omega arith)
    ∙ get_or_append_left low high 0 n (omega (arith, c.self.invariant.0.long))
    ∙ ap (λ (k : ℕ). get_or low k 0) (let e : n ≡ 16 * 0 + n = omega arith in e)
    ∙ c.self.invariant.0.at 0 n (omega arith) ln
    ∙ ap (λ (v : ℕ). times v n) c.self.view_is

pub returns-clause-upper : goal.returns-clause-upper
returns-clause-upper c n ln =
    let low = c.self.inside.low in
    let high = c.self.inside.high in
    let pick = λ (j : ℕ). get_or (low ++ high) j 0 in
    get_or-append_right (map pick (range_with_len 0 16)) (map pick (range_with_len 48 16)) 16 (16 + n) 0 refl
    (omega arith)
    ∙ ap (λ (k : ℕ). get_or (map pick (range_with_len 48 16)) k 0) (let e : 16 + n - 16 ≡ n = omega arith in e)
    ∙ get_or-map-range_with_len pick 48 16 n (48 + n) 0 ln refl
    ∙ get_or-append_right low high 32 (48 + n) 0 c.self.invariant.0.long (omega arith)
    ∙ ap (λ (k : ℕ). get_or high k 0) (let e : 48 + n - 32 ≡ 16 * 1 + n = omega arith in e)
    ∙ c.self.invariant.1.at 1 n (omega arith) ln
    ∙ ap (λ (v : ℕ). times v (n * 2 ^ 4)) c.self.view_is
