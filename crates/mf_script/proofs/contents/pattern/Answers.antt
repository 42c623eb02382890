use Rattle.std.proofs.Common.{◌≡◌, ◌+◌, ◌*◌, ◌%◌, ◌≤◌, ◌++◌, take, ap, ap₂, ◌∙◌, arith}
use Rattle.mf_script.specs.Contents.{pattern_bytes}
use Rattle.mf_script.proofs.Periods.{periods, front}
use Rattle.mf_script.proofs.contents.pattern.Goals as goal

pub loop-k-preserved : goal.loop-k-preserved
loop-k-preserved c =
    let e : c.loop-k._k * 251 + 251 ≡ (c.loop-k._k + 1) * 251 = omega arith in
    c.in_ok-extend_from_slice.ensures.items
    ∙ ap₂ (λ a b. a ++ b) c.loop-k.invariant (c.deref.ensures.value ∙ c.in_ok-period.ensures)
    ∙ periods c.loop-k._k 251 c.args.start
    ∙ ap (λ n. pattern_bytes n c.args.start) e

pub returns : goal.returns
returns c =
    let e : c.loop-k._k * 251 + c.args.length % 251 ≡ c.args.length = omega arith in
    let within : c.args.length % 251 ≤ 251 = omega arith in
    c.in_ok-extend_from_slice-2.ensures.items
    ∙ ap₂ (λ a b. a ++ take (c.args.length % 251) b) c.loop-k.invariant
    (c.deref-2.ensures.value ∙ c.in_ok-period.ensures)
    ∙ ap (λ b. pattern_bytes (c.loop-k._k * 251) c.args.start ++ b) (front (c.args.length % 251) c.args.start within)
    ∙ periods c.loop-k._k (c.args.length % 251) c.args.start
    ∙ ap (λ n. pattern_bytes n c.args.start) e
