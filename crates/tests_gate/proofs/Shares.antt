-- A pass that was split, and whose halves were joined again.
use Rattle.std.proofs.Common.{◌≡◌, ℕ, ◌+◌, sym, ap, ◌∙◌, arith}
use Rattle.mf_machine.specs.declared.view.View.{View}
use Rattle.mf_machine.specs.Steps.{old_half, new_half}
use Rattle.mf_gate.specs.declared.gate.Gate.{Gate}
use Rattle.mf_gate.specs.declared.gate.Pass.{Pass}
use Rattle.mf_gate.specs.Passes.{view}
use Rattle.tests_gate.specs.Frames.{Frame, IsPlaced, Moves, placed}

pub placed_on : {h r : ℕ} {p p' : Pass} {g : Gate} → Moves h r p p' g → IsPlaced h r p' g
placed_on {h = h} {r = r} m = record {
  at = m.at;
  stands = m.stands ∙ ap (λ s. placed s h r) (sym (ap (λ (f : Frame). f.share) m.stands));
}

pub joined_again : (p old new first second whole : Pass) (g : Gate) → view old ≡ old_half (view p)
    → view new ≡ new_half (view p) → Moves 0 0 old first g → Moves 0 0 new second g → IsPlaced 0 0 whole g
    → (view whole).share ≡ (view first).share + (view second).share → Moves 0 0 p whole g
joined_again p old new first second whole g a b m n s both = let share = λ (f : Frame). f.share in
    let a' : (view old).share ≡ (old_half (view p)).share = ap (λ (v : View). v.share) a in
    let b' : (view new).share ≡ (new_half (view p)).share = ap (λ (v : View). v.share) b in
    let m' : (view first).share ≡ (view old).share = ap share m.stands in
    let n' : (view second).share ≡ (view new).share = ap share n.stands in
    let sum : (view whole).share ≡ (view p).share = omega arith in
    record { at = s.at; stands = s.stands ∙ ap (λ z. placed z 0 0) sum }

-- the same where only the new half was used meanwhile
pub rejoined : (p old new second whole : Pass) (g : Gate) → view old ≡ old_half (view p) → view new ≡ new_half (view p)
    → Moves 0 0 new second g → IsPlaced 0 0 whole g → (view whole).share ≡ (view old).share + (view second).share
    → Moves 0 0 p whole g
rejoined p old new second whole g a b n s both =
    let a' : (view old).share ≡ (old_half (view p)).share = ap (λ (v : View). v.share) a in
    let b' : (view new).share ≡ (new_half (view p)).share = ap (λ (v : View). v.share) b in
    let n' : (view second).share ≡ (view new).share = ap (λ (f : Frame). f.share) n.stands in
    let sum : (view whole).share ≡ (view p).share = omega arith in
    record { at = s.at; stands = s.stands ∙ ap (λ z. placed z 0 0) sum }
