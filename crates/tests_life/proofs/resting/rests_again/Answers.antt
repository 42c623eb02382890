use Rattle.std.proofs.Common.{◌≡◌, ◌+◌, Bool, true, false, sym, refl, ap, ◌∙◌, arith}
use Rattle.mf_machine.specs.declared.view.View.{View}
use Rattle.mf_machine.specs.Steps.{begin_view, old_half, new_half, joined}
use Rattle.mf_machine.specs.Words.{whole_share}
use Rattle.mf_vault.specs.Actor as call
use Rattle.mf_vault.specs.Actor.{Actor}
use Rattle.mf_vault.specs.Answers.{Goes}
use Rattle.mf_vault.proofs.Doing.{facts_kept}
use Rattle.mf_shared.specs.Seats.{let_go, view_of}
use Rattle.mf_shared.proofs.Going.{share_stays}
use Rattle.tests_life.proofs.resting.rests_again.Goals as goal

begun_share : (b : Bool) (v : View) → (begin_view b v).share ≡ v.share
begun_share true v = refl
begun_share false v = refl

-- a half that took the right and is joined again
joined_again : {b : Bool} {old half gone into : View} {start begun : Actor} → (v : View) → v.share ≡ whole_share
    → old ≡ old_half v → half ≡ new_half v → start.view ≡ half → Goes (call.begin b) start begun
    → gone ≡ let_go begun.view → into ≡ joined old gone → into.share ≡ whole_share
joined_again {b = b} {old = old} {half = half} {gone = gone} {into = into} {start = start} {begun = begun} v
    whole left right at goes go both = let share = λ (w : View). w.share in
    let e₁ : old.share ≡ (old_half v).share = ap share left in
    let e₂ : half.share ≡ (new_half v).share = ap share right in
    let e₃ : start.view.share ≡ half.share = ap share at in
    let e₄ : begun.view.share ≡ start.view.share =
    ap (λ (a : Actor). a.view.share) goes.becomes ∙ begun_share b start.view in
    let e₅ : gone.share ≡ begun.view.share = ap share go ∙ share_stays begun.view in
    let e₆ : into.share ≡ old.share + gone.share = ap share both in omega arith

pub join-requires : goal.join-requires
join-requires g c = record {
  of = (
    c.split-second.ensures.of.0,
    c.finish-second.ensures.of c.in-Ok.shared
        (sym (facts_kept c.begin-won.ensures.goes ∙ ap (λ (a : Actor). a.facts) c.new-access.ensures)),
  );
}

pub into_plain-plain-requires-clause-last : goal.into_plain-plain-requires-clause-last
into_plain-plain-requires-clause-last g c =
    joined_again (view_of c.in-Ok.first) (ap (λ (v : View). v.share) c.in-Ok.ensures.made.view)
    c.split-second.ensures.old
    c.split-second.ensures.new (ap (λ (a : Actor). a.view) c.new-access.ensures) c.begin-won.ensures.goes
    c.finish-second.ensures.view c.join.ensures.both
