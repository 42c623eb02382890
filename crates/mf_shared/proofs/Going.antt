-- What stays of an actor that gives back its pins and the right.
use Rattle.std.proofs.Common.{◌≡◌, ◌==◌, Bool, true, false, cond, refl, ◌∙◌}
use Rattle.mf_machine.specs.declared.view.View.{View}
use Rattle.mf_machine.specs.declared.answer.Slot.TheVariants.{Hold, Work}
use Rattle.mf_machine.specs.Steps.{unpinned, ended}
use Rattle.mf_shared.specs.Seats.{let_go}

-- what neither a pin nor the right is part of
stays : {A : Type 0} → (part : View → A) (v : View) → ((w : View) → part (ended w) ≡ part w)
    → ((w : View) → part (unpinned Work (unpinned Hold w)) ≡ part w) → part (let_go v) ≡ part v
stays part v a b = each (v.build.right == 0)
  where
    each : (t : Bool) → part (cond t (unpinned Work (unpinned Hold v)) (ended (unpinned Work (unpinned Hold v))))
        ≡ part v
    each true = b v
    each false = a (unpinned Work (unpinned Hold v)) ∙ b v

pub share_stays : (v : View) → (let_go v).share ≡ v.share
share_stays v = stays (λ w. w.share) v (λ w. refl) (λ w. refl)

pub strays_stay : (v : View) → (let_go v).strays ≡ v.strays
strays_stay v = stays (λ w. w.strays) v (λ w. refl) (λ w. refl)

pub seen_stays : (v : View) → (let_go v).seen ≡ v.seen
seen_stays v = stays (λ w. w.seen) v (λ w. refl) (λ w. refl)

pub made_stays : (v : View) → (let_go v).made ≡ v.made
made_stays v = stays (λ w. w.made) v (λ w. refl) (λ w. refl)

pub own_stays : (v : View) → (let_go v).own ≡ v.own
own_stays v = stays (λ w. w.own) v (λ w. refl) (λ w. refl)

pub gone_stays : (v : View) → (let_go v).gone ≡ v.gone
gone_stays v = stays (λ w. w.gone) v (λ w. refl) (λ w. refl)
