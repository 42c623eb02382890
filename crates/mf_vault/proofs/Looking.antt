-- The published numbers that an actor looks at never fall.
use Rattle.std.proofs.Common.{◌≡◌, ℕ, ◌+◌, ◌≤◌, true, false, List, [], ◌∷◌, ◌++◌, refl, sym, subst, arith}
use Rattle.mf_machine.specs.declared.answer.Closed.TheVariants as closing
use Rattle.mf_machine.specs.declared.answer.Slot.{Slot}
use Rattle.mf_machine.specs.declared.answer.Slot.TheVariants.{Hold, Work}
use Rattle.mf_machine.specs.declared.answer.State.TheVariants as state
use Rattle.mf_machine.specs.declared.view.View.{View}
use Rattle.mf_machine.specs.Steps as row
use Rattle.mf_vault.specs.declared.answers.Got.TheVariants as got
use Rattle.mf_vault.specs.declared.answers.Pinned.{Pinned}
use Rattle.mf_vault.specs.declared.answers.Pinned.TheVariants.{At, Absent, Removed}
use Rattle.mf_vault.specs.Actor.{Actor, Call, did, seen, tried}
use Rattle.mf_vault.specs.Actor as call
use Rattle.mf_vault.specs.Answers.{IsFair, LooksRise}
use Rattle.mf_vault.specs.Facts.{Facts}
use Rattle.mf_vault.specs.Gains.{looks, looks_of, looked_at, NeverFalls}
use Rattle.mf_vault.specs.Laws.{LooksNeverFall}
use Rattle.mf_vault.proofs.Growing.{pin_low}

-- the last number, or n where there is none
abbrev last : ℕ → List ℕ → ℕ
last n [] = n
last n (x ∷ xs) = last x xs

falls_on : (n : ℕ) (xs ys : List ℕ) → NeverFalls n xs → NeverFalls (last n xs) ys → NeverFalls n (xs ++ ys)
falls_on n [] ys a b = b
falls_on n (x ∷ xs) ys a b = (a.0, falls_on x xs ys a.1 b)

-- ---- a pin

pin_rises : (f : Facts) (gs : List ℕ) (p : Pinned) (v : View) → LooksRise f gs p v
    → NeverFalls v.seen.number (looked_at f gs p)
pin_rises f [] p v i = (pin_low f p v i, tt)
pin_rises f (g ∷ gs) p v i = (i.1, pin_rises f gs p (row.missed g (row.looked (g + 1) v)) i.2)

pin_ends : (f : Facts) (slot : Slot) (gs : List ℕ) (p : Pinned) (v : View)
    → (tried f slot gs p v).seen.number ≡ last v.seen.number (looked_at f gs p)
pin_ends f Hold [] (At g) v = refl
pin_ends f Work [] (At g) v = refl
pin_ends f slot [] Absent v = refl
pin_ends f slot [] Removed v = refl
pin_ends f slot (g ∷ gs) p v = pin_ends f slot gs p (row.missed g (row.looked (g + 1) v))

-- ---- one call of any kind

call_rises : (c : Call) (a : Actor) → IsFair c a → NeverFalls a.view.seen.number (looks a.facts c)
call_rises (call.pin slot gs p) a i = pin_rises a.facts gs p a.view i
call_rises (call.publish next) a i = (omega arith, tt)
call_rises c a i = tt

-- the number that was seen is then the last one
call_ends : (f : Facts) (c : Call) (v : View) → (seen f c v).seen.number ≡ last v.seen.number (looks f c)
call_ends f (call.pin slot gs p) v = pin_ends f slot gs p v
call_ends f (call.unpin Hold) v = refl
call_ends f (call.begin true) v = refl
call_ends f (call.probe x state.Unborn) v = refl
call_ends f (call.close g closing.Done) v = refl
call_ends f (call.discard x true) v = refl
call_ends f (call.get x (got.Here c)) v = refl
call_ends f (call.lose x l true) v = refl
call_ends f c v = refl

pub never_fall : LooksNeverFall
never_fall [] a b d = tt
never_fall (c ∷ cs) a b d = falls_on a.view.seen.number (looks a.facts c) (looks_of a.facts cs)
    (call_rises c a d.fair.0) (subst (λ n. NeverFalls n (looks_of a.facts cs)) (call_ends a.facts c a.view)
    (never_fall cs (did c a) b (record { becomes = d.becomes; fair = d.fair.1; told = d.told.1 })))
