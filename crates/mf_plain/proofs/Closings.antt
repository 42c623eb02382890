-- The closes of a file without names.
use Rattle.std.proofs.Common.{◌≡◌, ℕ, ◌+◌, ◌<◌, List, [], ◌∷◌, refl, ap, ◌∙◌, inl, arith}
use Rattle.mf_machine.specs.declared.answer.Closed.{Closed}
use Rattle.mf_machine.specs.declared.answer.Closed.TheVariants.{Done, Pins, Already}
use Rattle.mf_machine.specs.declared.answer.Slot.TheVariants.{Hold}
use Rattle.mf_machine.specs.declared.view.View.{View}
use Rattle.mf_machine.specs.Steps as row
use Rattle.mf_places.specs.Names.{count_of}
use Rattle.mf_vault.specs.declared.answers.Pinned.TheVariants.{At}
use Rattle.mf_vault.specs.Facts.{Facts, stages}
use Rattle.mf_vault.specs.Actor.{Actor, pin, close, tried}
use Rattle.mf_vault.specs.Answers.{Goes}
use Rattle.mf_vault.specs.Licence.{IsBuilding}
use Rattle.mf_vault.specs.May.{MayPublish}

pub may_first : (a : Actor) → IsBuilding a 0 → count_of a.facts.book ≡ 0 → 0 < stages a.facts → MayPublish 1 a
may_first a b none some = (b.right, b.looked, (0, b.last, inl (refl, (omega arith), λ n below h. absurd (omega arith))))

row_right : (c : Closed) (g : ℕ) (v : View) → (row.close_view c g v).build.right ≡ v.build.right
row_right Done g v = refl
row_right (Pins n) g v = refl
row_right Already g v = refl

row_hold : (c : Closed) (g : ℕ) (v : View) → (row.close_view c g v).hold ≡ v.hold
row_hold Done g v = refl
row_hold (Pins n) g v = refl
row_hold Already g v = refl

pub close_right : {g : ℕ} {c : Closed} {a b : Actor} → Goes (close g c) a b → b.view.build.right ≡ a.view.build.right
close_right {g = g} {c = c} {a = a} x = ap (λ (z : Actor). z.view.build.right) x.becomes ∙ row_right c g a.view

pub close_hold : {g : ℕ} {c : Closed} {a b : Actor} → Goes (close g c) a b → b.view.hold ≡ a.view.hold
close_hold {g = g} {c = c} {a = a} x = ap (λ (z : Actor). z.view.hold) x.becomes ∙ row_hold c g a.view

tried_at : (f : Facts) (gs : List ℕ) (g : ℕ) (v : View) → (tried f Hold gs (At g) v).hold ≡ g + 1
tried_at f [] g v = refl
tried_at f (h ∷ gs) g v = tried_at f gs g (row.missed h (row.looked (h + 1) v))

pub hold_at : {gs : List ℕ} {g : ℕ} {a b : Actor} → Goes (pin Hold gs (At g)) a b → b.view.hold ≡ g + 1
hold_at {gs = gs} {g = g} {a = a} x = ap (λ (z : Actor). z.view.hold) x.becomes ∙ tried_at a.facts gs g a.view
