-- No call changes an actor's share.
use Rattle.std.proofs.Common.{◌≡◌, ℕ, ◌+◌, Bool, true, false, List, [], ◌∷◌, refl, ap, ◌∙◌}
use Rattle.mf_machine.specs.declared.answer.Closed.{Closed}
use Rattle.mf_machine.specs.declared.answer.Closed.TheVariants as closed
use Rattle.mf_machine.specs.declared.answer.Slot.{Slot}
use Rattle.mf_machine.specs.declared.answer.Slot.TheVariants.{Hold, Work}
use Rattle.mf_machine.specs.declared.answer.State.{State}
use Rattle.mf_machine.specs.declared.answer.State.TheVariants as state
use Rattle.mf_machine.specs.declared.view.View.{View}
use Rattle.mf_machine.specs.Steps as row
use Rattle.mf_vault.specs.declared.answers.Got.{Got}
use Rattle.mf_vault.specs.declared.answers.Got.TheVariants as got
use Rattle.mf_vault.specs.declared.answers.Pinned.{Pinned}
use Rattle.mf_vault.specs.declared.answers.Pinned.TheVariants.{At, Absent, Removed}
use Rattle.mf_vault.specs.Actor as call
use Rattle.mf_vault.specs.Actor.{Actor, Call, did, seen, tried, got_by, discarded, lost_by}
use Rattle.mf_vault.specs.Facts.{Facts}
use Rattle.mf_vault.specs.Licence.{Does, did_all}

pinned : (f : Facts) (slot : Slot) (gs : List ℕ) (p : Pinned) (v : View) → (tried f slot gs p v).share ≡ v.share
pinned f Hold [] (At g) v = refl
pinned f Work [] (At g) v = refl
pinned f slot [] Absent v = refl
pinned f slot [] Removed v = refl
pinned f slot (g ∷ gs) p v = pinned f slot gs p (row.missed g (row.looked (g + 1) v))

unpinned : (slot : Slot) (v : View) → (row.unpinned slot v).share ≡ v.share
unpinned Hold v = refl
unpinned Work v = refl

begun : (b : Bool) (v : View) → (row.begin_view b v).share ≡ v.share
begun true v = refl
begun false v = refl

probed : (s : State) (n : ℕ) (v : View) → (row.see_view s n v).share ≡ v.share
probed state.Unborn n v = refl
probed state.Here n v = refl
probed (state.Lost l) n v = refl
probed (state.Away s) n v = refl

shut : (c : Closed) (g : ℕ) (v : View) → (row.close_view c g v).share ≡ v.share
shut closed.Done g v = refl
shut (closed.Pins n) g v = refl
shut closed.Already g v = refl

dropped : (n : ℕ) (b : Bool) (v : View) → (discarded n b v).share ≡ v.share
dropped n true v = refl
dropped n false v = refl

had : (n : ℕ) (o : Got) (v : View) → (got_by n o v).share ≡ v.share
had n (got.Here c) v = refl
had n (got.Lost l) v = refl
had n (got.Away s) v = refl
had n got.Memory v = refl

lost : (n l : ℕ) (b : Bool) (v : View) → (lost_by n l b v).share ≡ v.share
lost n l true v = refl
lost n l false v = refl

one : (f : Facts) (c : Call) (v : View) → (seen f c v).share ≡ v.share
one f (call.cut_off s) v = refl
one f (call.pin slot gs p) v = pinned f slot gs p v
one f (call.unpin slot) v = unpinned slot v
one f (call.begin b) v = begun b v
one f call.end v = refl
one f (call.publish next) v = refl
one f (call.probe x s) v = probed s _ v
one f (call.put x) v = refl
one f (call.restore x) v = refl
one f (call.close g c) v = shut c g v
one f (call.discard x b) v = dropped _ b v
one f (call.get x o) v = had _ o v
one f (call.lose x l b) v = lost _ l b v

pub share_all : (cs : List Call) (a : Actor) → (did_all cs a).view.share ≡ a.view.share
share_all [] a = refl
share_all (c ∷ cs) a = share_all cs (did c a) ∙ one a.facts c a.view

pub share_kept : {cs : List Call} {a b : Actor} → Does cs a b → b.view.share ≡ a.view.share
share_kept {cs = cs} {a = a} d = ap (λ (z : Actor). z.view.share) d.becomes ∙ share_all cs a
