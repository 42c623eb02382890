-- What calls add to Made and Met.
use Rattle.std.proofs.Common.{◌≡◌, ℕ, ◌+◌, ◌≤◌, true, false, List, [], ◌∷◌, ◌++◌, sym, refl, ap}
use Rattle.std.proofs.Common.{◌∙◌, subst, arith}
use mathlib.Core.Logic.{dite}
use native.Mathlib.Decide.{ℕ_discrete}
use Rattle.mf_machine.specs.declared.answer.Closed.TheVariants as closing
use Rattle.mf_machine.specs.declared.answer.Slot.{Slot}
use Rattle.mf_machine.specs.declared.answer.Slot.TheVariants.{Hold, Work}
use Rattle.mf_machine.specs.declared.answer.State.TheVariants as state
use Rattle.mf_machine.specs.declared.view.Made.{Made}
use Rattle.mf_machine.specs.declared.view.View.{View}
use Rattle.mf_machine.specs.Actors.{IsFreeSlot}
use Rattle.mf_machine.specs.Answers as said
use Rattle.mf_machine.specs.Answers.{Answer, often}
use Rattle.mf_machine.specs.Counts.{bit, times, losses}
use Rattle.mf_machine.specs.Steps as row
use Rattle.mf_vault.specs.declared.answers.Entry.{Entry}
use Rattle.mf_vault.specs.declared.answers.Got.TheVariants as got
use Rattle.mf_vault.specs.declared.answers.Pinned.{Pinned}
use Rattle.mf_vault.specs.declared.answers.Pinned.TheVariants.{At, Absent, Removed}
use Rattle.mf_vault.specs.Actor.{Actor, Call, did, seen, tried, entry_of}
use Rattle.mf_vault.specs.Actor as call
use Rattle.mf_vault.specs.Facts.{Facts}
use Rattle.mf_vault.specs.Gains.{tells, tells_loss, tells_pins, sum_told, pins_met, beside, publishes, sum_calls}
use Rattle.mf_vault.specs.Gains.{MadeGains, MetGains, IsWhole, LeaveWork, opens}
use Rattle.mf_vault.specs.Laws.{EntriesTell, PinsAreLooked, WorkStaysFree}
use Rattle.mf_vault.specs.Licence.{did_all, entries_of}
use Rattle.mf_machine.proofs.Lists.{bit_is, bit_not, bit_le}
use Rattle.mf_vault.proofs.Growing.{tried_made}

-- sums over entries
pub told_append : (h : Entry → ℕ) (xs ys : List Entry) → sum_told h (xs ++ ys) ≡ sum_told h xs + sum_told h ys
told_append h [] ys = omega arith
told_append h (x ∷ xs) ys = let r = told_append h xs ys in omega arith

-- ---- one call: a pin

pin_met : (f : Facts) (slot : Slot) (gs : List ℕ) (p : Pinned) (v : View) (a : Answer)
    → often a (tried f slot gs p v).own ≡ often a v.own + beside f a (call.pin slot gs p)
pin_met f Hold [] (At g) v (said.number n) = omega arith
pin_met f Work [] (At g) v (said.number n) = omega arith
pin_met f slot [] Absent v (said.number n) = omega arith
pin_met f slot [] Removed v (said.number n) = omega arith
pin_met f Hold [] (At g) v (said.opened h) = omega arith
pin_met f Work [] (At g) v (said.opened h) = omega arith
pin_met f Hold [] (At g) v a = omega arith
pin_met f Work [] (At g) v a = omega arith
pin_met f slot [] Absent v a = omega arith
pin_met f slot [] Removed v a = omega arith
pin_met f slot (g ∷ gs) p v (said.number n) =
    let r = pin_met f slot gs p (row.missed g (row.looked (g + 1) v)) (said.number n) in omega arith
pin_met f slot (g ∷ gs) p v (said.missed h) =
    let r = pin_met f slot gs p (row.missed g (row.looked (g + 1) v)) (said.missed h) in omega arith
pin_met f slot (g ∷ gs) p v (said.opened h) =
    let r = pin_met f slot gs p (row.missed g (row.looked (g + 1) v)) (said.opened h) in omega arith
pin_met f slot (g ∷ gs) p v a =
    let r = pin_met f slot gs p (row.missed g (row.looked (g + 1) v)) a in omega arith

pin_lost : (f : Facts) (slot : Slot) (gs : List ℕ) (p : Pinned) (v : View)
    → (tried f slot gs p v).own.made_lost ≡ v.own.made_lost
pin_lost f Hold [] (At g) v = refl
pin_lost f Work [] (At g) v = refl
pin_lost f slot [] Absent v = refl
pin_lost f slot [] Removed v = refl
pin_lost f slot (g ∷ gs) p v = pin_lost f slot gs p (row.missed g (row.looked (g + 1) v))

pin_pinned : (f : Facts) (slot : Slot) (gs : List ℕ) (p : Pinned) (v : View)
    → (tried f slot gs p v).own.pinned ≡ v.own.pinned
pin_pinned f Hold [] (At g) v = refl
pin_pinned f Work [] (At g) v = refl
pin_pinned f slot [] Absent v = refl
pin_pinned f slot [] Removed v = refl
pin_pinned f slot (g ∷ gs) p v = pin_pinned f slot gs p (row.missed g (row.looked (g + 1) v))

pin_gone : (f : Facts) (slot : Slot) (gs : List ℕ) (p : Pinned) (v : View) → (tried f slot gs p v).gone ≡ v.gone
pin_gone f Hold [] (At g) v = refl
pin_gone f Work [] (At g) v = refl
pin_gone f slot [] Absent v = refl
pin_gone f slot [] Removed v = refl
pin_gone f slot (g ∷ gs) p v = pin_gone f slot gs p (row.missed g (row.looked (g + 1) v))

-- ---- one call of any kind

-- what it adds to the own Met
call_met : (f : Facts) (c : Call) (v : View) (a : Answer) → IsWhole a
    → often a (seen f c v).own ≡ often a v.own + (sum_told (tells f a) (entry_of c) + beside f a c)
call_met f (call.pin slot gs p) v a w = let r = pin_met f slot gs p v a in omega arith
call_met f (call.cut_off s) v (said.number n) w = omega arith
call_met f (call.cut_off s) v a w = omega arith
call_met f (call.unpin Hold) v (said.number n) w = omega arith
call_met f (call.unpin Hold) v a w = omega arith
call_met f (call.unpin Work) v (said.number n) w = omega arith
call_met f (call.unpin Work) v a w = omega arith
call_met f call.end v (said.number n) w = omega arith
call_met f call.end v a w = omega arith
call_met f (call.begin true) v said.begun w = omega arith
call_met f (call.begin true) v a w = omega arith
call_met f (call.begin false) v said.refused w = omega arith
call_met f (call.begin false) v a w = omega arith
call_met f (call.publish next) v (said.number n) w = omega arith
call_met f (call.publish next) v a w = omega arith
call_met f (call.probe x state.Unborn) v (said.unborn n) w = omega arith
call_met f (call.probe x state.Unborn) v a w = omega arith
call_met f (call.probe x state.Here) v (said.here n) w = omega arith
call_met f (call.probe x state.Here) v a w = omega arith
call_met f (call.probe x (state.Lost l)) v (said.lost n k) w = omega arith
call_met f (call.probe x (state.Lost l)) v a w = omega arith
call_met f (call.probe x (state.Away s)) v (said.number n) w = omega arith
call_met f (call.probe x (state.Away s)) v a w = omega arith
call_met f (call.put x) v (said.put n) w = omega arith
call_met f (call.put x) v a w = omega arith
call_met f (call.restore x) v (said.restored n) w = omega arith
call_met f (call.restore x) v a w = omega arith
call_met f (call.close g closing.Done) v (said.closed h) w = omega arith
call_met f (call.close g closing.Done) v a w = omega arith
call_met f (call.close g (closing.Pins n)) v (said.pinned h k o) w = absurd w
call_met f (call.close g (closing.Pins n)) v a w = omega arith
call_met f (call.close g closing.Already) v (said.already h) w = omega arith
call_met f (call.close g closing.Already) v a w = omega arith
call_met f (call.discard x true) v (said.dropped n) w = omega arith
call_met f (call.discard x true) v a w = omega arith
call_met f (call.discard x false) v (said.not_dropped n) w = omega arith
call_met f (call.discard x false) v a w = omega arith
call_met f (call.get x (got.Here c)) v (said.here n) w = omega arith
call_met f (call.get x (got.Here c)) v a w = omega arith
call_met f (call.get x (got.Lost l)) v (said.lost n k) w = omega arith
call_met f (call.get x (got.Lost l)) v a w = omega arith
call_met f (call.get x (got.Away s)) v (said.number n) w = omega arith
call_met f (call.get x (got.Away s)) v a w = omega arith
call_met f (call.get x got.Memory) v (said.here n) w = omega arith
call_met f (call.get x got.Memory) v a w = omega arith
call_met f (call.lose x l true) v (said.made_lost n k) w = absurd w
call_met f (call.lose x l true) v a w = omega arith
call_met f (call.lose x l false) v (said.not_lost n) w = omega arith
call_met f (call.lose x l false) v a w = omega arith

-- a loss, by the name alone
call_lost : (f : Facts) (c : Call) (v : View) (n : ℕ)
    → losses n (seen f c v).own.made_lost ≡ losses n v.own.made_lost + sum_told (tells_loss f n) (entry_of c)
call_lost f (call.pin slot gs p) v n = let e = ap (losses n) (pin_lost f slot gs p v) in omega arith
call_lost f (call.unpin Hold) v n = omega arith
call_lost f (call.begin true) v n = omega arith
call_lost f (call.probe x state.Unborn) v n = omega arith
call_lost f (call.close g closing.Done) v n = omega arith
call_lost f (call.discard x true) v n = omega arith
call_lost f (call.get x (got.Here c)) v n = omega arith
call_lost f (call.lose x l true) v n = omega arith
call_lost f c v n = omega arith

-- a close that met pins
call_pins : (f : Facts) (c : Call) (v : View) (h n : ℕ)
    → pins_met h n (seen f c v).own.pinned ≡ pins_met h n v.own.pinned + sum_told (tells_pins h n) (entry_of c)
call_pins f (call.pin slot gs p) v h n = let e = ap (pins_met h n) (pin_pinned f slot gs p v) in omega arith
call_pins f (call.unpin Hold) v h n = omega arith
call_pins f (call.begin true) v h n = omega arith
call_pins f (call.probe x state.Unborn) v h n = omega arith
call_pins f (call.close g closing.Done) v h n = omega arith
call_pins f (call.discard x true) v h n = omega arith
call_pins f (call.get x (got.Here c)) v h n = omega arith
call_pins f (call.lose x l true) v h n = omega arith
call_pins f c v h n = omega arith

-- the Mets of others stay
call_gone : (f : Facts) (c : Call) (v : View) → (seen f c v).gone ≡ v.gone
call_gone f (call.pin slot gs p) v = pin_gone f slot gs p v
call_gone f (call.unpin Hold) v = refl
call_gone f (call.begin true) v = refl
call_gone f (call.probe x state.Unborn) v = refl
call_gone f (call.close g closing.Done) v = refl
call_gone f (call.discard x true) v = refl
call_gone f (call.get x (got.Here c)) v = refl
call_gone f (call.lose x l true) v = refl
call_gone f c v = refl

-- a closing
call_closings : (f : Facts) (c : Call) (v : View) (n : ℕ)
    → times n (seen f c v).made.closings ≡ times n v.made.closings + sum_told (tells f (said.closed n)) (entry_of c)
call_closings f (call.pin slot gs p) v n =
    let e = ap (λ (z : Made). times n z.closings) (tried_made f slot gs p v) in omega arith
call_closings f (call.unpin Hold) v n = omega arith
call_closings f (call.begin true) v n = omega arith
call_closings f (call.probe x state.Unborn) v n = omega arith
call_closings f (call.close g closing.Done) v n = omega arith
call_closings f (call.discard x true) v n = omega arith
call_closings f (call.get x (got.Here c)) v n = omega arith
call_closings f (call.lose x l true) v n = omega arith
call_closings f c v n = omega arith

-- a put
call_puts : (f : Facts) (c : Call) (v : View) (n : ℕ)
    → times n (seen f c v).made.changes.put ≡ times n v.made.changes.put + sum_told (tells f (said.put n)) (entry_of c)
call_puts f (call.pin slot gs p) v n =
    let e = ap (λ (z : Made). times n z.changes.put) (tried_made f slot gs p v) in omega arith
call_puts f (call.unpin Hold) v n = omega arith
call_puts f (call.begin true) v n = omega arith
call_puts f (call.probe x state.Unborn) v n = omega arith
call_puts f (call.close g closing.Done) v n = omega arith
call_puts f (call.discard x true) v n = omega arith
call_puts f (call.get x (got.Here c)) v n = omega arith
call_puts f (call.lose x l true) v n = omega arith
call_puts f c v n = omega arith

-- a restore
call_restores : (f : Facts) (c : Call) (v : View) (n : ℕ)
    → times n (seen f c v).made.changes.restored
    ≡ times n v.made.changes.restored + sum_told (tells f (said.restored n)) (entry_of c)
call_restores f (call.pin slot gs p) v n =
    let e = ap (λ (z : Made). times n z.changes.restored) (tried_made f slot gs p v) in omega arith
call_restores f (call.unpin Hold) v n = omega arith
call_restores f (call.begin true) v n = omega arith
call_restores f (call.probe x state.Unborn) v n = omega arith
call_restores f (call.close g closing.Done) v n = omega arith
call_restores f (call.discard x true) v n = omega arith
call_restores f (call.get x (got.Here c)) v n = omega arith
call_restores f (call.lose x l true) v n = omega arith
call_restores f c v n = omega arith

-- a drop
call_drops : (f : Facts) (c : Call) (v : View) (n : ℕ)
    → times n (seen f c v).made.changes.dropped
    ≡ times n v.made.changes.dropped + sum_told (tells f (said.dropped n)) (entry_of c)
call_drops f (call.pin slot gs p) v n =
    let e = ap (λ (z : Made). times n z.changes.dropped) (tried_made f slot gs p v) in omega arith
call_drops f (call.unpin Hold) v n = omega arith
call_drops f (call.begin true) v n = omega arith
call_drops f (call.probe x state.Unborn) v n = omega arith
call_drops f (call.close g closing.Done) v n = omega arith
call_drops f (call.discard x true) v n = omega arith
call_drops f (call.get x (got.Here c)) v n = omega arith
call_drops f (call.lose x l true) v n = omega arith
call_drops f c v n = omega arith

-- a loss in Made
call_loses : (f : Facts) (c : Call) (v : View) (n : ℕ)
    → losses n (seen f c v).made.changes.lost ≡ losses n v.made.changes.lost + sum_told (tells_loss f n) (entry_of c)
call_loses f (call.pin slot gs p) v n =
    let e = ap (λ (z : Made). losses n z.changes.lost) (tried_made f slot gs p v) in omega arith
call_loses f (call.unpin Hold) v n = omega arith
call_loses f (call.begin true) v n = omega arith
call_loses f (call.probe x state.Unborn) v n = omega arith
call_loses f (call.close g closing.Done) v n = omega arith
call_loses f (call.discard x true) v n = omega arith
call_loses f (call.get x (got.Here c)) v n = omega arith
call_loses f (call.lose x l true) v n = omega arith
call_loses f c v n = omega arith

-- a publishing
call_numbers : (f : Facts) (c : Call) (v : View) (n : ℕ)
    → times n (seen f c v).made.numbers ≡ times n v.made.numbers + publishes n c
call_numbers f (call.pin slot gs p) v n =
    let e = ap (λ (z : Made). times n z.numbers) (tried_made f slot gs p v) in omega arith
call_numbers f (call.unpin Hold) v n = omega arith
call_numbers f (call.begin true) v n = omega arith
call_numbers f (call.probe x state.Unborn) v n = omega arith
call_numbers f (call.close g closing.Done) v n = omega arith
call_numbers f (call.discard x true) v n = omega arith
call_numbers f (call.get x (got.Here c)) v n = omega arith
call_numbers f (call.lose x l true) v n = omega arith
call_numbers f c v n = omega arith

-- ---- calls in turn

-- a count of the view that each call raises by what its entry and the call say is raised by calls in turn so
counted : (f : Facts) (count : View → ℕ) (h : Entry → ℕ) (k : Call → ℕ)
    → ((c : Call) (v : View) → count (seen f c v) ≡ count v + (sum_told h (entry_of c) + k c))
    → (cs : List Call) (a : Actor) → a.facts ≡ f
    → count (did_all cs a).view ≡ count a.view + (sum_told h (entries_of cs) + sum_calls k cs)
counted f count h k one [] a is = omega arith
counted f count h k one (c ∷ cs) a is = let r = counted f count h k one cs (did c a) is in
    let o = one c a.view in let e = told_append h (entry_of c) (entries_of cs) in
    let same : count (did c a).view ≡ count (seen f c a.view) = ap (λ z. count (seen z c a.view)) is in omega arith

-- so by what the entries say alone
by_entries : (f : Facts) (count : View → ℕ) (h : Entry → ℕ)
    → ((c : Call) (v : View) → count (seen f c v) ≡ count v + sum_told h (entry_of c))
    → (cs : List Call) (a : Actor) → a.facts ≡ f
    → count (did_all cs a).view ≡ count a.view + sum_told h (entries_of cs)
by_entries f count h one [] a is = omega arith
by_entries f count h one (c ∷ cs) a is = let r = by_entries f count h one cs (did c a) is in
    let o = one c a.view in let e = told_append h (entry_of c) (entries_of cs) in
    let same : count (did c a).view ≡ count (seen f c a.view) = ap (λ z. count (seen z c a.view)) is in omega arith

by_calls : (f : Facts) (count : View → ℕ) (k : Call → ℕ)
    → ((c : Call) (v : View) → count (seen f c v) ≡ count v + k c)
    → (cs : List Call) (a : Actor) → a.facts ≡ f → count (did_all cs a).view ≡ count a.view + sum_calls k cs
by_calls f count k one [] a is = omega arith
by_calls f count k one (c ∷ cs) a is = let r = by_calls f count k one cs (did c a) is in let o = one c a.view in
    let same : count (did c a).view ≡ count (seen f c a.view) = ap (λ z. count (seen z c a.view)) is in omega arith

gone_all : (cs : List Call) (a : Actor) → (did_all cs a).view.gone ≡ a.view.gone
gone_all [] a = refl
gone_all (c ∷ cs) a = gone_all cs (did c a) ∙ call_gone a.facts c a.view

made_all : (cs : List Call) (a : Actor) → MadeGains a.facts cs a.view (did_all cs a).view
made_all cs a = let f = a.facts in record {
  closings = λ g. by_entries f (λ v. times g v.made.closings) (tells f (said.closed g)) (λ c v. call_closings f c v g)
      cs a refl;
  put = λ n. by_entries f (λ v. times n v.made.changes.put) (tells f (said.put n)) (λ c v. call_puts f c v n) cs a refl;
  restored = λ n. by_entries f (λ v. times n v.made.changes.restored) (tells f (said.restored n))
      (λ c v. call_restores f c v n) cs a refl;
  dropped = λ n. by_entries f (λ v. times n v.made.changes.dropped) (tells f (said.dropped n))
      (λ c v. call_drops f c v n) cs a refl;
  lost = λ n. by_entries f (λ v. losses n v.made.changes.lost) (tells_loss f n) (λ c v. call_loses f c v n) cs a refl;
  numbers = λ n. by_calls f (λ v. times n v.made.numbers) (publishes n) (λ c v. call_numbers f c v n) cs a refl;
}

met_all : (cs : List Call) (a : Actor) → MetGains a.facts cs a.view (did_all cs a).view
met_all cs a = let f = a.facts in record {
  told = λ x w. counted f (λ v. often x v.own) (tells f x) (beside f x) (λ c v. call_met f c v x w) cs a refl;
  made_lost = λ n. by_entries f (λ v. losses n v.own.made_lost) (tells_loss f n) (λ c v. call_lost f c v n) cs a refl;
  pins = λ g n. by_entries f (λ v. pins_met g n v.own.pinned) (tells_pins g n) (λ c v. call_pins f c v g n) cs a refl;
  gone = gone_all cs a;
}

pub entries_tell : EntriesTell
entries_tell cs a b d = subst (λ (z : Actor). MadeGains a.facts cs a.view z.view × MetGains a.facts cs a.view z.view)
    (sym d.becomes) (made_all cs a, met_all cs a)

-- ---- a pin was looked at

-- what a call opens it has looked at
opens_looked : (f : Facts) (gs : List ℕ) (p : Pinned) (g : ℕ)
    → opens g p ≤ beside f (said.number (g + 1)) (call.pin Hold gs p)
opens_looked f [] (At h) g = shifted h g
  where
    shifted : (h g : ℕ) → bit h g ≤ bit (h + 1) (g + 1) + 0
    shifted h g = dite (ℕ_discrete h g) (λ e. let a = bit_is (h + 1) (g + 1) (omega arith) in
        let b = bit_le h g in omega arith) (λ ne. let a = bit_not h g ne in omega arith)
opens_looked f [] Absent g = omega arith
opens_looked f [] Removed g = omega arith
opens_looked f (h ∷ gs) p g = let r = opens_looked f gs p g in omega arith

one_looked : (f : Facts) (c : Call) (g : ℕ) → beside f (said.opened g) c ≤ beside f (said.number (g + 1)) c
one_looked f (call.pin slot gs p) g = opens_looked f gs p g
one_looked f (call.publish next) g = omega arith
one_looked f c g = omega arith

all_looked : (f : Facts) (cs : List Call) (g : ℕ)
    → sum_calls (beside f (said.opened g)) cs ≤ sum_calls (beside f (said.number (g + 1))) cs
all_looked f [] g = omega arith
all_looked f (c ∷ cs) g = let r = all_looked f cs g in let o = one_looked f c g in omega arith

-- no entry tells of a pin
none_opened : (f : Facts) (g : ℕ) (es : List Entry) → sum_told (tells f (said.opened g)) es ≡ 0
none_opened f g [] = refl
none_opened f g (e ∷ es) = let r = none_opened f g es in omega arith

pub pins_are_looked : PinsAreLooked
pins_are_looked cs a b d g = let m = (entries_tell cs a b d).1 in let x = m.told (said.opened g) tt in
    let y = m.told (said.number (g + 1)) tt in let l = all_looked a.facts cs g in
    let z = none_opened a.facts g (entries_of cs) in omega arith

-- ---- the Work slot

-- a pin of the Hold slot leaves it free
held_free : (f : Facts) (gs : List ℕ) (p : Pinned) (v : View) → v.work ≡ 0 → (tried f Hold gs p v).work ≡ 0
held_free f [] (At g) v e = e
held_free f [] Absent v e = e
held_free f [] Removed v e = e
held_free f (g ∷ gs) p v e = held_free f gs p (row.missed g (row.looked (g + 1) v)) e

-- a call that doesn't pin it leaves it free
still_free : (f : Facts) (c : Call) (v : View) → IsFreeSlot Work v → LeaveWork (c ∷ []) → IsFreeSlot Work (seen f c v)
still_free f (call.pin Work gs p) v e q = absurd q
still_free f (call.pin Hold gs p) v e q = held_free f gs p v e
still_free f (call.unpin Hold) v e q = e
still_free f (call.unpin Work) v e q = refl
still_free f (call.begin true) v e q = e
still_free f (call.probe x state.Unborn) v e q = e
still_free f (call.close g closing.Done) v e q = e
still_free f (call.discard x true) v e q = e
still_free f (call.get x (got.Here c)) v e q = e
still_free f (call.lose x l true) v e q = e
still_free f c v e q = e

pub work_stays_free : WorkStaysFree
work_stays_free [] a e q = tt
work_stays_free (call.pin Work gs p ∷ cs) a e q = absurd q
work_stays_free (call.close g o ∷ cs) a e q =
    (e, work_stays_free cs (did (call.close g o) a) (still_free a.facts (call.close g o) a.view e tt) q)
work_stays_free (call.pin Hold gs p ∷ cs) a e q =
    work_stays_free cs (did (call.pin Hold gs p) a) (still_free a.facts (call.pin Hold gs p) a.view e tt) q
work_stays_free (call.unpin slot ∷ cs) a e q =
    work_stays_free cs (did (call.unpin slot) a) (still_free a.facts (call.unpin slot) a.view e tt) q
work_stays_free (call.cut_off s ∷ cs) a e q =
    work_stays_free cs (did (call.cut_off s) a) (still_free a.facts (call.cut_off s) a.view e tt) q
work_stays_free (call.end ∷ cs) a e q =
    work_stays_free cs (did call.end a) (still_free a.facts call.end a.view e tt) q
work_stays_free (call.begin b ∷ cs) a e q =
    work_stays_free cs (did (call.begin b) a) (still_free a.facts (call.begin b) a.view e tt) q
work_stays_free (call.publish next ∷ cs) a e q =
    work_stays_free cs (did (call.publish next) a) (still_free a.facts (call.publish next) a.view e tt) q
work_stays_free (call.probe x s ∷ cs) a e q =
    work_stays_free cs (did (call.probe x s) a) (still_free a.facts (call.probe x s) a.view e tt) q
work_stays_free (call.put x ∷ cs) a e q =
    work_stays_free cs (did (call.put x) a) (still_free a.facts (call.put x) a.view e tt) q
work_stays_free (call.restore x ∷ cs) a e q =
    work_stays_free cs (did (call.restore x) a) (still_free a.facts (call.restore x) a.view e tt) q
work_stays_free (call.discard x b ∷ cs) a e q =
    work_stays_free cs (did (call.discard x b) a) (still_free a.facts (call.discard x b) a.view e tt) q
work_stays_free (call.get x o ∷ cs) a e q =
    work_stays_free cs (did (call.get x o) a) (still_free a.facts (call.get x o) a.view e tt) q
work_stays_free (call.lose x l b ∷ cs) a e q =
    work_stays_free cs (did (call.lose x l b) a) (still_free a.facts (call.lose x l b) a.view e tt) q
