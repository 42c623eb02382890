-- What an actor has seen and made only grows.
use Rattle.std.proofs.Common.{◌≡◌, ℕ, ◌+◌, ◌≤◌, true, false, List, [], ◌∷◌, sym, refl, ap, subst, arith}
use Rattle.mf_machine.specs.declared.answer.Closed.TheVariants as closing
use Rattle.mf_machine.specs.declared.answer.Slot.{Slot}
use Rattle.mf_machine.specs.declared.answer.Slot.TheVariants.{Hold, Work}
use Rattle.mf_machine.specs.declared.answer.State.TheVariants as state
use Rattle.mf_machine.specs.declared.view.Made.{Made}
use Rattle.mf_machine.specs.declared.view.View.{View}
use Rattle.mf_machine.specs.Answers as answer
use Rattle.mf_machine.specs.Answers.{Answer, makes}
use Rattle.mf_machine.specs.Counts.{times}
use Rattle.mf_machine.specs.Laws.{GoesOn, Has}
use Rattle.mf_machine.specs.Steps as row
use Rattle.mf_vault.specs.declared.answers.Got.TheVariants as got
use Rattle.mf_vault.specs.declared.answers.Pinned.{Pinned}
use Rattle.mf_vault.specs.declared.answers.Pinned.TheVariants.{At, Absent, Removed}
use Rattle.mf_vault.specs.Facts.{Facts}
use Rattle.mf_vault.specs.Actor.{Actor, Call, seen, did, tried}
use Rattle.mf_vault.specs.Actor as call
use Rattle.mf_vault.specs.Answers.{IsFair, IsPin}
use Rattle.mf_vault.specs.Licence.{number_of_pin}
use Rattle.mf_vault.specs.Laws.{SeenGrows}
use Rattle.mf_vault.proofs.Entering.{tried_number, pin_is}

-- a change more in a Made
published_on : (a : Answer) (n : ℕ) (m : Made) → makes a m ≤ makes a (record m { numbers = n ∷ m.numbers })
published_on (answer.number k) n m = omega arith
published_on a n m = omega arith

closed_on : (a : Answer) (n : ℕ) (m : Made) → makes a m ≤ makes a (record m { closings = n ∷ m.closings })
closed_on (answer.closed g) n m = omega arith
closed_on a n m = omega arith

put_on : (a : Answer) (n : ℕ) (m : Made)
    → makes a m ≤ makes a (record m { changes = record m.changes { put = n ∷ m.changes.put } })
put_on (answer.put g) n m = omega arith
put_on a n m = omega arith

restored_on : (a : Answer) (n : ℕ) (m : Made)
    → makes a m ≤ makes a (record m { changes = record m.changes { restored = n ∷ m.changes.restored } })
restored_on (answer.restored g) n m = omega arith
restored_on a n m = omega arith

dropped_on : (a : Answer) (n : ℕ) (m : Made)
    → makes a m ≤ makes a (record m { changes = record m.changes { dropped = n ∷ m.changes.dropped } })
dropped_on (answer.dropped g) n m = omega arith
dropped_on a n m = omega arith

lost_on : (a : Answer) (n l : ℕ) (m : Made)
    → makes a m ≤ makes a (record m {
      changes =
          record m.changes { lost = (record { name = n; line = l }) ∷ m.changes.lost };
    })
lost_on (answer.made_lost g k) n l m = omega arith
lost_on a n l m = omega arith

-- nothing more
same : (v u : View) → v.seen ≡ u.seen → v.made ≡ u.made → Has v u
same v u s m = subst (λ x. GoesOn v.seen x v.made u.made) s (subst (λ x. GoesOn v.seen v.seen v.made x) m record {
  number = omega arith;
  shut = λ g. omega arith;
  born = λ n. omega arith;
  dropped = λ n. omega arith;
  made = λ a. omega arith;
})

-- a pin
tried_shut : (f : Facts) (slot : Slot) (gs : List ℕ) (p : Pinned) (v : View) (g : ℕ)
    → times g v.seen.shut ≤ times g (tried f slot gs p v).seen.shut
tried_shut f Hold [] (At h) v g = omega arith
tried_shut f Work [] (At h) v g = omega arith
tried_shut f slot [] Absent v g = omega arith
tried_shut f slot [] Removed v g = omega arith
tried_shut f slot (h ∷ gs) p v g = let r = tried_shut f slot gs p (row.missed h (row.looked (h + 1) v)) g in omega arith

tried_born : (f : Facts) (slot : Slot) (gs : List ℕ) (p : Pinned) (v : View)
    → (tried f slot gs p v).seen.born ≡ v.seen.born
tried_born f Hold [] (At h) v = refl
tried_born f Work [] (At h) v = refl
tried_born f slot [] Absent v = refl
tried_born f slot [] Removed v = refl
tried_born f slot (h ∷ gs) p v = tried_born f slot gs p (row.missed h (row.looked (h + 1) v))

tried_dropped : (f : Facts) (slot : Slot) (gs : List ℕ) (p : Pinned) (v : View)
    → (tried f slot gs p v).seen.dropped ≡ v.seen.dropped
tried_dropped f Hold [] (At h) v = refl
tried_dropped f Work [] (At h) v = refl
tried_dropped f slot [] Absent v = refl
tried_dropped f slot [] Removed v = refl
tried_dropped f slot (h ∷ gs) p v = tried_dropped f slot gs p (row.missed h (row.looked (h + 1) v))

pub tried_made : (f : Facts) (slot : Slot) (gs : List ℕ) (p : Pinned) (v : View) → (tried f slot gs p v).made ≡ v.made
tried_made f Hold [] (At h) v = refl
tried_made f Work [] (At h) v = refl
tried_made f slot [] Absent v = refl
tried_made f slot [] Removed v = refl
tried_made f slot (h ∷ gs) p v = tried_made f slot gs p (row.missed h (row.looked (h + 1) v))

pub pin_low : (f : Facts) (p : Pinned) (v : View) → IsPin f p v → v.seen.number ≤ number_of_pin f p
pin_low f (At g) v i = let z = i.1 in omega arith
pin_low f Absent v i = omega arith
pin_low f Removed v i = i

pin_on : (f : Facts) (slot : Slot) (gs : List ℕ) (p : Pinned) (v : View) → IsPin f p v → Has v (tried f slot gs p v)
pin_on f slot gs p v i = record {
  number = let a = tried_number f slot gs p v in let b = pin_low f p v i in omega arith;
  shut = λ g. tried_shut f slot gs p v g;
  born = λ n. let e = ap (times n) (tried_born f slot gs p v) in omega arith;
  dropped = λ n. let e = ap (times n) (tried_dropped f slot gs p v) in omega arith;
  made = λ a. let e = ap (makes a) (tried_made f slot gs p v) in omega arith;
}

-- one more name seen born, or dropped, or generation shut
born_more : (n : ℕ) (v u : View) → u.seen ≡ record v.seen { born = n ∷ v.seen.born }
    → ((a : Answer) → makes a v.made ≤ makes a u.made) → Has v u
born_more n v u e m = subst (λ x. GoesOn v.seen x v.made u.made) (sym e) record {
  number = omega arith;
  shut = λ g. omega arith;
  born = λ k. omega arith;
  dropped = λ k. omega arith;
  made = m;
}

drop_more : (n : ℕ) (v u : View) → u.seen ≡ record v.seen { dropped = n ∷ v.seen.dropped }
    → ((a : Answer) → makes a v.made ≤ makes a u.made) → Has v u
drop_more n v u e m = subst (λ x. GoesOn v.seen x v.made u.made) (sym e) record {
  number = omega arith;
  shut = λ g. omega arith;
  born = λ k. omega arith;
  dropped = λ k. omega arith;
  made = m;
}

shut_more : (n : ℕ) (v u : View) → u.seen ≡ record v.seen { shut = n ∷ v.seen.shut }
    → ((a : Answer) → makes a v.made ≤ makes a u.made) → Has v u
shut_more n v u e m = subst (λ x. GoesOn v.seen x v.made u.made) (sym e) record {
  number = omega arith;
  shut = λ g. omega arith;
  born = λ k. omega arith;
  dropped = λ k. omega arith;
  made = m;
}

no_more : (v : View) (a : Answer) → makes a v.made ≤ makes a v.made
no_more v a = omega arith

one : (c : Call) (a : Actor) → IsFair c a → Has a.view (seen a.facts c a.view)
one (call.cut_off s) a i = same a.view a.view refl refl
one (call.pin slot gs p) a i = pin_on a.facts slot gs p a.view (pin_is a.facts gs p a.view i)
one (call.unpin Hold) a i = same a.view (row.unpinned Hold a.view) refl refl
one (call.unpin Work) a i = same a.view (row.unpinned Work a.view) refl refl
one (call.begin true) a i = same a.view (row.begun a.view) refl refl
one (call.begin false) a i = same a.view (row.refused a.view) refl refl
one call.end a i = same a.view (row.ended a.view) refl refl
one (call.publish next) a i = record {
  number = omega arith;
  shut = λ g. omega arith;
  born = λ n. omega arith;
  dropped = λ n. omega arith;
  made = λ b. published_on b next a.view.made;
}
one (call.probe x state.Unborn) a i = same a.view (seen a.facts (call.probe x state.Unborn) a.view) refl refl
one (call.probe x state.Here) a i =
    born_more _ a.view (seen a.facts (call.probe x state.Here) a.view) refl (no_more a.view)
one (call.probe x (state.Lost l)) a i =
    born_more _ a.view (seen a.facts (call.probe x (state.Lost l)) a.view) refl (no_more a.view)
one (call.probe x (state.Away s)) a i = same a.view a.view refl refl
one (call.put x) a i = born_more _ a.view (seen a.facts (call.put x) a.view) refl (λ b. put_on b _ a.view.made)
one (call.restore x) a i =
    born_more _ a.view (seen a.facts (call.restore x) a.view) refl (λ b. restored_on b _ a.view.made)
one (call.close g closing.Done) a i =
    shut_more g a.view (seen a.facts (call.close g closing.Done) a.view) refl (λ b. closed_on b g a.view.made)
one (call.close g (closing.Pins n)) a i = same a.view (seen a.facts (call.close g (closing.Pins n)) a.view) refl refl
one (call.close g closing.Already) a i =
    shut_more g a.view (seen a.facts (call.close g closing.Already) a.view) refl (no_more a.view)
one (call.discard x true) a i =
    drop_more _ a.view (seen a.facts (call.discard x true) a.view) refl (λ b. dropped_on b _ a.view.made)
one (call.discard x false) a i = same a.view (seen a.facts (call.discard x false) a.view) refl refl
one (call.get x (got.Here c)) a i =
    born_more _ a.view (seen a.facts (call.get x (got.Here c)) a.view) refl (no_more a.view)
one (call.get x (got.Lost l)) a i =
    born_more _ a.view (seen a.facts (call.get x (got.Lost l)) a.view) refl (no_more a.view)
one (call.get x (got.Away s)) a i = same a.view a.view refl refl
one (call.get x got.Memory) a i = born_more _ a.view (seen a.facts (call.get x got.Memory) a.view) refl (no_more a.view)
one (call.lose x l true) a i = record {
  number = omega arith;
  shut = λ g. omega arith;
  born = λ n. omega arith;
  dropped = λ n. omega arith;
  made = λ b. lost_on b _ l a.view.made;
}
one (call.lose x l false) a i = same a.view (seen a.facts (call.lose x l false) a.view) refl refl

goes_through : (u v w : View) → Has u v → Has v w → Has u w
goes_through u v w a b = record {
  number = let x = a.number in let y = b.number in omega arith;
  shut = λ g. let x = a.shut g in let y = b.shut g in omega arith;
  born = λ n. let x = a.born n in let y = b.born n in omega arith;
  dropped = λ n. let x = a.dropped n in let y = b.dropped n in omega arith;
  made = λ c. let x = a.made c in let y = b.made c in omega arith;
}

pub grows : SeenGrows
grows [] a b d = subst (λ (z : Actor). Has a.view z.view) (sym d.becomes) (same a.view a.view refl refl)
grows (c ∷ cs) a b d = goes_through a.view (did c a).view b.view (one c a d.fair.0)
    (grows cs (did c a) b (record { becomes = d.becomes; fair = d.fair.1; told = d.told.1 }))
