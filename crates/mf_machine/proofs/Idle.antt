-- No clause of the rules is idle: for each a state that breaks it.
use Rattle.std.proofs.Common.{◌≡◌, ◌≢◌, ◌⊎◌, ℕ, zero, suc, ◌+◌, ◌<◌, false, List, []}
use Rattle.std.proofs.Common.{◌∷◌, subst, sym, ap, ◌∙◌, refl, inl, inr, ⊎_elim, arith}
use mathlib.Core.Logic.{dite}
use mathlib.Core.Option.{some, some-injective, some-ne-none}
use native.Mathlib.Decide.{ℕ_discrete}
use lib.ListN.{get_elem?}
use Rattle.mf_machine.specs.declared.view.Build.{Build}
use Rattle.mf_machine.specs.declared.view.Inside.{Inside}
use Rattle.mf_machine.specs.declared.view.Met.{Met}
use Rattle.mf_machine.specs.declared.view.Seen.{Seen}
use Rattle.mf_machine.specs.declared.view.View.{View}
use Rattle.mf_machine.specs.Actors.{live, PinHolds}
use Rattle.mf_machine.specs.Answers as answer
use Rattle.mf_machine.specs.Answers.{Answer, often}
use Rattle.mf_machine.specs.Counts.{bit, times}
use Rattle.mf_machine.specs.Exhibits.{Breaks, NumberNeeds, PinsNeed, BornNeeds, SeenNeeds}
use Rattle.mf_machine.specs.Exhibits.{BuilderNeeds, DroppedNeeds, CellsNeed, EachNeeds, Uncaused}
use Rattle.mf_machine.specs.Exhibits.{CausedNeeds}
use Rattle.mf_machine.specs.File.{File, Opening, State, HasCell, Unharmed}
use Rattle.mf_machine.specs.File.Home.{empty, keeps}
use Rattle.mf_machine.specs.Kept.{IsMetOf, HasSeen, IsInside, HasTaken, Losses, Cause}
use Rattle.mf_machine.specs.Rest.{Rest}
use Rattle.mf_machine.specs.Worlds.{fresh, nothing_seen, nothing_built, nothing_met}
use Rattle.mf_machine.specs.Worlds.{outside}
use Rattle.mf_machine.proofs.Entering.{enter, often_here, often_else}
use Rattle.mf_machine.proofs.Guards.{false_true}
use Rattle.mf_machine.proofs.Lists.{bit_not}
use Rattle.mf_machine.proofs.Words.{cell_here}
use Rattle.mf_machine.proofs.Exhibits.{file, start, rest}

-- states that break the rules
abbrev state : ℕ → ℕ → (ℕ → ℕ) → (ℕ → ℕ) → List View → State
state number right pins name views =
    record { number = number; right = right; pins = pins; name = name; home = λ _. empty; views = views }

-- where there is no actor, one, or two
nobody : (j : ℕ) (w : View) → get_elem? [] j ≡ some w → ⊥
nobody j w e = some-ne-none w (sym e)

only : (x : View) (P : View → Type 0) → P x → (j : ℕ) (w : View) → get_elem? (x ∷ []) j ≡ some w → P w
only x P p zero w e = subst P (some-injective x w e) p
only x P p (suc j) w e = absurd (nobody j w e)

each_of : (x y : View) (P : View → Type 0) → P x → P y → (j : ℕ) (w : View) → get_elem? (x ∷ y ∷ []) j ≡ some w → P w
each_of x y P p q zero w e = subst P (some-injective x w e) p
each_of x y P p q (suc j) w e = only y P q j w e

-- an actor that has met nothing
often_none : (a : Answer) → often a nothing_met ≡ 0
often_none (answer.number n) = refl
often_none a = refl

-- whose own Met is all that it has
own_alone : (v : View) → v.gone ≡ [] → (m : Met) → IsMetOf v m → m ≡ v.own
own_alone v none m is = ⊎_elim (λ e. e)
    (λ t. absurd (nobody_met m t.0 (subst (λ z. get_elem? z t.0 ≡ some m) none t.1))) is
  where
    nobody_met : (m : Met) (i : ℕ) → get_elem? [] i ≡ some m → ⊥
    nobody_met m i e = some-ne-none m (sym e)

-- it has seen its own number alone
seen_alone : (v : View) → v.gone ≡ [] → v.own.numbers ≡ [] → (m : ℕ) → HasSeen v m → m ≡ v.seen.number
seen_alone v none bare m saw = ⊎_elim (λ e. e) (λ t. let e = ap (λ (z : Met). z.numbers) (own_alone v none t.0 t.1) in
    let h = subst (λ z. 0 < times m z) (e ∙ bare) t.2 in absurd (omega arith)) saw

-- an actor that has seen this; one with a pin on g; one that is inside of this
abbrev seer : Seen → View
seer seen = fresh 1 [] seen

abbrev pinner : (g seen : ℕ) → View
pinner g seen = record (fresh 1 [] (record nothing_seen { number = seen })) { hold = g + 1 }

abbrev builder : Build → View
builder b = record (fresh 1 [] nothing_seen) { build = b }

abbrev insider : Inside → View
insider i = record (fresh 1 [] nothing_seen) { inside = i }

pinned_is : (g seen h : ℕ) → 0 < live h (pinner g seen) → h ≡ g
pinned_is g seen h l = dite (ℕ_discrete (g + 1) (h + 1)) (λ e. omega arith)
    (λ ne. let a = bit_not (g + 1) (h + 1) ne in let b : bit 0 (h + 1) ≡ 0 = bit_not 0 (h + 1) (λ e. omega arith) in
    absurd (omega arith))

-- a number above q + 1; one below a number that was seen; a holder of the right that last looked at another number
old_look : View
old_look = record (builder (record nothing_built { right = 1; looked = 1 })) { last = 1 }

number_needs : NumberNeeds
unfolding old_look
number_needs = record {
  top = (
    file,
    start,
    state 4 0 (λ _. 0) (λ _. 0) [],
    rest,
    ((λ j v e. absurd (nobody j v e)), λ j v e. absurd (nobody j v e)),
    λ r. let t = r.top in omega arith,
  );
  seen = (
    file,
    start,
    state 0 0 (λ _. 0) (λ _. 0) (pinner 0 1 ∷ []),
    rest,
    (
      omega arith,
      only (pinner 0 1) _ (λ h. absurd (omega arith)),
    ),
    λ r. let t = r.seen 0 (pinner 0 1) refl 1 (inl refl) in omega arith,
  );
  holder = (
    file,
    start,
    state 1 1 (λ _. 0) (λ _. 0) (old_look ∷ []),
    rest,
    (
      omega arith,
      only old_look _
          (λ m saw. let e = seen_alone old_look refl refl m saw in omega arith),
    ),
    λ r. let t = r.holder 0 old_look refl refl refl in omega arith,
  );
}

-- a closed generation that is still published; a pin on a closed one; a pin on no generation; a pin on one that its
-- actor hasn't seen
pins_need : PinsNeed
pins_need = record {
  passed = (
    file,
    start,
    state 1 0 (λ _. 9223372036854775808) (λ _. 0) [],
    rest,
    (
      (λ g l c j v e. absurd (nobody j v e)),
      (λ j v e. absurd (nobody j v e)),
      (λ j v e. absurd (nobody j v e)),
      λ j v e. absurd (nobody j v e),
    ),
    λ r. let t = r.passed 0 (omega arith) (omega arith) in omega arith,
  );
  bare = (
    file,
    start,
    state 3 0 (λ _. 9223372036854775808) (λ _. 0) (pinner 0 1 ∷ []),
    rest,
    (
      (λ g l c. omega arith),
      only (pinner 0 1) _
          (λ g l. let e = pinned_is 0 1 g l in omega arith),
      only (pinner 0 1) _
          (λ g l. let e = pinned_is 0 1 g l in inl (omega arith)),
    ),
    λ r. r.stays_open 0 (pinner 0 1) refl 0 (omega arith) (omega arith),
  );
  stage = (
    file,
    start,
    state 1 0 (λ _. 0) (λ _. 0) (pinner 7 8 ∷ []),
    rest,
    (
      (λ g l c. absurd (omega arith)),
      (λ g l c. absurd (omega arith)),
      (λ j v e g l c. omega arith),
      only (pinner 7 8) _
          (λ g l. let e = pinned_is 7 8 g l in inl (omega arith)),
    ),
    λ r. let t = r.stage 0 (pinner 7 8) refl 7 (omega arith) in omega arith,
  );
  seen = (
    file,
    start,
    state 1 0 (λ _. 0) (λ _. 0) (pinner 0 0 ∷ []),
    rest,
    (
      (λ g l c. absurd (omega arith)),
      (λ g l c. absurd (omega arith)),
      only (pinner 0 0) _
          (λ g l. let e = pinned_is 0 0 g l in omega arith),
      λ j v e g l c. omega arith,
    ),
    λ r. let t = seen_alone (pinner 0 0) refl refl 1 (r.seen 0 (pinner 0 0) refl 0 (omega arith)) in omega arith,
  );
}

-- a published generation with an Unborn name; one whose number was seen
born_needs : BornNeeds
born_needs = record {
  published = (
    file,
    start,
    state 1 0 (λ _. 0) (λ _. 0) [],
    rest,
    (λ j v e. absurd (nobody j v e)),
    λ r. r.published 0 (omega arith) refl 0 (omega arith) refl refl,
  );
  seen = (
    file,
    start,
    state 0 0 (λ _. 0) (λ _. 0) (pinner 0 1 ∷ []),
    rest,
    (λ g l e. absurd (omega arith)),
    λ r. r.seen 0 (pinner 0 1) refl 0 (omega arith) (inl refl) 0 (omega arith) refl refl,
  );
}

-- an actor that has seen closed what is open; seen born what is Unborn; dropped what isn't Dropped
abbrev sees_shut : View
sees_shut = seer (record nothing_seen { shut = 0 ∷ [] })

abbrev sees_born : View
sees_born = seer (record nothing_seen { born = 0 ∷ [] })

abbrev sees_dropped : View
sees_dropped = seer (record nothing_seen { dropped = 0 ∷ [] })

seen_needs : SeenNeeds
seen_needs = record {
  closed = (
    file,
    start,
    state 0 0 (λ _. 0) (λ _. 0) (sees_shut ∷ []),
    rest,
    (
      only sees_shut _ (λ n h. absurd (omega arith)),
      only sees_shut _ (λ n h. absurd (omega arith)),
    ),
    λ r. let t = r.closed 0 sees_shut refl 0 (omega arith) (omega arith) in omega arith,
  );
  born = (
    file,
    start,
    state 0 0 (λ _. 0) (λ _. 0) (sees_born ∷ []),
    rest,
    (
      only sees_born _ (λ g l h. absurd (omega arith)),
      only sees_born _ (λ n h. absurd (omega arith)),
    ),
    λ r. r.born 0 sees_born refl 0 (omega arith) refl,
  );
  dropped = (
    file,
    start,
    state 0 0 (λ _. 0) (λ _. 0) (sees_dropped ∷ []),
    rest,
    (
      only sees_dropped _ (λ g l h. absurd (omega arith)),
      only sees_dropped _ (λ n h. absurd (omega arith)),
    ),
    λ r. let t = r.dropped 0 sees_dropped refl 0 (omega arith) in omega arith,
  );
}

-- a builder that was answered Unborn, and one that was answered Lost, for a name that is Here
abbrev sees_unborn : View
sees_unborn = builder (record nothing_built { right = 1; unborn = 0 ∷ [] })

abbrev sees_lost : View
sees_lost = builder (record nothing_built { right = 1; lost = 0 ∷ [] })

builder_needs : BuilderNeeds
builder_needs = record {
  unborn = (
    file,
    start,
    state 0 1 (λ _. 0) (λ _. 1) (sees_unborn ∷ []),
    rest,
    only sees_unborn _ (λ h n l. absurd (omega arith)),
    λ r. ⊎_elim (λ e. omega arith) (λ t. let e = t.0 in omega arith)
        (r.unborn 0 sees_unborn refl refl 0 (omega arith)),
  );
  lost = (
    file,
    start,
    state 0 1 (λ _. 0) (λ _. 1) (sees_lost ∷ []),
    rest,
    only sees_lost _ (λ h n l. absurd (omega arith)),
    λ r. ⊎_elim (λ l. omega arith) (λ t. ⊎_elim (λ e. omega arith) (λ q. let e = q.0 in omega arith) t)
        (r.lost 0 sees_lost refl refl 0 (omega arith)),
  );
}

-- a Dropped name of an open generation; one Taken in a drop
abbrev drops_first : View
drops_first = insider (record outside { dropping = 1 })

dropped_needs : DroppedNeeds
dropped_needs = record {
  done = (
    file,
    start,
    state 2 0 (λ _. 0) (λ _. 3) [],
    rest,
    (λ j v e. absurd (nobody j v e)),
    λ r. let t = r.done 0 (omega arith) refl 0 (omega arith) refl in omega arith,
  );
  doing = (
    file,
    start,
    state 2 0 (λ _. 0) (λ _. 2) (drops_first ∷ []),
    rest,
    (λ n l e. absurd (omega arith)),
    λ r. let t = r.doing 0 drops_first refl 0 refl 0 (omega arith) refl in omega arith,
  );
}

-- a Lost name without its lose line
losses_break : Breaks (λ f k s. Losses f s)
losses_break = (file, start, state 2 0 (λ _. 0) (λ _. 4) [], rest, λ r. let t = r 1 0 (omega arith) refl in omega arith)

empty_keeps : (bytes : List ℕ) → empty ≡ keeps bytes → ⊥
empty_keeps bytes e = cc

empty_cell : (f : File) (n : ℕ) → HasCell f n empty → ⊥
unfolding HasCell Unharmed
empty_cell f n h = empty_keeps (f.cell n) (h tt)

-- the file with fewer names, at rest
abbrev few : ℕ → File
few m = record file { names = m }

few_rest : (m : ℕ) → Rest (few m) start
few_rest m = record {
  number = omega arith;
  closed = λ g l e. absurd (false_true e);
  born = λ g l e n i h. absurd (omega arith);
  settled = λ n l e. omega arith;
  dropped = λ n l e. absurd (omega arith);
  lost = λ n i l e. absurd (omega arith);
  here = λ n l e. absurd (omega arith);
  bare = λ n l e. refl;
}

-- actors inside a birth, and a get, of the first name
abbrev bears_first : View
bears_first = insider (record outside { bearing = 1 })

abbrev gets_first : View
gets_first = insider (record outside { getting = 1 })

bears_is : (n : ℕ) → HasTaken bears_first n → n ≡ 0
bears_is n h = ⊎_elim (λ e. absurd (omega arith)) (λ a. ⊎_elim (λ e. omega arith) (λ b. ⊎_elim
    (λ e. absurd (omega arith)) (λ c. ⊎_elim (λ e. absurd (omega arith)) (λ e. absurd (omega arith)) c) b) a) h

gets_is : (n : ℕ) → HasTaken gets_first n → n ≡ 0
gets_is n h = ⊎_elim (λ e. omega arith) (λ a. ⊎_elim (λ e. absurd (omega arith)) (λ b. ⊎_elim
    (λ e. absurd (omega arith)) (λ c. ⊎_elim (λ e. absurd (omega arith)) (λ e. absurd (omega arith)) c) b) a) h

-- a fact of two actors is one of the only one
one_alone : (x : View) (i j : ℕ) (u v : View) → get_elem? (x ∷ []) i ≡ some u → get_elem? (x ∷ []) j ≡ some v → i ≡ j
one_alone x zero zero u v e d = refl
one_alone x (suc i) j u v e d = absurd (nobody i u e)
one_alone x zero (suc j) u v e d = absurd (nobody j v d)

-- a birth is held by who is inside of it
bears_held : (f : File) → (n : ℕ) → HasTaken bears_first n → PinHolds f 0 0 n ⊎ IsInside bears_first n
bears_held f n h = let z = bears_is n h in inr (inl (omega arith))

-- a name that is Here with an empty slot; one Taken by nobody, by two, that is none, whose word isn't Taken, and whose
-- taker has no pin
cells_need : CellsNeed
cells_need = record {
  here = (
    file,
    start,
    state 2 0 (λ _. 0) (λ _. 1) [],
    rest,
    (
      (λ n l e. absurd (omega arith)),
      (λ i j u v e. absurd (nobody i u e)),
      (λ j v e. absurd (nobody j v e)),
      (λ j v e. absurd (nobody j v e)),
      λ j v e. absurd (nobody j v e),
    ),
    λ r. empty_cell file 0 (r.here 0 (omega arith) refl),
  );
  taken = (
    file,
    start,
    state 2 0 (λ _. 0) (λ _. 2) [],
    rest,
    (
      (λ n l e. absurd (omega arith)),
      (λ i j u v e. absurd (nobody i u e)),
      (λ j v e. absurd (nobody j v e)),
      (λ j v e. absurd (nobody j v e)),
      λ j v e. absurd (nobody j v e),
    ),
    λ r. let t = r.taken 0 (omega arith) refl in nobody t.0 t.1 t.2,
  );
  one = (
    few 1,
    start,
    state 0 0 (λ _. 0) (λ _. 2) (bears_first ∷ bears_first ∷ []),
    few_rest 1,
    (
      (λ n l e. absurd (omega arith)),
      (λ n l e. (0, bears_first, refl, inr (inl (omega arith)))),
      each_of bears_first bears_first (λ w. (n : ℕ) → HasTaken w n → n < 1)
          (λ n h. let z = bears_is n h in omega arith) (λ n h. let z = bears_is n h in omega arith),
      (λ j v e n h. refl),
      each_of bears_first bears_first (λ w. (n : ℕ) → HasTaken w n → PinHolds (few 1) w.hold w.work n ⊎ IsInside w n)
          (bears_held (few 1)) (bears_held (few 1)),
    ),
    λ r. let t = r.one 0 1 bears_first bears_first refl refl 0 (inr (inl refl)) (inr (inl refl)) in omega arith,
  );
  named = (
    few 0,
    start,
    state 0 0 (λ _. 0) (λ _. 2) (bears_first ∷ []),
    few_rest 0,
    (
      (λ n l e. absurd (omega arith)),
      (λ n l e. absurd (omega arith)),
      (λ i j u v e d n h k. one_alone bears_first i j u v e d),
      (λ j v e n h. refl),
      only bears_first _ (bears_held (few 0)),
    ),
    λ r. let t = r.named 0 bears_first refl 0 (inr (inl refl)) in omega arith,
  );
  marked = (
    few 1,
    start,
    state 0 0 (λ _. 0) (λ _. 0) (bears_first ∷ []),
    few_rest 1,
    (
      (λ n l e. absurd (omega arith)),
      (λ n l e. absurd (omega arith)),
      (λ i j u v e d n h k. one_alone bears_first i j u v e d),
      only bears_first _ (λ n h. let z = bears_is n h in omega arith),
      only bears_first _ (bears_held (few 1)),
    ),
    λ r. let t = r.marked 0 bears_first refl 0 (inr (inl refl)) in omega arith,
  );
  held = (
    few 1,
    start,
    state 0 0 (λ _. 0) (λ _. 2) (gets_first ∷ []),
    few_rest 1,
    (
      (λ n l e. absurd (omega arith)),
      (λ n l e. (0, gets_first, refl, inl (omega arith))),
      (λ i j u v e d n h k. one_alone gets_first i j u v e d),
      only gets_first _ (λ n h. let z = gets_is n h in omega arith),
      λ j v e n h. refl,
    ),
    λ r. ⊎_elim (λ p. unpinned p) (λ a. ⊎_elim (λ e. omega arith) (λ b. ⊎_elim (λ e. omega arith)
        (λ c. ⊎_elim (λ e. omega arith) (λ e. omega arith) c) b) a)
        (r.held 0 gets_first refl 0 (inl refl)),
  );
}
  where
    unpinned : PinHolds (few 1) 0 0 0 → ⊥
    unpinned p = let z = bit_not 0 (p.0 + 1) (λ e. omega arith) in let h = p.2 in omega arith

pub each_needs : EachNeeds
each_needs = record {
  number = number_needs;
  pins = pins_need;
  born = born_needs;
  seen = seen_needs;
  builder = builder_needs;
  dropped = dropped_needs;
  losses = losses_break;
  cells = cells_need;
}

-- an actor that was answered this
abbrev told : Answer → View
told a = record (fresh 1 [] nothing_seen) { own = enter a nothing_met }

-- an opening in which each name is Here
abbrev stored : Opening
stored = record { number = 0; closed = λ _. false; name = λ _. 1; home = λ n. keeps (n ∷ []) }

stored_rests : Rest file stored
stored_rests = record {
  number = omega arith;
  closed = λ g l e. absurd (false_true e);
  born = λ g l e n i h. absurd (omega arith);
  settled = λ n l e. omega arith;
  dropped = λ n l e. absurd (omega arith);
  lost = λ n i l e. absurd (omega arith);
  here = λ n l e. cell_here file n (keeps (n ∷ [])) refl;
  bare = λ n l ne. absurd (ne refl);
}

-- an actor alone was answered so, and nobody made anything
uncaused : (k : Opening) → Rest file k → (a : Answer) → (Cause k (state 0 0 (λ _. 0) (λ _. 0) (told a ∷ []))
    (enter a nothing_met) a → ⊥) → Uncaused a
uncaused k rests a never = (
  file,
  k,
  state 0 0 (λ _. 0) (λ _. 0) (told a ∷ []),
  rests,
  (
    (λ b ne. only (told a) _ (λ m is h. absurd (not_met b ne m is h))),
    only (told a) _ (λ h. absurd (omega arith)),
    only (told a) _
        (λ g h. let z = bit_not 0 (g + 1) (λ e. omega arith) in absurd (omega arith)),
  ),
  λ r. never (r.answers a 0 (told a) refl (enter a nothing_met) (inl refl)
      (let e = often_here a nothing_met in omega arith)),
)
  where
    not_met : (b : Answer) → b ≢ a → (m : Met) → IsMetOf (told a) m → 0 < often b m → ⊥
    not_met b ne m is h = let e = own_alone (told a) refl m is in
        let o = often_else a b nothing_met (λ x. ne (sym x)) in let z = often_none b in
        let l = subst (λ z. 0 < often b z) e h in omega arith

-- who has met nothing has no answer without a cause
nothing_to_cause : (k : Opening) (s : State) (v : View) → v.gone ≡ [] → v.own ≡ nothing_met → (a : Answer) (m : Met)
    → IsMetOf v m → 0 < often a m → Cause k s m a
nothing_to_cause k s v none bare a m is h = let e = own_alone v none m is ∙ bare in let z = often_none a in
    let l = subst (λ z. 0 < often a z) e h in absurd (omega arith)

pub caused_needs : CausedNeeds
caused_needs = record {
  gate = (
    uncaused start rest (answer.number 1) (λ c. ⊎_elim (λ e. omega arith) (λ h. omega arith) c),
    uncaused start rest answer.refused (λ c. omega arith),
    uncaused start rest (answer.missed 0) (λ c. ⊎_elim (λ e. false_true e) (λ h. omega arith) c),
    uncaused start rest (answer.already 0) (λ c. ⊎_elim (λ e. false_true e) (λ h. omega arith) c),
    uncaused start rest (answer.pinned 0 1 0) (λ c. let h = c (omega arith) in omega arith),
  );
  told = (
    uncaused stored stored_rests (answer.unborn 0) (λ c. omega arith),
    uncaused start rest (answer.here 0) (λ c. ⊎_elim (λ e. omega arith) (λ t. ⊎_elim (λ h. omega arith)
        (λ t. ⊎_elim (λ h. omega arith) (λ t. ⊎_elim (λ h. omega arith) (λ h. omega arith) t) t) t) c),
    uncaused start rest (answer.lost 0 7) (λ c. ⊎_elim (λ e. omega arith) (λ h. omega arith) c),
  );
  nothing = (
    uncaused stored stored_rests (answer.not_lost 0) (λ c. ⊎_elim (λ e. omega arith) (λ t. ⊎_elim (λ h. omega arith)
        (λ t. ⊎_elim (λ h. omega arith) (λ t. ⊎_elim (λ h. omega arith) (λ h. omega arith) t) t) t) c),
    uncaused stored stored_rests (answer.not_dropped 0) (λ c. ⊎_elim (λ e. omega arith) (λ t. ⊎_elim (λ h. omega arith)
        (λ t. ⊎_elim (λ h. omega arith)
        (λ t. ⊎_elim (λ h. omega arith) (λ t. ⊎_elim (λ h. omega arith) (λ h. omega arith) t) t) t) t) c),
  );
  right = (
    file,
    start,
    state 0 1 (λ _. 0) (λ _. 0) (sees_unborn ∷ []),
    rest,
    (
      (λ a. only sees_unborn _
          (nothing_to_cause start (state 0 1 (λ _. 0) (λ _. 0) (sees_unborn ∷ [])) sees_unborn refl refl a)),
      only sees_unborn _
          (λ g h. let z = bit_not 0 (g + 1) (λ e. omega arith) in absurd (omega arith)),
    ),
    λ r. let t = r.right 0 sees_unborn refl refl in omega arith,
  );
  pin = (
    file,
    start,
    state 1 0 (λ _. 1) (λ _. 0) (pinner 0 0 ∷ []),
    rest,
    (
      (λ a. only (pinner 0 0) _
          (nothing_to_cause start (state 1 0 (λ _. 1) (λ _. 0) (pinner 0 0 ∷ [])) (pinner 0 0) refl refl a)),
      only (pinner 0 0) _ (λ h. absurd (omega arith)),
    ),
    λ r. let t = r.pin 0 (pinner 0 0) refl 0 (omega arith) in omega arith,
  );
}
