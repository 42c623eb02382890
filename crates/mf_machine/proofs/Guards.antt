-- A guard that computes: where it is true the move may happen, so that a list of moves is a run by computing.
use Rattle.std.proofs.Common.{◌≡◌, ◌≢◌, ◌⊎◌, ℕ, zero, suc, ◌+◌, ◌-◌, ◌<◌, ◌≤◌, Bool, true, false, cond, eqb, ltb, leb}
use Rattle.std.proofs.Common.{List, [], ◌∷◌, sym, refl, ap, ◌∙◌, subst, ⊎_elim, inl, inr, arith}
use Rattle.std.proofs.lemmas.Bool.{eqb-true, ltb-true, leb-true}
use mathlib.Core.Logic.{dite}
use native.Mathlib.Decide.{ℕ_discrete}
use Rattle.mf_machine.specs.declared.view.Build.{Build}
use Rattle.mf_machine.specs.declared.view.View.{View}
use Rattle.mf_machine.specs.Actors.{Active, Idle, Free, busy, on, slot_of, PinHolds, NextHolds, WorkHolds, AllShown}
use Rattle.mf_machine.specs.Counts.{times}
use Rattle.mf_machine.specs.File.{File, listed, Home, HasCell}
use Rattle.mf_machine.specs.File.Home.{away, empty, keeps}
use Rattle.mf_machine.specs.Moves.{Move, Deed, MayDo, done, May, after, Runs}
use Rattle.mf_machine.specs.Moves as move
use Rattle.mf_machine.specs.Steps.{MayPublish}
use Rattle.mf_machine.specs.Worlds.{World, actor}
use Rattle.mf_machine.proofs.Words.{cell_here}

pub false_true : false ≡ true → ⊥
false_true e = cc

-- both tests
abbrev and : Bool → Bool → Bool
and a b = cond a b false

both : (a b : Bool) → and a b ≡ true → (a ≡ true) × (b ≡ true)
both true b e = (refl, e)
both false b e = absurd (false_true e)

one_of : (a b : Bool) → cond a true b ≡ true → (a ≡ true) ⊎ (b ≡ true)
one_of true b e = inl refl
one_of false b e = inr e

-- a test below n: it is true of some number, or of all
abbrev some_below : ℕ → (ℕ → Bool) → Bool
some_below zero p = false
some_below (suc n) p = cond (p n) true (some_below n p)

abbrev all_below : ℕ → (ℕ → Bool) → Bool
all_below zero p = true
all_below (suc n) p = and (p n) (all_below n p)

some_is : (n : ℕ) (p : ℕ → Bool) → some_below n p ≡ true → (g : ℕ) × (g < n) × (p g ≡ true)
some_is zero p e = absurd (false_true e)
some_is (suc n) p e = pick (some_is n p) (one_of (p n) (some_below n p) e)
  where
    pick : (some_below n p ≡ true → (g : ℕ) × (g < n) × (p g ≡ true)) → (p n ≡ true) ⊎ (some_below n p ≡ true)
        → (g : ℕ) × (g < suc n) × (p g ≡ true)
    pick r t = ⊎_elim (λ a. (n, omega arith, a)) (λ b. let q = r b in let l = q.1 in (q.0, omega arith, q.2)) t

all_is : (n : ℕ) (p : ℕ → Bool) → all_below n p ≡ true → (g : ℕ) → g < n → p g ≡ true
all_is zero p e g l = absurd (omega arith)
all_is (suc n) p e g l = let t = both (p n) (all_below n p) e in dite (ℕ_discrete g n) (λ d. ap p d ∙ t.0)
    (λ ne. all_is n p t.1 g (omega arith))

implies : (a b : Bool) → cond a b true ≡ true → a ≡ true → b ≡ true
implies true b e a = e
implies false b e a = absurd (false_true a)

-- the actor is there, idle or free
abbrev active : View → Bool
active v = ltb 0 v.share

abbrev idle : View → Bool
idle v = and (active v) (eqb (busy v.inside) 0)

abbrev free : View → Bool
free v = and (active v) (eqb (v.inside.getting + busy v.inside) 0)

is_idle : (v : View) → idle v ≡ true → Active v × Idle v
is_idle v e = let t = both (active v) (eqb (busy v.inside) 0) e in
    (ltb-true 0 v.share t.0, eqb-true (busy v.inside) 0 t.1)

is_free : (v : View) → free v ≡ true → Active v × Free v
is_free v e = let t = both (active v) (eqb (v.inside.getting + busy v.inside) 0) e in
    (ltb-true 0 v.share t.0, eqb-true (v.inside.getting + busy v.inside) 0 t.1)

-- which generations hold the name
abbrev pin_holds : File → (hold work n : ℕ) → Bool
pin_holds f hold work n = some_below f.stages (λ g. and (ltb 0 (on g hold work)) (f.holds g n))

is_pin_holds : (f : File) (hold work n : ℕ) → pin_holds f hold work n ≡ true → PinHolds f hold work n
is_pin_holds f hold work n e = let t = some_is f.stages (λ g. and (ltb 0 (on g hold work)) (f.holds g n)) e in
    let b = both (ltb 0 (on t.0 hold work)) (f.holds t.0 n) t.2 in (t.0, t.1, ltb-true 0 (on t.0 hold work) b.0, b.1)

abbrev next_holds : File → Build → (last n : ℕ) → Bool
next_holds f b last n = and (and (eqb b.right 1) (eqb b.looked 1)) (some_below f.stages
    (λ g. and (eqb last (g + 1)) (f.holds g n)))

is_next_holds : (f : File) (b : Build) (last n : ℕ) → next_holds f b last n ≡ true → NextHolds f b last n
is_next_holds f b last n e = let t = both (and (eqb b.right 1) (eqb b.looked 1)) (some_below f.stages
    (λ g. and (eqb last (g + 1)) (f.holds g n))) e in
    let r = both (eqb b.right 1) (eqb b.looked 1) t.0 in
    let s = some_is f.stages (λ g. and (eqb last (g + 1)) (f.holds g n)) t.1 in
    let q = both (eqb last (s.0 + 1)) (f.holds s.0 n) s.2 in
    (s.0, (eqb-true b.right 1 r.0, eqb-true b.looked 1 r.1, eqb-true last (s.0 + 1) q.0, s.1), q.1)

abbrev work_holds : File → Build → (last work n : ℕ) → Bool
work_holds f b last work n = and (eqb b.right 1)
    (cond (some_below f.stages (λ g. and (eqb work (g + 1)) (f.holds g n))) true (next_holds f b last n))

is_work_holds : (f : File) (b : Build) (last work n : ℕ) → work_holds f b last work n ≡ true → WorkHolds f b last work n
is_work_holds f b last work n e = let p : ℕ → Bool = λ g. and (eqb work (g + 1)) (f.holds g n) in
    let t = both (eqb b.right 1) (cond (some_below f.stages p) true (next_holds f b last n)) e in (
      eqb-true b.right 1 t.0,
      ⊎_elim (λ a. let s = some_is f.stages p a in let q = both (eqb work (s.0 + 1)) (f.holds s.0 n) s.2 in
          inl (s.0, s.1, eqb-true work (s.0 + 1) q.0, q.1))
          (λ a. inr (is_next_holds f b last n a)) (one_of (some_below f.stages p) (next_holds f b last n) t.1),
    )

abbrev all_shown : File → View → ℕ → Bool
all_shown f v n = all_below f.stages (λ g. cond (f.holds g n) (ltb 0 (times g v.own.closed + times g v.own.already))
    true)

is_all_shown : (f : File) (v : View) (n : ℕ) → all_shown f v n ≡ true → AllShown f v.own n
is_all_shown f v n e g l h = let p : ℕ → Bool = λ g. cond (f.holds g n)
    (ltb 0 (times g v.own.closed + times g v.own.already)) true in
    ltb-true 0 (times g v.own.closed + times g v.own.already)
    (implies (f.holds g n) (ltb 0 (times g v.own.closed + times g v.own.already)) (all_is f.stages p e g l) h)

-- what is in the hand
abbrev same : List ℕ → List ℕ → Bool
same [] [] = true
same (x ∷ xs) (y ∷ ys) = and (eqb x y) (same xs ys)
same xs ys = false

is_same : (xs ys : List ℕ) → same xs ys ≡ true → xs ≡ ys
is_same [] [] e = refl
is_same (x ∷ xs) (y ∷ ys) e = let t = both (eqb x y) (same xs ys) e in (λ i. eqb-true x y t.0 i ∷ is_same xs ys t.1 i)
is_same [] (y ∷ ys) e = absurd (false_true e)
is_same (x ∷ xs) [] e = absurd (false_true e)

abbrev has_cell : File → ℕ → Home → Bool
has_cell f n (keeps b) = same b (f.cell n)
has_cell f n h = false

is_has_cell : (f : File) (n : ℕ) (h : Home) → has_cell f n h ≡ true → HasCell f n h
is_has_cell f n (keeps b) e = cell_here f n (keeps b) (ap keeps (is_same b (f.cell n) e))
is_has_cell f n h e = absurd (false_true e)

abbrev is_bare : Home → Bool
is_bare empty = true
is_bare h = false

bare : (h : Home) → is_bare h ≡ true → h ≡ empty
bare empty e = refl
bare h e = absurd (false_true e)

abbrev not_away : Home → Bool
not_away away = false
not_away h = true

isnt_away : (h : Home) → not_away h ≡ true → h ≢ away
isnt_away empty e d = cc
isnt_away (keeps b) e d = cc
isnt_away away e d = absurd (false_true e)

-- the guard
abbrev settled : File → View → ℕ → Bool
settled f v m = all_below f.names (λ n. cond (f.holds m n) (ltb 0 (times n v.build.settled)) true)

abbrev may_publish : File → ℕ → View → Bool
may_publish f next v = and (and (idle v) (and (eqb v.build.right 1) (eqb v.build.looked 1))) (and (ltb 0 v.last)
    (cond (and (and (eqb next (v.last - 1 + 1)) (leb next f.stages)) (settled f v (v.last - 1))) true
    (and (eqb next (f.stages + 1)) (and (leb 1 (v.last - 1)) (leb (v.last - 1) f.stages)))))

abbrev pub may : File → World → ℕ → Deed → Bool
may f w id move.look = idle (actor w id)
may f w id (move.pin slot g) = let v : View = actor w id in
    and (idle v) (and (ltb g f.stages) (and (eqb (slot_of slot v) 0)
    (and (eqb v.last (g + 1 + 1)) (eqb (times g v.seen.shut) 0))))
may f w id (move.unpin slot g) = let v : View = actor w id in and (free v) (eqb (slot_of slot v) (g + 1))
may f w id (move.close g) = let v : View = actor w id in and (idle v) (and (ltb g f.stages) (ltb (g + 1) v.seen.number))
may f w id move.begin = let v : View = actor w id in and (idle v) (eqb v.build.right 0)
may f w id move.end = let v : View = actor w id in and (idle v) (eqb v.build.right 1)
may f w id (move.publish next) = may_publish f next (actor w id)
may f w id (move.see n) = let v : View = actor w id in
    and (idle v) (and (ltb n f.names) (cond (pin_holds f v.hold v.work n) true (next_holds f v.build v.last n)))
may f w id (move.take n) = let v : View = actor w id in and (free v) (and (ltb n f.names) (pin_holds f v.hold v.work n))
may f w id (move.give n) = let v : View = actor w id in and (and (active v) (eqb v.inside.getting (n + 1)))
    (has_cell f n (w.hands id))
may f w id (move.birth n) = let v : View = actor w id in
    and (free v) (and (ltb n f.names) (and (next_holds f v.build v.last n) (ltb 0 (times n v.build.unborn))))
may f w id (move.born n) = let v : View = actor w id in and (and (active v) (eqb v.inside.bearing (n + 1)))
    (has_cell f n (w.hands id))
may f w id (move.lose n l) = let v : View = actor w id in
    and (free v) (and (ltb n f.names) (ltb 0 (listed l (f.server n) f.losses)))
may f w id (move.lost n l) = let v : View = actor w id in and (and (and (active v) (eqb v.inside.losing (n + 1)))
    (and (eqb v.inside.line l) (ltb 0 (listed l (f.server n) f.losses)))) (is_bare (w.hands id))
may f w id (move.retake n) = let v : View = actor w id in
    and (free v) (and (ltb n f.names) (and (work_holds f v.build v.last v.work n) (ltb 0 (times n v.build.lost))))
may f w id (move.restored n) = let v : View = actor w id in and (and (active v) (eqb v.inside.retaking (n + 1)))
    (has_cell f n (w.hands id))
may f w id (move.drop n) = let v : View = actor w id in and (free v) (and (ltb n f.names) (all_shown f v n))
may f w id (move.drop_again n) = let v : View = actor w id in and (active v) (eqb v.inside.trying (n + 1))
may f w id (move.dropped n) = let v : View = actor w id in and (and (active v) (eqb v.inside.dropping (n + 1)))
    (is_bare (w.hands id))
may f w id (move.exchange h) = let v : View = actor w id in let i = v.inside in
    and (and (active v) (ltb 0 (i.getting + i.bearing + i.retaking + i.losing + i.dropping))) (not_away h)
may f w id move.split = leb 2 (actor w id).share
may f w id (move.join o) = let v : View = actor w id in let u : View = actor w o in and (cond (eqb o id) false true)
    (and (and (active v) (active u)) (and (and (eqb u.build.right 0) (eqb u.hold 0)) (and (eqb u.work 0) (free u))))

-- where the guard is true, the deed may be done
apart : (a b : ℕ) → cond (eqb a b) false true ≡ true → a ≢ b
apart a b e d = false_true (sym (λ i. cond (Rattle.std.proofs.Common.eq-eqb a b d i) false true) ∙ e)

is_publish : (f : File) (next : ℕ) (v : View) → may_publish f next v ≡ true → MayPublish f next v
is_publish f next v e = let m : ℕ = v.last - 1 in
    let a : Bool = and (and (eqb next (m + 1)) (leb next f.stages)) (settled f v m) in
    let b : Bool = and (eqb next (f.stages + 1)) (and (leb 1 m) (leb m f.stages)) in
    let t = both (and (idle v) (and (eqb v.build.right 1) (eqb v.build.looked 1))) (and (ltb 0 v.last) (cond a true b))
    e in
    let t₀ = both (idle v) (and (eqb v.build.right 1) (eqb v.build.looked 1)) t.0 in
    let r = both (eqb v.build.right 1) (eqb v.build.looked 1) t₀.1 in let i = is_idle v t₀.0 in
    let t₁ = both (ltb 0 v.last) (cond a true b) t.1 in let some_last = ltb-true 0 v.last t₁.0 in (
      i.0,
      i.1,
      eqb-true v.build.right 1 r.0,
      eqb-true v.build.looked 1 r.1,
      (
        m,
        omega arith,
        ⊎_elim
            (λ q. let x = both (and (eqb next (m + 1)) (leb next f.stages)) (settled f v m) q in
            let y = both (eqb next (m + 1)) (leb next f.stages) x.0 in
            inl (
              eqb-true next (m + 1) y.0,
              leb-true next f.stages y.1,
              λ n l h. ltb-true 0 (times n v.build.settled)
                  (implies (f.holds m n) (ltb 0 (times n v.build.settled)) (all_is f.names
                  (λ n. cond (f.holds m n) (ltb 0 (times n v.build.settled)) true) x.1 n l) h),
            ))
            (λ q. let x = both (eqb next (f.stages + 1)) (and (leb 1 m) (leb m f.stages)) q in
            let y = both (leb 1 m) (leb m f.stages) x.1 in
            inr (eqb-true next (f.stages + 1) x.0, leb-true 1 m y.0, leb-true m f.stages y.1)) (one_of a b t₁.1),
      ),
    )

-- a return that brings home the cell
home_is : (f : File) (w : World) (id n place : ℕ) → and (and (active (actor w id)) (eqb place (n + 1)))
    (has_cell f n (w.hands id)) ≡ true → (Active (actor w id) × (place ≡ n + 1)) × HasCell f n (w.hands id)
home_is f w id n place e = let v : View = actor w id in let a : Bool = and (active v) (eqb place (n + 1)) in
    let t = both a (has_cell f n (w.hands id)) e in let t₀ = both (active v) (eqb place (n + 1)) t.0 in
    ((ltb-true 0 v.share t₀.0, eqb-true place (n + 1) t₀.1), is_has_cell f n (w.hands id) t.1)

pub may_is : (f : File) (w : World) (id : ℕ) (d : Deed) → may f w id d ≡ true → MayDo f w id d
may_is f w id move.look e = is_idle (actor w id) e
may_is f w id (move.pin slot g) e = let v : View = actor w id in let a : Bool = ltb g f.stages in
    let b : Bool = eqb (slot_of slot v) 0 in
    let c : Bool = eqb v.last (g + 1 + 1) in let d : Bool = eqb (times g v.seen.shut) 0 in
    let t = both (idle v) (and a (and b (and c d))) e in let i = is_idle v t.0 in
    let t₁ = both a (and b (and c d)) t.1 in let t₂ = both b (and c d) t₁.1 in
    let t₃ = both c d t₂.1 in (
      i.0,
      i.1,
      ltb-true g f.stages t₁.0,
      eqb-true (slot_of slot v) 0 t₂.0,
      eqb-true v.last (g + 1 + 1) t₃.0,
      eqb-true
          (times g v.seen.shut) 0 t₃.1,
    )
may_is f w id (move.unpin slot g) e = let v : View = actor w id in
    let t = both (free v) (eqb (slot_of slot v) (g + 1)) e in let i = is_free v t.0 in
    (i.0, i.1, eqb-true (slot_of slot v) (g + 1) t.1)
may_is f w id (move.close g) e = let v : View = actor w id in
    let t = both (idle v) (and (ltb g f.stages) (ltb (g + 1) v.seen.number)) e in
    let i = is_idle v t.0 in let t₁ = both (ltb g f.stages) (ltb (g + 1) v.seen.number) t.1 in
    (i.0, i.1, ltb-true g f.stages t₁.0, ltb-true (g + 1) v.seen.number t₁.1)
may_is f w id move.begin e = let v : View = actor w id in let t = both (idle v) (eqb v.build.right 0) e in
    let i = is_idle v t.0 in
    (i.0, i.1, eqb-true v.build.right 0 t.1)
may_is f w id move.end e = let v : View = actor w id in let t = both (idle v) (eqb v.build.right 1) e in
    let i = is_idle v t.0 in
    (i.0, i.1, eqb-true v.build.right 1 t.1)
may_is f w id (move.publish next) e = is_publish f next (actor w id) e
may_is f w id (move.see n) e = let v : View = actor w id in let p : Bool = pin_holds f v.hold v.work n in
    let q : Bool = next_holds f v.build v.last n in
    let t = both (idle v) (and (ltb n f.names) (cond p true q)) e in let i = is_idle v t.0 in
    let t₁ = both (ltb n f.names) (cond p true q) t.1 in (
      i.0,
      i.1,
      ltb-true n f.names t₁.0,
      ⊎_elim (λ a. inl (is_pin_holds f v.hold v.work n a))
          (λ a. inr (is_next_holds f v.build v.last n a)) (one_of p q t₁.1),
    )
may_is f w id (move.take n) e = let v : View = actor w id in let p : Bool = pin_holds f v.hold v.work n in
    let t = both (free v) (and (ltb n f.names) p) e in let i = is_free v t.0 in let t₁ = both (ltb n f.names) p t.1 in
    (i.0, i.1, ltb-true n f.names t₁.0, is_pin_holds f v.hold v.work n t₁.1)
may_is f w id (move.give n) e = home_is f w id n (actor w id).inside.getting e
may_is f w id (move.birth n) e = let v : View = actor w id in let p : Bool = next_holds f v.build v.last n in
    let q : Bool = ltb 0 (times n v.build.unborn) in
    let t = both (free v) (and (ltb n f.names) (and p q)) e in let i = is_free v t.0 in
    let t₁ = both (ltb n f.names) (and p q) t.1 in
    let t₂ = both p q t₁.1 in (
      i.0,
      i.1,
      ltb-true n f.names t₁.0,
      is_next_holds f v.build v.last n t₂.0,
      ltb-true 0
          (times n v.build.unborn) t₂.1,
    )
may_is f w id (move.born n) e = home_is f w id n (actor w id).inside.bearing e
may_is f w id (move.lose n l) e = let v : View = actor w id in let p : Bool = ltb 0 (listed l (f.server n) f.losses) in
    let t = both (free v) (and (ltb n f.names) p) e in let i = is_free v t.0 in let t₁ = both (ltb n f.names) p t.1 in
    (i.0, i.1, ltb-true n f.names t₁.0, ltb-true 0 (listed l (f.server n) f.losses) t₁.1)
may_is f w id (move.lost n l) e = let v : View = actor w id in
    let a : Bool = and (active v) (eqb v.inside.losing (n + 1)) in
    let p : Bool = ltb 0 (listed l (f.server n) f.losses) in let b : Bool = and (eqb v.inside.line l) p in
    let t = both (and a b) (is_bare (w.hands id)) e in let t₀ = both a b t.0 in
    let t₁ = both (active v) (eqb v.inside.losing (n + 1)) t₀.0 in
    let t₂ = both (eqb v.inside.line l) p t₀.1 in (
      (
        ltb-true 0 v.share t₁.0,
        eqb-true v.inside.losing (n + 1) t₁.1,
        eqb-true v.inside.line l t₂.0,
        ltb-true 0
            (listed l (f.server n) f.losses) t₂.1,
      ),
      bare (w.hands id) t.1,
    )
may_is f w id (move.retake n) e = let v : View = actor w id in let p : Bool = work_holds f v.build v.last v.work n in
    let q : Bool = ltb 0 (times n v.build.lost) in
    let t = both (free v) (and (ltb n f.names) (and p q)) e in let i = is_free v t.0 in
    let t₁ = both (ltb n f.names) (and p q) t.1 in
    let t₂ = both p q t₁.1 in (
      i.0,
      i.1,
      ltb-true n f.names t₁.0,
      is_work_holds f v.build v.last v.work n t₂.0,
      ltb-true
          0 (times n v.build.lost) t₂.1,
    )
may_is f w id (move.restored n) e = home_is f w id n (actor w id).inside.retaking e
may_is f w id (move.drop n) e = let v : View = actor w id in let p : Bool = all_shown f v n in
    let t = both (free v) (and (ltb n f.names) p) e in let i = is_free v t.0 in let t₁ = both (ltb n f.names) p t.1 in
    (i.0, i.1, ltb-true n f.names t₁.0, is_all_shown f v n t₁.1)
may_is f w id (move.drop_again n) e = let v : View = actor w id in
    let t = both (active v) (eqb v.inside.trying (n + 1)) e in
    (ltb-true 0 v.share t.0, eqb-true v.inside.trying (n + 1) t.1)
may_is f w id (move.dropped n) e = let v : View = actor w id in
    let a : Bool = and (active v) (eqb v.inside.dropping (n + 1)) in
    let t = both a (is_bare (w.hands id)) e in let t₀ = both (active v) (eqb v.inside.dropping (n + 1)) t.0 in
    ((ltb-true 0 v.share t₀.0, eqb-true v.inside.dropping (n + 1) t₀.1), bare (w.hands id) t.1)
may_is f w id (move.exchange h) e = let v : View = actor w id in
    let n : ℕ = v.inside.getting + v.inside.bearing + v.inside.retaking + v.inside.losing + v.inside.dropping in
    let t = both (and (active v) (ltb 0 n)) (not_away h) e in let t₀ = both (active v) (ltb 0 n) t.0 in
    ((ltb-true 0 v.share t₀.0, ltb-true 0 n t₀.1), isnt_away h t.1)
may_is f w id move.split e = leb-true 2 (actor w id).share e
may_is f w id (move.join o) e = let v : View = actor w id in let u : View = actor w o in
    let a : Bool = and (active v) (active u) in
    let b : Bool = and (eqb u.build.right 0) (eqb u.hold 0) in let c : Bool = and (eqb u.work 0) (free u) in
    let t = both (cond (eqb o id) false true) (and a (and b c)) e in let t₁ = both a (and b c) t.1 in
    let t₂ = both b c t₁.1 in
    let ta = both (active v) (active u) t₁.0 in let tb = both (eqb u.build.right 0) (eqb u.hold 0) t₂.0 in
    let tc = both (eqb u.work 0) (free u) t₂.1 in (
      apart o id t.0,
      (
        ltb-true 0 v.share ta.0,
        ltb-true 0 u.share ta.1,
        eqb-true u.build.right 0 tb.0,
        eqb-true u.hold 0 tb.1,
        eqb-true
            u.work 0 tc.0,
        (is_free u tc.1).1,
      ),
    )

-- a run by computing
abbrev pub may_all : File → World → List Move → Bool
may_all f w [] = true
may_all f w (m ∷ ms) = and (may f w m.who m.does) (may_all f (after f w m) ms)

pub runs_if : (f : File) (w : World) (ms : List Move) → may_all f w ms ≡ true → Runs f w ms
runs_if f w [] e = tt
runs_if f w (m ∷ ms) e = let t = both (may f w m.who m.does) (may_all f (after f w m) ms) e in
    (may_is f w m.who m.does t.0, runs_if f (after f w m) ms t.1)
