-- A read in a state that is told has one result.
use Rattle.std.proofs.Common.{◌≡◌, ◌≢◌, ℕ, ◌+◌, ◌*◌, ◌<◌, ◌≤◌, ◌⊎◌, List, [], ◌∷◌, ◌++◌, length, refl}
use Rattle.std.proofs.Common.{sym, ap, ◌∙◌, subst, append-nil, inl, inr, ⊎_elim, arith}
use Rattle.std.proofs.lemmas.Bool.{cases_lt}
use Rattle.std.proofs.lemmas.Grind.{div_ceil_times}
use Rattle.std.proofs.Common.{mul-le-mul_right}
use Rattle.std.specs.declared.alloc.Global.{Global}
use Rattle.std.specs.declared.vec.Vec.{Vec}
use Rattle.mf_machine.specs.declared.answer.Slot.TheVariants.{Work}
use Rattle.mf_shape.specs.Stages.{width_at}
use Rattle.mf_places.specs.declared.Name.{Name}
use Rattle.mf_places.specs.Facts.{BookFacts, chunks_of}
use Rattle.mf_vault.specs.declared.answers.Pinned.{Pinned}
use Rattle.mf_vault.specs.declared.answers.Pinned.TheVariants as pinned
use Rattle.mf_vault.specs.Facts.{Facts}
use Rattle.mf_vault.specs.Actor.{Actor, Call, pin, unpin, did}
use Rattle.mf_vault.specs.Licence.{did_all}
use Rattle.mf_vault.proofs.Once.{one_answer}
use Rattle.mf_read.specs.declared.outcome.ReadOutcome.{ReadOutcome}
use Rattle.mf_read.specs.declared.outcome.ReadOutcome.TheVariants.{Bytes, Absent, Removed, DataLost, Unreachable}
use Rattle.mf_read.specs.declared.outcome.ReadOutcome.TheVariants.{Memory}
use Rattle.mf_read.specs.Asking.{Ask, here_in, IsShort, gets}
use Rattle.mf_read.specs.Laws.{IsSame, OneResult}
use Rattle.mf_read.specs.Reading.{AreServed, IsReadOf, IsThrough, IsRead, bears, stripes}
use Rattle.mf_read.specs.Steps.{IsShortOf}
use Rattle.mf_read.proofs.Asked.{gets_append}
use Rattle.mf_read.proofs.OnceRead.{Okay, okay, first_goes, others_okay, okay_front, Tells, tells_after, same_served}
use Rattle.mf_read.proofs.OnceRead.{not_short, same_end}

-- a stripe that is short is there
short_low : (b : BookFacts) (g j : ℕ) (asks : List Ask) → IsShort b g j asks → j < stripes b g
short_low b g j asks short = ⊎_elim (λ (low : j < stripes b g). low) (λ (high : stripes b g ≤ j). absurd
    (by_width high)) (cases_lt j (stripes b g))
  where
    by_width : stripes b g ≤ j → ⊥
    by_width high =
        let w = width_at b.shape.stages g in
        let few = short.1 in
        ⊎_elim
        (λ (wide : 0 < w).
        let rows = div_ceil_times (chunks_of b) w wide in
        let enough : chunks_of b ≤ stripes b g * w = rows.0 in
        let more : stripes b g * w ≤ j * w = mul-le-mul_right w high in
        omega arith)
        (λ (none : w ≤ 0).
        let no : w ≡ 0 = omega arith in
        let e : (j + 1) * w ≡ 0 = subst (λ (k : ℕ). (j + 1) * k ≡ 0) (sym no) (omega arith) in
        omega arith)
        (cases_lt 0 w)

-- a read that ends short, and one that ends with the bytes
record Shorts (f : Facts) (g : ℕ) (o : ReadOutcome) (cs : List Call) : Type 0 where
  pub j : ℕ
  pub front : List Ask
  pub last : List Ask
  pub served : AreServed f.book g j front
  pub short : IsShort f.book g j last
  pub calls : cs ≡ gets f (front ++ last)
  pub says : IsShortOf (bears f.book g) g j last o

record Wholes (f : Facts) (g : ℕ) (o : ReadOutcome) (cs : List Call) : Type 0 where
  pub asks : List Ask
  pub bytes : Vec ℕ Global
  pub served : AreServed f.book g (stripes f.book g) asks
  pub calls : cs ≡ gets f asks
  pub outcome : o ≡ Bytes g bytes (here_in asks)
  pub bytes_are : bytes.items ≡ f.bytes

forms : (f : Facts) (g : ℕ) (o : ReadOutcome) (cs : List Call) → IsReadOf f g o cs → o ≢ Memory
    → Wholes f g o cs ⊎ Shorts f g o cs
forms f g (Bytes h bytes from) cs (asks, eg, served, calls, same, count) ne = inl (record {
  asks = asks;
  bytes = bytes;
  served = served;
  calls = calls;
  outcome = (λ i. Bytes (eg i) bytes (count i));
  bytes_are = same;
})
forms f g (DataLost h k lost) cs (j, front, rest, served, (last, eg, ej, short, e, is, many), calls) ne = inr (record {
  j = j;
  front = front;
  last = last;
  served = served;
  short = short;
  calls = calls ∙ ap (λ (l : List Call). gets f front ++ l) e ∙ sym (gets_append f front last);
  says = (eg, ej, is, many);
})
forms f g (Unreachable h k x server) cs (
  j,
  front,
  rest,
  served,
  (last, eg, ej, short, e, few, gone),
  calls,
) ne = inr (record {
  j = j;
  front = front;
  last = last;
  served = served;
  short = short;
  calls = calls ∙ ap (λ (l : List Call). gets f front ++ l) e ∙ sym (gets_append f front last);
  says = (eg, ej, few, gone);
})
forms f g Memory cs is ne = absurd (ne refl)
forms f g Absent cs (j, front, rest, served, end, calls) ne = absurd end
forms f g Removed cs (j, front, rest, served, end, calls) ne = absurd end

head_of : (x y : Name) (s t : ℕ) (xs ys : List (Name × ℕ)) → (x, s) ∷ xs ≡ (y, t) ∷ ys → (x ≡ y) × (s ≡ t)
head_of x y s t xs ys e = let z : (x, s) ≡ (y, t) = cc in (ap (λ (p : Name × ℕ). p.0) z, ap (λ (p : Name × ℕ). p.1) z)

-- a short asking says one thing
one_said : (m g j : ℕ) (asks : List Ask) (o p : ReadOutcome) → IsShortOf m g j asks o → IsShortOf m g j asks p
    → o ≢ Memory → p ≢ Memory → IsSame o p
one_said m g j asks Memory p x y ne nf = absurd (ne refl)
one_said m g j asks Absent p x y ne nf = absurd x
one_said m g j asks Removed p x y ne nf = absurd x
one_said m g j asks (Bytes h bytes from) p x y ne nf = absurd x
one_said m g j asks (DataLost h k lost) Memory x y ne nf = absurd (nf refl)
one_said m g j asks (DataLost h k lost) Absent x y ne nf = absurd y
one_said m g j asks (DataLost h k lost) Removed x y ne nf = absurd y
one_said m g j asks (DataLost h k lost) (Bytes i bytes from) x y ne nf = absurd y
one_said m g j asks (DataLost h k lost) (DataLost i l gone) (eg, ej, is, many) (eg', ej', is', many') ne nf =
    (λ z. DataLost ((eg' ∙ sym eg) z) ((ej' ∙ sym ej) z) ((is' ∙ sym is) z))
one_said m g j asks (DataLost h k lost) (Unreachable i l y server) (eg, ej, is, many) (eg', ej', few, gone) ne nf =
    absurd (let e = ap length is in omega arith)
one_said m g j asks (Unreachable h k x server) Memory a b ne nf = absurd (nf refl)
one_said m g j asks (Unreachable h k x server) Absent a b ne nf = absurd b
one_said m g j asks (Unreachable h k x server) Removed a b ne nf = absurd b
one_said m g j asks (Unreachable h k x server) (Bytes i bytes from) a b ne nf = absurd b
one_said m g j asks (Unreachable h k x server) (DataLost i l lost) (eg, ej, few, gone) (eg', ej', is, many) ne nf =
    absurd (let e = ap length is in omega arith)
one_said m g j asks (Unreachable h k x server) (Unreachable i l y other) (eg, ej, few, (xs, gone)) (
  eg',
  ej',
  few',
  (ys, gone'),
) ne nf =
    let first = head_of y x other server ys xs (sym gone' ∙ gone) in
    (λ z. Unreachable ((eg' ∙ sym eg) z) ((ej' ∙ sym ej) z) (first.0 z) (first.1 z))

-- one generation
by_forms : (f : Facts) (g : ℕ) (o p : ReadOutcome) (xs ys : List Call) (a : Actor) → Tells a
    → Wholes f g o xs ⊎ Shorts f g o xs → Wholes f g p ys ⊎ Shorts f g p ys
    → o ≢ Memory → p ≢ Memory → Okay xs a → Okay ys a → IsSame o p × (xs ≡ ys)
by_forms f g o p xs ys a t (inl x) (inl y) ne nf ok ok' =
    let same = same_served f f.book g (stripes f.book g) x.asks y.asks a t x.served y.served (subst (λ
    (l : List Call). Okay l a) x.calls ok)
    (subst (λ (l : List Call). Okay l a) y.calls ok') in (
      subst (λ (u : ReadOutcome). IsSame u p) (sym x.outcome) (
        y.bytes,
        y.outcome ∙ ap (λ (l : List Ask). Bytes g y.bytes (here_in l)) (sym same),
        y.bytes_are
            ∙ sym x.bytes_are,
      ),
      x.calls ∙ ap (gets f) same ∙ sym y.calls,
    )
by_forms f g o p xs ys a t (inl x) (inr y) ne nf ok ok' =
    absurd (not_short f f.book g (stripes f.book g) y.j x.asks y.front y.last [] a t x.served
    (short_low f.book g y.j y.last y.short) y.served y.short
    (subst (λ (l : List Call). Okay l a) (x.calls ∙ ap (gets f) (sym (append-nil x.asks))) ok) (subst (λ
    (l : List Call). Okay l a) y.calls ok'))
by_forms f g o p xs ys a t (inr x) (inl y) ne nf ok ok' =
    absurd (not_short f f.book g (stripes f.book g) x.j y.asks x.front x.last [] a t y.served
    (short_low f.book g x.j x.last x.short) x.served x.short
    (subst (λ (l : List Call). Okay l a) (y.calls ∙ ap (gets f) (sym (append-nil y.asks))) ok') (subst (λ
    (l : List Call). Okay l a) x.calls ok))
by_forms f g o p xs ys a t (inr x) (inr y) ne nf ok ok' =
    let (same, fronts, lasts) = same_end f f.book g x.j y.j x.front x.last y.front y.last a t x.served x.short
    y.served y.short
    (subst (λ (l : List Call). Okay l a) x.calls ok) (subst (λ (l : List Call). Okay l a) y.calls ok') in (
      one_said (bears f.book g) g x.j x.last o p x.says
          (subst (λ (n : ℕ). IsShortOf (bears f.book g) g n x.last p) (sym same) (subst (λ (l : List Ask). IsShortOf
          (bears f.book g) g y.j l p) (sym lasts) y.says)) ne nf,
      x.calls ∙ (λ i. gets f (fronts i ++ lasts i)) ∙ sym y.calls,
    )

-- ---- the whole read

-- what the Work pin was answered, and what stands behind it
tail_of : Pinned → List Call → List Call
tail_of (pinned.At g) inner = inner ++ unpin Work ∷ []
tail_of pinned.Absent inner = []
tail_of pinned.Removed inner = []

Behind : Facts → Pinned → ReadOutcome → List Call → Type 0
Behind f (pinned.At g) o inner = IsReadOf f g o inner
Behind f pinned.Absent o inner = o ≡ Absent
Behind f pinned.Removed o inner = o ≡ Removed

record Pins (f : Facts) (o : ReadOutcome) (cs : List Call) : Type 0 where
  pub missed : List ℕ
  pub answer : Pinned
  pub inner : List Call
  pub behind : Behind f answer o inner
  pub calls : cs ≡ pin Work missed answer ∷ tail_of answer inner

record Holds (f : Facts) (hold : ℕ) (o : ReadOutcome) (cs : List Call) : Type 0 where
  pub g : ℕ
  pub held : hold ≡ g + 1
  pub read : IsReadOf f g o cs

through : (f : Facts) (hold g : ℕ) (o : ReadOutcome) (inner cs : List Call) → IsReadOf f g o inner
    → IsThrough hold g inner cs
    → Holds f hold o cs ⊎ ((hold ≡ 0) × Pins f o cs)
unfolding Behind tail_of
through f hold g o inner cs is (inl (held, e)) = inl (record {
  g = g;
  held = held;
  read = subst (IsReadOf f g o)
      (sym e) is;
})
through f hold g o inner cs is (inr (free, (missed, e))) =
    inr (free, record { missed = missed; answer = pinned.At g; inner = inner; behind = is; calls = e })

ways : (f : Facts) (hold : ℕ) (o : ReadOutcome) (cs : List Call) → IsRead f hold o cs
    → Holds f hold o cs ⊎ ((hold ≡ 0) × Pins f o cs)
unfolding Behind tail_of
ways f hold Absent cs (free, (missed, e)) = inr (
  free,
  record { missed = missed; answer = pinned.Absent; inner = []; behind = refl; calls = e },
)
ways f hold Removed cs (free, (missed, e)) = inr (
  free,
  record { missed = missed; answer = pinned.Removed; inner = []; behind = refl; calls = e },
)
ways f hold (Bytes h bytes from) cs (g, inner, is, way) = through f hold g (Bytes h bytes from) inner cs is way
ways f hold (DataLost h k lost) cs (g, inner, is, way) = through f hold g (DataLost h k lost) inner cs is way
ways f hold (Unreachable h k x server) cs (
  g,
  inner,
  is,
  way,
) = through f hold g (Unreachable h k x server) inner cs is way
ways f hold Memory cs (g, inner, is, way) = through f hold g Memory inner cs is way

of_generation : (f : Facts) (g : ℕ) (o p : ReadOutcome) (xs ys : List Call) (a : Actor) → Tells a
    → IsReadOf f g o xs → IsReadOf f g p ys → o ≢ Memory → p ≢ Memory
    → Okay xs a → Okay ys a → IsSame o p × (xs ≡ ys)
of_generation f g o p xs ys a t x y ne nf ok ok' = by_forms f g o p xs ys a t (forms f g o xs x ne)
    (forms f g p ys y nf) ne nf ok ok'

behind_pin : (f : Facts) (n : Pinned) (o p : ReadOutcome) (xs ys : List Call) (a : Actor) → Tells a
    → Behind f n o xs → Behind f n p ys → o ≢ Memory → p ≢ Memory
    → Okay (tail_of n xs) a → Okay (tail_of n ys) a → IsSame o p × (tail_of n xs ≡ tail_of n ys)
unfolding Behind tail_of
behind_pin f (pinned.At g) o p xs ys a t x y ne nf ok ok' =
    let r = of_generation f g o p xs ys a t x y ne nf (okay_front xs (unpin Work ∷ []) a ok) (okay_front ys
    (unpin Work ∷ []) a ok') in
    (r.0, ap (λ (l : List Call). l ++ unpin Work ∷ []) r.1)
behind_pin f pinned.Absent o p xs ys a t x y ne nf ok ok' = (subst (λ (u : ReadOutcome). IsSame u p) (sym x) y, refl)
behind_pin f pinned.Removed o p xs ys a t x y ne nf ok ok' = (subst (λ (u : ReadOutcome). IsSame u p) (sym x) y, refl)

by_pins : (f : Facts) (o p : ReadOutcome) (xs ys : List Call) (a : Actor) → Tells a → Pins f o xs → Pins f p ys
    → o ≢ Memory → p ≢ Memory → Okay xs a → Okay ys a
    → IsSame o p × (xs ≡ ys)
by_pins f o p xs ys a (w, e) x y ne nf ok ok' =
    let okx = subst (λ (l : List Call). Okay l a) x.calls ok in
    let oky = subst (λ (l : List Call). Okay l a) y.calls ok' in
    let one = one_answer.pin a (did (pin Work x.missed x.answer) a) (did
    (pin Work y.missed y.answer) a) w Work x.missed y.missed x.answer y.answer e
    (first_goes (pin Work x.missed x.answer) (tail_of x.answer x.inner) a okx) (first_goes
    (pin Work y.missed y.answer) (tail_of y.answer y.inner) a oky) in
    let c = pin Work x.missed x.answer in
    let calls : pin Work y.missed y.answer ≡ c = (λ i. pin Work (sym one.0 i) (sym one.1 i)) in
    let behind = subst (λ (n : Pinned). Behind f n p y.inner) (sym one.1) y.behind in
    let oky' = subst (λ (n : Pinned). Okay (tail_of n y.inner) (did c a)) (sym one.1)
    (subst (λ (d : Call). Okay (tail_of y.answer y.inner) (did d a)) calls (others_okay
    (pin Work y.missed y.answer) (tail_of y.answer y.inner) a oky)) in
    let r = behind_pin f x.answer o p x.inner y.inner (did c a) (tells_after c a (w, e)) x.behind behind ne nf
    (others_okay c (tail_of x.answer x.inner) a okx) oky' in
    (r.0, x.calls ∙ (λ i. c ∷ r.1 i) ∙ (λ i. sym calls i ∷ tail_of (one.1 i) y.inner) ∙ sym y.calls)

by_ways : (a : Actor) (o p : ReadOutcome) (xs ys : List Call) → Tells a
    → Holds a.facts a.view.hold o xs ⊎ ((a.view.hold ≡ 0) × Pins a.facts o xs)
    → Holds a.facts a.view.hold p ys ⊎ ((a.view.hold ≡ 0) × Pins a.facts p ys) → o ≢ Memory → p ≢ Memory
    → Okay xs a → Okay ys a → IsSame o p × (xs ≡ ys)
by_ways a o p xs ys t (inl x) (inl y) ne nf ok ok' =
    let e = x.held in let d = y.held in let same : y.g ≡ x.g = omega arith in
    of_generation a.facts x.g o p xs ys a t x.read (subst (λ (n : ℕ). IsReadOf a.facts n p ys) same y.read) ne nf ok ok'
by_ways a o p xs ys t (inl x) (inr y) ne nf ok ok' = absurd (let e = x.held in let d = y.0 in omega arith)
by_ways a o p xs ys t (inr x) (inl y) ne nf ok ok' = absurd (let e = x.0 in let d = y.held in omega arith)
by_ways a o p xs ys t (inr x) (inr y) ne nf ok ok' = by_pins a.facts o p xs ys a t x.1 y.1 ne nf ok ok'

pub one_result : OneResult
one_result a b c w o p e (xs, x, does) (ys, y, does') ne nf =
    let r = by_ways a o p xs ys (w, e) (ways a.facts a.view.hold o xs x) (ways a.facts a.view.hold p ys y) ne nf
    (okay does) (okay does') in
    (r.0, does.becomes ∙ ap (λ (l : List Call). did_all l a) r.1 ∙ sym does'.becomes)
