-- What follows from the trace of a client on one file.
use Rattle.std.proofs.Common.{◌≡◌, ℕ, zero, suc, ◌+◌, ◌<◌, ◌≤◌, true, List, [], ◌∷◌, ◌++◌, Some, refl, sym, ap, ◌∙◌, subst}
use Rattle.std.proofs.Common.{arith, take}
use Rattle.std.specs.Prelude.{slice_get}
use mathlib.Core.Logic.{dite}
use native.Mathlib.Decide.{ℕ_discrete}
use Rattle.mf_machine.specs.declared.view.View.{View}
use Rattle.mf_machine.specs.Answers as said
use Rattle.mf_machine.specs.Answers.{refusals}
use Rattle.mf_machine.specs.Steps as row
use Rattle.mf_machine.specs.Counts.{bit, times}
use Rattle.mf_machine.specs.Words.{number_of, filled}
use Rattle.mf_machine.proofs.Lists.{bit_eq}
use Rattle.mf_vault.specs.declared.answers.Entry.{Entry}
use Rattle.mf_vault.specs.declared.answers.Pinned.TheVariants.{Absent}
use Rattle.mf_vault.specs.Facts.{Facts, stages}
use Rattle.mf_vault.specs.Actor.{Actor, Call, did}
use Rattle.mf_vault.specs.Actor as call
use Rattle.mf_vault.specs.Answers.{LooksRise}
use Rattle.mf_vault.specs.Conditions.{IsIdle}
use Rattle.mf_vault.specs.Gains.{beside, publishes, sum_calls, sum_told, tells}
use Rattle.mf_vault.specs.Licence.{Does, entries_of}
use Rattle.mf_vault.proofs.Gaining.{entries_tell}
use Rattle.mf_vault.proofs.Growing.{grows}
use Rattle.mf_client.specs.declared.done.Done.{Done}
use Rattle.mf_crew.specs.Tales.{done_tale, tale_of, takes, hold_behind}
use Rattle.mf_crew.proofs.Counting.{absents}
use Rattle.mf_crew.proofs.Holding.{all_refusals_grow}
use Rattle.mf_crew.proofs.Closing.{closings_of}
use Rattle.mf_crew.proofs.Tracing.{Step, Trace, step_facts}

-- ---- the numbers that it published

step_publishes : {q n : ℕ} {x : Done} {a b : Actor} (m : ℕ) → Step q n x a b
    → times m b.view.made.numbers ≡ times m a.view.made.numbers + (done_tale q n x).published m
step_publishes {a = a} {b = b} m s =
    let g = (entries_tell s.calls (did (call.cut_off s.away) a) b s.does).0.numbers m in
    let f = s.fits.published m in omega arith

pub trace_publishes : (q n : ℕ) (done : List Done) (a b : Actor) (m : ℕ) → Trace q n done a b
    → times m b.view.made.numbers ≡ times m a.view.made.numbers + (tale_of q n done).published m
trace_publishes q n [] a b m t =
    let e = ap (λ (z : Actor). times m z.view.made.numbers) t in omega arith
trace_publishes q n (x ∷ done) a b m (mid, s, t) =
    let one = step_publishes m s in let rest = trace_publishes q n done mid b m t in omega arith

pub tale_append : (q n : ℕ) (xs ys : List Done) (m : ℕ)
    → (tale_of q n (xs ++ ys)).published m ≡ (tale_of q n xs).published m + (tale_of q n ys).published m
tale_append q n [] ys m = omega arith
tale_append q n (x ∷ xs) ys m = let r = tale_append q n xs ys m in omega arith

-- ---- the Mets that it took in

pub trace_gone : (q n : ℕ) (done : List Done) (a b : Actor) → Trace q n done a b → b.view.gone ≡ a.view.gone
trace_gone q n [] a b t = ap (λ (z : Actor). z.view.gone) t
trace_gone q n (x ∷ done) a b (mid, s, t) =
    trace_gone q n done mid b t ∙ (entries_tell s.calls (did (call.cut_off s.away) a) mid s.does).1.gone

-- ---- the begins

-- no entry tells of one
none_begun : (f : Facts) (es : List Entry) → sum_told (tells f said.begun) es ≡ 0
none_begun f [] = refl
none_begun f (e ∷ es) = let r = none_begun f es in omega arith

none_refused : (f : Facts) (es : List Entry) → sum_told (tells f said.refused) es ≡ 0
none_refused f [] = refl
none_refused f (e ∷ es) = let r = none_refused f es in omega arith

step_begins : {q n : ℕ} {x : Done} {a b : Actor} (s : Step q n x a b)
    → b.view.own.begun ≡ a.view.own.begun + sum_calls (beside a.facts said.begun) s.calls
step_begins {a = a} {b = b} s =
    let g = (entries_tell s.calls (did (call.cut_off s.away) a) b s.does).1.told said.begun tt in
    let z = none_begun a.facts (entries_of s.calls) in omega arith

step_refused : {q n : ℕ} {x : Done} {a b : Actor} (s : Step q n x a b)
    → b.view.own.refused ≡ a.view.own.refused + sum_calls (beside a.facts said.refused) s.calls
step_refused {a = a} {b = b} s =
    let g = (entries_tell s.calls (did (call.cut_off s.away) a) b s.does).1.told said.refused tt in
    let z = none_refused a.facts (entries_of s.calls) in omega arith

-- a begin more comes of a command that took the right
pub trace_begun : (q n : ℕ) (done : List Done) (a b : Actor) → Trace q n done a b
    → a.view.own.begun < b.view.own.begun
    → (k : ℕ) × (x : Done) × (slice_get done k ≡ Some x) × (takes n x ≡ true)
trace_begun q n [] a b t low =
    let e = ap (λ (z : Actor). z.view.own.begun) t in absurd (omega arith)
trace_begun q n (x ∷ done) a b (mid, s, t) low =
    let g = step_begins s in
    dite (ℕ_discrete (sum_calls (beside a.facts said.begun) s.calls) 0)
    (λ none.
    let r = trace_begun q n done mid b t (omega arith) in (suc r.0, r.1, r.2, r.3))
    (λ some. (0, x, refl, s.fits.begun (omega arith)))

-- ---- the begins that were refused

trace_refuses_more : (q n : ℕ) (done : List Done) (a b : Actor) → Trace q n done a b
    → a.view.own.refused ≤ b.view.own.refused
trace_refuses_more q n [] a b t = let e = ap (λ (z : Actor). z.view.own.refused) t in omega arith
trace_refuses_more q n (x ∷ done) a b (mid, s, t) =
    let g = step_refused s in let r = trace_refuses_more q n done mid b t in omega arith

pub trace_refused : (q n : ℕ) (done : List Done) (a b : Actor) (k : ℕ) (y : Done) → Trace q n done a b
    → slice_get done k ≡ Some y → 0 < (done_tale q n y).refused → 0 < b.view.own.refused
trace_refused q n [] a b k y t at low = absurd cc
trace_refused q n (x ∷ done) a b zero y (mid, s, t) at low =
    let same : x ≡ y = cc in
    let told : 0 < (done_tale q n x).refused = subst (λ z. 0 < (done_tale q n z).refused) (sym same) low in
    let f = s.fits.refused in
    let g = step_refused s in
    let r = trace_refuses_more q n done mid b t in omega arith
trace_refused q n (x ∷ done) a b (suc k) y (mid, s, t) at low = trace_refused q n done mid b k y t at low

-- ---- the number that it saw

-- who published a number has seen it
does_publish : (m : ℕ) (cs : List Call) (a b : Actor) → Does cs a b → 0 < sum_calls (publishes m) cs
    → m ≤ b.view.seen.number
does_publish m [] a b d low = absurd (omega arith)
does_publish m (call.publish next ∷ cs) a b d low =
    let rest : Does cs (did (call.publish next) a) b =
    record { becomes = d.becomes; fair = d.fair.1; told = d.told.1 } in
    dite (ℕ_discrete (bit next m) 0)
    (λ none. does_publish m cs (did (call.publish next) a) b rest (omega arith))
    (λ some.
    let same = bit_eq next m (omega arith) in
    let grown = (grows cs (did (call.publish next) a) b rest).number in omega arith)
does_publish m (c ∷ cs) a b d low =
    does_publish m cs (did c a) b (record { becomes = d.becomes; fair = d.fair.1; told = d.told.1 }) (omega arith)

-- a pin that finds the file not created, behind no other number
absent_first : (f : Facts) (gs : List ℕ) (v : View) → LooksRise f gs Absent v → v.seen.number ≡ 0
absent_first f [] v rises = rises
absent_first f (g ∷ gs) v rises =
    let later = absent_first f gs (row.missed g (row.looked (number_of g) v)) rises.2 in absurd (omega arith)

-- who finds the file absent has seen no number
does_absent : (cs : List Call) (a b : Actor) → Does cs a b → 0 < sum_calls absents cs → a.view.seen.number ≡ 0
does_absent [] a b d low = absurd (omega arith)
does_absent (call.pin slot gs Absent ∷ cs) a b d low = absent_first a.facts gs a.view d.fair.0
does_absent (c ∷ cs) a b d low =
    let rest = does_absent cs (did c a) b (record { becomes = d.becomes; fair = d.fair.1; told = d.told.1 })
    (omega arith) in
    let first : Does (c ∷ []) a (did c a) =
    record { becomes = refl; fair = (d.fair.0, tt); told = (d.told.0, tt) } in
    let grown = (grows (c ∷ []) a (did c a) first).number in omega arith

step_grows : {q n : ℕ} {x : Done} {a b : Actor} → Step q n x a b → a.view.seen.number ≤ b.view.seen.number
step_grows {a = a} {b = b} s = (grows s.calls (did (call.cut_off s.away) a) b s.does).number

-- who has seen a number doesn't find the file absent
trace_sees : (q n : ℕ) (done : List Done) (a b : Actor) (l : ℕ) (y : Done) → Trace q n done a b
    → slice_get done l ≡ Some y → 0 < a.view.seen.number → (done_tale q n y).absent ≡ 0
trace_sees q n [] a b l y t at seen = absurd cc
trace_sees q n (x ∷ done) a b zero y (mid, s, t) at seen =
    let same : x ≡ y = cc in
    ap (λ z. (done_tale q n z).absent) (sym same)
    ∙ dite (ℕ_discrete (done_tale q n x).absent 0) (λ none. none)
    (λ some.
    let f = s.fits.absent in
    let z = does_absent s.calls (did (call.cut_off s.away) a) mid s.does (omega arith) in absurd (omega arith))
trace_sees q n (x ∷ done) a b (suc l) y (mid, s, t) at seen =
    let g = step_grows s in trace_sees q n done mid b l y t at (omega arith)

pub trace_creates : (q n : ℕ) (done : List Done) (a b : Actor) (k l : ℕ) (x y : Done) → Trace q n done a b
    → slice_get done k ≡ Some x → slice_get done l ≡ Some y → k < l
    → 0 < (done_tale q n x).published (number_of 0) → (done_tale q n y).absent ≡ 0
trace_creates q n [] a b k l x y t at there low made = absurd cc
trace_creates q n (z ∷ done) a b k zero x y t at there low made = absurd (omega arith)
trace_creates q n (z ∷ done) a b zero (suc l) x y (mid, s, t) at there low made =
    let same : z ≡ x = cc in
    let told : 0 < (done_tale q n z).published (number_of 0) =
    subst (λ w. 0 < (done_tale q n w).published (number_of 0)) (sym same) made in
    let f = s.fits.published (number_of 0) in
    let seen = does_publish (number_of 0) s.calls (did (call.cut_off s.away) a) mid s.does (omega arith) in
    trace_sees q n done mid b l y t there (omega arith)
trace_creates q n (z ∷ done) a b (suc k) (suc l) x y (mid, s, t) at there low made =
    trace_creates q n done mid b k l x y t at there (omega arith) made

-- ---- the Hold slot, and the pins that closes met

trace_idle : (q n : ℕ) (done : List Done) (a b : Actor) → Trace q n done a b → IsIdle a → IsIdle b
trace_idle q n [] a b t idle = subst IsIdle (sym t) idle
trace_idle q n (x ∷ done) a b (mid, s, t) idle =
    trace_idle q n done mid b t (s.more.idle (record { right = idle.right; work = idle.work }))

trace_refusals : (q n : ℕ) (done : List Done) (a b : Actor) (g m own : ℕ) → Trace q n done a b
    → refusals g m own a.view.own.pinned ≤ refusals g m own b.view.own.pinned
trace_refusals q n [] a b g m own t =
    let e = ap (λ (z : Actor). refusals g m own z.view.own.pinned) t in omega arith
trace_refusals q n (x ∷ done) a b g m own (mid, s, t) =
    let cut = did (call.cut_off s.away) a in
    let one = all_refusals_grow s.calls cut g m own in
    let same = ap (λ (z : Actor). refusals g m own z.view.own.pinned) s.does.becomes in
    let rest = trace_refusals q n done mid b g m own t in omega arith

-- each refused close that a command names was entered with the pins of the slot, as the commands before left it
pub trace_pinned : (q n : ℕ) (done : List Done) (a b : Actor) (k : ℕ) (y : Done) (g m : ℕ) → Trace q n done a b
    → IsIdle a → slice_get done k ≡ Some y → 0 < (done_tale q n y).pinned g m
    → (0 < refusals g m (bit (hold_behind n (take k done) a.view.hold) (filled g)) b.view.own.pinned) × (0 < m)
trace_pinned q n [] a b k y g m t idle at low = absurd cc
trace_pinned q n (x ∷ done) a b zero y g m (mid, s, t) idle at low =
    let same : x ≡ y = cc in
    let told : 0 < (done_tale q n x).pinned g m = subst (λ z. 0 < (done_tale q n z).pinned g m) (sym same) low in
    let met = s.more.pinned (record { right = idle.right; work = idle.work }) g m told in
    let grown = trace_refusals q n done mid b g m (bit a.view.hold (filled g)) t in
    let entered = met.0 in
    let some = met.1 in (omega arith, some)
trace_pinned q n (x ∷ done) a b (suc k) y g m (mid, s, t) idle at low =
    let first : IsIdle (did (call.cut_off s.away) a) = record { right = idle.right; work = idle.work } in
    let r = trace_pinned q n done mid b k y g m t (s.more.idle first) at low in (
      subst (λ (h : ℕ). 0 < refusals g m (bit (hold_behind n (take k done) h) (filled g)) b.view.own.pinned)
          (s.more.hold first) r.0,
      r.1,
    )

-- ---- the generations that it closed

pub trace_closed : (q n : ℕ) (done : List Done) (a b : Actor) → Trace q n done a b → stages a.facts ≡ q
    → closings_of q b.view ≡ closings_of q a.view + (tale_of q n done).closed
trace_closed q n [] a b t e = let same = ap (λ (z : Actor). closings_of q z.view) t in omega arith
trace_closed q n (x ∷ done) a b (mid, s, t) e =
    let one = subst (λ (k : ℕ). closings_of k mid.view ≡ closings_of k a.view + (done_tale q n x).closed) e s.more.closed in
    let rest = trace_closed q n done mid b t (ap stages (step_facts s) ∙ e) in omega arith

pub closed_append : (q n : ℕ) (xs ys : List Done)
    → (tale_of q n (xs ++ ys)).closed ≡ (tale_of q n xs).closed + (tale_of q n ys).closed
closed_append q n [] ys = omega arith
closed_append q n (x ∷ xs) ys = let r = closed_append q n xs ys in omega arith
