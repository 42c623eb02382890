-- Closes in turn: what each leaves, and what it shows.
use Rattle.std.proofs.Common.{◌≡◌, ℕ, ◌+◌, ◌<◌, ◌≤◌, Bool, true, false, List, [], ◌∷◌, ◌++◌, length, get_or, refl}
use Rattle.std.proofs.Common.{sym, ap}
use Rattle.std.proofs.Common.{◌∙◌, subst, ⊎_elim, arith}
use Rattle.std.proofs.lemmas.Bool.{false≢true, cases_lt}
use Rattle.std.proofs.lemmas.List.{get_or_push, get_or_append_left, get_or_past, length_push}
use native.Mathlib.Decide.{ℕ_discrete}
use mathlib.Core.Logic.{dite}
use Rattle.mf_machine.specs.declared.answer.Closed.{Closed}
use Rattle.mf_machine.specs.declared.answer.Closed.TheVariants as closed
use Rattle.mf_machine.specs.Actors.{Shown}
use Rattle.mf_machine.proofs.Lists.{times_more, times_here}
use Rattle.mf_vault.specs.Facts.{Facts, stages}
use Rattle.mf_vault.specs.Actor.{Actor, Call, close, did}
use Rattle.mf_vault.specs.Answers.{Goes}
use Rattle.mf_vault.specs.Conditions.{IsIdle, Leaves}
use Rattle.mf_vault.specs.Licence.{Does}
use Rattle.mf_vault.specs.May.{MayClose}
use Rattle.mf_vault.proofs.Doing.{more}
use Rattle.mf_reclaim.specs.Reclaim.{closes, is_shut, was_shut}
use Rattle.mf_reclaim.specs.Collecting.{AreShown, HasSeen}

-- an idle actor that did nothing
pub leaves_nothing : {a : Actor} → IsIdle a → Leaves a a
leaves_nothing i = record { idle = i; facts = refl; hold = refl; cut = refl }

pub leaves_then : {a b d : Actor} → Leaves a b → Leaves b d → Leaves a d
leaves_then x y = record {
  idle = y.idle;
  facts = y.facts ∙ x.facts;
  hold = y.hold ∙ x.hold;
  cut = y.cut ∙ x.cut;
}

close_leaves : (g : ℕ) (c : Closed) (a : Actor) → IsIdle a → Leaves a (did (close g c) a)
close_leaves g closed.Done a i = record {
  idle = record { right = i.right; work = i.work };
  facts = refl;
  hold =
      refl;
  cut = refl;
}
close_leaves g (closed.Pins n) a i = record {
  idle = record { right = i.right; work = i.work };
  facts = refl;
  hold =
      refl;
  cut = refl;
}
close_leaves g closed.Already a i = record {
  idle = record { right = i.right; work = i.work };
  facts = refl;
  hold =
      refl;
  cut = refl;
}

pub leaves_closed : {g : ℕ} {c : Closed} {a b d : Actor} → Leaves a b → Goes (close g c) b d → Leaves a d
leaves_closed {g = g} {c = c} {a = a} {b = b} x y =
    leaves_then x (subst (λ (z : Actor). Leaves b z) (sym y.becomes) (close_leaves g c b x.idle))

-- what was seen stays
close_number : (g : ℕ) (c : Closed) (a : Actor) → (did (close g c) a).view.seen.number ≡ a.view.seen.number
close_number g closed.Done a = refl
close_number g (closed.Pins n) a = refl
close_number g closed.Already a = refl

pub seen_closed : {end g : ℕ} {c : Closed} {a b : Actor} → HasSeen end a → Goes (close g c) a b → HasSeen end b
seen_closed {end = end} {g = g} {c = c} {a = a} s x = record {
  stage = subst (λ (z : Actor). end ≤ stages z.facts) (sym x.becomes) s.stage;
  number = let n = ap (λ (z : Actor). z.view.seen.number) x.becomes
      ∙ close_number g c a in let m = s.number in omega arith;
}

pub may_close : {end : ℕ} {a : Actor} (g : ℕ) → HasSeen end a → g < end → MayClose g a
may_close g s low = let e = s.stage in let n = s.number in (omega arith, omega arith)

-- what a close shows, and that what was shown stays so
shown_here : (g : ℕ) (c : Closed) (a : Actor) → is_shut c ≡ true → Shown g (did (close g c) a).view.own
shown_here g closed.Done a e = let t = times_here g a.view.own.closed in omega arith
shown_here g (closed.Pins n) a e = absurd (false≢true e)
shown_here g closed.Already a e = let t = times_here g a.view.own.already in omega arith

shown_on : (g k : ℕ) (c : Closed) (a : Actor) → Shown g a.view.own → Shown g (did (close k c) a).view.own
shown_on g k closed.Done a h = let t = times_more g k a.view.own.closed in omega arith
shown_on g k (closed.Pins n) a h = h
shown_on g k closed.Already a h = let t = times_more g k a.view.own.already in omega arith

pub shown_none : (a : Actor) (answers : List Closed) → answers ≡ [] → AreShown answers a
shown_none a answers e = subst (λ l. AreShown l a) (sym e) (λ g h. absurd (false≢true (sym (ap is_shut
    (get_or_past [] g (closed.Pins 0) (omega arith))) ∙ h)))

pub shown_more : {g : ℕ} {c : Closed} {a b : Actor} (answers : List Closed) {all : List Closed} → AreShown answers a
    → length answers ≡ g → all ≡ answers ++ c ∷ [] → Goes (close g c) a b → AreShown all b
shown_more {g = g} {c = c} {a = a} {b = b} answers s long e x =
    subst (λ l. AreShown l b) (sym e) (subst (λ (z : Actor). AreShown (answers ++ c ∷ []) z) (sym x.becomes) each)
  where
    each : AreShown (answers ++ c ∷ []) (did (close g c) a)
    each k h = dite (ℕ_discrete k g)
        (λ same. subst (λ n. Shown n (did (close g c) a).view.own) (sym same)
        (shown_here g c a (sym (ap is_shut (get_or_push answers c (closed.Pins 0) k (long ∙ sym same))) ∙ h)))
        (λ other. shown_on k g c a (s k (before k other h)))
      where
        before : (k : ℕ) → (k ≡ g → ⊥) → was_shut (answers ++ c ∷ []) k ≡ true → was_shut answers k ≡ true
        before k other h = ⊎_elim
            (λ (low : k < g). sym (ap is_shut (get_or_append_left answers (c ∷ []) (closed.Pins 0) k
            (omega arith))) ∙ h)
            (λ (high : g ≤ k). absurd (false≢true (sym (ap is_shut (get_or_past (answers ++ c ∷ []) k (closed.Pins 0)
            (let n = length_push answers c in omega arith))) ∙ h)))
            (cases_lt k g)

closes_more : (g : ℕ) (answers : List Closed) (c : Closed)
    → closes g (answers ++ c ∷ []) ≡ closes g answers ++ close (g + length answers) c ∷ []
closes_more g [] c = ap (λ n. close n c ∷ []) (omega arith)
closes_more g (x ∷ answers) c = ap (λ l. close g x ∷ l) (closes_more (g + 1) answers c
    ∙ ap (λ n. closes (g + 1) answers ++ close n c ∷ []) (omega arith))

pub closed_more : (answers : List Closed) {all : List Closed} {g : ℕ} {c : Closed} {a b d : Actor}
    → Does (closes 0 answers) a b → length answers ≡ g → all ≡ answers ++ c ∷ [] → Goes (close g c) b d
    → Does (closes 0 all) a d
closed_more answers {g = g} {c = c} {a = a} {d = d} x long e y =
    subst (λ l. Does (closes 0 l) a d) (sym e) (subst (λ l. Does l a d) (sym (closes_more 0 answers c
    ∙ ap (λ n. closes 0 answers ++ close n c ∷ []) (let z : 0 + length answers ≡ g = omega arith in z))) (more x y))
