-- The probes of the next generation in turn.
use Rattle.std.proofs.Common.{◌≡◌, ℕ, suc, ◌+◌, ◌<◌, List, [], ◌∷◌, ◌++◌, length, take, drop, get_or, refl, sym, ap}
use Rattle.std.proofs.Common.{◌∙◌, subst}
use Rattle.std.proofs.Common.{arith, length-take-le}
use Rattle.std.proofs.lemmas.List.{take_more, length_push, get_or_push, get_or_append_left, get_or_default}
use native.Mathlib.Decide.{ℕ_discrete}
use mathlib.Core.Logic.{dite}
use Rattle.mf_machine.specs.declared.answer.State.{State}
use Rattle.mf_machine.specs.declared.answer.State.TheVariants.{Here}
use Rattle.mf_places.specs.declared.Name.{Name}
use Rattle.mf_places.specs.Facts.{BookFacts}
use Rattle.mf_vault.specs.Facts.{number}
use Rattle.mf_vault.specs.Actor.{Actor, Call, did}
use Rattle.mf_vault.specs.Actor as call
use Rattle.mf_vault.specs.Answers.{Goes}
use Rattle.mf_vault.specs.Licence.{Does}
use Rattle.mf_vault.proofs.Doing.{more}
use Rattle.mf_convert.specs.declared.change.Change.{Change}
use Rattle.mf_convert.specs.declared.course.Course.{Course}
use Rattle.mf_convert.specs.Create.{probes}
use Rattle.mf_convert.specs.Convert.{GoesOn, AllGoOn}
use Rattle.mf_convert.specs.Converting.{IsFound, AreFound, Cuts, CutsProbes}
use Rattle.mf_convert.proofs.Courses.{cut_before, cut_behind}
use Rattle.mf_convert.proofs.Marks.{found_stays, found_here, probe_keeps}
use Rattle.mf_convert.proofs.Rows.{around}

probes_then : (xs ys : List Name) (ss ts : List State) → length xs ≡ length ss
    → probes (xs ++ ys) (ss ++ ts) ≡ probes xs ss ++ probes ys ts
probes_then [] ys [] ts e = refl
probes_then [] ys (s ∷ ss) ts e = absurd (omega arith)
probes_then (x ∷ xs) ys [] ts e = absurd (omega arith)
probes_then (x ∷ xs) ys (s ∷ ss) ts e = ap (λ l. call.probe x s ∷ l) (probes_then xs ys ss ts (omega arith))

all_then : (b : BookFacts) (g : ℕ) (xs ys : List Name) (ss ts : List State) → AllGoOn b g xs ss → AllGoOn b g ys ts
    → AllGoOn b g (xs ++ ys) (ss ++ ts)
all_then b g [] ys [] ts h k = k
all_then b g [] ys (s ∷ ss) ts h k = absurd h
all_then b g (x ∷ xs) ys [] ts h k = absurd h
all_then b g (x ∷ xs) ys (s ∷ ss) ts h k = (h.0, all_then b g xs ys ss ts h.1 k)

-- answers for names that aren't probed any more
abbrev pub heres : List Name → List State
heres [] = []
heres (x ∷ xs) = Here ∷ heres xs

pub heres_on : (b : BookFacts) (g : ℕ) (xs : List Name) → AllGoOn b g xs (heres xs)
heres_on b g [] = tt
heres_on b g (x ∷ xs) = (tt, heres_on b g xs)

-- there is an answer for each name
pub all_long : (b : BookFacts) (g : ℕ) (xs : List Name) (ss : List State) → AllGoOn b g xs ss → length ss ≡ length xs
all_long b g [] [] h = refl
all_long b g [] (s ∷ ss) h = absurd h
all_long b g (x ∷ xs) [] h = absurd h
all_long b g (x ∷ xs) (s ∷ ss) h = ap suc (all_long b g xs ss h.1)

-- one probe more
pub probed_more : (xs : List Name) (ss : List State) {ts : List State} (n : ℕ) (d : Name) {s : State} {a b c : Actor}
    → Does (probes (take n xs) ss) a b → length ss ≡ n → Goes (call.probe (get_or xs n d) s) b c → ts ≡ ss ++ s ∷ []
    → n < length xs
    → Does (probes (take (n + 1) xs) ts) a c
probed_more xs ss n d {s = s} {a = a} {c = c} p long g e low =
    let calls : Does (probes (take n xs) ss ++ call.probe (get_or xs n d) s ∷ []) a c = more p g in
    let same = probes_then (take n xs) (get_or xs n d ∷ []) ss (s ∷ []) (length-take-le n xs (omega arith)
    ∙ sym long) in
    subst (λ l. Does (probes (take (n + 1) xs) l) a c) (sym e)
    (subst (λ l. Does (probes l (ss ++ s ∷ [])) a c) (sym (take_more xs n d low))
    (subst (λ l. Does l a c) (sym same) calls))

pub all_more : (b : BookFacts) (g : ℕ) (xs : List Name) (ss : List State) {ts : List State} (n : ℕ) (d : Name)
    (s : State)
    → AllGoOn b g (take n xs) ss → GoesOn b g (get_or xs n d) s → ts ≡ ss ++ s ∷ [] → n < length xs
    → AllGoOn b g (take (n + 1) xs) ts
all_more b g xs ss n d s h k e low =
    subst (λ l. AllGoOn b g (take (n + 1) xs) l) (sym e)
    (subst (λ l. AllGoOn b g l (ss ++ s ∷ [])) (sym (take_more xs n d low))
    (all_then b g (take n xs) (get_or xs n d ∷ []) ss (s ∷ []) h (k, tt)))

pub found_more : (g : ℕ) (names : List Name) (states : List State) {all : List State} (n : ℕ)
    (d : Name) {s : State} {a b : Actor}
    → AreFound g a 0 names states → length states ≡ n → Goes (call.probe (get_or names n d) s) a b
    → GoesOn a.facts.book g (get_or names n d) s
    → all ≡ states ++ s ∷ [] → n < length names → AreFound g b 0 names all
found_more g names states {all = all} n d {s = s} {a = a} {b = b} marks long go on e low =
    subst (λ l. AreFound g b 0 names l) (sym e) each where
      keeps : (x : Name) (t : State) → IsFound g a x t → IsFound g b x t
      keeps x t h = subst (λ (z : Actor). IsFound g z x t) (sym go.becomes)
          (found_stays g x t refl (cut_same s) (probe_keeps (number a.facts x) (get_or names n d) s a) h) where
            cut_same : (r : State) → (did (call.probe (get_or names n d) r) a).cut ≡ a.cut
            cut_same r = refl

      each : AreFound g b 0 names (states ++ s ∷ [])
      each i x t from below = dite (ℕ_discrete i n)
          (λ same. subst (λ j. IsFound g b (get_or names j x) (get_or (states ++ s ∷ []) j t)) (sym same)
          (subst (λ y. IsFound g b y (get_or (states ++ s ∷ []) n t)) (get_or_default names n d x low)
          (subst (λ u. IsFound g b (get_or names n d) u) (sym (get_or_push states s t n long)) (found_here g go on))))
          (λ other. let len = length_push states s in let before : i < length states = omega arith in
          subst (λ u. IsFound g b (get_or names i x) u) (sym (get_or_append_left states (s ∷ []) t i before))
          (keeps (get_or names i x) (get_or states i t) (marks i x t from before)))

-- a cut at place n
pub cut_at : {c : Course} (names : List Name) (states : List State) (n : ℕ) (d : Name) {o : Change} {a b z : Actor}
    → Does (probes (take n names) states) a b → AllGoOn a.facts.book c.from (take n names) states
    → length states ≡ n → n < length names
    → Cuts c (call.probe (get_or names n d) Here ∷ []) o b z → CutsProbes c names o a z
cut_at {c = c} names states n d {o = o} {a = a} {z = z} does on long low k =
    let x = get_or names n d in
    let rest = drop (suc n) names in
    let after = Here ∷ heres rest in
    let split = around names n d low in
    let same = probes_then (take n names) (x ∷ rest) states after (length-take-le n names (omega arith) ∙ sym long) in
    record {
      states = states ++ after;
      on = subst (λ l. AllGoOn a.facts.book c.from l (states ++ after)) (sym split)
          (all_then a.facts.book c.from (take n names) (x ∷ rest) states after on
          (tt, heres_on a.facts.book c.from rest));
      cuts = subst (λ l. Cuts c (probes l (states ++ after)) o a z) (sym split)
          (subst (λ l. Cuts c l o a z) (sym same) (cut_behind does (cut_before (probes rest (heres rest)) k)));
    }
