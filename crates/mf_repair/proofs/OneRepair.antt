-- Where the whole state is told, a repair has one result.
use Rattle.std.proofs.Common.{◌≡◌, ◌≢◌, ℕ, zero, suc, ◌+◌, ◌<◌, ◌≤◌, true, false, List, [], ◌∷◌, ◌++◌, length, Some}
use Rattle.std.proofs.Common.{refl, sym}
use Rattle.std.proofs.Common.{ap, ◌∙◌, subst, append_assoc, append-nil, ⊎_elim, arith}
use Rattle.std.proofs.lemmas.Bool.{cases_lt}
use Rattle.mf_machine.specs.declared.answer.Slot.TheVariants.{Work}
use Rattle.mf_machine.specs.declared.answer.State.{State}
use Rattle.mf_machine.specs.Worlds.{World}
use Rattle.mf_places.specs.declared.Name.{Name}
use Rattle.mf_places.specs.Generations.{stripe_names}
use Rattle.mf_vault.specs.declared.answers.Pinned.{Pinned}
use Rattle.mf_vault.specs.declared.answers.Pinned.TheVariants.{At, Absent, Removed}
use Rattle.mf_vault.specs.Facts.{Facts}
use Rattle.mf_vault.specs.Actor.{Actor, Call, begin, end, pin, unpin, probe, did}
use Rattle.mf_vault.specs.Licence.{Does, did_all}
use Rattle.mf_vault.proofs.Once.{one_answer}
use Rattle.mf_read.specs.Asking.{Ask, here_in, IsServed, IsShort, gets, lost_in, away_in}
use Rattle.mf_read.specs.Reading.{stripes}
use Rattle.mf_read.proofs.OnceRead.{Okay, okay, first_goes, others_okay, okay_front, okay_behind, Tells, tells_after}
use Rattle.mf_read.proofs.OnceRead.{tells_all, same_asking}
use Rattle.mf_repair.specs.declared.outcome.RepairOutcome.{RepairOutcome}
use Rattle.mf_repair.specs.declared.outcome.RepairOutcome.TheVariants as outcome
use Rattle.mf_repair.specs.Repair as licence
use Rattle.mf_repair.specs.Repair.{probes, lost_names, restores, restores_in, skips_in, once, found_in}
use Rattle.mf_repair.specs.Repair.{IsMended, AreMended, IsShortMend, IsEnd, IsRepairOf, IsRepair, Repairs}
use Rattle.mf_repair.specs.Laws.{RepairsOnce}

-- probes of the same names
probes_once : (names : List Name) (ss ts : List State) (a : Actor) → Tells a → length ss ≡ length names
    → length ts ≡ length names → Okay (probes names ss) a → Okay (probes names ts) a → ss ≡ ts
probes_once [] [] [] a t m n o p = refl
probes_once [] [] (y ∷ ts) a t m n o p = absurd (omega arith)
probes_once [] (x ∷ ss) ts a t m n o p = absurd (omega arith)
probes_once (z ∷ names) [] ts a t m n o p = absurd (omega arith)
probes_once (z ∷ names) (x ∷ ss) [] a t m n o p = absurd (omega arith)
probes_once (z ∷ names) (x ∷ ss) (y ∷ ts) a (w, e) m n o p =
    let same = one_answer.probe a (did (probe z x) a) (did (probe z y) a) w z x y e
    (first_goes (probe z x) (probes names ss) a o) (first_goes (probe z y) (probes names ts) a p) in
    let rest = probes_once names ss ts (did (probe z x) a) (tells_after (probe z x) a (w, e)) (omega arith)
    (omega arith)
    (others_okay (probe z x) (probes names ss) a o)
    (subst (λ s. Okay (probes names ts) (did (probe z s) a)) (sym same) (others_okay (probe z y)
    (probes names ts) a p)) in
    (λ k. same k ∷ rest k)

-- the askings behind the same probes
asked_once : (f : Facts) (g j : ℕ) (ss ts : List State) (xs ys : List Ask) (r q : List Call) (a : Actor) → Tells a
    → ss ≡ ts → IsServed f.book g j xs → IsServed f.book g j ys
    → Okay (probes (stripe_names f.book g j) ss ++ (gets f xs ++ r)) a
    → Okay (probes (stripe_names f.book g j) ts ++ (gets f ys ++ q)) a → xs ≡ ys
asked_once f g j ss ts xs ys r q a t same x y o p =
    let names = stripe_names f.book g j in
    let p' = subst (λ l. Okay (probes names l ++ (gets f ys ++ q)) a) (sym same) p in
    same_asking f f.book g j xs ys (did_all (probes names ss) a) (tells_all (probes names ss) a t) x.0 y.0
    (okay_front (gets f xs) r (did_all (probes names ss) a) (okay_behind (probes names ss) (gets f xs ++ r) a o))
    (okay_front (gets f ys) q (did_all (probes names ss) a) (okay_behind (probes names ss) (gets f ys ++ q) a p'))

no_some : {ss ts : List State} (names : List Name) → ss ≡ ts → lost_names names ss ≡ []
    → 0 < length (lost_names names ts)
    → ⊥
no_some names same none some = let e = ap (λ l. length (lost_names names l)) same in let n = ap length none in omega
    arith

-- a stripe is mended in one way
mended_once : {f : Facts} {g j : ℕ} {xs ys : List Call} (a : Actor) → Tells a → IsMended f g j xs → IsMended f g j ys
    → Okay xs a → Okay ys a → xs ≡ ys
mended_once {f = f} {g = g} {j = j} a t (licence.whole ss m none) (licence.whole ts n none') o p =
    ap (probes (stripe_names f.book g j)) (probes_once (stripe_names f.book g j) ss ts a t m n o p)
mended_once {f = f} {g = g} {j = j} a t (licence.whole ss m none) (licence.mended ts ys n some served) o p =
    let names = stripe_names f.book g j in
    absurd (no_some names (probes_once names ss ts a t m n o
    (okay_front (probes names ts) (gets f ys ++ restores (lost_names names ts)) a p)) none some)
mended_once {f = f} {g = g} {j = j} a t (licence.mended ss xs m some served) (licence.whole ts n none) o p =
    let names = stripe_names f.book g j in
    absurd (no_some names (sym (probes_once names ss ts a t m n
    (okay_front (probes names ss) (gets f xs ++ restores (lost_names names ss)) a o) p)) none some)
mended_once {f = f} {g = g} {j = j} a t (licence.mended ss xs m some served)
    (licence.mended ts ys n some' served') o p =
    let names = stripe_names f.book g j in
    let same = probes_once names ss ts a t m n (okay_front (probes names ss) (gets f xs ++ restores
    (lost_names names ss)) a o)
    (okay_front (probes names ts) (gets f ys ++ restores (lost_names names ts)) a p) in
    let asks = asked_once f g j ss ts xs ys (restores (lost_names names ss)) (restores
    (lost_names names ts)) a t same served
    served' o p in
    (λ k. probes names (same k) ++ (gets f (asks k) ++ restores (lost_names names (same k))))

-- and not found short
mended_short : {f : Facts} {g j : ℕ} {xs : List Call} (ys : List Call) (a : Actor) → Tells a → IsMended f g j xs
    → IsShortMend f g j ys → Okay xs a → Okay ys a → ⊥
mended_short {f = f} {g = g} {j = j} ys a t (licence.whole ss m none) s o p =
    let names = stripe_names f.book g j in
    no_some names (probes_once names ss s.states a t m s.long o
    (okay_front (probes names s.states) (gets f s.asks) a (subst (λ l. Okay l a) s.order p))) none s.some
mended_short {f = f} {g = g} {j = j} ys a t (licence.mended ss xs m some served) s o p =
    let names = stripe_names f.book g j in
    let p' = subst (λ l. Okay l a) s.order p in
    let same = probes_once names ss s.states a t m s.long
    (okay_front (probes names ss) (gets f xs ++ restores (lost_names names ss)) a o)
    (okay_front (probes names s.states) (gets f s.asks) a p') in
    let q = subst (λ l. Okay (probes names l ++ gets f s.asks) a) (sym same) p' in
    let now = did_all (probes names ss) a in
    let asks = same_asking f f.book g j xs s.asks now (tells_all (probes names ss) a t) served.0 s.short.0
    (okay_front (gets f xs) (restores (lost_names names ss)) now (okay_behind (probes names ss)
    (gets f xs ++ restores (lost_names names ss)) a o))
    (okay_behind (probes names ss) (gets f s.asks) a q) in
    let e = ap here_in asks in
    let had = served.1 in
    let few = s.short.1 in
    omega arith

-- two short ones are the same
short_once : {f : Facts} {g j : ℕ} (xs ys : List Call) (a : Actor) → Tells a → IsShortMend f g j xs
    → IsShortMend f g j ys
    → Okay xs a → Okay ys a → xs ≡ ys
short_once {f = f} {g = g} {j = j} xs ys a t r s o p =
    let names = stripe_names f.book g j in
    let o' = subst (λ l. Okay l a) r.order o in
    let p' = subst (λ l. Okay l a) s.order p in
    let same = probes_once names r.states s.states a t r.long s.long
    (okay_front (probes names r.states) (gets f r.asks) a o') (okay_front (probes names s.states)
    (gets f s.asks) a p') in
    let q = subst (λ l. Okay (probes names l ++ gets f s.asks) a) (sym same) p' in
    let now = did_all (probes names r.states) a in
    let asks = same_asking f f.book g j r.asks s.asks now (tells_all (probes names r.states) a t) r.short.0 s.short.0
    (okay_behind (probes names r.states) (gets f r.asks) a o') (okay_behind (probes names r.states)
    (gets f s.asks) a q) in
    r.order ∙ ((λ k. probes names (same k) ++ gets f (asks k)) ∙ sym s.order)

-- stripes in turn
are_once : (f : Facts) (g n : ℕ) (xs ys : List Call) (a : Actor) → Tells a → AreMended f g n xs → AreMended f g n ys
    → Okay xs a → Okay ys a → xs ≡ ys
are_once f g zero xs ys a t x y o p = x ∙ sym y
are_once f g (suc n) xs ys a t (front, last, before, is, e) (front', last', before', is', e') o p =
    let o' = subst (λ (l : List Call). Okay l a) e o in
    let p' = subst (λ (l : List Call). Okay l a) e' p in
    let first = are_once f g n front front' a t before before' (okay_front front last a o')
    (okay_front front' last' a p') in
    let rest = mended_once (did_all front a) (tells_all front a t) is is' (okay_behind front last a o')
    (subst (λ (u : List Call). Okay last' (did_all u a)) (sym first) (okay_behind front' last' a p')) in
    e ∙ ((λ i. first i ++ rest i) ∙ sym e')

-- stripe j among them
record Amid (f : Facts) (g j : ℕ) (calls : List Call) : Type 0 where
  pub front : List Call
  pub last : List Call
  pub rest : List Call
  pub before : AreMended f g j front
  pub mended : IsMended f g j last
  pub order : calls ≡ (front ++ last) ++ rest

amid : (f : Facts) (g n j : ℕ) (calls : List Call) → AreMended f g n calls → j < n → Amid f g j calls
amid f g zero j calls is low = absurd (omega arith)
amid f g (suc n) j calls (front, last, before, is, e) low = ⊎_elim
    (λ (less : j < n). let m = amid f g n j front before less in record {
      front = m.front;
      last = m.last;
      rest = m.rest ++ last;
      before = m.before;
      mended = m.mended;
      order = e ∙ (ap (λ (l : List Call). l ++ last) m.order ∙ append_assoc (m.front ++ m.last) m.rest last);
    })
    (λ (more : n ≤ j). let same : n ≡ j = omega arith in record {
      front = front;
      last = last;
      rest = [];
      before = subst (λ (k : ℕ). AreMended f g k front) same before;
      mended = subst (λ (k : ℕ). IsMended f g k last) same is;
      order = e ∙ sym (append-nil (front ++ last));
    })
    (cases_lt j n)

-- so no repair that goes beyond a stripe finds it short
not_short : (f : Facts) (g n j : ℕ) (xs front last rest : List Call) (a : Actor) → Tells a → AreMended f g n xs
    → j < n
    → AreMended f g j front → IsShortMend f g j last → Okay (xs ++ rest) a → Okay (front ++ last) a → ⊥
not_short f g n j xs front last rest a t are low before short o p =
    let m = amid f g n j xs are low in
    let o' = subst (λ (l : List Call). Okay l a) m.order (okay_front xs rest a o) in
    let q = okay_front (m.front ++ m.last) m.rest a o' in
    let first = are_once f g j m.front front a t m.before before (okay_front m.front m.last a q)
    (okay_front front last a p) in
    mended_short last (did_all m.front a) (tells_all m.front a t) m.mended short (okay_behind m.front m.last a q)
    (subst (λ (u : List Call). Okay last (did_all u a)) (sym first) (okay_behind front last a p))

-- two repairs that end short do so at one stripe
record OneEnd (j k : ℕ) (xs x ys y : List Call) : Type 0 where
  pub stripe : j ≡ k
  pub fronts : xs ≡ ys
  pub lasts : x ≡ y

one_stripe : (f : Facts) (g j k : ℕ) (xs x ys y : List Call) (a : Actor) → Tells a → AreMended f g j xs
    → IsShortMend f g j x → AreMended f g k ys → IsShortMend f g k y → Okay (xs ++ x) a → Okay (ys ++ y) a → j ≡ k
one_stripe f g j k xs x ys y a t sx shx sy shy o p = ⊎_elim
    (λ (less : j < k). absurd (not_short f g k j ys xs x y a t sy less sx shx p o))
    (λ (more : k ≤ j). ⊎_elim
    (λ (less : k < j). absurd (not_short f g j k xs ys y x a t sx less sy shy o p))
    (λ (no : j ≤ k). let z : j ≡ k = omega arith in z) (cases_lt k j))
    (cases_lt j k)

one_end : (f : Facts) (g j k : ℕ) (xs x ys y : List Call) (a : Actor) → Tells a → AreMended f g j xs
    → IsShortMend f g j x → AreMended f g k ys → IsShortMend f g k y → Okay (xs ++ x) a → Okay (ys ++ y) a
    → OneEnd j k xs x ys y
one_end f g j k xs x ys y a t sx shx sy shy o p =
    let same = one_stripe f g j k xs x ys y a t sx shx sy shy o p in
    let sy' = subst (λ (n : ℕ). AreMended f g n ys) (sym same) sy in
    let shy' = subst (λ (n : ℕ). IsShortMend f g n y) (sym same) shy in
    let first = are_once f g j xs ys a t sx sy' (okay_front xs x a o) (okay_front ys y a p) in
    record {
      stripe = same;
      fronts = first;
      lasts = short_once x y (did_all xs a) (tells_all xs a t) shx shy' (okay_behind xs x a o)
          (subst (λ (u : List Call). Okay y (did_all u a)) (sym first) (okay_behind ys y a p));
    }

short_of : {f : Facts} {g j : ℕ} {o : RepairOutcome} {calls : List Call} → IsEnd f g j o calls → o ≢ outcome.Memory
    → IsShortMend f g j calls
short_of (licence.data_lost calls s many) ne = s
short_of (licence.unreachable calls x server others s few is) ne = s
short_of (licence.no_memory calls cut) ne = absurd (ne refl)

head_of : (x y : Name) (s t : ℕ) (xs ys : List (Name × ℕ)) → (x, s) ∷ xs ≡ (y, t) ∷ ys → (x ≡ y) × (s ≡ t)
head_of x y s t xs ys e = let z : (x, s) ≡ (y, t) = cc in (ap (λ (p : Name × ℕ). p.0) z, ap (λ (p : Name × ℕ). p.1) z)

-- a short asking says one thing
one_said : {f : Facts} {g j : ℕ} {o p : RepairOutcome} {calls : List Call} → IsEnd f g j o calls → IsEnd f g j p calls
    → o ≢ outcome.Memory → p ≢ outcome.Memory → o ≡ p
one_said (licence.data_lost calls s many) (licence.data_lost _ s' many') ne nf = refl
one_said (licence.data_lost calls s many) (licence.unreachable _ x server others s' few is) ne nf = absurd
    (omega arith)
one_said (licence.data_lost calls s many) (licence.no_memory _ cut) ne nf = absurd (nf refl)
one_said (licence.unreachable calls x server others s few is) (licence.data_lost _ s' many) ne nf = absurd
    (omega arith)
one_said {g = g} {j = j} (licence.unreachable calls x server others s few is)
    (licence.unreachable _ y other rest s' few' is') ne nf =
    let first = head_of x y server other others rest (sym is ∙ is') in
    (λ k. outcome.Unreachable g j (first.0 k) (first.1 k))
one_said (licence.unreachable calls x server others s few is) (licence.no_memory _ cut) ne nf = absurd (nf refl)
one_said (licence.no_memory calls cut) q ne nf = absurd (ne refl)

-- one generation
generation_once : {f : Facts} {g : ℕ} {o p : RepairOutcome} {xs ys : List Call} (a : Actor) → Tells a
    → IsRepairOf f g o xs → IsRepairOf f g p ys → o ≢ outcome.Memory → p ≢ outcome.Memory → Okay xs a → Okay ys a
    → (o ≡ p) × (xs ≡ ys)
generation_once {f = f} {g = g} a t (licence.repaired xs x) (licence.repaired ys y) ne nf o p =
    let e = are_once f g (stripes f.book g) xs ys a t x y o p in
    ((λ k. outcome.Repaired (restores_in (e k)) (skips_in (e k))), e)
generation_once {f = f} {g = g} a t (licence.repaired xs x) (licence.ended o j front last low y fin) ne nf ok ok' =
    absurd (not_short f g (stripes f.book g) j xs front last [] a t x low y (short_of fin nf)
    (subst (λ (l : List Call). Okay l a) (sym (append-nil xs)) ok) ok')
generation_once {f = f} {g = g} a t (licence.ended o j front last low x fin) (licence.repaired ys y) ne nf ok ok' =
    absurd (not_short f g (stripes f.book g) j ys front last [] a t y low x (short_of fin ne)
    (subst (λ (l : List Call). Okay l a) (sym (append-nil ys)) ok') ok)
generation_once {f = f} {g = g} a t (licence.ended o j front last low x fin)
    (licence.ended p k front' last' low' y fin') ne nf ok ok' =
    let s = one_end f g j k front last front' last' a t x (short_of fin ne) y (short_of fin' nf) ok ok' in (
      one_said fin (subst (λ (l : List Call). IsEnd f g j p l) (sym s.lasts)
          (subst (λ (n : ℕ). IsEnd f g n p last') (sym s.stripe) fin')) ne nf,
      (λ i. s.fronts i ++ s.lasts i),
    )

-- ---- the whole

-- the same calls lead to the same actor
same : {cs ds : List Call} {a b c : Actor} → cs ≡ ds → Does cs a b → Does ds a c → b ≡ c
same {a = a} e x y = x.becomes ∙ (ap (λ l. did_all l a) e ∙ sym y.becomes)

begins : {s t : Rattle.std.proofs.Common.Bool} {cs ds : List Call} {a b c : Actor} → Tells a → Does (begin s ∷ cs) a b
    → Does (begin t ∷ ds) a c → s ≡ t
begins {s = s} {t = t} {cs = cs} {ds = ds} {a = a} (w, e) x y =
    one_answer.begin a _ _ w s t e (first_goes (begin s) cs a (okay x)) (first_goes (begin t) ds a (okay y))

-- behind the begin
behind : {cs : List Call} {a b : Actor} → Does (begin true ∷ cs) a b → Okay cs (did (begin true) a)
behind {cs = cs} {a = a} x = others_okay (begin true) cs a (okay x)

pins : {gs hs : List ℕ} {p q : Pinned} {cs ds : List Call} {a b c : Actor} → Tells a
    → Does (begin true ∷ pin Work gs p ∷ cs) a b → Does (begin true ∷ pin Work hs q ∷ ds) a c → (gs ≡ hs) × (p ≡ q)
pins {gs = gs} {hs = hs} {p = p} {q = q} {cs = cs} {ds = ds} {a = a} t x y =
    let on = tells_after (begin true) a t in
    one_answer.pin (did (begin true) a) _ _ on.0 Work gs hs p q on.1
    (first_goes (pin Work gs p) cs (did (begin true) a) (behind x))
    (first_goes (pin Work hs q) ds (did (begin true) a) (behind y))

at_absent : (g : ℕ) → At g ≡ Absent → ⊥
at_absent g e = let z : At g ≡ Absent = e in cc

at_removed : (g : ℕ) → At g ≡ Removed → ⊥
at_removed g e = let z : At g ≡ Removed = e in cc

removed_absent : Removed ≡ Absent → ⊥
removed_absent e = let z : Removed ≡ Absent = e in cc

at_same : (g h : ℕ) → At g ≡ At h → g ≡ h
at_same g h e = let z : At g ≡ At h = e in let y : g ≡ h = cc in y

false_true : false ≡ true → ⊥
false_true e = let z : false ≡ true = e in cc

through_once : (f : Facts) {o p : RepairOutcome} (gs hs : List ℕ) (g h : ℕ) (xs ys : List Call) {a b c : Actor}
    → Tells a
    → IsRepairOf f g o xs → IsRepairOf f h p ys
    → Does (begin true ∷ pin Work gs (At g) ∷ (xs ++ (unpin Work ∷ end ∷ []))) a b
    → Does (begin true ∷ pin Work hs (At h) ∷ (ys ++ (unpin Work ∷ end ∷ []))) a c
    → o ≢ outcome.Memory → p ≢ outcome.Memory → (o ≡ p) × (b ≡ c)
through_once f {p = p} gs hs g h xs ys {a = a} t x y dx dy ne nf =
    let k = pins t dx dy in
    let e = at_same g h k.1 in
    let start = did (begin true) a in
    let now = did (pin Work gs (At g)) start in
    let tail = unpin Work ∷ end ∷ [] in
    let told = tells_after (pin Work gs (At g)) start (tells_after (begin true) a t) in
    let ok = okay_front xs tail now (others_okay (pin Work gs (At g)) (xs ++ tail) start (behind dx)) in
    let ok' = okay_front ys tail now (subst (λ (z : Actor). Okay (ys ++ tail) z)
    (λ i. did (pin Work (sym k.0 i) (sym k.1 i)) start)
    (others_okay (pin Work hs (At h)) (ys ++ tail) start (behind dy))) in
    let s = generation_once now told x (subst (λ n. IsRepairOf f n p ys) (sym e) y) ne nf ok ok' in
    (s.0, same (λ i. begin true ∷ pin Work (k.0 i) (k.1 i) ∷ (s.1 i ++ tail)) dx dy)

repairs : (f : Facts) {o p : RepairOutcome} {xs ys : List Call} {a b c : Actor} → IsRepair f o xs → IsRepair f p ys
    → Tells a → Does xs a b → Does ys a c → o ≢ outcome.Memory → p ≢ outcome.Memory → (o ≡ p) × (b ≡ c)
repairs f licence.busy licence.busy t x y n m = (refl, same refl x y)
repairs f licence.busy (licence.absent hs) t x y n m = absurd (false_true (begins t x y))
repairs f licence.busy (licence.removed hs) t x y n m = absurd (false_true (begins t x y))
repairs f licence.busy (licence.through p hs h ys is) t x y n m = absurd (false_true (begins t x y))
repairs f (licence.absent gs) licence.busy t x y n m = absurd (false_true (sym (begins t x y)))
repairs f (licence.absent gs) (licence.absent hs) t x y n m = let k = pins t x y in
    (refl, same (λ j. begin true ∷ pin Work (k.0 j) Absent ∷ end ∷ []) x y)
repairs f (licence.absent gs) (licence.removed hs) t x y n m = absurd (removed_absent (sym (pins t x y).1))
repairs f (licence.absent gs) (licence.through p hs h ys is) t x y n m = absurd (at_absent h (sym (pins t x y).1))
repairs f (licence.removed gs) licence.busy t x y n m = absurd (false_true (sym (begins t x y)))
repairs f (licence.removed gs) (licence.absent hs) t x y n m = absurd (removed_absent (pins t x y).1)
repairs f (licence.removed gs) (licence.removed hs) t x y n m = let k = pins t x y in
    (refl, same (λ j. begin true ∷ pin Work (k.0 j) Removed ∷ end ∷ []) x y)
repairs f (licence.removed gs) (licence.through p hs h ys is) t x y n m = absurd (at_removed h (sym (pins t x y).1))
repairs f (licence.through o gs g xs is) licence.busy t x y n m = absurd (false_true (sym (begins t x y)))
repairs f (licence.through o gs g xs is) (licence.absent hs) t x y n m = absurd (at_absent g (pins t x y).1)
repairs f (licence.through o gs g xs is) (licence.removed hs) t x y n m = absurd (at_removed g (pins t x y).1)
repairs f (licence.through o gs g xs is) (licence.through p hs h ys js) t x y n m =
    through_once f gs hs g h xs ys t is js x y n m

pub repairs_once : RepairsOnce
repairs_once a b c w o p e x y n m = repairs a.facts x.licence y.licence (w, e) x.does y.does n m
