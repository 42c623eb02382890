-- Where the whole state is told, a create and a remove have one result.
use Rattle.std.proofs.Common.{◌≡◌, ◌≢◌, ℕ, ◌+◌, Bool, true, false, List, [], ◌∷◌, ◌++◌, length, Some, refl, sym, ap}
use Rattle.std.proofs.Common.{◌∙◌, subst, arith}
use Rattle.mf_machine.specs.declared.answer.Slot.TheVariants.{Work}
use Rattle.mf_machine.specs.declared.answer.State.{State}
use Rattle.mf_machine.specs.Worlds.{World}
use Rattle.mf_places.specs.declared.Name.{Name}
use Rattle.mf_vault.specs.declared.answers.Pinned.{Pinned}
use Rattle.mf_vault.specs.declared.answers.Pinned.TheVariants.{At, Absent, Removed}
use Rattle.mf_vault.specs.Facts.{Facts, stages}
use Rattle.mf_vault.specs.Actor.{Actor, Call, did, onward, begin, end, pin, unpin, publish, probe}
use Rattle.mf_vault.specs.Licence.{Does, did_all}
use Rattle.mf_vault.specs.Answers.{Goes}
use Rattle.mf_vault.proofs.Once.{one_answer}
use Rattle.mf_convert.specs.declared.change.Change.{Change}
use Rattle.mf_convert.specs.declared.change.Change.TheVariants as change
use Rattle.mf_convert.specs.Create as create
use Rattle.mf_convert.specs.Create.{IsCreate, Creates, probes, brings, first_names}
use Rattle.mf_convert.specs.Remove as remove
use Rattle.mf_convert.specs.Remove.{IsRemove, Removes}
use Rattle.mf_convert.specs.Laws.{CreatesOnce, RemovesOnce}

-- the first call, and the others
pub first : {c : Call} {cs : List Call} {a b : Actor} → Does (c ∷ cs) a b → Goes c a (did c a)
first d = record { becomes = refl; fair = d.fair.0; told = d.told.0 }

pub rest : {c : Call} {cs : List Call} {a b : Actor} → Does (c ∷ cs) a b → Does cs (did c a) b
rest d = record { becomes = d.becomes; fair = d.fair.1; told = d.told.1 }

-- what follows a call that two lists share
pub rest_of : {c d : Call} {ds : List Call} {a b : Actor} → c ≡ d → Does (d ∷ ds) a b → Does ds (did c a) b
rest_of {ds = ds} {a = a} {b = b} e x = subst (λ k. Does ds (did k a) b) (sym e) (rest x)

-- the same calls lead to the same actor
pub same : {cs ds : List Call} {a b c : Actor} → cs ≡ ds → Does cs a b → Does ds a c → b ≡ c
same {a = a} e x y = x.becomes ∙ (ap (λ l. did_all l a) e ∙ sym y.becomes)

-- the whole state goes on being told
pub goes_on : (c : Call) (a : Actor) {w : World} → a.whole ≡ Some w → (v : World) × ((did c a).whole ≡ Some v)
goes_on c a e = (_, ap (onward _) e)

states_once : (xs : List Name) (ss ts : List State) (r q : List Call) {a b c : Actor} (w : World)
    → length ss ≡ length xs
    → length ts ≡ length xs → a.whole ≡ Some w → Does (probes xs ss ++ r) a b → Does (probes xs ts ++ q) a c → ss ≡ ts
states_once [] [] [] r q w m n e x y = refl
states_once [] [] (t ∷ ts) r q w m n e x y = absurd (omega arith)
states_once [] (s ∷ ss) ts r q w m n e x y = absurd (omega arith)
states_once (z ∷ xs) [] ts r q w m n e x y = absurd (omega arith)
states_once (z ∷ xs) (s ∷ ss) [] r q w m n e x y = absurd (omega arith)
states_once (z ∷ xs) (s ∷ ss) (t ∷ ts) r q {a = a} w m n e x y =
    let answer = one_answer.probe a _ _ w z s t e (first x) (first y) in
    let on = goes_on (probe z s) a e in
    let others = states_once xs ss ts r q on.0 (omega arith) (omega arith) on.1 (rest x)
    (rest_of (ap (probe z) answer) y) in
    (λ j. answer j ∷ others j)

-- two begins, and two pins behind them, are the same
pub begins : {s t : Bool} {cs ds : List Call} {a b c : Actor} {w : World} → a.whole ≡ Some w → Does (begin s ∷ cs) a b
    → Does (begin t ∷ ds) a c
    → s ≡ t
begins {s = s} {t = t} {a = a} {w = w} e x y = one_answer.begin a _ _ w s t e (first x) (first y)

pub pins : {gs hs : List ℕ} {p q : Pinned} {cs ds : List Call} {a b c : Actor} {w : World} → a.whole ≡ Some w
    → Does (begin true ∷ pin Work gs p ∷ cs) a b → Does (begin true ∷ pin Work hs q ∷ ds) a c → (gs ≡ hs) × (p ≡ q)
pins {gs = gs} {hs = hs} {p = p} {q = q} {a = a} e x y =
    let on = goes_on (begin true) a e in
    one_answer.pin (did (begin true) a) _ _ on.0 Work gs hs p q on.1 (first (rest x)) (first (rest y))

pub at_absent : (g : ℕ) → At g ≡ Absent → ⊥
at_absent g e = let z : At g ≡ Absent = e in cc

pub at_removed : (g : ℕ) → At g ≡ Removed → ⊥
at_removed g e = let z : At g ≡ Removed = e in cc

pub removed_absent : Removed ≡ Absent → ⊥
removed_absent e = let z : Removed ≡ Absent = e in cc

pub false_true : false ≡ true → ⊥
false_true e = let z : false ≡ true = e in cc

-- a pin in a list of calls
abbrev pub after_pin : List ℕ → Pinned → List Call → List Call
after_pin gs p cs = begin true ∷ pin Work gs p ∷ cs

created_once : (f : Facts) (ms ns : List ℕ) (ss ts : List State) {a b c : Actor} {w : World}
    → length ss ≡ length (first_names f) → length ts ≡ length (first_names f) → a.whole ≡ Some w
    → Does (after_pin ms Absent (probes (first_names f) ss ++ (brings (first_names f) ss ++ (publish 1 ∷ end ∷ [])))) a
    b
    → Does (after_pin ns Absent (probes (first_names f) ts ++ (brings (first_names f) ts ++ (publish 1 ∷ end ∷ [])))) a
    c
    → b ≡ c
created_once f ms ns ss ts {a = a} m n e x y =
    let k = pins e x y in
    let on = goes_on (begin true) a e in
    let far = goes_on (pin Work ms Absent) (did (begin true) a) on.1 in
    let states = states_once (first_names f) ss ts _ _ far.0 m n far.1 (rest (rest x))
    (rest_of (ap (λ l. pin Work l Absent) k.0) (rest y)) in
    same (λ j. after_pin (k.0 j) Absent (probes (first_names f) (states j)
    ++ (brings (first_names f) (states j) ++ (publish 1 ∷ end ∷ [])))) x y

creates : (f : Facts) {o p : Change} {cs ds : List Call} {a b c : Actor} {w : World} → IsCreate f o cs → IsCreate f p ds
    → a.whole ≡ Some w → Does cs a b → Does ds a c → o ≢ change.Memory → p ≢ change.Memory → (o ≡ p) × (b ≡ c)
creates f create.busy create.busy e x y n m = (refl, same refl x y)
creates f create.busy (create.was_there hs h) e x y n m = absurd (false_true (begins e x y))
creates f create.busy (create.was_removed hs) e x y n m = absurd (false_true (begins e x y))
creates f create.busy (create.created hs ts l) e x y n m = absurd (false_true (begins e x y))
creates f (create.was_there gs g) create.busy e x y n m = absurd (false_true (sym (begins e x y)))
creates f (create.was_there gs g) (create.was_there hs h) e x y n m = let k = pins e x y in
    (refl, same (λ j. after_pin (k.0 j) (k.1 j) (unpin Work ∷ end ∷ [])) x y)
creates f (create.was_there gs g) (create.was_removed hs) e x y n m = absurd (at_removed g (pins e x y).1)
creates f (create.was_there gs g) (create.created hs ts l) e x y n m = absurd (at_absent g (pins e x y).1)
creates f (create.was_removed gs) create.busy e x y n m = absurd (false_true (sym (begins e x y)))
creates f (create.was_removed gs) (create.was_there hs h) e x y n m = absurd (at_removed h (sym (pins e x y).1))
creates f (create.was_removed gs) (create.was_removed hs) e x y n m = let k = pins e x y in
    (refl, same (λ j. after_pin (k.0 j) Removed (end ∷ [])) x y)
creates f (create.was_removed gs) (create.created hs ts l) e x y n m = absurd (removed_absent (pins e x y).1)
creates f (create.created gs ss k) create.busy e x y n m = absurd (false_true (sym (begins e x y)))
creates f (create.created gs ss k) (create.was_there hs h) e x y n m = absurd (at_absent h (sym (pins e x y).1))
creates f (create.created gs ss k) (create.was_removed hs) e x y n m = absurd (removed_absent (sym (pins e x y).1))
creates f (create.created gs ss k) (create.created hs ts l) e x y n m = (refl, created_once f gs hs ss ts k l e x y)
creates f (create.no_memory gs) q e x y n m = absurd (n refl)
creates f p (create.no_memory hs) e x y n m = absurd (m refl)

pub creates_once : CreatesOnce
creates_once a b c w o p e x y n m = creates a.facts x.licence y.licence e x.does y.does n m

removes : (f : Facts) {o p : Change} {cs ds : List Call} {a b c : Actor} {w : World} → IsRemove f o cs → IsRemove f p ds
    → a.whole ≡ Some w → Does cs a b → Does ds a c → (o ≡ p) × (b ≡ c)
removes f remove.busy remove.busy e x y = (refl, same refl x y)
removes f remove.busy (remove.absent hs) e x y = absurd (false_true (begins e x y))
removes f remove.busy (remove.was_removed hs) e x y = absurd (false_true (begins e x y))
removes f remove.busy (remove.removed_now hs h) e x y = absurd (false_true (begins e x y))
removes f (remove.absent gs) remove.busy e x y = absurd (false_true (sym (begins e x y)))
removes f (remove.absent gs) (remove.absent hs) e x y = let k = pins e x y in
    (refl, same (λ j. after_pin (k.0 j) Absent (end ∷ [])) x y)
removes f (remove.absent gs) (remove.was_removed hs) e x y = absurd (removed_absent (sym (pins e x y).1))
removes f (remove.absent gs) (remove.removed_now hs h) e x y = absurd (at_absent h (sym (pins e x y).1))
removes f (remove.was_removed gs) remove.busy e x y = absurd (false_true (sym (begins e x y)))
removes f (remove.was_removed gs) (remove.absent hs) e x y = absurd (removed_absent (pins e x y).1)
removes f (remove.was_removed gs) (remove.was_removed hs) e x y = let k = pins e x y in
    (refl, same (λ j. after_pin (k.0 j) Removed (end ∷ [])) x y)
removes f (remove.was_removed gs) (remove.removed_now hs h) e x y = absurd (at_removed h (sym (pins e x y).1))
removes f (remove.removed_now gs g) remove.busy e x y = absurd (false_true (sym (begins e x y)))
removes f (remove.removed_now gs g) (remove.absent hs) e x y = absurd (at_absent g (pins e x y).1)
removes f (remove.removed_now gs g) (remove.was_removed hs) e x y = absurd (at_removed g (pins e x y).1)
removes f (remove.removed_now gs g) (remove.removed_now hs h) e x y = let k = pins e x y in
    (refl, same (λ j. after_pin (k.0 j) (k.1 j) (unpin Work ∷ publish (stages f + 1) ∷ end ∷ [])) x y)

pub removes_once : RemovesOnce
removes_once a b c w o p e x y = removes a.facts x.licence y.licence e x.does y.does
