-- Two conversions from one state of an actor that is alone make the same calls, and end alike.
use Rattle.std.proofs.Common.{◌≡◌, ◌≢◌, ℕ, ◌+◌, ◌≤◌, true, List, [], ◌∷◌, ◌++◌, length, length-append, refl, sym, ap}
use Rattle.std.proofs.Common.{◌∙◌, subst, arith, Option, Some, IfSome}
use Rattle.std.proofs.lemmas.Bool.{false≢true}
use Rattle.mf_machine.specs.declared.answer.State.{State}
use Rattle.mf_machine.specs.declared.answer.State.TheVariants.{Unborn, Here, Lost, Away}
use Rattle.mf_machine.specs.Worlds.{World}
use Rattle.mf_places.specs.declared.Name.{Name}
use Rattle.mf_places.specs.declared.Name.TheVariants as name
use Rattle.mf_places.specs.Generations.{holds}
use Rattle.mf_vault.specs.declared.answers.Entry.{Entry}
use Rattle.mf_vault.specs.declared.answers.Got.{Got}
use Rattle.mf_vault.specs.declared.answers.Got.TheVariants as got
use Rattle.mf_vault.specs.Facts.{Facts, cell_of}
use Rattle.mf_vault.specs.Actor.{Actor, Call, did, entry_of}
use Rattle.mf_vault.specs.Actor as call
use Rattle.mf_vault.specs.Answers.{Goes}
use Rattle.mf_vault.specs.Licence.{Does, entries_of}
use Rattle.mf_vault.proofs.Once.{one_answer}
use Rattle.mf_convert.specs.declared.change.Change.{Change}
use Rattle.mf_convert.specs.declared.change.Change.TheVariants as change
use Rattle.mf_convert.specs.Create.{probes}
use Rattle.mf_convert.specs.Convert as convert
use Rattle.mf_convert.specs.Convert.{IsCut, IsConversion, IsCounted, GoesOn, AllGoOn, gets, sources, make, makes}
use Rattle.mf_convert.specs.Convert.{whole, names_of}
use Rattle.mf_convert.proofs.Once.{first, rest_of, goes_on}

-- ---- ends

-- of what was due all was done, or it was cut
pub data IsEnd (f : Facts) (g : ℕ) (due : List Call) (o : Change) (cs : List Call) : Type 0 where
  all : (made : ℕ) → o ≡ change.Converted g (g + 1) made → cs ≡ due ++ call.publish (g + 2) ∷ [] → IsEnd f g due o cs
  some : IsCut f g due o cs → IsEnd f g due o cs

-- an answer that ends a conversion
data IsEnding (f : Facts) (g : ℕ) (d : Call) (o : Change) : Type 0 where
  away_probed : (x : Name) (y : ℕ) → d ≡ call.probe x (Away y) → o ≡ change.Unreachable x y → IsEnding f g d o
  lost_probed : (x : Name) (l : ℕ) → holds f.book g x ≡ true → d ≡ call.probe x (Lost l) → o ≡ change.Needs x l
      → IsEnding f g d o
  away_got : (x : Name) (y : ℕ) → d ≡ call.get x (got.Away y) → o ≡ change.Unreachable x y → IsEnding f g d o
  lost_got : (x : Name) (l : ℕ) → d ≡ call.get x (got.Lost l) → o ≡ change.Needs x l → IsEnding f g d o

data Head (f : Facts) (g : ℕ) (d : Call) (due : List Call) (o : Change) (cs : List Call) : Type 0 where
  next : (ds : List Call) → cs ≡ d ∷ ds → IsEnd f g due o ds → Head f g d due o cs
  halted : (made : ℕ) → cs ≡ [] → o ≡ change.Stopped g (g + 1) made → Head f g d due o cs
  probed : (x : Name) (s t : State) → d ≡ call.probe x s → cs ≡ call.probe x t ∷ [] → IsEnding f g (call.probe x t) o
      → Head f g d due o cs
  fetched : (x : Name) (s t : Got) → d ≡ call.get x s → t ≢ got.Memory → cs ≡ call.get x t ∷ []
      → IsEnding f g (call.get x t) o → Head f g d due o cs
  wanting : o ≡ change.Memory → Head f g d due o cs

away_here : (y : ℕ) → got.Away y ≢ got.Memory
away_here y e = let z : got.Away y ≡ got.Memory = e in cc

lost_here : (l : ℕ) → got.Lost l ≢ got.Memory
lost_here l e = let z : got.Lost l ≡ got.Memory = e in cc

cut_head : {f : Facts} {g : ℕ} {d : Call} {due : List Call} {o : Change} {cs : List Call} → IsCut f g (d ∷ due) o cs
    → Head f g d due o cs
cut_head (convert.stopped c due made) = halted made refl refl
cut_head (convert.away_probed x s due y) = probed x s (Away y) refl refl (away_probed x y refl refl)
cut_head (convert.away_got x s due y) = fetched x s (got.Away y) refl (away_here y) refl (away_got x y refl refl)
cut_head (convert.lost_probed x s due l h) = probed x s (Lost l) refl refl (lost_probed x l h refl refl)
cut_head (convert.lost_got x s due l) = fetched x s (got.Lost l) refl (lost_here l) refl (lost_got x l refl refl)
cut_head (convert.no_memory due) = wanting refl
cut_head (convert.not_shared x s due) = wanting refl
cut_head (convert.later c due o done k) = next done refl (some k)

head : {f : Facts} {g : ℕ} {d : Call} {due : List Call} {o : Change} {cs : List Call} → IsEnd f g (d ∷ due) o cs
    → Head f g d due o cs
head {g = g} {due = due} (all made e is) = next (due ++ call.publish (g + 2) ∷ []) is (all made e refl)
head (some k) = cut_head k

-- nothing is due
none_cut : {f : Facts} {g : ℕ} {o : Change} {cs : List Call} → IsCut f g [] o cs → o ≡ change.Memory
none_cut (convert.no_memory due) = refl

none_due : {f : Facts} {g : ℕ} {o : Change} {cs : List Call} → IsEnd f g [] o cs → o ≢ change.Memory
    → (m : ℕ) × (o ≡ change.Converted g (g + 1) m) × (cs ≡ call.publish (g + 2) ∷ [])
none_due (all made e is) ne = (made, e, is)
none_due (some k) ne = absurd (ne (none_cut k))

-- ---- alike

-- the outcomes are the same, the number that was made aside
pub data IsAlike (g : ℕ) (o p : Change) : Type 0 where
  equal : o ≡ p → IsAlike g o p
  both_converted : (m n : ℕ) → o ≡ change.Converted g (g + 1) m → p ≡ change.Converted g (g + 1) n → IsAlike g o p
  both_stopped : (m n : ℕ) → o ≡ change.Stopped g (g + 1) m → p ≡ change.Stopped g (g + 1) n → IsAlike g o p

pub one_outcome : {g : ℕ} {o p : Change} (stop : Option ℕ) (es : List Entry) → IsAlike g o p → IsCounted stop es o
    → IsCounted stop es p
    → o ≡ p
one_outcome stop es (equal e) h k = e
one_outcome {g = g} stop es (both_converted m n d e) h k =
    let x = (subst (λ q. IsCounted stop es q) d h).0 in
    let y = (subst (λ q. IsCounted stop es q) e k).0 in
    d ∙ (ap (change.Converted g (g + 1)) (x ∙ sym y) ∙ sym e)
one_outcome {g = g} stop es (both_stopped m n d e) h k =
    let x = (subst (λ q. IsCounted stop es q) d h).0 in
    let y = (subst (λ q. IsCounted stop es q) e k).0 in
    d ∙ (ap (change.Stopped g (g + 1)) (x ∙ sym y) ∙ sym e)

-- ---- counts

-- with n entries before
abbrev pub IsTimed : Option ℕ → (n : ℕ) → List Call → Change → Type 0
IsTimed stop n cs (change.Stopped from to made) = stop ≡ Some (n + length (entries_of cs))
IsTimed stop n cs o = IfSome stop (λ most. n + length (entries_of cs) ≤ most)

timed_low : (stop : Option ℕ) (n k : ℕ) (cs : List Call) (o : Change) → IsTimed stop n cs o → stop ≡ Some k
    → n + length (entries_of cs) ≤ k
timed_low stop n k cs (change.Stopped from to made) h e =
    let z : Some (n + length (entries_of cs)) ≡ Some k = sym h ∙ e in
    let same : n + length (entries_of cs) ≡ k = cc in omega arith
timed_low stop n k cs o h e = subst (λ s. IfSome s (λ most. n + length (entries_of cs) ≤ most)) e h

timed_on : (stop : Option ℕ) (n : ℕ) (d : Call) (cs : List Call) (o : Change) → length (entry_of d) ≡ 1
    → IsTimed stop n (d ∷ cs) o → IsTimed stop (n + 1) cs o
timed_on stop n d cs (change.Stopped from to made) one h =
    let e = length-append (entry_of d) (entries_of cs) in h ∙ ap Some (omega arith)
timed_on stop n d cs o one h =
    let e = length-append (entry_of d) (entries_of cs) in
    subst (λ k. IfSome stop (λ most. k ≤ most)) (omega arith) h

stopped_at : (stop : Option ℕ) (n : ℕ) (cs : List Call) (g m : ℕ) (o : Change) → o ≡ change.Stopped g (g + 1) m
    → cs ≡ []
    → IsTimed stop n cs o → stop ≡ Some (n + 0)
stopped_at stop n cs g m o e none h =
    subst (λ l. stop ≡ Some (n + length (entries_of l))) none (subst (λ q. IsTimed stop n cs q) e h)

-- ---- twins: two calls that are due at the same place

pub data IsTwin (f : Facts) (g : ℕ) (d e : Call) : Type 0 where
  both_probe : (x : Name) (s t : State) → d ≡ call.probe x s → e ≡ call.probe x t → GoesOn f.book g x s
      → GoesOn f.book g x t
      → IsTwin f g d e
  both_get : (x : Name) (c : List ℕ) → d ≡ call.get x (got.Here c) → e ≡ call.get x (got.Here c) → IsTwin f g d e
  both_put : (x : Name) → d ≡ call.put x → e ≡ call.put x → IsTwin f g d e
  both_restore : (x : Name) → d ≡ call.restore x → e ≡ call.restore x → IsTwin f g d e

twin_sym : {f : Facts} {g : ℕ} {d e : Call} → IsTwin f g d e → IsTwin f g e d
twin_sym (both_probe x s t a b h k) = both_probe x t s b a k h
twin_sym (both_get x c a b) = both_get x c b a
twin_sym (both_put x a b) = both_put x b a
twin_sym (both_restore x a b) = both_restore x b a

one_entry : (d e : Call) → d ≡ e → length (entry_of e) ≡ 1 → length (entry_of d) ≡ 1
one_entry d e same h = ap (λ c. length (entry_of c)) same ∙ h

twin_entry : {f : Facts} {g : ℕ} {d e : Call} → IsTwin f g d e → length (entry_of d) ≡ 1
twin_entry {d = d} (both_probe x s t a b h k) = one_entry d (call.probe x s) a refl
twin_entry {d = d} (both_get x c a b) = one_entry d (call.get x (got.Here c)) a refl
twin_entry {d = d} (both_put x a b) = one_entry d (call.put x) a refl
twin_entry {d = d} (both_restore x a b) = one_entry d (call.restore x) a refl

goes_as : {d e : Call} {a b : Actor} → d ≡ e → Goes d a b → Goes e a b
goes_as {a = a} {b = b} same h = subst (λ c. Goes c a b) same h

goes_by : {d e : Call} {a : Actor} → d ≡ e → Goes d a (did d a) → Goes e a (did e a)
goes_by {a = a} same h = subst (λ c. Goes c a (did c a)) same h

-- both were done
next_same : {f : Facts} {g : ℕ} {d e : Call} {a : Actor} (w : World) → IsTwin f g d e → a.whole ≡ Some w
    → Goes d a (did d a)
    → Goes e a (did e a) → d ≡ e
next_same {a = a} w (both_probe x s t h k p q) alone i j =
    h ∙ (ap (call.probe x) (one_answer.probe a _ _ w x s t alone (goes_by h i) (goes_by k j)) ∙ sym k)
next_same w (both_get x c h k) alone i j = h ∙ sym k
next_same w (both_put x h k) alone i j = h ∙ sym k
next_same w (both_restore x h k) alone i j = h ∙ sym k

-- an answer with which the conversion goes on ends none
no_end : (f : Facts) (g : ℕ) (x : Name) (s : State) (o : Change) → GoesOn f.book g x s
    → IsEnding f g (call.probe x s) o → ⊥
no_end f g x s o on (away_probed y v e z) =
    let same : s ≡ Away v = cc in subst (λ t. GoesOn f.book g x t) same on
no_end f g x s o on (lost_probed y l h e z) =
    let same : s ≡ Lost l = cc in
    let names : x ≡ y = cc in
    false≢true (sym (subst (λ t. GoesOn f.book g x t) same on) ∙ (ap (holds f.book g) names ∙ h))
no_end f g x s o on (away_got y v e z) = cc
no_end f g x s o on (lost_got y l e z) = cc

no_get : (f : Facts) (g : ℕ) (x : Name) (c : List ℕ) (o : Change) → IsEnding f g (call.get x (got.Here c)) o → ⊥
no_get f g x c o (away_probed y v e z) = cc
no_get f g x c o (lost_probed y l h e z) = cc
no_get f g x c o (away_got y v e z) = cc
no_get f g x c o (lost_got y l e z) = cc

-- one was done, and the other ended
not_probed : {f : Facts} {g : ℕ} {d e : Call} {a : Actor} (w : World) (y : Name) (s t : State) (o : Change)
    → IsTwin f g d e
    → a.whole ≡ Some w → e ≡ call.probe y s → IsEnding f g (call.probe y t) o → Goes d a (did d a)
    → Goes (call.probe y t) a (did (call.probe y t) a) → ⊥
not_probed {f = f} {g = g} {e = e} {a = a} w y s t o (both_probe x u v h k p q) alone is ends i j =
    let z : call.probe x v ≡ call.probe y s = sym k ∙ is in
    let names : x ≡ y = cc in
    let answer = one_answer.probe a _ _ w y u t alone (goes_by (ap (λ n. call.probe n u) names) (goes_by h i)) j in
    no_end f g y t o (subst (λ r. GoesOn f.book g y r) answer (subst (λ n. GoesOn f.book g n u) names p)) ends
not_probed w y s t o (both_get x c h k) alone is ends i j = let z : call.get x (got.Here c) ≡ call.probe y s = sym k
    ∙ is in cc
not_probed w y s t o (both_put x h k) alone is ends i j = let z : call.put x ≡ call.probe y s = sym k ∙ is in cc
not_probed w y s t o (both_restore x h k) alone is ends i j = let z : call.restore x ≡ call.probe y s = sym k ∙ is in cc

here_there : (c : List ℕ) → got.Here c ≢ got.Memory
here_there c e = let z : got.Here c ≡ got.Memory = e in cc

not_fetched : {f : Facts} {g : ℕ} {d e : Call} {a : Actor} (w : World) (y : Name) (s t : Got) (o : Change)
    → IsTwin f g d e
    → a.whole ≡ Some w → e ≡ call.get y s → t ≢ got.Memory → IsEnding f g (call.get y t) o → Goes d a (did d a)
    → Goes (call.get y t) a (did (call.get y t) a) → ⊥
not_fetched {f = f} {g = g} {a = a} w y s t o (both_get x c h k) alone is fit ends i j =
    let z : call.get x (got.Here c) ≡ call.get y s = sym k ∙ is in
    let names : x ≡ y = cc in
    let answer = one_answer.get a _ _ w y (got.Here c) t alone
    (goes_by (ap (λ n. call.get n (got.Here c)) names) (goes_by h i)) j (here_there c) fit in
    no_get f g y c o (subst (λ r. IsEnding f g (call.get y r) o) (sym answer) ends)
not_fetched w y s t o (both_probe x u v h k p q) alone is fit ends i j = let z : call.probe x v ≡ call.get y s = sym k
    ∙ is in cc
not_fetched w y s t o (both_put x h k) alone is fit ends i j = let z : call.put x ≡ call.get y s = sym k ∙ is in cc
not_fetched w y s t o (both_restore x h k) alone is fit ends i j = let z : call.restore x ≡ call.get y s = sym k
    ∙ is in cc

-- both ended
ending_once : {f : Facts} {g : ℕ} {d : Call} {o p : Change} → IsEnding f g d o → IsEnding f g d p → o ≡ p
ending_once (away_probed x y h k) (away_probed u v i j) =
    let z : call.probe x (Away y) ≡ call.probe u (Away v) = sym h ∙ i in
    let n : x ≡ u = cc in let m : y ≡ v = cc in k ∙ ((λ r. change.Unreachable (n r) (m r)) ∙ sym j)
ending_once (away_probed x y h k) (lost_probed u l q i j) =
    absurd (let z : call.probe x (Away y) ≡ call.probe u (Lost l) = sym h ∙ i in cc)
ending_once (away_probed x y h k) (away_got u v i j) =
    absurd (let z : call.probe x (Away y) ≡ call.get u (got.Away v) = sym h ∙ i in cc)
ending_once (away_probed x y h k) (lost_got u l i j) =
    absurd (let z : call.probe x (Away y) ≡ call.get u (got.Lost l) = sym h ∙ i in cc)
ending_once (lost_probed x y b h k) (away_probed u v i j) =
    absurd (let z : call.probe x (Lost y) ≡ call.probe u (Away v) = sym h ∙ i in cc)
ending_once (lost_probed x y b h k) (lost_probed u v q i j) =
    let z : call.probe x (Lost y) ≡ call.probe u (Lost v) = sym h ∙ i in
    let n : x ≡ u = cc in let m : y ≡ v = cc in k ∙ ((λ r. change.Needs (n r) (m r)) ∙ sym j)
ending_once (lost_probed x y b h k) (away_got u v i j) =
    absurd (let z : call.probe x (Lost y) ≡ call.get u (got.Away v) = sym h ∙ i in cc)
ending_once (lost_probed x y b h k) (lost_got u l i j) =
    absurd (let z : call.probe x (Lost y) ≡ call.get u (got.Lost l) = sym h ∙ i in cc)
ending_once (away_got x y h k) (away_probed u v i j) =
    absurd (let z : call.get x (got.Away y) ≡ call.probe u (Away v) = sym h ∙ i in cc)
ending_once (away_got x y h k) (lost_probed u l q i j) =
    absurd (let z : call.get x (got.Away y) ≡ call.probe u (Lost l) = sym h ∙ i in cc)
ending_once (away_got x y h k) (away_got u v i j) =
    let z : call.get x (got.Away y) ≡ call.get u (got.Away v) = sym h ∙ i in
    let n : x ≡ u = cc in let m : y ≡ v = cc in k ∙ ((λ r. change.Unreachable (n r) (m r)) ∙ sym j)
ending_once (away_got x y h k) (lost_got u l i j) =
    absurd (let z : call.get x (got.Away y) ≡ call.get u (got.Lost l) = sym h ∙ i in cc)
ending_once (lost_got x y h k) (away_probed u v i j) =
    absurd (let z : call.get x (got.Lost y) ≡ call.probe u (Away v) = sym h ∙ i in cc)
ending_once (lost_got x y h k) (lost_probed u l q i j) =
    absurd (let z : call.get x (got.Lost y) ≡ call.probe u (Lost l) = sym h ∙ i in cc)
ending_once (lost_got x y h k) (away_got u v i j) =
    absurd (let z : call.get x (got.Lost y) ≡ call.get u (got.Away v) = sym h ∙ i in cc)
ending_once (lost_got x y h k) (lost_got u v i j) =
    let z : call.get x (got.Lost y) ≡ call.get u (got.Lost v) = sym h ∙ i in
    let n : x ≡ u = cc in let m : y ≡ v = cc in k ∙ ((λ r. change.Needs (n r) (m r)) ∙ sym j)

twin_names : {f : Facts} {g : ℕ} {d e : Call} (x y : Name) (s t : State) → IsTwin f g d e → d ≡ call.probe x s
    → e ≡ call.probe y t
    → x ≡ y
twin_names x y s t (both_probe z u v h k p q) i j =
    let m : call.probe z u ≡ call.probe x s = sym h ∙ i in
    let n : call.probe z v ≡ call.probe y t = sym k ∙ j in
    let one : z ≡ x = cc in let two : z ≡ y = cc in sym one ∙ two
twin_names x y s t (both_get z c h k) i j = absurd (let m : call.get z (got.Here c) ≡ call.probe x s = sym h ∙ i in cc)
twin_names x y s t (both_put z h k) i j = absurd (let m : call.put z ≡ call.probe x s = sym h ∙ i in cc)
twin_names x y s t (both_restore z h k) i j = absurd (let m : call.restore z ≡ call.probe x s = sym h ∙ i in cc)

twin_got : {f : Facts} {g : ℕ} {d e : Call} (x y : Name) (s t : Got) → IsTwin f g d e → d ≡ call.get x s
    → e ≡ call.get y t
    → x ≡ y
twin_got x y s t (both_get z c h k) i j =
    let m : call.get z (got.Here c) ≡ call.get x s = sym h ∙ i in
    let n : call.get z (got.Here c) ≡ call.get y t = sym k ∙ j in
    let one : z ≡ x = cc in let two : z ≡ y = cc in sym one ∙ two
twin_got x y s t (both_probe z u v h k p q) i j = absurd (let m : call.probe z u ≡ call.get x s = sym h ∙ i in cc)
twin_got x y s t (both_put z h k) i j = absurd (let m : call.put z ≡ call.get x s = sym h ∙ i in cc)
twin_got x y s t (both_restore z h k) i j = absurd (let m : call.restore z ≡ call.get x s = sym h ∙ i in cc)

twin_mixed : {f : Facts} {g : ℕ} {d e : Call} (x y : Name) (s : State) (t : Got) → IsTwin f g d e → d ≡ call.probe x s
    → e ≡ call.get y t
    → ⊥
twin_mixed x y s t (both_probe z u v h k p q) i j = let m : call.probe z v ≡ call.get y t = sym k ∙ j in cc
twin_mixed x y s t (both_get z c h k) i j = let m : call.get z (got.Here c) ≡ call.probe x s = sym h ∙ i in cc
twin_mixed x y s t (both_put z h k) i j = let m : call.put z ≡ call.probe x s = sym h ∙ i in cc
twin_mixed x y s t (both_restore z h k) i j = let m : call.restore z ≡ call.probe x s = sym h ∙ i in cc

-- ---- a step of two conversions

data Step (f : Facts) (g : ℕ) (d e : Call) (due owed : List Call) (o p : Change) (cs ds : List Call) : Type 0 where
  over : cs ≡ ds → IsAlike g o p → Step f g d e due owed o p cs ds
  on : (xs ys : List Call) → cs ≡ d ∷ xs → ds ≡ e ∷ ys → d ≡ e → IsEnd f g due o xs → IsEnd f g owed p ys
      → Step f g d e due owed o p cs ds

-- these calls come first from the actor on
abbrev pub Starts : List Call → Actor → Type 0
Starts cs a = (r : List Call) × (b : Actor) × Does (cs ++ r) a b

-- the first of them, and the others
begun : {cs xs : List Call} {d : Call} {a : Actor} → cs ≡ d ∷ xs → Starts cs a → Goes d a (did d a)
begun {a = a} e x = first (subst (λ l. Does (l ++ x.0) a x.1) e x.2)

going_as : {cs xs : List Call} {d e : Call} {a : Actor} → d ≡ e → cs ≡ e ∷ xs → Starts cs a → Starts xs (did d a)
going_as {a = a} same e x = (x.0, x.1, rest_of same (subst (λ l. Does (l ++ x.0) a x.1) e x.2))

-- a stop excludes that the other did something
no_stop : (stop : Option ℕ) (n : ℕ) (cs ds xs : List Call) (d : Call) (g m : ℕ) (o p : Change) → cs ≡ []
    → o ≡ change.Stopped g (g + 1) m → ds ≡ d ∷ xs → length (entry_of d) ≡ 1 → IsTimed stop n cs o → IsTimed stop n ds p
    → ⊥
no_stop stop n cs ds xs d g m o p none is front one h k =
    let at = stopped_at stop n cs g m o is none h in
    let low = timed_low stop n (n + 0) ds p k at in
    let e = ap (λ l. length (entries_of l)) front in
    let long = length-append (entry_of d) (entries_of xs) in omega arith

got_entry : (x : Name) (o : Got) → o ≢ got.Memory → length (entry_of (call.get x o)) ≡ 1
got_entry x (got.Here c) ne = refl
got_entry x (got.Lost l) ne = refl
got_entry x (got.Away y) ne = refl
got_entry x got.Memory ne = absurd (ne refl)

step : {f : Facts} {g : ℕ} {d e : Call} {due owed : List Call} {o p : Change} {cs ds : List Call} {a : Actor}
    (stop : Option ℕ) (n : ℕ) (w : World) → IsTwin f g d e → a.whole ≡ Some w → Starts cs a → Starts ds a
    → IsTimed stop n cs o → IsTimed stop n ds p → o ≢ change.Memory → p ≢ change.Memory
    → Head f g d due o cs → Head f g e owed p ds → Step f g d e due owed o p cs ds
step stop n w t alone i j h k u v (wanting m) y = absurd (u m)
step stop n w t alone i j h k u v x (wanting m) = absurd (v m)
step stop n w t alone i j h k u v (next xs is more) (next ys was also) =
    on xs ys is was (next_same w t alone (begun is i) (begun was j)) more also
step {g = g} {d = d} {o = o} {p = p} {cs = cs} {ds = ds} stop n w t alone i j h k u v (next xs is more)
    (halted m none was) =
    absurd (no_stop stop n ds cs xs d g m p o none was is (twin_entry t) k h)
step stop n w t alone i j h k u v (next xs is more) (probed y s z at was ends) =
    absurd (not_probed w y s z _ t alone at ends (begun is i) (begun was j))
step stop n w t alone i j h k u v (next xs is more) (fetched y s z at fit was ends) =
    absurd (not_fetched w y s z _ t alone at fit ends (begun is i) (begun was j))
step {g = g} {e = e} {o = o} {p = p} {cs = cs} {ds = ds} stop n w t alone i j h k u v (halted m none is)
    (next ys was also) =
    absurd (no_stop stop n cs ds ys e g m o p none is was (twin_entry (twin_sym t)) h k)
step stop n w t alone i j h k u v (halted m none is) (halted l also was) = over (none ∙ sym also)
    (both_stopped m l is was)
step {g = g} {o = o} {p = p} {cs = cs} {ds = ds} stop n w t alone i j h k u v (halted m none is)
    (probed y s z at was ends) =
    absurd (no_stop stop n cs ds [] (call.probe y z) g m o p none is was refl h k)
step {g = g} {o = o} {p = p} {cs = cs} {ds = ds} stop n w t alone i j h k u v (halted m none is)
    (fetched y s z at fit was ends) =
    absurd (no_stop stop n cs ds [] (call.get y z) g m o p none is was (got_entry y z fit) h k)
step stop n w t alone i j h k u v (probed y s z at is ends) (next ys was also) =
    absurd (not_probed w y s z _ (twin_sym t) alone at ends (begun was j) (begun is i))
step {g = g} {o = o} {p = p} {cs = cs} {ds = ds} stop n w t alone i j h k u v (probed y s z at is ends)
    (halted m none was) =
    absurd (no_stop stop n ds cs [] (call.probe y z) g m p o none was is refl k h)
step {f = f} {g = g} {o = o} {a = a} stop n w t alone i j h k u v (probed y s z at is ends)
    (probed y2 s2 z2 at2 was ends2) =
    let names = twin_names y y2 s s2 t at at2 in
    let answer = one_answer.probe a _ _ w y2 z z2 alone (goes_by (ap (λ x. call.probe x z) names) (begun is i))
    (begun was j) in
    let calls : call.probe y z ≡ call.probe y2 z2 = λ r. call.probe (names r) (answer r) in
    over (is ∙ (ap (λ x. x ∷ []) calls ∙ sym was))
    (equal (ending_once (subst (λ x. IsEnding f g x o) calls ends) ends2))
step stop n w t alone i j h k u v (probed y s z at is ends) (fetched y2 s2 z2 at2 fit was ends2) =
    absurd (twin_mixed y y2 s s2 t at at2)
step stop n w t alone i j h k u v (fetched y s z at fit is ends) (next ys was also) =
    absurd (not_fetched w y s z _ (twin_sym t) alone at fit ends (begun was j) (begun is i))
step {g = g} {o = o} {p = p} {cs = cs} {ds = ds} stop n w t alone i j h k u v (fetched y s z at fit is ends)
    (halted m none was) =
    absurd (no_stop stop n ds cs [] (call.get y z) g m p o none was is (got_entry y z fit) k h)
step stop n w t alone i j h k u v (fetched y s z at fit is ends) (probed y2 s2 z2 at2 was ends2) =
    absurd (twin_mixed y2 y s2 s (twin_sym t) at2 at)
step {f = f} {g = g} {o = o} {a = a} stop n w t alone i j h k u v (fetched y s z at fit is ends)
    (fetched y2 s2 z2 at2 fit2 was ends2) =
    let names = twin_got y y2 s s2 t at at2 in
    let answer = one_answer.get a _ _ w y2 z z2 alone (goes_by (ap (λ x. call.get x z) names) (begun is i))
    (begun was j) fit fit2 in
    let calls : call.get y z ≡ call.get y2 z2 = λ r. call.get (names r) (answer r) in
    over (is ∙ (ap (λ x. x ∷ []) calls ∙ sym was))
    (equal (ending_once (subst (λ x. IsEnding f g x o) calls ends) ends2))

-- ---- all steps

-- the calls of what is made
abbrev AreTwins : Facts → ℕ → List Call → Type 0
AreTwins f g [] = Unit {0}
AreTwins f g (c ∷ cs) = IsTwin f g c c × AreTwins f g cs

twins_then : (f : Facts) (g : ℕ) (cs ds : List Call) → AreTwins f g cs → AreTwins f g ds → AreTwins f g (cs ++ ds)
twins_then f g [] ds h k = k
twins_then f g (c ∷ cs) ds h k = (h.0, twins_then f g cs ds h.1 k)

gets_twins : (f : Facts) (g : ℕ) (xs : List Name) → AreTwins f g (gets f xs)
gets_twins f g [] = tt
gets_twins f g (x ∷ xs) = (both_get x (cell_of f x) refl refl, gets_twins f g xs)

make_twins : (f : Facts) (g : ℕ) (x : Name) (s : State) → AreTwins f g (make f g x s)
make_twins f g (name.Data i) s = tt
make_twins f g (name.Copy c i) s = tt
make_twins f g (name.Parity w j p) Unborn = twins_then f g (gets f (sources f.book g j p))
    (call.put (name.Parity w j p) ∷ [])
    (gets_twins f g (sources f.book g j p)) (both_put (name.Parity w j p) refl refl, tt)
make_twins f g (name.Parity w j p) Here = tt
make_twins f g (name.Parity w j p) (Lost l) = twins_then f g (gets f (sources f.book g j p))
    (call.restore (name.Parity w j p) ∷ [])
    (gets_twins f g (sources f.book g j p)) (both_restore (name.Parity w j p) refl refl, tt)
make_twins f g (name.Parity w j p) (Away y) = tt

makes_twins : (f : Facts) (g : ℕ) (xs : List Name) (ss : List State) → AreTwins f g (makes f g xs ss)
makes_twins f g [] ss = tt
makes_twins f g (x ∷ xs) [] = tt
makes_twins f g (x ∷ xs) (s ∷ ss) = twins_then f g (make f g x s) (makes f g xs ss) (make_twins f g x s)
    (makes_twins f g xs ss)

-- what two conversions come to
pub record Once (g : ℕ) (o p : Change) (cs ds : List Call) : Type 0 where
  pub calls : cs ≡ ds
  pub alike : IsAlike g o p

timed_as : (stop : Option ℕ) (n : ℕ) (o : Change) {cs xs : List Call} {d : Call} → cs ≡ d ∷ xs → length (entry_of d) ≡ 1
    → IsTimed stop n cs o → IsTimed stop (n + 1) xs o
timed_as stop n o {xs = xs} {d = d} e one h = timed_on stop n d xs o one (subst (λ l. IsTimed stop n l o) e h)

by_step : {f : Facts} {g : ℕ} {d e : Call} {due owed : List Call} {o p : Change} {cs ds : List Call}
    → ((xs ys : List Call) → cs ≡ d ∷ xs → ds ≡ e ∷ ys → d ≡ e → IsEnd f g due o xs → IsEnd f g owed p ys
    → Once g o p xs ys)
    → Step f g d e due owed o p cs ds → Once g o p cs ds
by_step k (over same like) = record { calls = same; alike = like }
by_step k (on xs ys is was same more also) = let z = k xs ys is was same more also in
    record { calls = is ∙ ((λ i. same i ∷ z.calls i) ∙ sym was); alike = z.alike }

makes_once : {f : Facts} {g : ℕ} {o p : Change} (stop : Option ℕ) (ws : List Call)
    (n : ℕ) {cs ds : List Call} {a : Actor} (w : World)
    → AreTwins f g ws → a.whole ≡ Some w → Starts cs a → Starts ds a → IsTimed stop n cs o → IsTimed stop n ds p
    → o ≢ change.Memory → p ≢ change.Memory → IsEnd f g ws o cs → IsEnd f g ws p ds → Once g o p cs ds
makes_once stop [] n w t alone i j h k u v x y =
    let one = none_due x u in
    let two = none_due y v in
    record { calls = one.2 ∙ sym two.2; alike = both_converted one.0 two.0 one.1 two.1 }
makes_once {o = o} {p = p} stop (d ∷ ws) n {a = a} w t alone i j h k u v x y =
    by_step
    (λ xs ys is was same more also.
    let far = goes_on d a alone in
    makes_once stop ws (n + 1) far.0 t.1 far.1 (going_as refl is i) (going_as refl was j)
    (timed_as stop n o is (twin_entry t.0) h) (timed_as stop n p was (twin_entry t.0) k) u v more also)
    (step stop n w t.0 alone i j h k u v (head x) (head y))

pub probes_once : {f : Facts} {g : ℕ} {o p : Change} (stop : Option ℕ) (xs : List Name)
    (ss ts : List State) (n : ℕ) (K : List State → List Call) {cs ds : List Call} {a : Actor} (w : World)
    → ((us : List State) → AreTwins f g (K us))
    → AllGoOn f.book g xs ss → AllGoOn f.book g xs ts → a.whole ≡ Some w → Starts cs a → Starts ds a
    → IsTimed stop n cs o → IsTimed stop n ds p → o ≢ change.Memory → p ≢ change.Memory
    → IsEnd f g (probes xs ss ++ K ss) o cs → IsEnd f g (probes xs ts ++ K ts) p ds → Once g o p cs ds
probes_once stop [] [] [] n K w t m l alone i j h k u v x y = makes_once stop (K []) n w (t []) alone i j h k u v x y
probes_once stop [] [] (e ∷ ts) n K w t m l alone i j h k u v x y = absurd l
probes_once stop [] (e ∷ ss) ts n K w t m l alone i j h k u v x y = absurd m
probes_once stop (z ∷ xs) [] ts n K w t m l alone i j h k u v x y = absurd m
probes_once stop (z ∷ xs) (e ∷ ss) [] n K w t m l alone i j h k u v x y = absurd l
probes_once {f = f} {g = g} {o = o} {p = p} stop (z ∷ xs) (s ∷ ss) (e ∷ ts) n K {a = a} w t m l alone i j h k u v x y =
    by_step
    (λ us vs is was same more also.
    let far = goes_on (call.probe z s) a alone in
    let answer : s ≡ e = cc in
    probes_once stop xs ss ts (n + 1) (λ r. K (s ∷ r)) far.0 (λ r. t (s ∷ r)) m.1 l.1 far.1 (going_as refl is i)
    (going_as same was j)
    (timed_as stop n o is refl h) (timed_as stop n p was refl k) u v more
    (subst (λ d. IsEnd f g (probes xs ts ++ K (d ∷ ts)) p vs) (sym answer) also))
    (step stop n w (both_probe z s e refl refl m.0 l.0) alone i j h k u v (head x) (head y))

-- two conversions of one file
as_end : {f : Facts} {g : ℕ} {o : Change} {cs : List Call} → IsConversion f g o cs
    → (states : List State) × AllGoOn f.book g (names_of f (g + 1)) states × IsEnd f g (whole f g states) o cs
as_end (convert.converted states made go) = (states, go, all made refl refl)
as_end (convert.cut states o done go k) = (states, go, some k)

pub conversions_once : {f : Facts} {g : ℕ} {o p : Change} {cs ds : List Call} (stop : Option ℕ) {a : Actor} (w : World)
    → a.whole ≡ Some w
    → Starts cs a → Starts ds a → IsTimed stop 0 cs o → IsTimed stop 0 ds p → o ≢ change.Memory → p ≢ change.Memory
    → IsConversion f g o cs → IsConversion f g p ds → Once g o p cs ds
conversions_once {f = f} {g = g} stop w alone i j h k u v x y =
    let one = as_end x in
    let two = as_end y in
    probes_once stop (names_of f (g + 1)) one.0 two.0 0 (makes f g (names_of f (g + 1))) w
    (makes_twins f g (names_of f (g + 1))) one.1 two.1 alone i j h k u v one.2 two.2
