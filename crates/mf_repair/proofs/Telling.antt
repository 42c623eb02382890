-- What entries tell of probes and gets.
use Rattle.std.proofs.Common.{◌≡◌, ℕ, ◌+◌, ◌<◌, ◌≤◌, true, false, List, [], ◌∷◌, ◌++◌, length, take, drop, get_or}
use Rattle.std.proofs.Common.{is_some}
use Rattle.std.proofs.Common.{Option, Some, None, refl, sym, ap, ◌∙◌, subst, arith, append_assoc, append-nil}
use Rattle.std.proofs.Common.{length-append}
use Rattle.std.proofs.lemmas.List.{take_more, take-append-drop}
use Rattle.mf_machine.specs.declared.answer.State.{State}
use Rattle.mf_machine.specs.declared.answer.State.TheVariants.{Unborn, Here, Lost, Away}
use Rattle.mf_places.specs.declared.Name.{Name}
use Rattle.mf_places.specs.declared.Name.TheVariants as name
use Rattle.mf_vault.specs.declared.answers.Answer.{Answer}
use Rattle.mf_vault.specs.declared.answers.Answer.TheVariants as answer
use Rattle.mf_vault.specs.declared.answers.Entry.{Entry}
use Rattle.mf_vault.specs.declared.answers.Entry.TheVariants as entry
use Rattle.mf_vault.specs.declared.answers.Got.{Got}
use Rattle.mf_vault.specs.declared.answers.Got.TheVariants as got
use Rattle.mf_vault.specs.declared.answers.Op.TheVariants as op
use Rattle.mf_vault.specs.Actor as call
use Rattle.mf_vault.specs.Actor.{Actor, Call, entry_of}
use Rattle.mf_vault.specs.Facts.{Facts}
use Rattle.mf_vault.specs.Licence.{Does, entries_of}
use Rattle.mf_vault.proofs.Doing.{entries_are}
use Rattle.mf_read.specs.Asking.{Found, Ask, here, lost, away, lost_in, away_in, gets, get_of}
use Rattle.mf_read.proofs.Entries.{lost_append, away_append}
use Rattle.mf_repair.specs.Repair.{call_found, found_in, once}
use Rattle.mf_repair.specs.Mending.{entry_told, told_by, first_of, lost_name, away_name, with_found}
use Rattle.mf_repair.proofs.Same.{listed, with_found_is}

told_append : (xs ys : List Entry) → told_by (xs ++ ys) ≡ told_by xs ++ told_by ys
told_append [] ys = refl
told_append (x ∷ xs) ys = ap (λ (l : List Ask). entry_told x ++ l) (told_append xs ys)
    ∙ sym (append_assoc (entry_told x) (told_by xs) (told_by ys))

pub found_append : (xs ys : List Call) → found_in (xs ++ ys) ≡ found_in xs ++ found_in ys
found_append [] ys = refl
found_append (x ∷ xs) ys = ap (λ (l : List Ask). call_found x ++ l) (found_append xs ys)
    ∙ sym (append_assoc (call_found x) (found_in xs) (found_in ys))

-- the entries of calls tell what these found
one_call : (c : Call) → told_by (entry_of c) ≡ call_found c
one_call (call.cut_off s) = refl
one_call (call.pin slot gs p) = refl
one_call (call.unpin slot) = refl
one_call (call.begin b) = refl
one_call call.end = refl
one_call (call.publish n) = refl
one_call (call.probe x Unborn) = refl
one_call (call.probe x Here) = refl
one_call (call.probe x (Lost l)) = refl
one_call (call.probe x (Away s)) = refl
one_call (call.put x) = refl
one_call (call.restore x) = refl
one_call (call.close g c) = refl
one_call (call.discard x b) = refl
one_call (call.get x (got.Here c)) = refl
one_call (call.get x (got.Lost l)) = refl
one_call (call.get x (got.Away s)) = refl
one_call (call.get x got.Memory) = refl
one_call (call.lose x l b) = refl

told_calls : (calls : List Call) → told_by (entries_of calls) ≡ found_in calls
told_calls [] = refl
told_calls (c ∷ calls) = told_append (entry_of c) (entries_of calls) ∙ (λ k. one_call c k ++ told_calls calls k)

drop_front : {A : Type 0} (xs ys : List A) → drop (length xs) (xs ++ ys) ≡ ys
drop_front [] ys = refl
drop_front (x ∷ xs) ys = drop_front xs ys

-- the entries since an actor
pub entries_since : (calls : List Call) (n : ℕ) {a b : Actor} → n ≡ length a.entries → Does calls a b
    → drop n b.entries ≡ entries_of calls
entries_since calls n {a = a} {b = b} e d = ap (λ k. drop k b.entries) e
    ∙ (ap (λ l. drop (length a.entries) l) (entries_are d) ∙ drop_front a.entries (entries_of calls))

pub told_since : (calls : List Call) (n : ℕ) {a b : Actor} → n ≡ length a.entries → Does calls a b
    → told_by (drop n b.entries) ≡ found_in calls
told_since calls n e d = ap told_by (entries_since calls n e d) ∙ told_calls calls

pub from_low : (calls : List Call) (n : ℕ) {a b : Actor} → n ≡ length a.entries → Does calls a b
    → n ≤ length b.entries
from_low calls n {a = a} e d =
    let l = ap length (entries_are d) in let m = length-append a.entries (entries_of calls) in omega arith

-- gets found what they were answered
one_get : (f : Facts) (x : Name) (r : Found)
    → call_found (get_of f (record { name = x; found = r })) ≡ (record { name = x; found = r }) ∷ []
one_get f x here = refl
one_get f x (lost l) = refl
one_get f x (away s) = refl

pub gets_found : (f : Facts) (asks : List Ask) → found_in (gets f asks) ≡ asks
gets_found f [] = refl
gets_found f (a ∷ asks) = (λ k. one_get f a.name a.found k ++ gets_found f asks k)

-- ---- loops over entries

lost_listed : (e : Entry) → lost_in (entry_told e) ≡ listed (lost_name e)
lost_listed (entry.Close g c) = refl
lost_listed (entry.Chunk op.Get x answer.Here) = refl
lost_listed (entry.Chunk op.Get x (answer.Lost l)) = refl
lost_listed (entry.Chunk op.Get x (answer.Away s)) = refl
lost_listed (entry.Chunk op.Get x answer.Unborn) = refl
lost_listed (entry.Chunk op.Get x answer.Done) = refl
lost_listed (entry.Chunk op.Get x answer.Nothing) = refl
lost_listed (entry.Chunk op.Probe x answer.Here) = refl
lost_listed (entry.Chunk op.Probe x (answer.Lost l)) = refl
lost_listed (entry.Chunk op.Probe x (answer.Away s)) = refl
lost_listed (entry.Chunk op.Probe x answer.Unborn) = refl
lost_listed (entry.Chunk op.Probe x answer.Done) = refl
lost_listed (entry.Chunk op.Probe x answer.Nothing) = refl
lost_listed (entry.Chunk op.Put x a) = refl
lost_listed (entry.Chunk op.Restore x a) = refl
lost_listed (entry.Chunk op.Discard x a) = refl
lost_listed (entry.Chunk op.Lose x a) = refl

away_listed : (e : Entry) → away_in (entry_told e) ≡ listed (away_name e)
away_listed (entry.Close g c) = refl
away_listed (entry.Chunk op.Get x answer.Here) = refl
away_listed (entry.Chunk op.Get x (answer.Lost l)) = refl
away_listed (entry.Chunk op.Get x (answer.Away s)) = refl
away_listed (entry.Chunk op.Get x answer.Unborn) = refl
away_listed (entry.Chunk op.Get x answer.Done) = refl
away_listed (entry.Chunk op.Get x answer.Nothing) = refl
away_listed (entry.Chunk op.Probe x answer.Here) = refl
away_listed (entry.Chunk op.Probe x (answer.Lost l)) = refl
away_listed (entry.Chunk op.Probe x (answer.Away s)) = refl
away_listed (entry.Chunk op.Probe x answer.Unborn) = refl
away_listed (entry.Chunk op.Probe x answer.Done) = refl
away_listed (entry.Chunk op.Probe x answer.Nothing) = refl
away_listed (entry.Chunk op.Put x a) = refl
away_listed (entry.Chunk op.Restore x a) = refl
away_listed (entry.Chunk op.Discard x a) = refl
away_listed (entry.Chunk op.Lose x a) = refl

told_more : (es : List Entry) (i : ℕ) (d : Entry) → i < length es
    → told_by (take (i + 1) es) ≡ told_by (take i es) ++ entry_told (get_or es i d)
told_more es i d low = ap told_by (take_more es i d low) ∙ (told_append (take i es) (get_or es i d ∷ [])
    ∙ ap (λ l. told_by (take i es) ++ l) (append-nil (entry_told (get_or es i d))))

-- one entry more
pub found_once : (es : List Entry) (i : ℕ) (d : Entry) (items next : List (Name × ℕ)) (o : Option (Name × ℕ))
    → i < length es → items ≡ once (lost_in (told_by (take i es))) → o ≡ lost_name (get_or es i d)
    → next ≡ with_found items o → next ≡ once (lost_in (told_by (take (i + 1) es)))
found_once es i d items next o low e h is =
    let so_far = lost_in (told_by (take i es)) in
    is ∙ ((λ k. with_found (e k) (h k)) ∙ (with_found_is so_far (lost_name (get_or es i d))
    ∙ ap once (ap (λ l. so_far ++ l) (sym (lost_listed (get_or es i d)))
    ∙ (sym (lost_append (told_by (take i es)) (entry_told (get_or es i d))) ∙ ap lost_in (sym
    (told_more es i d low))))))

away_more : (es : List Entry) (i : ℕ) (d : Entry) → i < length es
    → away_in (told_by (take (i + 1) es)) ≡ away_in (told_by (take i es)) ++ listed (away_name (get_or es i d))
away_more es i d low = ap away_in (told_more es i d low)
    ∙ (away_append (told_by (take i es)) (entry_told (get_or es i d))
    ∙ ap (λ l. away_in (told_by (take i es)) ++ l) (away_listed (get_or es i d)))

pub away_stay : (es : List Entry) (i : ℕ) (d : Entry) → i < length es → away_in (told_by (take i es)) ≡ []
    → None ≡ away_name (get_or es i d) → away_in (told_by (take (i + 1) es)) ≡ []
away_stay es i d low e h = away_more es i d low ∙ (λ k. e k ++ listed (sym h k))

pub away_found : (es : List Entry) (i : ℕ) (d : Entry) (o : Option (Name × ℕ)) (x : Name × ℕ) → i < length es
    → away_in (told_by (take i es)) ≡ [] → o ≡ away_name (get_or es i d) → o ≡ Some x
    → o ≡ first_of (away_in (told_by es))
away_found es i d o x low e h s =
    let rest = away_in (told_by (drop (i + 1) es)) in
    let front : away_in (told_by (take (i + 1) es)) ≡ x ∷ [] = away_more es i d low
    ∙ (λ k. e k ++ listed ((sym h ∙ s) k)) in
    s ∙ (ap (λ (l : List (Name × ℕ)). first_of (l ++ rest)) (sym front)
    ∙ (ap first_of (sym (away_append (told_by (take (i + 1) es)) (told_by (drop (i + 1) es))))
    ∙ (ap (λ (l : List Ask). first_of (away_in l)) (sym (told_append (take (i + 1) es) (drop (i + 1) es)))
    ∙ ap (λ (l : List Entry). first_of (away_in (told_by l))) (take-append-drop (i + 1) es))))

-- by whether there is one
pub some_of : (o : Option (Name × ℕ)) → is_some o ≡ true → (x : Name × ℕ) × (o ≡ Some x)
some_of None e = absurd (let z : false ≡ true = e in cc)
some_of (Some x) e = (x, refl)

pub none_of : (o : Option (Name × ℕ)) → is_some o ≡ false → None ≡ o
none_of None e = refl
none_of (Some x) e = absurd (let z : true ≡ false = e in cc)

-- the value with which an entry is read
abbrev pub any_entry : Entry
any_entry = entry.Chunk op.Get (name.Data 0) answer.Here

pub first_none : (l : List (Name × ℕ)) → None ≡ first_of l → l ≡ []
first_none [] e = refl
first_none (x ∷ l) e = absurd (let z : None ≡ Some x = e in cc)

pub first_some : (l : List (Name × ℕ)) (x : Name) (s : ℕ) → Some (x, s) ≡ first_of l
    → (others : List (Name × ℕ)) × (l ≡ (x, s) ∷ others)
first_some [] x s e = absurd (let z : Some (x, s) ≡ None = e in cc)
first_some (y ∷ l) x s e = (l, ap (λ (z : Name × ℕ). z ∷ l) (sym (let z : Some (x, s) ≡ Some y = e in cc)))
