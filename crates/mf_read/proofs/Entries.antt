-- What entries found lost, and what they couldn't reach.
use Rattle.std.proofs.Common.{◌≡◌, ℕ, ◌+◌, ◌<◌, List, [], ◌∷◌, ◌++◌, length, take, drop, get_or, is_some, true, false}
use Rattle.std.proofs.Common.{Option, Some, None, refl, sym, ap, ◌∙◌, append_assoc, append-nil}
use Rattle.std.proofs.lemmas.List.{take_more, take-append-drop}
use Rattle.mf_places.specs.declared.Name.{Name}
use Rattle.mf_places.specs.declared.Name.TheVariants as name
use Rattle.mf_vault.specs.declared.answers.Answer.TheVariants as answer
use Rattle.mf_vault.specs.declared.answers.Entry.{Entry}
use Rattle.mf_vault.specs.declared.answers.Entry.TheVariants as entry
use Rattle.mf_vault.specs.declared.answers.Op.TheVariants as op
use Rattle.mf_read.specs.Asking.{Ask, lost_in, away_in, one_lost, one_away}
use Rattle.mf_read.specs.Groups.{asks_in}
use Rattle.mf_read.specs.Steps.{first_of, lost_name, away_name}
use Rattle.mf_read.proofs.Told.{asks_append}

pub lost_append : (xs ys : List Ask) → lost_in (xs ++ ys) ≡ lost_in xs ++ lost_in ys
lost_append [] ys = refl
lost_append (x ∷ xs) ys = ap (λ (l : List (Name × ℕ)). one_lost x.name x.found ++ l) (lost_append xs ys)
    ∙ sym (append_assoc (one_lost x.name x.found) (lost_in xs) (lost_in ys))

pub away_append : (xs ys : List Ask) → away_in (xs ++ ys) ≡ away_in xs ++ away_in ys
away_append [] ys = refl
away_append (x ∷ xs) ys = ap (λ (l : List (Name × ℕ)). one_away x.name x.found ++ l) (away_append xs ys)
    ∙ sym (append_assoc (one_away x.name x.found) (away_in xs) (away_in ys))

none_first : (l : List (Name × ℕ)) → first_of l ≡ None → l ≡ []
none_first [] e = refl
none_first (x ∷ l) e = absurd (let z : Some x ≡ None = e in cc)

pub first_append : (xs ys : List (Name × ℕ)) (o : Option (Name × ℕ)) (x : Name × ℕ) → o ≡ first_of xs → o ≡ Some x
    → first_of (xs ++ ys) ≡ o
first_append [] ys o x e s = absurd (let z : Some x ≡ None = sym s ∙ e in cc)
first_append (y ∷ xs) ys o x e s = sym e

lost_one : (e : Entry) (x : Name × ℕ) → lost_name e ≡ Some x → lost_in (asks_in (e ∷ [])) ≡ x ∷ []
lost_one (entry.Close g c) x h = absurd (let z : None ≡ Some x = h in cc)
lost_one (entry.Chunk op.Get n answer.Here) x h = absurd (let z : None ≡ Some x = h in cc)
lost_one (entry.Chunk op.Get n (answer.Lost l)) x h = ap (λ (y : Name × ℕ). y ∷ []) (let z : Some (
  n,
  l,
) ≡ Some x = h in cc)
lost_one (entry.Chunk op.Get n (answer.Away s)) x h = absurd (let z : None ≡ Some x = h in cc)
lost_one (entry.Chunk op.Get n answer.Unborn) x h = absurd (let z : None ≡ Some x = h in cc)
lost_one (entry.Chunk op.Get n answer.Done) x h = absurd (let z : None ≡ Some x = h in cc)
lost_one (entry.Chunk op.Get n answer.Nothing) x h = absurd (let z : None ≡ Some x = h in cc)
lost_one (entry.Chunk op.Probe n a) x h = absurd (let z : None ≡ Some x = h in cc)
lost_one (entry.Chunk op.Put n a) x h = absurd (let z : None ≡ Some x = h in cc)
lost_one (entry.Chunk op.Restore n a) x h = absurd (let z : None ≡ Some x = h in cc)
lost_one (entry.Chunk op.Discard n a) x h = absurd (let z : None ≡ Some x = h in cc)
lost_one (entry.Chunk op.Lose n a) x h = absurd (let z : None ≡ Some x = h in cc)

-- one entry more
lost_more : (es : List Entry) (i : ℕ) (d : Entry) → i < length es
    → lost_in (asks_in (take (i + 1) es)) ≡ lost_in (asks_in (take i es)) ++ lost_in (asks_in (get_or es i d ∷ []))
lost_more es i d low =
    ap (λ (l : List Entry). lost_in (asks_in l)) (take_more es i d low)
    ∙ ap lost_in (asks_append (take i es) (get_or es i d ∷ []))
    ∙ lost_append (asks_in (take i es)) (asks_in (get_or es i d ∷ []))

away_more : (es : List Entry) (i : ℕ) (d : Entry) → i < length es
    → away_in (asks_in (take (i + 1) es)) ≡ away_in (asks_in (take i es)) ++ away_in (asks_in (get_or es i d ∷ []))
away_more es i d low =
    ap (λ (l : List Entry). away_in (asks_in l)) (take_more es i d low)
    ∙ ap away_in (asks_append (take i es) (get_or es i d ∷ []))
    ∙ away_append (asks_in (take i es)) (asks_in (get_or es i d ∷ []))

pub lost_push : (es : List Entry) (i : ℕ) (d : Entry) (items : List (Name × ℕ)) (x : Name × ℕ) → i < length es
    → items ≡ lost_in (asks_in (take i es))
    → Some x ≡ lost_name (get_or es i d) → items ++ x ∷ [] ≡ lost_in (asks_in (take (i + 1) es))
lost_push es i d items x low e h = (λ k. e k ++ sym (lost_one (get_or es i d) x (sym h)) k) ∙ sym (lost_more es i d low)

pub lost_stay : (es : List Entry) (i : ℕ) (d : Entry) (items : List (Name × ℕ)) → i < length es
    → items ≡ lost_in (asks_in (take i es))
    → None ≡ lost_name (get_or es i d) → items ≡ lost_in (asks_in (take (i + 1) es))
lost_stay es i d items low e h =
    e ∙ sym (append-nil (lost_in (asks_in (take i es))))
    ∙ ap (λ (l : List (Name × ℕ)). lost_in (asks_in (take i es)) ++ l) (sym (none_first (lost_in (asks_in
    (get_or es i d ∷ []))) (sym h)))
    ∙ sym (lost_more es i d low)

pub away_stay : (es : List Entry) (i : ℕ) (d : Entry) → i < length es → away_in (asks_in (take i es)) ≡ []
    → None ≡ away_name (get_or es i d)
    → away_in (asks_in (take (i + 1) es)) ≡ []
away_stay es i d low e h = away_more es i d low ∙ (λ k. e k ++ none_first (away_in (asks_in (get_or es i d ∷ [])))
    (sym h) k)

pub away_found : (es : List Entry) (i : ℕ) (d : Entry) (o : Option (Name × ℕ)) (x : Name × ℕ) → i < length es
    → away_in (asks_in (take i es)) ≡ []
    → o ≡ away_name (get_or es i d) → o ≡ Some x → o ≡ first_of (away_in (asks_in es))
away_found es i d o x low e h s =
    let one = away_in (asks_in (get_or es i d ∷ [])) in
    let rest = away_in (asks_in (drop (i + 1) es)) in
    let front : away_in (asks_in (take (i + 1) es)) ≡ one = away_more es i d low
    ∙ ap (λ (l : List (Name × ℕ)). l ++ one) e in
    sym (first_append one rest o x h s)
    ∙ ap (λ (l : List (Name × ℕ)). first_of (l ++ rest)) (sym front)
    ∙ ap first_of (sym (away_append (asks_in (take (i + 1) es)) (asks_in (drop (i + 1) es))))
    ∙ ap (λ (l : List Ask). first_of (away_in l)) (sym (asks_append (take (i + 1) es) (drop (i + 1) es)))
    ∙ ap (λ (l : List Entry). first_of (away_in (asks_in l))) (take-append-drop (i + 1) es)

-- by whether there is one
pub some_of : (o : Option (Name × ℕ)) → is_some o ≡ true → (x : Name × ℕ) × (o ≡ Some x)
some_of None e = absurd (let z : false ≡ true = e in cc)
some_of (Some x) e = (x, refl)

pub none_of : (o : Option (Name × ℕ)) → is_some o ≡ false → None ≡ o
none_of None e = refl
none_of (Some x) e = absurd (let z : true ≡ false = e in cc)

-- the value with which an entry is read
abbrev pub any_entry : Entry
any_entry = entry.Chunk op.Get (name.Data 0) answer.Here
