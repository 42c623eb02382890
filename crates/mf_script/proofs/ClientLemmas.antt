-- Each phase of a script has one to eight clients.
use Rattle.std.proofs.Common.{◌≡◌, ℕ, zero, suc, ◌+◌, ◌-◌, ◌<◌, ◌≤◌, true, List, [], ◌∷◌, ◌++◌, length, get_or, Option}
use Rattle.std.proofs.Common.{Some}
use Rattle.std.proofs.Common.{None, refl, sym, ap, ◌∙◌, subst, arith, inl, inr}
use Rattle.std.specs.List.{All}
use Rattle.std.proofs.lemmas.List.{length-append, append-nil}
use Rattle.std.proofs.lemmas.List.Elements.{All-nil, All-cons}
use Rattle.mf_lines.specs.declared.parts.Command.{Command}
use Rattle.mf_lines.specs.declared.parts.Client.{Client}
use Rattle.mf_lines.specs.declared.parts.Item.{Item}
use Rattle.mf_lines.specs.declared.parts.Item.TheVariants as item
use Rattle.mf_lines.specs.declared.words.LineWord.{LineWord}
use Rattle.mf_lines.specs.declared.words.LineWord.TheVariants as word
use Rattle.mf_lines.specs.declared.forms.Form.{Form}
use Rattle.mf_lines.specs.declared.forms.Form.TheVariants as says
use Rattle.mf_lines.specs.Meaning.{Script, SoFar, first_word, on_last, with_client, client_with, with_command}
use Rattle.mf_lines.specs.Meaning.{with_form}
use Rattle.mf_lines.specs.Meaning.{phases_in, clients_with}
use Rattle.mf_lines.specs.Lines.{may_follow, may_follow_command}
use Rattle.mf_lines.proofs.ListLemmas.{on_last-push}
use Rattle.mf_lines.specs.Keeps.{Keeps}
use Rattle.mf_lines.proofs.FormLemmas.{LineIs}

-- ---- how many clients phases have

-- one to eight clients
abbrev pub AreFew : List Client → Type 0
AreFew clients = (1 ≤ length clients) × (length clients ≤ 8)

-- the last one so many, and each before it one to eight
abbrev pub Sized : ℕ → List (List Client) → Type 0
Sized k [] = Unit {0}
Sized k (cs ∷ []) = length cs ≡ k
Sized k (cs ∷ ds ∷ phases) = ((1 ≤ length cs) × (length cs ≤ 8)) × Sized k (ds ∷ phases)

-- the last one, if there is one, has one to eight
abbrev pub Full : ℕ → List (List Client) → Type 0
Full k [] = Unit {0}
Full k (cs ∷ phases) = (1 ≤ k) × (k ≤ 8)

full : (k : ℕ) (phases : List (List Client)) → (1 ≤ k) × (k ≤ 8) → Full k phases
full k [] some = tt
full k (cs ∷ phases) some = some

begun : (k : ℕ) (phases : List (List Client)) → Sized k phases → Full k phases → Sized 0 (phases ++ [] ∷ [])
begun k [] sized some = refl
begun k (cs ∷ []) sized some = ((omega (arith, sized, some.0), omega (arith, sized, some.1)), refl)
begun k (cs ∷ ds ∷ phases) sized some = (sized.0, begun k (ds ∷ phases) sized.1 some)

replaced : (k m : ℕ) (phases : List (List Client)) (cs ds : List Client) → Sized k (phases ++ cs ∷ []) → length ds ≡ m
    → Sized m (phases ++ ds ∷ [])
replaced k m [] cs ds sized e = e
replaced k m (p ∷ []) cs ds sized e = (sized.0, e)
replaced k m (p ∷ q ∷ phases) cs ds sized e = (sized.0, replaced k m (q ∷ phases) cs ds sized.1 e)

last_size : (k : ℕ) (phases : List (List Client)) (cs : List Client) → Sized k (phases ++ cs ∷ []) → length cs ≡ k
last_size k [] cs sized = sized
last_size k (p ∷ []) cs sized = sized.1
last_size k (p ∷ q ∷ phases) cs sized = last_size k (q ∷ phases) cs sized.1

-- so each phase has one to eight
pub all_few : (k : ℕ) (phases : List (List Client)) → Sized k phases → Full k phases → All AreFew phases
all_few k [] sized some = All-nil AreFew
all_few k (cs ∷ []) sized some =
    All-cons AreFew cs [] (omega (arith, sized, some.0), omega (arith, sized, some.1)) (All-nil AreFew)
all_few k (cs ∷ ds ∷ phases) sized some =
    All-cons AreFew cs (ds ∷ phases) sized.0 (all_few k (ds ∷ phases) sized.1 some)

-- ---- the items, by the last line

phases_push : (items : List Item) (x : Item) → phases_in (items ++ x ∷ []) ≡ phases_in items ++ phases_in (x ∷ [])
phases_push [] x = refl
phases_push (item.Tick ticks ∷ items) x = phases_push items x
phases_push (item.Phase clients ∷ items) x = ap (λ r. clients ∷ r) (phases_push items x)

-- the last item is a phase
pub record HasPhase (items : List Item) : Type 0 where
  pub before : List Item
  pub clients : List Client
  pub is : items ≡ before ++ item.Phase clients ∷ []

-- k clients since the last phase line
abbrev pub Stands : Option LineWord → ℕ → List Item → Type 0
Stands (Some word.Phase) k items = HasPhase items × Sized k (phases_in items)
Stands (Some word.Client) k items = HasPhase items × Sized k (phases_in items) × ((1 ≤ k) × (k ≤ 8))
Stands (Some (word.Command verb)) k items = HasPhase items × Sized k (phases_in items) × ((1 ≤ k) × (k ≤ 8))
Stands last k items = Sized k (phases_in items) × Full k (phases_in items)

add_phase : (items : List Item) (k : ℕ) → Sized k (phases_in items) → Full k (phases_in items)
    → Stands (Some word.Phase) 0 (items ++ item.Phase [] ∷ [])
add_phase items k sized some = (
  record { before = items; clients = []; is = refl },
  subst (Sized 0) (sym (phases_push items (item.Phase []))) (begun k (phases_in items) sized some),
)

add_tick : (items : List Item) (k ticks : ℕ) → Sized k (phases_in items) → Full k (phases_in items)
    → Stands (Some word.Tick) k (items ++ item.Tick ticks ∷ [])
add_tick items k ticks sized some =
    let none : phases_in items ≡ phases_in (items ++ item.Tick ticks ∷ []) =
    sym (phases_push items (item.Tick ticks) ∙ append-nil (phases_in items)) in
    (subst (Sized k) none sized, subst (Full k) none some)

-- the last phase has other clients
changed : (items : List Item) (change : Item → Item) (h : HasPhase items) (ds : List Client) (k m : ℕ)
    → change (item.Phase h.clients) ≡ item.Phase ds → length ds ≡ m → Sized k (phases_in items)
    → HasPhase (on_last change items) × Sized m (phases_in (on_last change items))
changed items change h ds k m e long sized =
    let new : on_last change items ≡ h.before ++ item.Phase ds ∷ [] =
    ap (on_last change) h.is ∙ on_last-push change h.before (item.Phase h.clients)
    ∙ ap (λ x. h.before ++ x ∷ []) e in
    let old : phases_in items ≡ phases_in h.before ++ h.clients ∷ [] =
    ap phases_in h.is ∙ phases_push h.before (item.Phase h.clients) in (
      record { before = h.before; clients = ds; is = new },
      subst (Sized m) (sym (ap phases_in new ∙ phases_push h.before (item.Phase ds)))
          (replaced k m (phases_in h.before) h.clients ds (subst (Sized k) old sized) long),
    )

size_of : (items : List Item) (h : HasPhase items) (k : ℕ) → Sized k (phases_in items) → length h.clients ≡ k
size_of items h k sized =
    last_size k (phases_in h.before) h.clients
    (subst (Sized k) (ap phases_in h.is ∙ phases_push h.before (item.Phase h.clients)) sized)

add_client : (items : List Item) (k : ℕ) → HasPhase items → Sized k (phases_in items) → k < 8
    → Stands (Some word.Client) (k + 1) (on_last with_client items)
add_client items k h sized room =
    let bare : Client = record { commands = [] } in
    let long : length (h.clients ++ bare ∷ []) ≡ k + 1 =
    length-append h.clients (bare ∷ []) ∙ ap (λ n. n + 1) (size_of items h k sized) in
    let new = changed items with_client h (h.clients ++ bare ∷ []) k (k + 1) refl long sized in
    (new.0, new.1, (omega arith, omega (arith, room)))

length-on_last : {X : Type 0} (change : X → X) (xs : List X) → length (on_last change xs) ≡ length xs
length-on_last change [] = refl
length-on_last change (x ∷ []) = refl
length-on_last change (x ∷ y ∷ xs) = ap suc (length-on_last change (y ∷ xs))

add_command : (items : List Item) (k : ℕ) (c : Command) → HasPhase items → Sized k (phases_in items)
    → HasPhase (on_last (with_command c) items) × Sized k (phases_in (on_last (with_command c) items))
add_command items k c h sized =
    changed items (with_command c) h (on_last (client_with c) h.clients) k k refl
    (length-on_last (client_with c) h.clients ∙ size_of items h k sized) sized

-- ---- one line more

-- behind a client or a command
in_client : (so : SoFar) (n : ℕ) (form : Form) → may_follow_command (first_word form) ≡ true → Keeps so form
    → HasPhase so.script.items → Sized so.clients (phases_in so.script.items) → (1 ≤ so.clients) × (so.clients ≤ 8)
    → Stands (Some (first_word form)) (clients_with so form) (with_form so.script n form).items
in_client so n says.Client e timely h sized some = add_client so.script.items so.clients h sized timely
in_client so n says.Phase e timely h sized some =
    add_phase so.script.items so.clients sized (full so.clients (phases_in so.script.items) some)
in_client so n (says.Tick ticks) e timely h sized some =
    add_tick so.script.items so.clients ticks sized (full so.clients (phases_in so.script.items) some)
in_client so n (says.Command a) e timely h sized some =
    let new = add_command so.script.items so.clients (record { line = n; act = a }) h sized in (new.0, new.1, some)
in_client so n (says.Dump file) e timely h sized some = (sized, full so.clients (phases_in so.script.items) some)
in_client so n says.End e timely h sized some = (sized, full so.clients (phases_in so.script.items) some)
in_client so n form e timely h sized some = absurd cc

next : (last : LineWord) (so : SoFar) (n : ℕ) (form : Form) → may_follow last (first_word form) ≡ true
    → Keeps so form → Stands (Some last) so.clients so.script.items
    → Stands (Some (first_word form)) (clients_with so form) (with_form so.script n form).items
unfolding may_follow
next word.Phase so n says.Client e timely h = add_client so.script.items so.clients h.0 h.1 timely
next word.Phase so n form e timely h = absurd cc
next word.Client so n form e timely h = in_client so n form e timely h.0 h.1 h.2
next (word.Command verb) so n form e timely h = in_client so n form e timely h.0 h.1 h.2
next last so n (says.Tick ticks) e timely h = add_tick so.script.items so.clients ticks h.0 h.1
next last so n says.Phase e timely h = add_phase so.script.items so.clients h.0 h.1
next last so n says.Client e timely h = absurd cc
next last so n (says.Command a) e timely h = absurd cc
next last so n form e timely h = h

pub line_stands : (so : SoFar) (line : List ℕ) (form : Form) → LineIs so line form
    → Stands so.last so.clients so.script.items
    → Stands (Some (first_word form)) (clients_with so form) (with_form so.script (so.lines + 1) form).items
line_stands so line form is h =
    elim is.place [
      | inl first ↦ subst
          (λ f. Stands (Some (first_word f)) (clients_with so f) (with_form so.script (so.lines + 1) f).items)
          (sym first.1) (subst (λ l. Stands l so.clients so.script.items) first.0 h)
      | inr (last, was, follows) ↦ next last so (so.lines + 1) form follows is.keeps
          (subst (λ l. Stands l so.clients so.script.items) was h)
    ]
