-- Phases and ticks, item by item, and how many ticks there may be.
use Rattle.std.proofs.Common.{◌≡◌, ℕ, zero, suc, ◌+◌, ◌-◌, ◌*◌, ◌^◌, ◌<◌, ◌≤◌, List, [], ◌∷◌, ◌++◌, length, take, drop}
use Rattle.std.proofs.Common.{get_or}
use Rattle.std.proofs.Common.{refl, sym, ap, ◌∙◌, subst, arith, lit<}
use Rattle.std.specs.List.{join_with_byte, flat_map}
use Rattle.std.proofs.lemmas.List.{length-append, append_assoc}
use Rattle.mf_text.specs.Lines.{lines_of}
use Rattle.mf_places.specs.declared.losses.LoseLine.{LoseLine}
use Rattle.mf_lines.specs.declared.parts.Command.{Command}
use Rattle.mf_lines.specs.declared.parts.Client.{Client}
use Rattle.mf_lines.specs.declared.parts.Item.{Item}
use Rattle.mf_lines.specs.declared.parts.Item.TheVariants as item
use Rattle.mf_lines.specs.declared.forms.Form.{Form}
use Rattle.mf_lines.specs.declared.forms.Form.TheVariants as says
use Rattle.mf_lines.specs.Meaning.{SoFar, on_last, with_client, with_command, with_form, phases_in}
use Rattle.mf_lines.specs.Keeps.{Keeps}
use Rattle.mf_script.specs.Losses.{phase_losses}
use Rattle.mf_script.specs.Phases.{ticks_ahead}
use Rattle.mf_script.specs.Sound.{ticks_of, ticks_in}
use Rattle.mf_script.proofs.RoundTrip.{lines_le}

-- ---- the next item

drop_at : {X : Type 0} (xs : List X) (i : ℕ) (d : X) → i < length xs → drop i xs ≡ get_or xs i d ∷ drop (suc i) xs
drop_at [] i d low = absurd (omega arith)
drop_at (x ∷ xs) zero d low = refl
drop_at (x ∷ xs) (suc i) d low = drop_at xs i d (omega arith)

pub drop_next : {X : Type 0} (xs : List X) (i : ℕ) (x y : X) → i < length xs → x ≡ get_or xs i x → x ≡ y
    → drop i xs ≡ y ∷ drop (i + 1) xs
drop_next xs i x y low is e =
    let next : suc i ≡ i + 1 = omega arith in
    drop_at xs i x low ∙ (λ j. (sym is ∙ e) j ∷ drop (next j) xs)

pub behind_ticks : (items : List Item) (i : ℕ) (x : Item) (ticks : ℕ) → i < length items → x ≡ get_or items i x
    → x ≡ item.Tick ticks → phases_in (drop i items) ≡ phases_in (drop (i + 1) items)
behind_ticks items i x ticks low is e = ap phases_in (drop_next items i x (item.Tick ticks) low is e)

pub behind_phase : (items : List Item) (i : ℕ) (x : Item) (clients : List Client) → i < length items
    → x ≡ get_or items i x → x ≡ item.Phase clients
    → phases_in (drop i items) ≡ clients ∷ phases_in (drop (i + 1) items)
behind_phase items i x clients low is e = ap phases_in (drop_next items i x (item.Phase clients) low is e)

pub ticks_more : (items : List Item) (i : ℕ) (x : Item) (ticks n : ℕ) → i < length items → x ≡ get_or items i x
    → x ≡ item.Tick ticks → ticks_ahead (drop i items) n ≡ ticks + ticks_ahead (drop (i + 1) items) n
ticks_more items i x ticks n low is e =
    ap (λ xs. ticks_ahead xs n) (drop_next items i x (item.Tick ticks) low is e)

pub ticks_reached : (items : List Item) (i : ℕ) (x : Item) (clients : List Client) (n : ℕ) → i < length items
    → x ≡ get_or items i x → x ≡ item.Phase clients → n ≡ 0 → ticks_ahead (drop i items) n ≡ 0
ticks_reached items i x clients n low is e none =
    (λ j. ticks_ahead (drop_next items i x (item.Phase clients) low is e j) (none j))

pub ticks_beyond : (items : List Item) (i : ℕ) (x : Item) (clients : List Client) (n m : ℕ) → i < length items
    → x ≡ get_or items i x → x ≡ item.Phase clients → n ≡ suc m
    → ticks_ahead (drop i items) n ≡ ticks_ahead (drop (i + 1) items) m
ticks_beyond items i x clients n m low is e more =
    (λ j. ticks_ahead (drop_next items i x (item.Phase clients) low is e j) (more j))

pub one_less : (n : ℕ) → (n ≡ 0 → ⊥) → n ≡ suc (n - 1)
one_less zero some = absurd (some refl)
one_less (suc n) some = omega arith

-- the lose lines of one phase more
pub losses_more : (start losses new : List LoseLine) (left m : ℕ) (clients : List Client)
    (before behind : List (List Client)) → before ≡ clients ∷ behind → left ≡ suc m
    → new ≡ losses ++ phase_losses clients
    → losses ++ flat_map phase_losses (take left before) ≡ start
    → new ++ flat_map phase_losses (take m behind) ≡ start
losses_more start losses new left m clients before behind split more is so =
    ap (λ ls. ls ++ flat_map phase_losses (take m behind)) is
    ∙ append_assoc losses (phase_losses clients) (flat_map phase_losses (take m behind))
    ∙ sym (λ i. losses ++ flat_map phase_losses (take (more i) (split i))) ∙ so

-- ---- ticks only grow, and fit in 64 bits

pub ticks_rise : (items : List Item) (m n : ℕ) → m ≤ n → ticks_ahead items m ≤ ticks_ahead items n
ticks_rise [] m n le = omega arith
ticks_rise (item.Tick ticks ∷ items) m n le = omega (arith, ticks_rise items m n le)
ticks_rise (item.Phase clients ∷ items) zero n le = omega arith
ticks_rise (item.Phase clients ∷ items) (suc m) zero le = absurd (omega (arith, le))
ticks_rise (item.Phase clients ∷ items) (suc m) (suc n) le = ticks_rise items m n (omega (arith, le))

pub ahead_few : (items : List Item) (n : ℕ) → ticks_ahead items n ≤ ticks_in items
ahead_few [] n = omega arith
ahead_few (item.Tick ticks ∷ items) n = omega (arith, ahead_few items n)
ahead_few (item.Phase clients ∷ items) zero = omega arith
ahead_few (item.Phase clients ∷ items) (suc n) = omega (arith, ahead_few items n)

all_push : (items : List Item) (x : Item) → ticks_in (items ++ x ∷ []) ≡ ticks_in items + ticks_of x
all_push [] x = omega arith
all_push (y ∷ items) x = omega (arith, all_push items x)

all_last : (change : Item → Item) → ((x : Item) → ticks_of (change x) ≡ ticks_of x) → (items : List Item)
    → ticks_in (on_last change items) ≡ ticks_in items
all_last change same [] = refl
all_last change same (x ∷ []) = ap (λ n. n + 0) (same x)
all_last change same (x ∷ y ∷ items) = ap (λ n. ticks_of x + n) (all_last change same (y ∷ items))

client_same : (x : Item) → ticks_of (with_client x) ≡ ticks_of x
client_same (item.Tick ticks) = refl
client_same (item.Phase clients) = refl

command_same : (c : Command) (x : Item) → ticks_of (with_command c x) ≡ ticks_of x
command_same c (item.Tick ticks) = refl
command_same c (item.Phase clients) = refl

pub form_few : (so : SoFar) (n : ℕ) (form : Form) → Keeps so form
    → ticks_in (with_form so.script n form).items ≤ ticks_in so.script.items + 1000000000
form_few so n (says.Tick ticks) h = omega (arith, h, all_push so.script.items (item.Tick ticks))
form_few so n says.Phase h = omega (arith, all_push so.script.items (item.Phase []))
form_few so n says.Client h = omega (arith, all_last with_client client_same so.script.items)
form_few so n (says.Command a) h =
    let c : Command = record { line = n; act = a } in
    omega (arith, all_last (with_command c) (command_same c) so.script.items)
form_few so n form h = omega arith

many_lines : (ls : List (List ℕ)) → length ls ≤ length (join_with_byte 10 ls) + 1
many_lines [] = omega arith
many_lines (l ∷ []) = omega arith
many_lines (l ∷ m ∷ ls) =
    omega (arith, many_lines (m ∷ ls), length-append l (10 ∷ join_with_byte 10 (m ∷ ls)))

-- a text has few lines
pub few_lines : (text : List ℕ) → length text ≤ 1048576 → 1000000000 * length (lines_of text) < 2 ^ 64
few_lines text short =
    let lines = many_lines (lines_of text) in
    let le = lines_le text in
    let big : 1000000000 * 1048577 < 2 ^ 64 = lit< tt in
    omega arith
