-- What is left of a file that an actor had alone is at rest.
use Rattle.std.proofs.Common.{◌≡◌, ◌≢◌, ℕ, zero, suc, ◌+◌, ◌-◌, ◌*◌, ◌==◌, ◌<◌, ◌≤◌, Bool, true, false, eqb, leb, cond}
use Rattle.std.proofs.Common.{List, [], ◌∷◌, ◌++◌, length}
use Rattle.std.proofs.Common.{map, take, drop, Option, get_or, sym, refl, ap, ◌∙◌, subst, arith, if◌then◌else◌, ne_eqb}
use Rattle.std.proofs.lemmas.Bool.{le-leb}
use mathlib.Core.Logic.{dite}
use native.Mathlib.Decide.{ℕ_discrete}
use Rattle.mf_machine.specs.declared.view.View.{View}
use Rattle.mf_machine.specs.Counts.{truth, bit}
use Rattle.mf_machine.specs.File.{Holds, HasCell, name_word}
use Rattle.mf_machine.specs.File.Home.{keeps, empty}
use Rattle.mf_machine.specs.Rest as machine
use Rattle.mf_machine.specs.Answers as answers
use Rattle.mf_machine.specs.Sums as sums
use Rattle.mf_machine.specs.Worlds.{World, word_of, read}
use Rattle.mf_machine.proofs.Pins.{few_pins}
use Rattle.mf_machine.proofs.Words.{cell_here}
use Rattle.mf_vault.specs.declared.answers.Rest.{Rest}
use Rattle.mf_vault.specs.declared.answers.Rest.TheVariants as rest
use Rattle.mf_vault.specs.Facts.{Facts, file, stages, place}
use Rattle.mf_vault.specs.Licence.{Holding}
use Rattle.mf_vault.specs.Resting as resting
use Rattle.mf_vault.specs.Resting.{opening_of}
use Rattle.mf_places.specs.declared.servers.Servers.{Servers}
use Rattle.mf_places.specs.Facts.{BookFacts}
use Rattle.mf_vault.specs.declared.answers.Entry.{Entry}
use Rattle.mf_plain.specs.declared.known.Known.{Known}
use Rattle.mf_plain.specs.declared.known.Told.{Told}
use Rattle.mf_plain.specs.Alone.{Stored, world, pins_of, pin_words, is_closed, rest_from, rests_from, rested}
use Rattle.mf_plain.specs.Resting.{Resting, AtRest}
use Rattle.mf_plain.specs.Standing.{Stands, facts_at}
use Rattle.mf_plain.proofs.Lists.{pins_length}
use Rattle.mf_plain.proofs.Facts as facts
use Rattle.mf_plain.proofs.Worlds as worlds

-- the word of a name at rest
not_taken : (r : Rest) → resting.word_of r ≢ 2
not_taken rest.Unborn e = absurd (let z : 0 ≡ 2 = e in omega arith)
not_taken (rest.Here c) e = absurd (let z : 1 ≡ 2 = e in omega arith)
not_taken (rest.Lost l) e = absurd (let z : 4 + l ≡ 2 = e in omega arith)
not_taken rest.Dropped e = absurd (let z : 3 ≡ 2 = e in omega arith)

bare : (r : Rest) → resting.word_of r ≢ 1 → resting.home_of r ≡ empty
bare rest.Unborn ne = refl
bare (rest.Here c) ne = absurd (ne refl)
bare (rest.Lost l) ne = refl
bare rest.Dropped ne = refl

few_pins_of : (hold work : Option ℕ) (g : ℕ) → pins_of hold work g ≤ 2
few_pins_of hold work g = let a = bit_low (place hold) (g + 1) in let b = bit_low (place work) (g + 1) in omega arith
  where
    bit_low : (x y : ℕ) → bit x y ≤ 1
    bit_low x y = by (eqb x y)
      where
        by : (t : Bool) → cond t 1 0 ≤ 1
        by true = omega arith
        by false = omega arith

module _ (f : Facts) (s : Stored) (v : View) (long : length s.closed ≡ stages f) (h : ∥ Holding f (world s v) ∥₁) where
  abbrev now : World
  now = world s v

  abbrev r_of : ℕ → Rest
  r_of n = get_or s.names n rest.Unborn

  word_is : (n : ℕ) → word_of now (name_word (file f) n) ≡ resting.word_of (r_of n)
  word_is n = worlds.name_get f s v long n

  few : (g : ℕ) → pins_of s.hold s.work g ≤ 2
  few g = few_pins_of s.hold s.work g

  -- a closed generation: its number was passed
  passed : (g : ℕ) → g < stages f → truth (get_or s.closed g false) ≡ 1 → g + 1 < s.number
  passed g l e =
      facts.known f s v h (suc (g + 1)) s.number (λ r. let word = worlds.pin_get f s v long g (omega arith) in
      let p = r.ruled.words.pins g l in let is = p.word in let many =
      few_pins (file f) f.opening (read (file f) now) g r.ruled in
      (p.low (let z = few g in omega arith)).0)

  left : (n g : ℕ) → n < (file f).names → resting.word_of (r_of n) ≡ 3 → g < stages f → Holds (file f) g n
      → 1 ≤ truth (get_or s.closed g false)
  left n g low e l b =
      facts.known f s v h 1 (truth (get_or s.closed g false)) (λ r. let word =
      worlds.pin_get f s v long g (omega arith) in
      let p = r.ruled.words.pins g l in let is = p.word in let z = few g in
      let gone = (r.ruled.words.names n low).left (word_is n ∙ e) g l b in omega arith)

  is_true : (b : Bool) → 1 ≤ truth b → b ≡ true
  is_true true l = refl
  is_true false l = absurd (omega arith)

  pub rests : machine.Rest (file f) (opening_of s.number s.closed s.names)
  rests = record {
    number = facts.number_top f s v h;
    closed = λ g l e. passed g l (ap truth e);
    born = λ g l e n low b z. facts.never f s v h (λ r. r.ruled.words.born g l
        (subst (λ x. 0 < sums.tally f.opening (v ∷ []) (answers.number x)) e r.ruled.words.number.heard) n low b
        (word_is n
        ∙ z));
    settled = λ n low. not_taken (r_of n);
    dropped = λ n low e g l b. is_true (get_or s.closed g false) (left n g low e l b);
    lost = λ n l low e. facts.lost_line f s v h n l low (word_is n ∙ e);
    here = λ n low e. here_is n low (r_of n) refl e;
    bare = λ n low ne. bare (r_of n) ne;
  }
    where
      here_is : (n : ℕ) → n < (file f).names → (r : Rest) → r_of n ≡ r → resting.word_of r ≡ 1
          → HasCell (file f) n (resting.home_of r)
      here_is n low rest.Unborn at e = absurd (let z : 0 ≡ 1 = e in omega arith)
      here_is n low (rest.Here c) at e = cell_here (file f) n (keeps c) (ap keeps
          (facts.here_cell f s v h n low (word_is n ∙ ap resting.word_of at) c (worlds.home_get f s v long n
          ∙ ap resting.home_of at)))
      here_is n low (rest.Lost l) at e = absurd (let z : 4 + l ≡ 1 = e in omega arith)
      here_is n low rest.Dropped at e = absurd (let z : 3 ≡ 1 = e in omega arith)

-- ---- what is stored is read back from the words

take_front : {A : Type 0} → (xs ys : List A) (n : ℕ) → n ≡ length xs → take n (xs ++ ys) ≡ xs
take_front [] ys zero e = refl
take_front [] ys (suc n) e = absurd (omega arith)
take_front (x ∷ xs) ys zero e = absurd (omega arith)
take_front (x ∷ xs) ys (suc n) e = ap (λ l. x ∷ l) (take_front xs ys n (omega arith))

drop_front : {A : Type 0} → (xs ys : List A) (n : ℕ) → n ≡ length xs → drop n (xs ++ ys) ≡ ys
drop_front [] ys zero e = refl
drop_front [] ys (suc n) e = absurd (omega arith)
drop_front (x ∷ xs) ys zero e = absurd (omega arith)
drop_front (x ∷ xs) ys (suc n) e = drop_front xs ys n (omega arith)

drop_two : {A : Type 0} → (a b : A) (l : List A) (n : ℕ) → drop (n + 2) (a ∷ b ∷ l) ≡ drop n l
drop_two a b l n = ap (λ k. drop k (a ∷ b ∷ l)) (let e : n + 2 ≡ suc (suc n) = omega arith in e)

closed_back : (b : Bool) (p : ℕ) → p ≤ 2 → is_closed (9223372036854775808 * truth b + p) ≡ b
closed_back true p l = le-leb 9223372036854775808 (9223372036854775808 * 1 + p) (omega arith)
closed_back false p l = few_of (λ n. is_closed (9223372036854775808 * 0 + n) ≡ false) refl refl refl p l
  where
    few_of : (P : ℕ → Type 0) → P 0 → P 1 → P 2 → (p : ℕ) → p ≤ 2 → P p
    few_of P a b c p l =
        dite (ℕ_discrete p 0) (λ e. subst P (sym e) a) (λ m. dite (ℕ_discrete p 1) (λ e. subst P (sym e) b)
        (λ n. subst P (let e : 2 ≡ p = omega arith in e) c))

all_closed_back : (c : ℕ → ℕ) (g : ℕ) (bs : List Bool) → ((j : ℕ) → c j ≤ 2) → map is_closed (pin_words c g bs) ≡ bs
all_closed_back c g [] low = refl
all_closed_back c g (b ∷ bs) low = λ i. closed_back b (c g) (low g) i ∷ all_closed_back c (g + 1) bs low i

pub rest_back : (r : Rest) → rest_from (resting.word_of r) (resting.home_of r) ≡ r
rest_back rest.Unborn = refl
rest_back (rest.Here c) = refl
rest_back rest.Dropped = refl
rest_back (rest.Lost l) =
    ap (λ t. cond t rest.Unborn (cond (eqb (4 + l) 3) rest.Dropped
    (cond (leb 4 (4 + l)) (rest.Lost (4 + l - 4)) (rest.Here []))))
    (ne_eqb (4 + l) 0 (λ e. let z : 4 + l ≡ 0 = e in absurd (omega arith)))
    ∙ (ap (λ t. cond t rest.Dropped (cond (leb 4 (4 + l)) (rest.Lost (4 + l - 4)) (rest.Here [])))
    (ne_eqb (4 + l) 3 (λ e. let z : 4 + l ≡ 3 = e in absurd (omega arith)))
    ∙ (ap (λ t. cond t (rest.Lost (4 + l - 4)) (rest.Here [])) (le-leb 4 (4 + l) (omega arith))
    ∙ ap (λ k. rest.Lost k) (let z : 4 + l - 4 ≡ l = omega arith in z)))

rests_back : (rs : List Rest) → rests_from (resting.words_of rs) (resting.homes_of rs) ≡ rs
rests_back [] = refl
rests_back (r ∷ rs) = λ i. rest_back r i ∷ rests_back rs i

module _ {b : BookFacts} {born ticks : ℕ} {k : Known} {s : Stored} {es : List Entry} {cut : Servers}
    (st : Stands b born ticks k s es cut) where
  abbrev left_of : ℕ → Told → Resting
  left_of born' told = record {
    book = b;
    bytes = told.bytes;
    losses = told.losses;
    number = s.number;
    closed = s.closed;
    names = s.names;
    born = born';
  }

  pub at_rest : (born' : ℕ) (told : Told) → told ≡ k.told → born' ≡ (if s.number == 0 then 0 else born)
      → AtRest (left_of born' told)
  at_rest born' told e is = subst (λ t. AtRest (left_of born' t)) (sym e) record {
    is_file = record { layout = st.is_file.layout; long = st.is_file.long; bytes = st.is_file.bytes };
    closed = st.closed;
    names = st.names;
    rest = rests (facts_at b born ticks k) s k.view st.closed st.holding;
    unborn = λ z. is ∙ ap (λ n. if n == 0 then 0 else born) z;
  }

  pub is_left : (born' : ℕ) (told : Told) → told ≡ k.told → born' ≡ (if s.number == 0 then 0 else born)
      → left_of born' told ≡ rested (facts_at b born ticks k) (world s k.view)
  is_left born' told e is = λ j. record {
    book = b;
    bytes = (e j).bytes;
    losses = (e j).losses;
    number = s.number;
    closed = sym closed_is j;
    names = sym names_is j;
    born = is j;
  }
    where
      pins : List ℕ
      pins = pin_words (pins_of s.hold s.work) 0 s.closed

      wide : length pins ≡ length b.shape.stages
      wide = pins_length (pins_of s.hold s.work) 0 s.closed ∙ st.closed

      closed_is : map is_closed (take (length b.shape.stages) (pins ++ resting.words_of s.names)) ≡ s.closed
      closed_is = ap (map is_closed) (take_front pins (resting.words_of s.names) (length b.shape.stages) (sym wide))
          ∙ all_closed_back (pins_of s.hold s.work) 0 s.closed (few_pins_of s.hold s.work)

      names_is : rests_from (drop (length b.shape.stages + 2)
          (s.number ∷ truth s.right ∷ pins ++ resting.words_of s.names)) (resting.homes_of s.names) ≡ s.names
      names_is =
          ap (λ l. rests_from l (resting.homes_of s.names)) (drop_two s.number (truth s.right)
          (pins ++ resting.words_of s.names) (length b.shape.stages)
          ∙ drop_front pins (resting.words_of s.names) (length b.shape.stages) (sym wide)) ∙ rests_back s.names
