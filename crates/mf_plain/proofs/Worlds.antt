-- The words and slots of what is stored.
use Rattle.std.proofs.Common.{◌≡◌, ℕ, ◌+◌, ◌*◌, ◌<◌, Bool, true, false, cond, eqb, List, [], ◌∷◌, ◌++◌, length, get_or}
use Rattle.std.proofs.Common.{set}
use Rattle.std.proofs.Common.{Option, sym, refl, ap, ◌∙◌, arith}
use Rattle.std.proofs.lemmas.List.{set-set, set-get_or, set-append_left, get_or_append_left}
use Rattle.mf_machine.specs.declared.view.View.{View}
use Rattle.mf_machine.specs.Counts.{truth}
use Rattle.mf_machine.specs.File.{Home, name_word}
use Rattle.mf_machine.specs.File.Home.{away, empty}
use Rattle.mf_machine.specs.Worlds.{World, word_of, home_of}
use Rattle.mf_machine.specs.Worlds as world
use Rattle.mf_vault.specs.declared.answers.Rest.{Rest}
use Rattle.mf_vault.specs.declared.answers.Rest.TheVariants as rest
use Rattle.mf_vault.specs.Facts.{Facts, file, stages}
use Rattle.mf_vault.specs.Resting.{words_of, homes_of}
use Rattle.mf_vault.specs.Resting as resting
use Rattle.mf_plain.specs.Alone.{Stored, world, pin_words, pins_of}
use Rattle.mf_plain.proofs.Lists.{words_set, homes_set, words_at, homes_at, pins_length, pins_at, pins_set}
use Rattle.mf_plain.proofs.Lists.{set_right, get_right, set_two, get_two}

-- three exchanges of the only actor's hand leave it empty-handed
pub no_hands : (a b : Home) → world.put (world.put (world.put (λ _. away) 0 a) 0 b) 0 away ≡ λ _. away
no_hands a b = λ i j. none j i
  where
    none : (j : ℕ) → world.put (world.put (world.put (λ _. away) 0 a) 0 b) 0 away j ≡ away
    none j = by (eqb j 0)
      where
        by : (t : Bool) → cond t away (cond t b (cond t a away)) ≡ away
        by true = refl
        by false = refl

pub no_hand : (a : Home) → world.put (world.put (λ _. away) 0 a) 0 away ≡ λ _. away
no_hand a = λ i j. none j i
  where
    none : (j : ℕ) → world.put (world.put (λ _. away) 0 a) 0 away j ≡ away
    none j = by (eqb j 0)
      where
        by : (t : Bool) → cond t away (cond t a away) ≡ away
        by true = refl
        by false = refl

module _ (f : Facts) (s : Stored) (v : View) (long : length s.closed ≡ stages f) where
  abbrev pub now : World
  now = world s v

  abbrev pins : List ℕ
  pins = pin_words (pins_of s.hold s.work) 0 s.closed

  abbrev with_name : ℕ → Rest → Stored
  with_name n r = record s { names = set s.names n r }

  wide : length pins ≡ stages f
  wide = pins_length (pins_of s.hold s.work) 0 s.closed ∙ long

  pub name_get : (n : ℕ) → word_of now (name_word (file f) n) ≡ resting.word_of (get_or s.names n rest.Unborn)
  name_get n = let w = wide in
      ap (λ i. get_or now.words i 0) (let d : name_word (file f) n ≡ stages f + n + 2 = omega arith in d)
      ∙ (get_two s.number (truth s.right) (pins ++ words_of s.names) (stages f + n) 0
      ∙ (get_right pins (words_of s.names) (stages f + n) n 0 (omega arith) ∙ words_at s.names n))

  pub home_get : (n : ℕ) → home_of now n ≡ resting.home_of (get_or s.names n rest.Unborn)
  home_get n = homes_at s.names n

  name_set : (n x : ℕ) → set now.words (name_word (file f) n) x
      ≡ s.number ∷ truth s.right ∷ pins ++ set (words_of s.names) n x
  name_set n x = let w = wide in
      ap (λ i. set now.words i x) (let d : name_word (file f) n ≡ stages f + n + 2 = omega arith in d)
      ∙ (set_two s.number (truth s.right) (pins ++ words_of s.names) (stages f + n) x
      ∙ ap (λ l. s.number ∷ truth s.right ∷ l) (set_right pins (words_of s.names) (stages f + n) n x (omega arith)))

  -- a name gets its new word, and its slot what comes with it
  pub named : (n : ℕ) (r : Rest) (v' : View) → world (with_name n r) v' ≡ record {
    words = set now.words (name_word (file f) n) (resting.word_of r);
    homes = set (homes_of s.names) n (resting.home_of r);
    views = v' ∷ [];
    hands = λ _. away;
  }
  named n r v' = λ j. record {
    words =
        (ap (λ l. s.number ∷ truth s.right ∷ pins ++ l) (words_set s.names n r)
        ∙ sym (name_set n (resting.word_of r))) j;
    homes = homes_set s.names n r j;
    views = v' ∷ [];
    hands = λ _. away;
  }

  -- a name that is Taken for a while gets its new word and slot
  pub turned : (n : ℕ) (r : Rest) (v' : View) → record {
    words = set (set now.words (name_word (file f) n) 2) (name_word (file f) n) (resting.word_of r);
    homes = set (set (homes_of s.names) n away) n (resting.home_of r);
    views = v' ∷ [];
    hands = world.put (world.put (world.put (λ _. away) 0 (home_of now n)) 0 (resting.home_of r)) 0 away;
  } ≡ world (with_name n r) v'
  turned n r v' = (λ j. record {
    words = set-set now.words (name_word (file f) n) 2 (resting.word_of r) j;
    homes = set-set (homes_of s.names) n away (resting.home_of r) j;
    views = v' ∷ [];
    hands = no_hands (home_of now n) (resting.home_of r) j;
  }) ∙ sym (named n r v')

  -- the same word again changes nothing
  pub again : (i : ℕ) → set now.words i (word_of now i) ≡ now.words
  again i = set-get_or now.words i 0

  -- a name that is got comes back
  pub returned : (n : ℕ) (v' : View) → word_of now (name_word (file f) n) ≡ 1 → record {
    words = set (set now.words (name_word (file f) n) 2) (name_word (file f) n) 1;
    homes = set (set (homes_of s.names) n away) n (home_of now n);
    views = v' ∷ [];
    hands = world.put (world.put (λ _. away) 0 (home_of now n)) 0 away;
  } ≡ world s v'
  returned n v' e = λ j. record {
    words = (set-set now.words (name_word (file f) n) 2 1
        ∙ (ap (set now.words (name_word (file f) n)) (sym e) ∙ again (name_word (file f) n))) j;
    homes = (set-set (homes_of s.names) n away (home_of now n) ∙ set-get_or (homes_of s.names) n empty) j;
    views = v' ∷ [];
    hands = no_hand (home_of now n) j;
  }

  -- a word of pins
  pub pin_get : (g : ℕ) → g < length s.closed
      → word_of now (g + 2) ≡ 9223372036854775808 * truth (get_or s.closed g false) + pins_of s.hold s.work g
  pin_get g l = let w = wide in let z : 0 + g ≡ g = omega arith in
      get_two s.number (truth s.right) (pins ++ words_of s.names) g 0
      ∙ (get_or_append_left pins (words_of s.names) 0 g (omega arith)
      ∙ (pins_at (pins_of s.hold s.work) 0 g s.closed l
      ∙ ap (λ j. 9223372036854775808 * truth (get_or s.closed g false) + pins_of s.hold s.work j) z))

  pin_set : (g x : ℕ) → g < length s.closed → set now.words (g + 2) x
      ≡ s.number ∷ truth s.right ∷ set pins g x ++ words_of s.names
  pin_set g x l = let w = wide in set_two s.number (truth s.right) (pins ++ words_of s.names) g x
      ∙ ap (λ l. s.number ∷ truth s.right ∷ l) (set-append_left pins (words_of s.names) g x (omega arith))

  -- the slots and the closed generations change at one generation
  pub pins_are : (hold' work' : Option ℕ) (g x : ℕ) (b : Bool) (v' : View) → g < length s.closed
      → ((j : ℕ) → (j ≡ g → ⊥) → pins_of s.hold s.work j ≡ pins_of hold' work' j)
      → x ≡ 9223372036854775808 * truth b + pins_of hold' work' g
      → record { words = set now.words (g + 2) x; homes = homes_of s.names; views = v' ∷ []; hands = λ _. away }
      ≡ world (record s { hold = hold'; work = work'; closed = set s.closed g b }) v'
  pins_are hold' work' g x b v' l same at = let z : 0 + g ≡ g = omega arith in λ j. record {
    words = (pin_set g x l ∙ ap (λ ps. s.number ∷ truth s.right ∷ ps ++ words_of s.names)
        (sym (pins_set (pins_of s.hold s.work) (pins_of hold' work') 0 g x s.closed b l (λ i ne. same i (λ e. ne (e
        ∙ sym z)))
        (at ∙ ap (λ i. 9223372036854775808 * truth b + pins_of hold' work' i) (sym z))))) j;
    homes = homes_of s.names;
    views = v' ∷ [];
    hands = λ _. away;
  }
