-- What the rule says of a file that an actor has alone.
use Rattle.std.proofs.Common.{◌≡◌, ◌≢◌, ℕ, ◌+◌, ◌<◌, ◌≤◌, List, [], ◌∷◌, length}
use Rattle.std.proofs.Common.{get_or, sym, refl, ap, ◌∙◌, inl, arith}
use Rattle.std.proofs.lemmas.Grind.{not_there}
use Rattle.std.proofs.lemmas.List.{ext_get_or}
use mathlib.Core.Logic.{dite}
use native.Mathlib.Decide.{ℕ_discrete, dec_le}
use Rattle.mf_machine.specs.declared.view.View.{View}
use Rattle.mf_machine.specs.Actors.{PinHolds, live}
use Rattle.mf_machine.specs.Counts.{times}
use Rattle.mf_machine.specs.File.{File, IsLoseLine, HasCell, name_word}
use Rattle.mf_machine.specs.File.Home.{keeps}
use Rattle.mf_machine.specs.Answers as answers
use Rattle.mf_machine.specs.Sums as sums
use Rattle.mf_machine.specs.Worlds.{World, word_of, home_of, read}
use Rattle.mf_machine.proofs.Pins.{few_pins}
use Rattle.mf_machine.proofs.Tells as tells
use Rattle.mf_machine.proofs.Words.{cell_is}
use Rattle.mf_vault.specs.Facts.{Facts, file, stages}
use Rattle.mf_vault.specs.Licence.{Holding}
use Rattle.mf_vault.proofs.Closing as closing
use Rattle.mf_plain.specs.Alone.{Stored, world}

module _ (f : Facts) (s : Stored) (v : View) (h : ∥ Holding f (world s v) ∥₁) where
  abbrev now : World
  now = world s v

  -- numbers that the rule gives
  pub known : (x y : ℕ) → (Holding f now → x ≤ y) → x ≤ y
  known x y fact = dite (dec_le x y) (λ l. l) (λ n. absurd (not_there h (λ r. n (fact r))))

  pub never : (Holding f now → ⊥) → ⊥
  never refuted = not_there h refuted

  pub number_top : s.number ≤ stages f + 1
  number_top = known s.number (stages f + 1) (λ r. r.ruled.words.number.top)

  pub number_seen : v.seen.number ≤ s.number
  number_seen = known v.seen.number s.number (λ r. (r.ruled.each 0 v refl).seen.low)

  -- the published generation is open, and wasn't seen closed
  pub unshut_at : (g : ℕ) → s.number ≡ g + 1 → g < stages f → times g v.seen.shut ≡ 0
  unshut_at g e l = let z : times g v.seen.shut ≤ 0 = known (times g v.seen.shut) 0
      (λ r. dite (ℕ_discrete (times g v.seen.shut) 0) (λ y. omega arith) (λ n. let c =
      tells.looked_beyond (file f) f.opening (read (file f) now) r.ruled 0 v refl g l (omega arith) in
      absurd (omega arith))) in omega arith

  pub open_at : (g : ℕ) → s.number ≡ g + 1 → g < stages f → word_of now (g + 2) ≤ 3221225472
  open_at g e l = known (word_of now (g + 2)) 3221225472 (λ r. let p = r.ruled.words.pins g l in let word = p.word in
      let few = few_pins (file f) f.opening (read (file f) now) g r.ruled in
      dite (ℕ_discrete (sums.tally f.opening (v ∷ []) (answers.closed g)) 0) (λ z. omega arith)
      (λ n. let c = (p.low (omega arith)).0 in absurd (omega arith)))

  -- the actor's pins are among those of an open generation, and a closed one has none
  pub own_counted : (g : ℕ) → g < stages f → word_of now (g + 2) < 9223372036854775808
      → live g v ≤ word_of now (g + 2)
  own_counted g l low = known (live g v) (word_of now (g + 2))
      (λ r. closing.own_counted (file f) f.opening (read (file f) now) r.ruled 0 v refl g l low)

  pub own_none : (g : ℕ) → g < stages f → 9223372036854775808 ≤ word_of now (g + 2) → live g v ≤ 0
  own_none g l high = known (live g v) 0
      (λ r. closing.own_none (file f) f.opening (read (file f) now) r.ruled 0 v refl g l high)

  -- the holder of the right, which looked since its begin, looked at the present number
  pub current : v.build.right ≡ 1 → v.build.looked ≡ 1 → v.last ≡ s.number + 1
  current a b = let up : v.last ≤ s.number + 1 = known v.last (s.number + 1)
      (λ r. let e = (r.ruled.each 0 v refl).right.current a b in omega arith) in
      let down : s.number + 1 ≤ v.last = known (s.number + 1) v.last
      (λ r. let e = (r.ruled.each 0 v refl).right.current a b in omega arith) in omega arith

  -- a name of a pinned generation
  pub pinned_born : (n : ℕ) → n < (file f).names → PinHolds (file f) v.hold v.work n
      → word_of now (name_word (file f) n) ≢ 0
  pinned_born n l pin e =
      never (λ r. tells.pinned_born (file f) f.opening (read (file f) now) r.ruled 0 n v refl l pin e)

  pub pinned_there : (n : ℕ) → n < (file f).names → PinHolds (file f) v.hold v.work n
      → word_of now (name_word (file f) n) ≢ 3
  pinned_there n l pin e =
      never (λ r. tells.seen_there (file f) f.opening (read (file f) now) r.ruled 0 n v refl l (inl pin) e)

  -- Lost(line) is a lose line
  pub lost_line : (n l : ℕ) → n < (file f).names → word_of now (name_word (file f) n) ≡ 4 + l → IsLoseLine (file f) n l
  lost_line n l low e = known 1 (Rattle.mf_machine.specs.File.listed l ((file f).server n) (file f).losses)
      (λ r. let z = tells.lost_line (file f) f.opening (read (file f) now) r.ruled n l low e in omega arith)

  -- a name that is Here has its cell
  equal : (x y : ℕ) → (Holding f now → x ≡ y) → x ≡ y
  equal x y fact = dite (ℕ_discrete x y) (λ e. e) (λ n. absurd (not_there h (λ r. n (fact r))))

  pub here_cell : (n : ℕ) → n < (file f).names → word_of now (name_word (file f) n) ≡ 1 → (c : List ℕ)
      → home_of now n ≡ keeps c
      → c ≡ (file f).cell n
  here_cell n low e c home =
      ext_get_or 0 c ((file f).cell n) (equal (length c) (length ((file f).cell n)) (λ r. ap length (is r)))
      (λ i l. equal (get_or c i 0) (get_or ((file f).cell n) i 0) (λ r. ap (λ (y : List ℕ). get_or y i 0) (is r)))
    where
      is : Holding f now → c ≡ (file f).cell n
      is r = let z : keeps c ≡ keeps ((file f).cell n) =
          sym home
          ∙ cell_is (file f) n (home_of now n) (tells.here_cell (file f) f.opening (read (file f) now) r.ruled n low e)
          in cc
