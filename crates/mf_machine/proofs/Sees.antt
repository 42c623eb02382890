-- What the word of a name tells, and a step that only sees it.
use Rattle.std.proofs.Common.{◌≡◌, ◌≢◌, ◌⊎◌, ℕ, ◌+◌, ◌<◌, ◌≤◌, set, sym, refl, ap, ◌∙◌, ⊎_elim, inl, arith}
use mathlib.Core.Logic.{dite}
use mathlib.Core.Option.{some}
use native.Mathlib.Decide.{ℕ_discrete}
use lib.ListN.{get_elem?}
use Rattle.mf_machine.specs.declared.view.View.{View}
use Rattle.mf_machine.specs.Actors.{Active, Idle}
use Rattle.mf_machine.specs.Answers as answer
use Rattle.mf_machine.specs.File.{File, Opening, State}
use Rattle.mf_machine.specs.Rest.{Rest}
use Rattle.mf_machine.specs.Ruled.{Words, Ruled}
use Rattle.mf_machine.specs.Sums.{tally}
use Rattle.mf_machine.specs.Worlds.{counted}
use Rattle.mf_machine.specs.Steps as row
use Rattle.mf_machine.proofs.Lists.{bit_is, bit_not, bit_eq, times_cons}
use Rattle.mf_machine.proofs.Entering.{silence, reply}
use Rattle.mf_machine.proofs.Frames.{idle_inside}
use Rattle.mf_machine.proofs.Steps.{part_same, calm}
use Rattle.mf_machine.proofs.Words as word
use Rattle.mf_machine.proofs.Words.{onward_at, builds_at, ends_at, turn_else, back_else, names_at, bits_low, bits_lost}
use Rattle.mf_machine.proofs.Words.{lost_is, raises_parts, sinks_parts, hides_parts}

-- a word 1 or 2 has something that made the name Here
pub here_cause : (f : File) (k : Opening) (s : State) (n : ℕ) → Rest f k → Words f k s → n < f.names → (s.name n ≡ 1) ⊎
    (s.name n ≡ 2) → 0 < tally k s.views (answer.here n)
here_cause f k s n rest ws inside saw = let name = ws.names n inside in let t = name.taken in let b = name.born in
    let d = name.dropped in
    let parts = raises_parts n s.views in let state = word.one_state (k.name n) (rest.settled n inside) in
    ⊎_elim (λ e. let z = bits_low (s.name n) 1 e in let z₀ = z.0 in let z₂ = z.1 in let z₃ = z.2 in let z₄ = z.3 in
    let l = name.lost (λ y. omega arith) in omega arith)
    (λ e. let z = bits_low (s.name n) 2 e in let z₀ = z.0 in let z₂ = z.1 in let z₃ = z.2 in let z₄ = z.3 in
    let l = name.lost (λ y. omega arith) in omega arith) saw

module _ (f : File) (k : Opening) (s : State) (id i n : ℕ) (v : View) (rest : Rest f k) (r : Ruled f k s)
    (at : get_elem? s.views id ≡ some v) (active : Active v) (idle : Idle v) (inside : n < f.names) where
  pub sees_unborn : s.name n ≡ 0 → Ruled f k
      (record s { views = set s.views id (counted i (s.name n) (row.told_unborn n v)) })
  sees_unborn saw = let w : View = counted i (s.name n) (row.told_unborn n v) in let mine = r.each id v at in
      let b = (r.words.names n inside).born in let z = (bits_low (s.name n) 0 saw).0 in
      let was : k.name n ≡ 0 = bit_eq (k.name n) 0 (omega arith) in
      calm f k s id v w (reply (answer.unborn n)) refl r at refl (λ m. part_same m v w refl refl)
      (λ add up. (let b = bit_is (k.name n) 0 was in omega arith, tt))
      (λ up. record {
        active = active;
        strays = mine.strays;
        last = mine.last;
        right = record { bit = mine.right.bit; current = mine.right.current; has = mine.right.has };
        build = record {
          unborn = λ h m l. times_cons m n v.build.unborn ((s.name m ≡ 0) ⊎ (v.inside.bearing ≡ m + 1))
              (λ e. inl (ap s.name e ∙ saw)) (mine.build.unborn h m) l;
          lost = mine.build.lost;
          settled = mine.build.settled;
        };
        pins = mine.pins;
        inside = idle_inside f s.name w.inside w.hold w.work w.last w.build w.own idle mine.inside.getting;
      })

  pub sees_here : (s.name n ≡ 1) ⊎ (s.name n ≡ 2) → Ruled f k
      (record s { views = set s.views id (counted i (s.name n) (row.told_here n v)) })
  sees_here saw = let w : View = counted i (s.name n) (row.told_here n v) in let mine = r.each id v at in
      let alive : s.name n ≢ 0 = λ z. ⊎_elim (λ e. omega arith) (λ e. omega arith) saw in
      let cause = here_cause f k s n rest r.words inside saw in
      calm f k s id v w (reply (answer.here n)) refl r at refl (λ m. part_same m v w refl refl)
      (λ add up. (let b = up (answer.here n) in omega arith, alive))
      (λ up. record {
        active = active;
        strays = mine.strays;
        last = mine.last;
        right = record { bit = mine.right.bit; current = mine.right.current; has = mine.right.has };
        build = record {
          unborn = mine.build.unborn;
          lost = mine.build.lost;
          settled = λ m l. times_cons m n v.build.settled (s.name m ≢ 0) (λ e z. alive (sym (ap s.name e) ∙ z))
              (mine.build.settled m) l;
        };
        pins = mine.pins;
        inside = idle_inside f s.name w.inside w.hold w.work w.last w.build w.own idle mine.inside.getting;
      })

  pub sees_lost : (l : ℕ) → s.name n ≡ 4 + l → Ruled f k
      (record s { views = set s.views id (counted i (s.name n) (row.told_lost n l v)) })
  sees_lost l saw = let w : View = counted i (s.name n) (row.told_lost n l v) in let mine = r.each id v at in
      let cause = ((r.words.names n inside).line l saw).0 in
      calm f k s id v w (reply (answer.lost n l)) refl r at refl (λ m. part_same m v w refl refl)
      (λ add up. (let b = up (answer.lost n l) in omega arith, λ z. omega arith))
      (λ up. record {
        active = active;
        strays = mine.strays;
        last = mine.last;
        right = record { bit = mine.right.bit; current = mine.right.current; has = mine.right.has };
        build = record {
          unborn = mine.build.unborn;
          lost = λ h m y. times_cons m n v.build.lost ((4 ≤ s.name m) ⊎ ((s.name m ≡ 3) ⊎ (v.inside.retaking ≡ m + 1)))
              (λ e. inl (let q = ap s.name e in omega arith)) (mine.build.lost h m) y;
          settled = λ m y. times_cons m n v.build.settled (s.name m ≢ 0) (λ e z. let q = ap s.name e in
              omega arith) (mine.build.settled m) y;
        };
        pins = mine.pins;
        inside = idle_inside f s.name w.inside w.hold w.work w.last w.build w.own idle mine.inside.getting;
      })

  -- a step that tells nothing: a take or a lose that met a Taken name
  pub sees_nothing : Ruled f k (record s { views = set s.views id (counted i (s.name n) v) })
  sees_nothing = let w : View = counted i (s.name n) v in let mine = r.each id v at in
      calm f k s id v w silence refl r at refl (λ m. part_same m v w refl refl) (λ add up. tt)
      (λ up. record {
        active = active;
        strays = mine.strays;
        last = mine.last;
        right = mine.right;
        build = mine.build;
        pins = mine.pins;
        inside = idle_inside f s.name w.inside w.hold w.work w.last w.build w.own idle mine.inside.getting;
      })

  -- a lose that met neither Here nor Taken
  pub not_lost : s.name n ≢ 1 → s.name n ≢ 2 → Ruled f k
      (record s { views = set s.views id (counted i (s.name n) (row.not_lost n v)) })
  not_lost here taken = let w : View = counted i (s.name n) (row.not_lost n v) in let mine = r.each id v at in
      let name = r.words.names n inside in
      let parts = sinks_parts n s.views in let t = name.taken in let b = name.born in let d = name.dropped in
      let c₁ = bit_not (s.name n) 1 here in let state = word.one_state (s.name n) taken in
      let cause : 0 < tally k s.views (answer.not_lost n) = dite (ℕ_discrete (s.name n) 3)
      (λ e. let z = bits_low (s.name n) 3 e in
      let z₃ = z.2 in omega arith) (λ ne. let l = name.lost ne in let z = bit_not (s.name n) 3 ne in omega arith) in
      calm f k s id v w (reply (answer.not_lost n)) refl r at refl (λ m. part_same m v w refl refl)
      (λ add up. (let b = up (answer.not_lost n) in omega arith, tt))
      (λ up. record {
        active = active;
        strays = mine.strays;
        last = mine.last;
        right = mine.right;
        build = mine.build;
        pins = mine.pins;
        inside = idle_inside f s.name w.inside w.hold w.work w.last w.build w.own idle mine.inside.getting;
      })
