-- The row of each deed, the view of a move's own actor after it, what it left of the note, and what it told.
use Rattle.std.proofs.Common.{◌≡◌, ◌≢◌, ◌⊎◌, ℕ, zero, suc, ◌+◌, ◌/◌, Bool, true, false, List, [], ◌∷◌, ◌++◌, length}
use Rattle.std.proofs.Common.{set, sym, refl, ap, ◌∙◌, subst, inl, inr, ⊎_elim, arith, Option, Some, None, length-set}
use mathlib.Core.Logic.{dite}
use mathlib.Core.Option.{some, some-ne-none}
use native.Mathlib.Decide.{ℕ_discrete}
use lib.ListN.{get_elem?}
use lib.Seq.{set-get_or}
use Rattle.mf_machine.specs.declared.answer.Closed.{Closed}
use Rattle.mf_machine.specs.declared.answer.Closed.TheVariants as closing
use Rattle.mf_machine.specs.declared.answer.LoseStep.{LoseStep}
use Rattle.mf_machine.specs.declared.answer.LoseStep.TheVariants as lose
use Rattle.mf_machine.specs.declared.answer.Slot.{Slot}
use Rattle.mf_machine.specs.declared.answer.Slot.TheVariants.{Hold, Work}
use Rattle.mf_machine.specs.declared.answer.State.{State as Told}
use Rattle.mf_machine.specs.declared.answer.State.TheVariants as told
use Rattle.mf_machine.specs.declared.view.Seen.{Seen}
use Rattle.mf_machine.specs.declared.view.Step.{Step}
use Rattle.mf_machine.specs.declared.view.View.{View}
use Rattle.mf_machine.specs.Actors.{Active, live}
use Rattle.mf_machine.specs.Answers.{Answer, said, pin_said, close_said, begin_said, see_said, take_said, lose_said}
use Rattle.mf_machine.specs.Answers.{drop_said, drop_again_said}
use Rattle.mf_machine.specs.File.{File, name_word}
use Rattle.mf_machine.specs.Counts.{beyond}
use Rattle.mf_machine.specs.Kept.{Number}
use Rattle.mf_machine.specs.Laws.{Meets, Notes}
use Rattle.mf_machine.specs.Moves.{Deed, MayDo, done}
use Rattle.mf_machine.specs.Moves as move
use Rattle.mf_machine.specs.Steps.{Take, Drop}
use Rattle.mf_machine.specs.Steps as row
use Rattle.mf_machine.specs.Worlds.{World, Row, Turn, stays, comes_out, goes_back, word_of, actor, Fits, read, noted}
use Rattle.mf_machine.specs.Worlds.{meets, acted, homes_after, fresh, nothing_seen, spent_view}
use Rattle.mf_machine.proofs.Lists.{at_read, at_set, at_snoc}
use Rattle.mf_machine.proofs.Lists.{stays as still}
use Rattle.mf_machine.proofs.Words.{set_in}
use Rattle.mf_machine.proofs.Entering.{Tale, silence, reply, news, known, tell, answer_of, Rises}

-- an exchange, a split and a join have no row
abbrev pub row_of : File → View → Deed → Row
row_of f v (move.pin slot g) = row.pin_row slot g
row_of f v (move.unpin slot g) = row.unpin_row slot g
row_of f v (move.close g) = row.close_row g
row_of f v move.begin = row.begin_row
row_of f v move.end = row.end_row
row_of f v (move.publish next) = row.publish_row next
row_of f v (move.see n) = row.see_row f n
row_of f v (move.take n) = row.take_row f n
row_of f v (move.give n) = row.give_row f n
row_of f v (move.birth n) = row.birth_row f n
row_of f v (move.born n) = row.born_row f n
row_of f v (move.lose n l) = row.lose_row f n l
row_of f v (move.lost n l) = row.lost_row f n l
row_of f v (move.retake n) = row.retake_row f n
row_of f v (move.restored n) = row.restored_row f n
row_of f v (move.drop n) = row.drop_row f n
row_of f v (move.drop_again n) = row.drop_again_row f v.inside.tried n
row_of f v (move.dropped n) = row.dropped_row f n
row_of f v d = row.look_row

-- a row leaves as many words and slots, and so does every deed
deep_after : (t : Turn) (w : World) (id : ℕ) → length (homes_after t w id) ≡ length w.homes
deep_after stays w id = refl
deep_after (comes_out n) w id = length-set w.homes n Rattle.mf_machine.specs.File.Home.away
deep_after (goes_back n) w id = length-set w.homes n (w.hands id)

pub fits_after : (f : File) (r : Row) (x : ℕ) (w : World) (id : ℕ) → Fits f w → Fits f (acted r x w id)
fits_after f r x w id fits = record
    { wide = length-set w.words r.word (r.becomes x) ∙ fits.wide; deep = deep_after (r.slot x) w id ∙ fits.deep }

pub fits_on : (f : File) (w : World) (id : ℕ) (d : Deed) → Fits f w → Fits f (done f w id d)
fits_on f w id (move.exchange h) g = record { wide = g.wide; deep = g.deep }
fits_on f w id move.split g = record { wide = g.wide; deep = g.deep }
fits_on f w id (move.join other) g = record { wide = g.wide; deep = g.deep }
fits_on f w id d g = let r : Row = row_of f (actor w id) d in fits_after f r (word_of w r.word) w id g

-- the view of the move's own actor after it
abbrev pub shown : Row → World → ℕ → View
shown r w id = noted r.note r.word (word_of w r.word) (r.view (word_of w r.word) (actor w id))

abbrev pub own : File → World → ℕ → Deed → View
own f w id (move.exchange h) = actor w id
own f w id move.split = row.old_half (actor w id)
own f w id (move.join other) = row.joined (actor w id) (actor w other)
own f w id d = shown (row_of f (actor w id) d) w id

pub active : (f : File) (w : World) (id : ℕ) (d : Deed) → MayDo f w id d → Active (actor w id)
active f w id (move.give n) may = may.0.0
active f w id (move.born n) may = may.0.0
active f w id (move.lost n l) may = may.0.0
active f w id (move.restored n) may = may.0.0
active f w id (move.dropped n) may = may.0.0
active f w id (move.exchange h) may = may.0.0
active f w id move.split may = omega arith
active f w id (move.join other) may = may.1.0
active f w id d may = may.0

-- what a move tells its actor
abbrev pub tale_of : Option Answer → Tale
tale_of None = silence
tale_of (Some a) = reply a

abbrev pub tale : File → World → ℕ → Deed → Tale
tale f w id (move.publish next) = news next
tale f w id d = tale_of (said f w id d)

answer_is : (o : Option Answer) → answer_of (tale_of o) ≡ o
answer_is None = refl
answer_is (Some a) = refl

pub tale_is : (f : File) (w : World) (id : ℕ) (d : Deed) → answer_of (tale f w id d) ≡ said f w id d
tale_is f w id (move.publish next) = refl
tale_is f w id d = answer_is (said f w id d)

-- a row leaves the note, and enters what it tells
abbrev Left : Tale → (v u : View) → Type 0
Left t v u = (u.step ≡ v.step) × (known u ≡ tell t (known v)) × Rises t (known v)

pin_left : (b : Bool) (slot : Slot) (g : ℕ) (v : View) → Left (reply (pin_said b g)) v (row.pin_view b slot g v)
pin_left true Hold g v = (refl, refl, tt)
pin_left true Work g v = (refl, refl, tt)
pin_left false slot g v = (refl, refl, tt)

unpin_left : (slot : Slot) (v : View) → Left silence v (row.unpinned slot v)
unpin_left Hold v = (refl, refl, tt)
unpin_left Work v = (refl, refl, tt)

close_left : (a : Closed) (g : ℕ) (v : View) → Left (reply (close_said a g (live g v))) v (row.close_view a g v)
close_left closing.Done g v = (refl, refl, tt)
close_left (closing.Pins n) g v = (refl, refl, tt)
close_left closing.Already g v = (refl, refl, tt)

begin_left : (b : Bool) (v : View) → Left (reply (begin_said b)) v (row.begin_view b v)
begin_left true v = (refl, refl, tt)
begin_left false v = (refl, refl, tt)

see_left : (a : Told) (n : ℕ) (v : View) → Left (tale_of (see_said a n)) v (row.see_view a n v)
see_left told.Unborn n v = (refl, refl, tt)
see_left a n v = (refl, refl, tt)

take_left : (a : Take) (n : ℕ) (v : View) → Left (tale_of (take_said a n)) v (row.take_view a n v)
take_left row.chunk n v = (refl, refl, tt)
take_left a n v = (refl, refl, tt)

lose_left : (a : LoseStep) (n l : ℕ) (v : View) → Left (tale_of (lose_said a n)) v (row.lose_view a n l v)
lose_left lose.Done n l v = (refl, refl, tt)
lose_left a n l v = (refl, refl, tt)

drop_left : (a : Drop) (n x : ℕ) (v : View) → Left (tale_of (drop_said a n)) v (row.drop_view a n x v)
drop_left row.drops n x v = (refl, refl, tt)
drop_left a n x v = (refl, refl, tt)

again_left : (b : Bool) (n : ℕ) (v : View) → Left (reply (drop_again_said b n)) v (row.drop_again_view b n v)
again_left true n v = (refl, refl, tt)
again_left false n v = (refl, refl, tt)

-- an active actor stands in the list
pub here : (w : World) (id : ℕ) → Active (actor w id) → get_elem? w.views id ≡ some (actor w id)
here w id active = at_read w.views id spent_view (λ e. let z = ap (λ (v : View). v.share) e in absurd (omega arith))

pub mine : (f : File) (w : World) (id : ℕ) (d : Deed) → MayDo f w id d → get_elem? w.views id ≡ some (actor w id)
mine f w id d may = here w id (active f w id d may)

-- what the actor of a move knows after it; of a join this isn't asked
abbrev pub Tells : File → World → ℕ → Deed → Type 0
Tells f w id (move.join other) = Unit {0}
Tells f w id d = known (own f w id d) ≡ tell (tale f w id d) (known (actor w id))

pub tells : (f : File) (w : World) (id : ℕ) (d : Deed) → Tells f w id d
tells f w id (move.join other) = tt
tells f w id (move.pin slot g) = (pin_left (row.pin_answer (word_of w (g + 2))) slot g (actor w id)).1
tells f w id (move.unpin slot g) = (unpin_left slot (actor w id)).1
tells f w id (move.close g) = (close_left (row.close_answer (word_of w (g + 2))) g (actor w id)).1
tells f w id move.begin = (begin_left (row.begin_answer (word_of w 1)) (actor w id)).1
tells f w id (move.see n) = (see_left (row.see_answer (word_of w (name_word f n))) n (actor w id)).1
tells f w id (move.take n) = (take_left (row.take_answer (word_of w (name_word f n))) n (actor w id)).1
tells f w id (move.lose n l) = (lose_left (row.lose_answer (word_of w (name_word f n))) n l (actor w id)).1
tells f w id (move.drop n) = (drop_left (row.drop_answer (word_of w (name_word f n))) n (word_of w (name_word f n))
    (actor w id)).1
tells f w id (move.drop_again n) = (again_left (row.drop_again_answer (actor w id).inside.tried
    (word_of w (name_word f n))) n (actor w id)).1
tells f w id d = refl

-- a number that is told isn't lower than one seen before
pub rises : (f : File) (w : World) (id : ℕ) (d : Deed) → MayDo f w id d → Number f (read f w) → Rises (tale f w id d)
    (known (actor w id))
rises f w id move.look may n = n.seen id (actor w id) (here w id may.0) (actor w id).seen.number (inl refl)
rises f w id (move.publish next) may n = let low = n.seen id (actor w id) (here w id may.0) (actor w id).seen.number
    (inl refl) in
    let now = n.holder id (actor w id) (here w id may.0) may.2 may.3 in let m = may.4.1 in
    ⊎_elim (λ t. let e = t.0 in omega arith) (λ t. let e = t.0 in let b = t.2 in omega arith) may.4.2
rises f w id (move.pin slot g) may n = (pin_left (row.pin_answer (word_of w (g + 2))) slot g (actor w id)).2
rises f w id (move.close g) may n = (close_left (row.close_answer (word_of w (g + 2))) g (actor w id)).2
rises f w id move.begin may n = (begin_left (row.begin_answer (word_of w 1)) (actor w id)).2
rises f w id (move.see k) may n = (see_left (row.see_answer (word_of w (name_word f k))) k (actor w id)).2
rises f w id (move.take k) may n = (take_left (row.take_answer (word_of w (name_word f k))) k (actor w id)).2
rises f w id (move.lose k l) may n = (lose_left (row.lose_answer (word_of w (name_word f k))) k l (actor w id)).2
rises f w id (move.drop k) may n = (drop_left (row.drop_answer (word_of w (name_word f k))) k
    (word_of w (name_word f k)) (actor w id)).2
rises f w id (move.drop_again k) may n = (again_left (row.drop_again_answer (actor w id).inside.tried
    (word_of w (name_word f k))) k (actor w id)).2
rises f w id d may n = tt

-- what is noted
met_it : (w : World) (i : ℕ) (v u : View) → u.step ≡ v.step → Meets w i v.step (noted meets i (word_of w i) u).step
met_it w i v u e = (ap (λ (s : Step). s.count + 1) e, refl, refl)

pub notes : (f : File) (w : World) (id : ℕ) (d : Deed) → Notes f w d (actor w id).step (own f w id d).step
notes f w id (move.pin slot g) = let v : View = actor w id in let b : Bool = row.pin_answer (word_of w (g + 2)) in
    met_it w (g + 2) v (row.pin_view b slot g v) (pin_left b slot g v).0
notes f w id (move.unpin slot g) = let v : View = actor w id in
    met_it w (g + 2) v (row.unpinned slot v) (unpin_left slot v).0
notes f w id (move.close g) = let v : View = actor w id in let b : Closed = row.close_answer (word_of w (g + 2)) in
    met_it w (g + 2) v (row.close_view b g v) (close_left b g v).0
notes f w id move.begin = let v : View = actor w id in let b : Bool = row.begin_answer (word_of w 1) in
    met_it w 1 v (row.begin_view b v) (begin_left b v).0
notes f w id (move.see n) = let v : View = actor w id in let i : ℕ = name_word f n in
    let b : Told = row.see_answer (word_of w i) in
    met_it w i v (row.see_view b n v) (see_left b n v).0
notes f w id (move.take n) = let v : View = actor w id in let i : ℕ = name_word f n in
    let b : Take = row.take_answer (word_of w i) in
    met_it w i v (row.take_view b n v) (take_left b n v).0
notes f w id (move.lose n l) = let v : View = actor w id in let i : ℕ = name_word f n in
    let b : LoseStep = row.lose_answer (word_of w i) in
    met_it w i v (row.lose_view b n l v) (lose_left b n l v).0
notes f w id (move.drop n) = let v : View = actor w id in let i : ℕ = name_word f n in
    let b : Drop = row.drop_answer (word_of w i) in
    met_it w i v (row.drop_view b n (word_of w i) v) (drop_left b n (word_of w i) v).0
notes f w id (move.drop_again n) = let v : View = actor w id in let i : ℕ = name_word f n in
    let b : Bool = row.drop_again_answer v.inside.tried (word_of w i) in
    met_it w i v (row.drop_again_view b n v) (again_left b n v).0
notes f w id move.look = (refl, refl, refl)
notes f w id move.end = (refl, refl, refl)
notes f w id (move.publish next) = (refl, refl, refl)
notes f w id (move.give n) = (refl, refl, refl)
notes f w id (move.birth n) = (refl, refl, refl)
notes f w id (move.retake n) = (refl, refl, refl)
notes f w id d = refl

-- what a move does to the list of actors: its own actor's view changes alone; or a new actor stands behind the others;
-- or another one is taken in
abbrev pub Changes : File → World → ℕ → Deed → List View
Changes f w id d = set w.views id (own f w id d)

abbrev pub Splits : File → World → ℕ → Deed → Type 0
Splits f w id d = (a : ℕ) × (b : List ℕ) × (c : Seen) × ((done f w id d).views ≡ Changes f w id d ++ fresh a b c ∷ [])

abbrev pub Joins : File → World → ℕ → Deed → Type 0
Joins f w id d = (o : ℕ) × (d ≡ move.join o) × (o ≢ id) × Active (actor w o) × ((done f w id d).views ≡ set
    (Changes f w id d) o spent_view)

pub shape : (f : File) (w : World) (id : ℕ) (d : Deed) → MayDo f w id d
    → ((done f w id d).views ≡ Changes f w id d) ⊎ (Splits f w id d ⊎ Joins f w id d)
shape f w id (move.exchange h) may = inl (sym (set-get_or w.views id spent_view))
shape f w id move.split may = let v : View = actor w id in
    inr (inl (v.share / 2, beyond (row.kept_share v) v.strays, v.seen, refl))
shape f w id (move.join other) may = inr (inr (other, refl, may.0, may.1.1, refl))
shape f w id d may = inl refl

-- what stands in a list stands in the longer one
pub longer : (l m : List View) (j : ℕ) (v : View) → get_elem? l j ≡ some v → get_elem? (l ++ m) j ≡ some v
longer [] m j v e = absurd (some-ne-none v (sym e))
longer (x ∷ xs) m zero v e = e
longer (x ∷ xs) m (suc j) v e = longer xs m j v e

module _ (f : File) (w : World) (id : ℕ) (d : Deed) (may : MayDo f w id d) where
  abbrev Own : View
  Own = own f w id d

  placed : get_elem? (Changes f w id d) id ≡ some Own
  placed = set_in w.views id (actor w id) Own (mine f w id d may)

  pub own_at : get_elem? (done f w id d).views id ≡ some Own
  own_at = ⊎_elim (λ e. subst (λ (l : List View). get_elem? l id ≡ some Own) (sym e) placed) (λ t. ⊎_elim
      (λ q. subst (λ (l : List View). get_elem? l id ≡ some Own) (sym q.3) (longer (Changes f w id d)
      (fresh q.0 q.1 q.2 ∷ []) id Own placed))
      (λ q. subst (λ (l : List View). get_elem? l id ≡ some Own) (sym q.4)
      (still (Changes f w id d) q.0 id spent_view Own (λ e. q.2 (sym e)) placed)) t) (shape f w id d may)

  -- another actor is taken in, or stays as it was
  abbrev pub TakenIn : ℕ → Type 0
  TakenIn j = (d ≡ move.join j) × Active (actor w j) × (get_elem? (done f w id d).views j ≡ some spent_view)

  pub other_at : (j : ℕ) (v : View) → j ≢ id → get_elem? w.views j ≡ some v
      → (get_elem? (done f w id d).views j ≡ some v) ⊎ TakenIn j
  other_at j v ne at = let there : get_elem? (Changes f w id d) j ≡ some v = still w.views id j Own v ne at in ⊎_elim
      (λ e. inl (subst (λ (l : List View). get_elem? l j ≡ some v) (sym e) there)) (λ t. ⊎_elim
      (λ q. inl (subst (λ (l : List View). get_elem? l j ≡ some v) (sym q.3) (longer (Changes f w id d)
      (fresh q.0 q.1 q.2 ∷ []) j v there)))
      (λ q. dite (ℕ_discrete j q.0)
      (λ e. inr (subst TakenIn (sym e) (
        q.1,
        q.3,
        subst (λ (l : List View). get_elem? l q.0 ≡ some spent_view) (sym q.4)
            (set_in (Changes f w id d) q.0 (actor w q.0) spent_view (still w.views id q.0 Own (actor w q.0) q.2
            (here w q.0 q.3))),
      )))
      (λ apart. inl (subst (λ (l : List View). get_elem? l j ≡ some v) (sym q.4)
      (still (Changes f w id d) q.0 j spent_view v apart there)))) t)
      (shape f w id d may)

  -- who stands in the list after a move: its own actor, one that stood there, or one that has met nothing
  abbrev pub Blank : View → Type 0
  Blank z = (a : ℕ) × (b : List ℕ) × (c : Seen) × (fresh a b c ≡ z)

  pub from_at : (j : ℕ) (z : View) → get_elem? (done f w id d).views j ≡ some z → (Own ≡ z) ⊎
      ((get_elem? w.views j ≡ some z) ⊎ Blank z)
  from_at j z at = ⊎_elim (λ e. old j (subst (λ (l : List View). get_elem? l j ≡ some z) e at)) (λ t. ⊎_elim
      (λ q. ⊎_elim (λ a. old j a) (λ a. inr (inr (q.0, q.1, q.2, a))) (at_snoc (Changes f w id d)
      (fresh q.0 q.1 q.2) z j
      (subst (λ (l : List View). get_elem? l j ≡ some z) q.3 at)))
      (λ q. ⊎_elim (λ (a : (j ≡ q.0) × (spent_view ≡ z)). inr (inr (0, [], nothing_seen, a.1)))
      (λ (a : (j ≢ q.0) × (get_elem? (Changes f w id d) j ≡ some z)). old j a.1)
      (at_set (Changes f w id d) q.0 j spent_view z
      (subst (λ (l : List View). get_elem? l j ≡ some z) q.4 at))) t) (shape f w id d may)
    where
      old : (j : ℕ) → get_elem? (Changes f w id d) j ≡ some z → (Own ≡ z) ⊎ ((get_elem? w.views j ≡ some z) ⊎ Blank z)
      old j at = ⊎_elim (λ (t : (j ≡ id) × (Own ≡ z)). inl t.1) (λ (t : (j ≢ id) × (get_elem? w.views j ≡ some z)). inr
          (inl t.1)) (at_set w.views id j Own z at)
