-- What an actor has seen and made only grows; what it notes of its last step is what that step met; its answers are
-- entered, and no other's; and what it has seen is handed on.
use Rattle.std.proofs.Common.{◌≡◌, ℕ, ◌+◌, ◌/◌, not, eqb, List, [], ◌∷◌, ◌++◌, length, set, sym, refl, ap, ◌∙◌, subst}
use Rattle.std.proofs.Common.{⊎_elim, inl, inr, arith, eq-eqb, ne_eqb, length-set}
use mathlib.Core.Logic.{dite}
use mathlib.Core.Option.{some, some-injective}
use native.Mathlib.Decide.{ℕ_discrete}
use lib.ListN.{get_elem?}
use Rattle.mf_machine.specs.declared.view.Met.{Met}
use Rattle.mf_machine.specs.declared.view.View.{View}
use Rattle.mf_machine.specs.Actors.{Active}
use Rattle.mf_machine.specs.Answers.{Answer, makes, number, closed, put, restored, made_lost, dropped, said}
use Rattle.mf_machine.specs.File.{File}
use Rattle.mf_machine.specs.Kept.{Number}
use Rattle.mf_machine.specs.Laws.{Has, OnlyGrows, Notes, NotesTrue, AnswersEntered, Enters, taken_in, SeenHandedOn}
use Rattle.mf_machine.specs.Laws.{StartsFrom}
use Rattle.mf_machine.specs.Moves.{Deed, by, MayDo, done}
use Rattle.mf_machine.specs.Moves as move
use Rattle.mf_machine.specs.Steps as row
use Rattle.mf_machine.specs.Worlds.{World, read, actor, spent_view, first_view}
use Rattle.mf_machine.proofs.Deeds.{longer, own, mine, here, tells, rises, notes, tale, tale_is, own_at, other_at}
use Rattle.mf_machine.proofs.Ends.{law}
use Rattle.mf_machine.proofs.Entering.{Known, known, answer_of, gone_left, Goes, goes_same, goes_on, enters_by}
use Rattle.mf_machine.proofs.Lists.{times-append, lines-append, read_at, those_has}
use Rattle.mf_machine.proofs.Words.{set_in}

-- the other actor's Seen and Made, once it is taken in, and the staying one's
pub both_made : (a : Answer) (v u : View) → makes a (row.joined v u).made ≡ makes a v.made + makes a u.made
both_made (number n) v u = times-append n v.made.numbers u.made.numbers
both_made (closed g) v u = times-append g v.made.closings u.made.closings
both_made (put n) v u = times-append n v.made.changes.put u.made.changes.put
both_made (restored n) v u = times-append n v.made.changes.restored u.made.changes.restored
both_made (made_lost n l) v u = lines-append n l v.made.changes.lost u.made.changes.lost
both_made (dropped n) v u = times-append n v.made.changes.dropped u.made.changes.dropped
both_made a v u = refl

pub theirs_in : (v u : View) → Has u (row.joined v u)
theirs_in v u = record {
  number = omega arith;
  shut = λ g. let e = times-append g v.seen.shut u.seen.shut in omega arith;
  born = λ n. let e = times-append n v.seen.born u.seen.born in omega arith;
  dropped = λ n. let e = times-append n v.seen.dropped u.seen.dropped in omega arith;
  made = λ a. let e = both_made a v u in omega arith;
}

pub mine_in : (v u : View) → Has v (row.joined v u)
mine_in v u = record {
  number = omega arith;
  shut = λ g. let e = times-append g v.seen.shut u.seen.shut in omega arith;
  born = λ n. let e = times-append n v.seen.born u.seen.born in omega arith;
  dropped = λ n. let e = times-append n v.seen.dropped u.seen.dropped in omega arith;
  made = λ a. let e = both_made a v u in omega arith;
}

-- what a move's own actor has seen and made
pub grows_own : (f : File) (w : World) (id : ℕ) (d : Deed) → MayDo f w id d → Number f (read f w) → Has (actor w id)
    (own f w id d)
grows_own f w id (move.join other) may n = mine_in (actor w id) (actor w other)
grows_own f w id d may n = let q : Known = known (actor w id) in
    subst (λ z. Goes q z) (sym (tells f w id d)) (goes_on (tale f w id d) q (rises f w id d may n))

pub only_grows : OnlyGrows
only_grows f k w m r may j v at = let id : ℕ = m.who in let d : Deed = m.does in dite (ℕ_discrete j id)
    (λ e. let same : actor w id ≡ v = some-injective (actor w id) v (sym (mine f w id d may) ∙
    (ap (get_elem? w.views) (sym e) ∙ at)) in
    inl (
      own f w id d,
      subst (λ (i : ℕ). get_elem? (done f w id d).views i ≡ some (own f w id d)) (sym e) (own_at f w id d may),
      subst (λ (z : View). Has z (own f w id d)) same (grows_own f w id d may (law f k w r).0.number),
    ))
    (λ ne. ⊎_elim (λ a. inl (v, a, goes_same (known v)))
    (λ t. let same : actor w j ≡ v = some-injective (actor w j) v (sym (here w j t.1) ∙ at) in
    inr (
      id,
      ap (by id) t.0,
      (
        own f w id d,
        own_at f w id d may,
        subst (λ (z : View). Has z (own f w id d)) same
            (taken f w id d j t.0),
      ),
    ))
    (other_at f w id d may j v ne at))
  where
    taken : (f : File) (w : World) (id : ℕ) (d : Deed) (j : ℕ) → d ≡ move.join j → Has (actor w j) (own f w id d)
    taken f w id d j e = subst (λ z. Has (actor w j) (own f w id z)) (sym e) (theirs_in (actor w id) (actor w j))

pub notes_true : NotesTrue
notes_true = record {
  own = λ f w m may v u at there. let id : ℕ = m.who in let d : Deed = m.does in
      subst (λ (y : View). Notes f w d y.step u.step) (some-injective (actor w id) v (sym (mine f w id d may) ∙ at))
      (subst (λ (y : View). Notes f w d (actor w id).step y.step) (some-injective (own f w id d) u
      (sym (own_at f w id d may) ∙ there)) (notes f w id d));
  others = λ f w m may j ne v u at there some_share. ⊎_elim (λ a. ap (λ (y : View). y.step)
      (some-injective u v (sym there ∙ a)))
      (λ t. let e = ap (λ (y : View). y.share) (some-injective spent_view u (sym t.2 ∙ there)) in absurd (omega arith))
      (other_at f w m.who m.does may j v ne at);
}

-- the Mets of a move's own actor
enters_own : (f : File) (w : World) (id : ℕ) (d : Deed)
    → Enters (said f w id d) (actor w id).own (own f w id d).own × ((own f w id d).gone ≡ (actor w id).gone ++ taken_in
    w d)
enters_own f w id (move.join other) = (enters_by Rattle.mf_machine.proofs.Entering.silence (known (actor w id)), refl)
enters_own f w id d = let q : Known = known (actor w id) in let e = tells f w id d in (
  subst (λ z. Enters z q.own (own f w id d).own) (tale_is f w id d)
      (subst (λ (z : Known). Enters (answer_of (tale f w id d)) q.own z.own) (sym e) (enters_by (tale f w id d) q)),
  ap (λ (z : Known). z.gone) e ∙ (gone_left (tale f w id d) q ∙ sym (append_nothing q.gone)),
)
  where
    append_nothing : (l : List Met) → l ++ [] ≡ l
    append_nothing [] = refl
    append_nothing (x ∷ xs) = ap (λ l. x ∷ l) (append_nothing xs)

pub answers_entered : AnswersEntered
answers_entered = record {
  own = λ f w m may v u at there. let id : ℕ = m.who in let d : Deed = m.does in
      let P : View → View → Type 0 = λ y z. Enters (said f w id d) y.own z.own × (z.gone ≡ y.gone ++ taken_in w d) in
      subst (λ y. P y u) (some-injective (actor w id) v (sym (mine f w id d may) ∙ at))
      (subst (P (actor w id)) (some-injective (own f w id d) u (sym (own_at f w id d may) ∙ there))
      (enters_own f w id d));
  others = λ f w m may j ne v u at there some_share. ⊎_elim (λ a. let e = some-injective u v (sym there ∙ a) in
      (ap (λ (y : View). y.own) e, ap (λ (y : View). y.gone) e))
      (λ t. let e = ap (λ (y : View). y.share) (some-injective spent_view u (sym t.2 ∙ there)) in absurd (omega arith))
      (other_at f w m.who m.does may j v ne at);
}

-- the last one of a list
behind : (l : List View) (u : View) → get_elem? (l ++ u ∷ []) (length l) ≡ some u
behind [] u = refl
behind (x ∷ xs) u = behind xs u

splits_from : (f : File) (w : World) (id : ℕ) → Active (actor w id) → let w' : World = done f w id move.split in
    let v : View = actor w id in
    ((u : View) × (get_elem? w'.views (length w.views) ≡ some u) × StartsFrom v u)
    × ((u : View) × (get_elem? w'.views id ≡ some u) × (u.share + v.share / 2 ≡ v.share) × (u.seen ≡ v.seen) ×
    (u.made ≡ v.made) × (u.own ≡ v.own) × (u.gone ≡ v.gone))
splits_from f w id active = let v : View = actor w id in let a : View = row.old_half v in
    let b : View = row.new_half v in let l : List View = set w.views id a in (
      (
        b,
        subst (λ n. get_elem? (l ++ b ∷ []) n ≡ some b) (length-set w.views id a) (behind l b),
        record {
          share = refl;
          seen = refl;
          made = refl;
          met = (refl, refl);
          pins = (refl, refl);
          right = refl;
          inside =
              refl;
        },
      ),
      (a, longer l (b ∷ []) id a (set_in w.views id v a (here w id active)), omega arith, refl, refl, refl, refl),
    )

pub handed_on : SeenHandedOn
handed_on = record {
  split = λ f w id v may at. subst
      (λ (y : View). ((u : View) × (get_elem? (done f w id move.split).views (length w.views) ≡ some u) × StartsFrom y
      u)
      × ((u : View) × (get_elem? (done f w id move.split).views id ≡ some u) × (u.share + y.share / 2 ≡ y.share) ×
      (u.seen ≡ y.seen) × (u.made ≡ y.made) × (u.own ≡ y.own) × (u.gone ≡ y.gone)))
      (sym (sym (read_at w.views id v spent_view at))) (splits_from f w id (omega arith));
  first = λ f k w o. (
    first_view f k,
    ap (λ (l : List View). get_elem? l 0) o.views,
    record {
      number = refl;
      shut = λ g l e. those_has k.closed f.stages g l e;
      born = λ n l ne. those_has (λ m. not (eqb (k.name m) 0)) f.names n l (ap not (ne_eqb (k.name n) 0 ne));
      dropped = λ n l e. those_has (λ m. eqb (k.name m) 3) f.names n l (eq-eqb (k.name n) 3 e);
    },
  );
}
