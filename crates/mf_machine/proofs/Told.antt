-- An actor's Seen has all that it was answered, and its Made is what its answers say.
use Rattle.std.proofs.Common.{◌≡◌, ℕ, zero, suc, ◌^◌, List, [], ◌∷◌, sym, refl, ap, subst, ⊎_elim, arith}
use mathlib.Core.Option.{some, some-injective, some-ne-none}
use lib.ListN.{get_elem?}
use Rattle.mf_machine.specs.declared.view.Met.{Met}
use Rattle.mf_machine.specs.declared.view.Seen.{Seen}
use Rattle.mf_machine.specs.declared.view.View.{View}
use Rattle.mf_machine.specs.Answers.{Answer, closed, number, often, makes}
use Rattle.mf_machine.specs.File.{File, Opening}
use Rattle.mf_machine.specs.Kept.{Number}
use Rattle.mf_machine.specs.Laws.{met_sum, SeenHas, MadeIs, MadeAlone, AnswersTell}
use Rattle.mf_machine.specs.Moves.{Move, Deed, MayDo, May, after, Runs, run}
use Rattle.mf_machine.specs.Moves as move
use Rattle.mf_machine.specs.Rest.{Rest}
use Rattle.mf_machine.specs.Ruled.{Ruled}
use Rattle.mf_machine.specs.Steps as row
use Rattle.mf_machine.specs.Worlds.{World, read, actor, Fits, fresh, first_view, first_seen, nothing_made}
use Rattle.mf_machine.proofs.Totals.{met_sum-append}
use Rattle.mf_machine.proofs.Deeds.{own, mine, here, from_at, tells, tale, rises}
use Rattle.mf_machine.proofs.Entering.{known, Tells, has_on, tells_on}
use Rattle.mf_machine.proofs.Goes.{mine_in, theirs_in, both_made}
use Rattle.mf_machine.proofs.Laws.{one}
use Rattle.mf_machine.proofs.Lists.{at_append, times-append}
use Rattle.mf_machine.proofs.Openings.{opens}
use Rattle.mf_machine.proofs.Seats.{nothing_often}
use Rattle.mf_machine.proofs.Rules as rules

-- an actor that has met nothing
nothing_makes : (a : Answer) → makes a nothing_made ≡ 0
nothing_makes (closed g) = refl
nothing_makes a = refl

tells_blank : (a : ℕ) (b : List ℕ) (c : Seen) → Tells (known (fresh a b c))
tells_blank a b c = record {
  own = λ x h. let z = nothing_often x in absurd (omega arith);
  gone = λ i m e. absurd (some-ne-none m (sym e));
  published = λ n. omega arith;
  changed = λ x is. let y = nothing_often x in let z = nothing_makes x in omega arith;
}

-- the Mets of an actor that is taken in
other_mets : (v u : View) → Tells (known u) → (i : ℕ) (m : Met) → get_elem? (u.own ∷ u.gone) i ≡ some m → SeenHas
    (row.joined v u).seen m
other_mets v u t zero m at = subst (SeenHas (row.joined v u).seen) (some-injective u.own m at)
    (has_on u.seen (row.joined v u).seen u.made (row.joined v u).made u.own (theirs_in v u) t.own)
other_mets v u t (suc i) m at = has_on u.seen (row.joined v u).seen u.made (row.joined v u).made m (theirs_in v u)
    (t.gone i m at)

tells_both : (v u : View) → Tells (known v) → Tells (known u) → Tells (known (row.joined v u))
tells_both v u t r = let j : View = row.joined v u in record {
  own = has_on v.seen j.seen v.made j.made v.own (mine_in v u) t.own;
  gone = λ i m at. ⊎_elim (λ q. has_on v.seen j.seen v.made j.made m (mine_in v u) (t.gone q.0 m q.1))
      (λ q. other_mets v u r q.0 m q.1) (at_append v.gone (u.own ∷ u.gone) i m at);
  published = λ n. let a = times-append n v.made.numbers u.made.numbers in
      let b = met_sum-append (often (number n)) v.gone (u.own ∷ u.gone) in
      let c = t.published n in let d = r.published n in omega arith;
  changed = λ x is. let a = both_made x v u in let b = met_sum-append (often x) v.gone (u.own ∷ u.gone) in
      let c = t.changed x is in let d = r.changed x is in omega arith;
}

abbrev AllTell : World → Type 0
AllTell w = (j : ℕ) (v : View) → get_elem? w.views j ≡ some v → Tells (known v)

-- a move's own actor
own_tells : (f : File) (w : World) (id : ℕ) (d : Deed) → MayDo f w id d → Number f (read f w) → AllTell w
    → Tells (known (own f w id d))
own_tells f w id (move.join other) may n all = tells_both (actor w id) (actor w other)
    (all id (actor w id) (here w id may.1.0)) (all other (actor w other) (here w other may.1.1))
own_tells f w id d may n all = subst Tells (sym (tells f w id d)) (tells_on (tale f w id d) (known (actor w id))
    (rises f w id d may n) (all id (actor w id) (mine f w id d may)))

-- every list of moves keeps it so
pub tells_after : (f : File) (w : World) (m : Move) → May f w m → Number f (read f w) → AllTell w → AllTell
    (after f w m)
tells_after f w m may n all j z at = ⊎_elim (λ e. subst (λ v. Tells (known v)) e (own_tells f w m.who m.does may n all))
    (λ t. ⊎_elim (λ a. all j z a)
    (λ q. subst (λ v. Tells (known v)) q.3 (tells_blank q.0 q.1 q.2)) t) (from_at f w m.who m.does may j z at)

tells_all : (f : File) (k : Opening) → Rest f k → (w : World) (ms : List Move) → Runs f w ms → Fits f w × Ruled f k
    (read f w) → AllTell w → AllTell (run f w ms)
tells_all f k rest w [] runs good all = all
tells_all f k rest w (m ∷ ms) runs good all = tells_all f k rest (after f w m) ms runs.1 (one f k rest w m runs.0 good)
    (tells_after f w m runs.0 (rules.number f k (read f w) rest good.1) all)

pub first_tells : (f : File) (k : Opening) (j : ℕ) (v : View) → get_elem? (first_view f k ∷ []) j ≡ some v
    → Tells (known v)
first_tells f k zero v e = subst (λ v. Tells (known v)) (some-injective (first_view f k) v e) (tells_blank (2 ^ 30) []
    (first_seen f k))
first_tells f k (suc j) v e = absurd (some-ne-none v (sym e))

-- where nobody was taken in
made_alone : (v : View) → MadeIs v → v.gone ≡ [] → MadeAlone v.made v.own
made_alone v t e a is = let b = ap (met_sum (often a)) e in let c = t.changed a is in omega arith

pub answers_tell : AnswersTell
answers_tell f k w r j v at = let all = tells_all f k r.2 r.0 r.1 r.4 (r.3.fits, opens f k r.0 r.2 r.3)
    (λ i u e. first_tells f k i u (subst (λ (l : List View). get_elem? l i ≡ some u) r.3.views e)) in
    let t : Tells (known v) = all j v (subst (λ (x : World). get_elem? x.views j ≡ some v) (sym r.5) at) in
    let made : MadeIs v = record { published = t.published; changed = t.changed } in (
      λ m is. ⊎_elim (λ e. subst (SeenHas v.seen) (sym e) t.own) (λ q. t.gone q.0 m q.1) is,
      made,
      made_alone v made,
    )
