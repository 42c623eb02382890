-- A split, a join, the table as it is made and what it ends with.
use Rattle.std.proofs.Common.{◌≡◌, ℕ, List, [], ◌∷◌, ◌++◌, set, sym, ap, ◌∙◌, subst}
use mathlib.Core.Option.{some}
use lib.ListN.{get_elem?}
use Rattle.atomic_table.specs.Table.{Splits, Joins}
use Rattle.atomic_table.proofs.Lists.{set_else}
use Rattle.mf_machine.specs.declared.view.View.{View}
use Rattle.mf_machine.specs.File.{File, Opening}
use Rattle.mf_machine.specs.Moves.{after, by}
use Rattle.mf_machine.specs.Moves as move
use Rattle.mf_machine.specs.Ruled.{Ruled}
use Rattle.mf_machine.specs.Steps.{MaySplit, MayJoin}
use Rattle.mf_machine.specs.Steps as row
use Rattle.mf_machine.specs.Worlds.{World, Fits, read, actor, spent_view}
use Rattle.mf_machine.proofs.Laws.{one}
use Rattle.mf_machine.proofs.Lists.{read_at}
use Rattle.mf_gate.specs.declared.known.About.{About}
use Rattle.mf_gate.specs.declared.known.Known.{Known}
use Rattle.mf_gate.specs.Table.{facts_of, file_of, views_of, world_of, Rule, old_half, new_half, joined, spent}
use Rattle.mf_gate.proofs.Maps.{views_set, views_more, view_at}

module _ (k : About) where
  abbrev f : File
  f = file_of k

  abbrev o : Opening
  o = (facts_of k).opening

  pub splits : (id : ℕ) (v : Known) → MaySplit v.view → Splits (Rule k) id v (old_half v) (new_half v)
  splits id v may s kept at = let w : World = world_of s in let holds = kept.holding in
      let a : actor w id ≡ v.view = read_at w.views id v.view spent_view (view_at s.views id v at) in
      let t = one f o holds.rest w (by id move.split) (subst MaySplit (sym a) may) (holds.fits, holds.ruled) in
      let now : after f w (by id move.split)
      ≡ record w { views = views_of (set s.views id (old_half v) ++ new_half v ∷ []) } =
      (λ j. record w { views = set (views_of s.views) id (row.old_half (a j)) ++ row.new_half (a j) ∷ [] })
      ∙ ((λ j. record w { views = sym (views_set s.views id (old_half v)) j ++ row.new_half v.view ∷ [] })
      ∙ ap (λ (l : List View). record w { views = l })
      (sym (views_more (set s.views id (old_half v)) (new_half v)))) in
      record {
        holding = record {
          rest = holds.rest;
          fits = subst (Fits f) now t.0;
          ruled = subst (λ (z : World). Ruled f o (read f z)) now t.1;
        };
        lines = kept.lines;
      }

  pub joins : (id : ℕ) (v : Known) (other : ℕ) (u : Known) → MayJoin v.view u.view
      → Joins (Rule k) id v other u (joined v u) spent
  joins id v other u may s kept at ne there = let w : World = world_of s in let holds = kept.holding in
      let was : get_elem? s.views other ≡ some u = sym (set_else s.views id other (joined v u) ne) ∙ there in
      let a : actor w id ≡ v.view = read_at w.views id v.view spent_view (view_at s.views id v at) in
      let b : actor w other ≡ u.view = read_at w.views other u.view spent_view (view_at s.views other u was) in
      let t = one f o holds.rest w (by id (move.join other))
      (ne, subst (λ (z : View × View). MayJoin z.0 z.1) (λ j. (sym a j, sym b j)) may) (holds.fits, holds.ruled) in
      let now : after f w (by id (move.join other))
      ≡ record w { views = views_of (set (set s.views id (joined v u)) other spent) } =
      (λ j. record w { views = set (set (views_of s.views) id (row.joined (a j) (b j))) other spent_view })
      ∙ ((λ j. record w { views = set (sym (views_set s.views id (joined v u)) j) other spent_view })
      ∙ ap (λ (l : List View). record w { views = l })
      (sym (views_set (set s.views id (joined v u)) other spent))) in
      record {
        holding = record {
          rest = holds.rest;
          fits = subst (Fits f) now t.0;
          ruled = subst (λ (z : World). Ruled f o (read f z)) now t.1;
        };
        lines = kept.lines;
      }
