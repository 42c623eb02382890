-- look and publish, begin and end
use Rattle.std.proofs.Common.{◌≡◌, ◌≢◌, ◌⊎◌, ℕ, ◌+◌, ◌<◌, ◌≤◌, List, ◌∷◌, set, sym, refl, ap, ◌∙◌, subst, ⊎_elim, arith}
use mathlib.Core.Logic.{dite}
use mathlib.Core.Option.{some}
use native.Mathlib.Decide.{ℕ_discrete}
use lib.ListN.{get_elem?}
use Rattle.mf_machine.specs.declared.view.View.{View}
use Rattle.mf_machine.specs.Actors.{Active, Idle}
use Rattle.mf_machine.specs.Answers.{number}
use Rattle.mf_machine.specs.Counts.{times, total}
use Rattle.mf_machine.specs.File.{File, Opening, State, Holds}
use Rattle.mf_machine.specs.Ruled.{Words, Ruled}
use Rattle.mf_machine.specs.Steps.{looked, published, begun, refused, ended}
use Rattle.mf_machine.specs.Sums.{right_of, share_of, publishings, tally, begun_of}
use Rattle.mf_machine.specs.Worlds.{counted}
use Rattle.mf_machine.proofs.Entering.{reply, news, silence}
use Rattle.mf_machine.proofs.Lists.{times_here, times_else}
use Rattle.mf_machine.proofs.Totals.{total_set, total_same, total_two, total_other}
use Rattle.mf_machine.proofs.Frames.{onward_eq, builds_eq, ends_eq, idle_inside, build_on}
use Rattle.mf_machine.proofs.Steps.{Adds, adds_calm, ButNumber, After, grows, pins_same, names_calm, part_same, calm}
use Rattle.mf_machine.proofs.Steps.{stepped, ButRight, gated}
use Rattle.mf_machine.specs.Answers as answer

-- two actors can't both have the right
pub one_right : (f : File) (k : Opening) (s : State) (i j : ℕ) (v u : View) → Words f k s → get_elem? s.views i ≡ some v
    → get_elem? s.views j ≡ some u → j ≢ i → v.build.right ≡ 1 → u.build.right ≡ 1 → ⊥
one_right f k s i j v u ws a b ne p q = let t = total_two right_of s.views i j v u ne a b in let one = ws.one in
    let is = ws.right in omega arith

module _ (f : File) (k : Opening) (s : State) (id i : ℕ) (v : View) (r : Ruled f k s)
    (at : get_elem? s.views id ≡ some v) (active : Active v) (idle : Idle v) where
  pub looks : Ruled f k (record s { views = set s.views id (counted i s.number (looked s.number v)) })
  looks = let w : View = counted i s.number (looked s.number v) in let mine = r.each id v at in let ws = r.words in
      calm f k s id v w (reply (number s.number)) refl r at refl (λ n. part_same n v w refl refl)
      (λ add g. let a = ws.number.heard in let b = g (answer.number s.number) in
      (omega arith, (omega arith, omega arith)))
      (λ g. record {
        active = active;
        strays = mine.strays;
        last = λ m e. let is : m ≡ s.number = omega arith in (
          omega arith,
          subst (λ z. 0 < times z (s.number ∷ v.own.numbers)) (sym is)
              (let a = times_here s.number v.own.numbers in omega arith),
        );
        right = record { bit = mine.right.bit; current = λ _ _. refl; has = mine.right.has };
        build = record { unborn = mine.build.unborn; lost = mine.build.lost; settled = mine.build.settled };
        pins = λ g h. let t = mine.pins g h in (t.0, let a = t.1 in omega arith, t.2);
        inside = idle_inside f s.name w.inside w.hold w.work w.last w.build w.own idle (λ n e. mine.inside.getting n e);
      })

  -- publish: what the actor that has the right and has looked since its begin may publish
  pub publishes : (m x y : ℕ) (s' : State) → v.build.right ≡ 1 → v.build.looked ≡ 1 → v.last ≡ m + 1
      → ((x ≡ m + 1) × (x ≤ f.stages) × ((n : ℕ) → n < f.names → Holds f m n
      → 0 < times n v.build.settled)) ⊎ ((x ≡ f.stages + 1) × (1 ≤ m) × (m ≤ f.stages))
      → s'.number ≡ x → ButNumber s s'
      → Ruled f k (After f k s id v (counted i y (published x v)) s')
  publishes m x y s' has since last may ep but = let er = but.right in let epins = but.pins in let ename = but.names in
      let ehome = but.homes in let w : View = counted i y (published x v) in let vs' : List View = set s.views id w in
      let mine = r.each id v at in
      let ws = r.words in let is : m ≡ s.number = (let c = mine.right.current has since in omega arith) in
      let above : s.number < x = ⊎_elim (λ t. let a = t.0 in omega arith) (λ t. let a = t.0 in
      let b = t.2 in omega arith) may in
      let top : x ≤ f.stages + 1 = ⊎_elim (λ t. let a = t.1 in omega arith) (λ t. let a = t.0 in omega arith) may in
      let add : Adds v w = adds_calm (news x) v w refl refl in let g = grows f k s.views id v w at add in
      let unheard : total (publishings x) s.views ≡ 0 = dite (ℕ_discrete (total (publishings x) s.views) 0) (λ e. e)
      (λ ne. let t = ws.number.once x (omega arith) in let u = t.2 in absurd (omega arith)) in
      let heard : total (publishings x) vs' ≡ 1 = (let a = total_set (publishings x) s.views id v w at in
      let b = times_here x v.made.numbers in omega arith) in
      let else_where : (n : ℕ) → n ≢ x
      → total (publishings n) vs' ≡ total (publishings n) s.views = λ n ne. total_same (publishings n) s.views id v w at
      (times_else n x v.made.numbers ne) in
      stepped f k s id v w s' (news x) refl r at
      record {
        number = record {
          top = omega arith;
          floor = let a = ws.number.floor in omega arith;
          heard = subst (λ z. 0 < tally k vs' (answer.number z)) (sym ep) (let a = heard in omega arith);
          once = λ n h. dite (ℕ_discrete n x) (λ e. (
            ap (λ z. total (publishings z) vs') e ∙ heard,
            let a = ws.number.floor in omega arith,
            omega arith,
          ))
              (λ ne. let a = else_where n ne in let t = ws.number.once n (omega arith) in (
                a ∙ t.0,
                t.1,
                let u = t.2 in
                    omega arith,
              ));
        };
        right = er ∙ (ws.right ∙ sym (total_same right_of s.views id v w at refl));
        one = let o = ws.one in omega arith;
        shares = let c = total_same share_of s.views id v w at refl in let d = ws.shares in omega arith;
        pins = λ g l. pins_same f k s.views id v w at s.number s'.number g (s.pins g) (s'.pins g) (ws.pins g l)
            (omega arith) (epins g) refl refl refl;
        names = names_calm f k s id v w s' ws at refl refl ename ehome (λ g. omega arith);
        born = λ g l h n q hold. dite (ℕ_discrete (g + 1) x)
            (λ e. ⊎_elim (λ t z. let u = t.0 in let same : g ≡ m = omega arith in mine.build.settled n (t.2 n q (subst
            (λ y. Holds f y n) same hold)) (sym (ename n) ∙ z)) (λ t z. let u = t.0 in omega arith) may)
            (λ ne z. let a = else_where (g + 1) ne in ws.born g l (omega arith) n q hold (sym (ename n) ∙ z));
      }
      (omega arith) (λ j u ne e h. absurd (one_right f k s id j v u ws at e ne has h)) add
      (onward_eq s.name s'.name ename)
      (ends_eq f (tally k s.views) s.name s'.name ename) (let a = heard in (omega arith, omega arith))
      record {
        active = active;
        strays = mine.strays;
        last = λ n e. let same : n ≡ x = omega arith in (
          omega arith,
          subst (λ z. 0 < times z (x ∷ v.own.numbers)) (sym same) (let a = times_here x v.own.numbers in
              omega arith),
        );
        right = record { bit = mine.right.bit; current = λ _ _. omega arith; has = mine.right.has };
        build = (let b = build_on f k s.number s'.number s.name s'.name (tally k s.views) (tally k vs') v.build v.inside
            mine.build (onward_eq s.name s'.name ename)
            (λ _. builds_eq s.name s'.name ename) in record { unborn = b.unborn; lost = b.lost; settled = b.settled });
        pins = λ g h. let t = mine.pins g h in (t.0, let a = t.1 in omega arith, t.2);
        inside = idle_inside f s'.name w.inside w.hold w.work w.last w.build w.own idle
            (λ n e. mine.inside.getting n e);
      }

module _ (f : File) (k : Opening) (s : State) (id i : ℕ) (v : View) (r : Ruled f k s)
    (at : get_elem? s.views id ≡ some v) (active : Active v) (idle : Idle v) where
  module _ (s' : State) where
    -- a begin that met a free right
    pub begins : (y : ℕ) → v.build.right ≡ 0 → s.right ≡ 0 → s'.right ≡ 1 → ButRight s s'
        → Ruled f k (After f k s id v (counted i y (begun v)) s')
    begins y not free er but = let ep = but.number in let epins = but.pins in let w : View = counted i y (begun v) in
        let ws = r.words in
        gated f k s id v w s' (reply answer.begun) refl r at ep but.names but.homes refl refl refl refl
        (λ g. (
          let c = total_set right_of s.views id v w at in let d = ws.right in omega arith,
          omega arith,
          (λ g l. pins_same f k s.views id v w at s.number s'.number g (s.pins g) (s'.pins g) (ws.pins g l)
              (omega arith) (epins g) refl refl refl),
          (tt, tt),
        ))
        (λ old. record {
          active = active;
          strays = old.strays;
          last = old.last;
          right = record { bit = omega arith; current = λ _ z. absurd (omega arith); has = λ _. omega arith };
          build = record {
            unborn = λ _ n h. absurd (omega arith);
            lost = λ _ n h. absurd (omega arith);
            settled = λ n
                h. absurd (omega arith);
          };
          pins = old.pins;
          inside = idle_inside f s'.name w.inside w.hold w.work w.last w.build w.own idle old.inside.getting;
        })

    -- end
    pub ends_right : (y : ℕ) → v.build.right ≡ 1 → s'.right ≡ 0 → ButRight s s'
        → Ruled f k (After f k s id v (counted i y (ended v)) s')
    ends_right y has er but = let ep = but.number in let epins = but.pins in let w : View = counted i y (ended v) in
        let ws = r.words in
        gated f k s id v w s' silence refl r at ep but.names but.homes refl refl refl refl
        (λ g. (
          let c = total_set right_of s.views id v w at in let d = ws.right in let o = ws.one in omega arith,
          omega arith,
          (λ g l. pins_same f k s.views id v w at s.number s'.number g (s.pins g) (s'.pins g) (ws.pins g l)
              (omega arith) (epins g) refl refl refl),
          tt,
        ))
        (λ old. record {
          active = active;
          strays = old.strays;
          last = old.last;
          right = record { bit = omega arith; current = λ z _. absurd (omega arith); has = λ z. absurd (omega arith) };
          build = record {
            unborn = λ z. absurd (omega arith);
            lost = λ z. absurd (omega arith);
            settled =
                old.build.settled;
          };
          pins = old.pins;
          inside = idle_inside f s'.name w.inside w.hold w.work w.last w.build w.own idle old.inside.getting;
        })

  -- a begin that met a held right: the holder has a begin answered true
  pub refuses : v.build.right ≡ 0 → 0 < s.right → Ruled f k
      (record s { views = set s.views id (counted i s.right (refused v)) })
  refuses not held = let w : View = counted i s.right (refused v) in let mine = r.each id v at in let ws = r.words in
      let cause : v.own.begun < total begun_of s.views = (let is = ws.right in
      let o = total_other right_of s.views id v at (omega arith) in
      let theirs = r.each o.0 o.1 o.3 in let b = theirs.right.bit in let has = theirs.right.has (let c = o.4 in
      omega arith) in
      let two = total_two begun_of s.views id o.0 v o.1 o.2 at o.3 in omega arith) in
      calm f k s id v w (reply answer.refused) refl r at refl (λ n. part_same n v w refl refl)
      (λ add g. (let b = g answer.begun in omega arith, tt))
      (λ g. record {
        active = active;
        strays = mine.strays;
        last = mine.last;
        right = mine.right;
        build = mine.build;
        pins = mine.pins;
        inside = idle_inside f s.name w.inside w.hold w.work w.last w.build w.own idle mine.inside.getting;
      })
