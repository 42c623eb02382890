-- splitting and joining
use Rattle.std.proofs.Common.{◌≡◌, ◌≢◌, ℕ, zero, suc, ◌+◌, ◌/◌, ◌<◌, ◌≤◌, max, List, [], ◌∷◌, ◌++◌, set, sym, refl, ◌∙◌}
use Rattle.std.proofs.Common.{subst, ⊎_elim, arith}
use mathlib.Core.Logic.{dite}
use mathlib.Core.Option.{some, some-injective, some-ne-none}
use native.Mathlib.Decide.{ℕ_discrete, dec_le}
use lib.ListN.{get_elem?}
use Rattle.mf_machine.specs.declared.view.Met.{Met}
use Rattle.mf_machine.specs.declared.view.Seen.{Seen}
use Rattle.mf_machine.specs.declared.view.View.{View}
use Rattle.mf_machine.specs.Actors.{Active, Free, live}
use Rattle.mf_machine.specs.Answers as answer
use Rattle.mf_machine.specs.Answers.{Answer, often}
use Rattle.mf_machine.specs.Counts.{bit, times, total, beyond}
use Rattle.mf_machine.specs.File.{File, Opening, State}
use Rattle.mf_machine.specs.Ruled.{SeenIs, MetIs, Words, Sits, SitsIn, Ruled}
use Rattle.mf_machine.specs.Steps.{kept_share, old_half, new_half, joined}
use Rattle.mf_machine.specs.Sums.{adds, right_of, share_of, stray, pins, puts, loses}
use Rattle.mf_machine.specs.Sums.{restores, drops, in_get, in_birth, in_retake, in_lose, in_drop}
use Rattle.mf_machine.specs.Sums.{Tally, tally}
use Rattle.mf_machine.specs.Worlds.{fresh, spent_view, nothing_met, nothing_seen, outside, nothing_built}
use Rattle.mf_machine.proofs.Lists.{stays, at_set, at_snoc, at_append, bit_not, times-append, times_either}
use Rattle.mf_machine.proofs.Lists.{losses-append, lines-append, up_to_is, beyond_is}
use Rattle.mf_machine.proofs.Totals.{total_set, total_snoc, all_begun-append, all_opened-append}
use Rattle.mf_machine.proofs.Frames.{Grows, onward_same, builds_same, ends_same, idle_inside, sits_on}
use Rattle.mf_machine.proofs.Steps.{pins_eq}
use Rattle.mf_machine.proofs.Words.{outside_of}

-- no sum changes
pub record Equal (vs vs' : List View) : Type 0 where
  pub right : total right_of vs' ≡ total right_of vs
  pub share : total share_of vs' ≡ total share_of vs
  pub alive : (g : ℕ) → total (live g) vs' ≡ total (live g) vs
  pub pins : (g : ℕ) → total (pins g) vs' ≡ total (pins g) vs
  pub in_get : (g : ℕ) → total (in_get g) vs' ≡ total (in_get g) vs
  pub in_birth : (g : ℕ) → total (in_birth g) vs' ≡ total (in_birth g) vs
  pub in_retake : (g : ℕ) → total (in_retake g) vs' ≡ total (in_retake g) vs
  pub in_lose : (g : ℕ) → total (in_lose g) vs' ≡ total (in_lose g) vs
  pub in_drop : (g : ℕ) → total (in_drop g) vs' ≡ total (in_drop g) vs
  pub puts : (g : ℕ) → total (puts g) vs' ≡ total (puts g) vs
  pub loses : (g : ℕ) → total (loses g) vs' ≡ total (loses g) vs
  pub restores : (g : ℕ) → total (restores g) vs' ≡ total (restores g) vs
  pub drops : (g : ℕ) → total (drops g) vs' ≡ total (drops g) vs
  pub adds : (x : Answer) → total (adds x) vs' ≡ total (adds x) vs

pub words_equal : (f : File) (k : Opening) (s : State) (vs' : List View) → Equal s.views vs' → Words f k s → Words f k
    (record s { views = vs' })
words_equal f k s vs' q r = record {
  number = record {
    top = r.number.top;
    floor = r.number.floor;
    heard = let a = r.number.heard in let b = q.adds (answer.number s.number) in omega arith;
    once = λ m h. let b = q.adds (answer.number m) in let t = r.number.once m (omega arith) in (b ∙ t.0, t.1, t.2);
  };
  right = r.right ∙ sym q.right;
  one = r.one;
  shares = let a = r.shares in let b = q.share in omega arith;
  pins = λ g l. pins_eq s.number s.number g (s.pins g) (s.pins g) (tally k s.views (answer.closed g))
      (tally k vs' (answer.closed g)) (total (live g) s.views)
      (total (live g) vs') (total (pins g) s.views) (total (pins g) vs') (r.pins g l) (omega arith) refl
      (let b = q.adds (answer.closed g) in omega arith)
      (q.alive g) (q.pins g);
  names = λ n l. let old = r.names n l in let c₁ = q.in_get n in let c₂ = q.in_birth n in let c₃ = q.in_retake n in
      let c₄ = q.in_lose n in
      let c₅ = q.in_drop n in let c₆ = q.puts n in let c₇ = q.loses n in let c₈ = q.restores n in let c₉ = q.drops n in
      record {
        taken = let t = old.taken in omega arith;
        born = let t = old.born in omega arith;
        dropped = let t = old.dropped in omega arith;
        lost = λ ne. let t = old.lost ne in omega arith;
        line = λ l e. let t = old.line l e in let b = q.adds (answer.lost n l) in let u = t.0 in (omega arith, t.1);
        left = λ e g b h. let t = old.left e g b h in let c = q.adds (answer.closed g) in omega arith;
        here = old.here;
        out = old.out;
        bare = old.bare;
      };
  born = λ g l h n i e. let b = q.adds (answer.number (g + 1)) in r.born g l (omega arith) n i e;
}

pub grows_equal : (k : Opening) (vs vs' : List View) → Equal vs vs' → Grows (tally k vs) (tally k vs')
grows_equal k vs vs' q x = let t = q.adds x in omega arith

pub sits_equal : (f : File) (k : Opening) (s : State) (vs' : List View) → Equal s.views vs' → (u : View)
    → SitsIn f k s u → SitsIn f k (record s { views = vs' }) u
sits_equal f k s vs' q u r = sits_on f k s.number s.number s.name s.name (tally k s.views) (tally k vs') u r
    (omega arith) (λ _. refl)
    (grows_equal k s.views vs' q) (onward_same s.name) (λ _. builds_same s.name) (ends_same f (tally k s.views) s.name)

pub nothing_often : (a : Answer) → often a nothing_met ≡ 0
nothing_often answer.begun = refl
nothing_often a = refl

pub met_nothing : (a : Tally) → MetIs a nothing_met
met_nothing a x h = let z = nothing_often x in absurd (omega arith)

-- an empty slot has no number
pub zero_has : (n : ℕ) → bit 0 (n + 1) ≡ 0
zero_has n = bit_not 0 (n + 1) (λ e. omega arith)

-- the facts of a new actor
pub fresh_sits : (f : File) (k : Opening) (p : ℕ) (name : ℕ → ℕ) (a : Tally) (share : ℕ) (strays : List ℕ) (seen : Seen)
    → (share ≡ 0 → fresh share strays seen ≡ spent_view)
    → ((g : ℕ) → 0 < times g strays → (0 < times g seen.shut) × (times g strays ≤ share)) → SeenIs p name a seen
    → Sits f k p name a (fresh share strays seen)
fresh_sits f k p name a share strays seen spent few saw = record {
  spent = spent;
  strays = few;
  seen = saw;
  last = λ m e. absurd (omega arith);
  right = record { bit = omega arith; current = λ h. absurd (omega arith); has = λ h. absurd (omega arith) };
  build = record {
    unborn = λ h. absurd (omega arith);
    lost = λ h. absurd (omega arith);
    settled = λ n h. absurd
        (omega arith);
  };
  pins = λ g h. let z = zero_has g in absurd (omega arith);
  inside = idle_inside f name outside 0 0 0 nothing_built nothing_met refl (λ n e. absurd (omega arith));
  own = met_nothing a;
  gone = λ i m e. absurd (some-ne-none m (sym e));
}

greater : (a b : ℕ) (P : ℕ → Type 0) → P a → P b → P (max a b)
greater a b P p q = dite (dec_le a b) (λ l. subst P (let e : b ≡ max a b = omega arith in e) q)
    (λ l. subst P (let e : a ≡ max a b = omega arith in e) p)

nothing_seen_is : (f : File) (p : ℕ) (name : ℕ → ℕ) (a : Tally) → SeenIs p name a nothing_seen
nothing_seen_is f p name a = record {
  low = omega arith;
  heard = λ h. absurd (omega arith);
  shut = λ g h. absurd (omega arith);
  born = λ n h. absurd (omega arith);
  dropped = λ n h. absurd (omega arith);
}

theirs_too : (f : File) (k : Opening) (p : ℕ) (name : ℕ → ℕ) (a : Tally) (u : View) → Sits f k p name a u → (i : ℕ)
    (m : Met) → get_elem? (u.own ∷ u.gone) i ≡ some m → MetIs a m
theirs_too f k p name a u g zero m e = subst (MetIs a) (some-injective u.own m e) g.own
theirs_too f k p name a u g (suc i) m e = g.gone i m e

-- what two halves, and a joined actor, add to the tally
split_adds : (x : Answer) (v : View) → adds x (old_half v) + adds x (new_half v) ≡ adds x v
split_adds (answer.here n) v = let z = zero_has n in omega arith
split_adds (answer.not_dropped n) v = let z = zero_has n in omega arith
split_adds x v = omega arith

join_adds : (x : Answer) (v u : View) → Free u → adds x (joined v u) + adds x spent_view ≡ adds x v + adds x u
join_adds (answer.number n) v u free = let a = times-append n v.made.numbers u.made.numbers in omega arith
join_adds (answer.closed g) v u free = let a = times-append g v.made.closings u.made.closings in omega arith
join_adds (answer.lost n l) v u free = let a = lines-append n l v.made.changes.lost u.made.changes.lost in omega arith
join_adds (answer.here n) v u free = let a = times-append n v.made.changes.put u.made.changes.put in
    let b = times-append n v.made.changes.restored u.made.changes.restored in let z = zero_has n in
    let o = outside_of n u free in let c = o.1 in
    let d = o.2 in omega arith
join_adds (answer.not_lost n) v u free = let a = losses-append n v.made.changes.lost u.made.changes.lost in
    let b = times-append n v.made.changes.dropped u.made.changes.dropped in omega arith
join_adds (answer.not_dropped n) v u free = let a = losses-append n v.made.changes.lost u.made.changes.lost in
    let b = times-append n v.made.changes.dropped u.made.changes.dropped in let z = zero_has n in
    let o = outside_of n u free in let c = o.3 in
    let d = o.4 in omega arith
join_adds answer.begun v u free = let a = all_begun-append v.gone (u.own ∷ u.gone) in omega arith
join_adds (answer.opened g) v u free = let a = all_opened-append g v.gone (u.own ∷ u.gone) in omega arith
join_adds x v u free = omega arith

module _ (f : File) (k : Opening) (s : State) (id : ℕ) (v : View) (r : Ruled f k s) (at : get_elem? s.views id ≡ some v)
  where
    pub splits : 2 ≤ v.share → Ruled f k (record s { views = set s.views id (old_half v) ++ new_half v ∷ [] })
    splits room = let vs : List View = s.views in let a : View = old_half v in let b : View = new_half v in
        let vs' : List View = set vs id a ++ b ∷ [] in let mine = r.each id v at in
        let cut : (h : View → ℕ) → h a + h b ≡ h v → total h vs' ≡ total h vs = λ h e. let p = total_snoc h
        (set vs id a) b in
        let q = total_set h vs id v a at in omega arith in
        let q : Equal vs vs' = record {
          right = cut right_of (omega arith);
          share = cut share_of (omega arith);
          alive = λ g. cut (live g) (let z = zero_has g in omega arith);
          pins = λ g. cut (pins g) (let z = zero_has g in let y = beyond_is (kept_share v) g v.strays in omega arith);
          in_get = λ g. cut (in_get g) (let z = zero_has g in omega arith);
          in_birth = λ g. cut (in_birth g) (let z = zero_has g in omega arith);
          in_retake = λ g. cut (in_retake g) (let z = zero_has g in omega arith);
          in_lose = λ g. cut (in_lose g) (let z = zero_has g in omega arith);
          in_drop = λ g. cut (in_drop g) (let z = zero_has g in omega arith);
          puts = λ g. cut (puts g) (omega arith);
          loses = λ g. cut (loses g) (omega arith);
          restores = λ g. cut (restores g) (omega arith);
          drops = λ g. cut (drops g) (omega arith);
          adds = λ x. cut (adds x) (split_adds x v);
        } in
        let old = sits_equal f k s vs' q v mine in record {
          words = words_equal f k s vs' q r.words;
          each = λ j u e. ⊎_elim
              (λ (there : get_elem? (set vs id a) j ≡ some u). ⊎_elim
              (λ (t : (j ≡ id) × (a ≡ u)). subst (SitsIn f k (record s { views = vs' })) t.1
              record {
                spent = λ z. absurd (omega arith);
                strays = λ g h. let c = up_to_is (kept_share v) g v.strays in
                    let t = old.strays g (omega arith) in (t.0, omega arith);
                seen = old.seen;
                last = old.last;
                right = old.right;
                build = old.build;
                pins = old.pins;
                inside = old.inside;
                own = old.own;
                gone = old.gone;
              })
              (λ (t : (j ≢ id) × (get_elem? vs j ≡ some u)). sits_equal f k s vs' q u (r.each j u t.1))
              (at_set vs id j a u there))
              (λ (t : b ≡ u). subst (SitsIn f k (record s { views = vs' })) t
              (fresh_sits f k s.number s.name (tally k vs') (v.share / 2) (beyond (kept_share v) v.strays) v.seen
              (λ z. absurd (omega arith))
              (λ g h. let c = up_to_is (kept_share v) g v.strays in let d = beyond_is (kept_share v) g v.strays in
              let t = old.strays g (omega arith) in
              let l = t.1 in (t.0, omega arith)) old.seen))
              (at_snoc (set vs id a) b u j e);
        }

    pub joins : (other : ℕ) (u : View) → other ≢ id → get_elem? s.views other ≡ some u → Active v → Active u
        → u.build.right ≡ 0 → u.hold ≡ 0 → u.work ≡ 0 → Free u
        → Ruled f k (record s { views = set (set s.views id (joined v u)) other spent_view })
    joins other u apart was active some_share free no_hold no_work idle = let vs : List View = s.views in
        let w : View = joined v u in
        let o : View = spent_view in let vs₁ : List View = set vs id w in let vs' : List View = set vs₁ other o in
        let there : get_elem? vs₁ other ≡ some u = stays vs id other w u apart was in
        let mine = r.each id v at in let theirs = r.each other u was in
        let both : (h : View → ℕ) → h w + h o ≡ h v + h u → total h vs' ≡ total h vs = λ h e.
        let p = total_set h vs id v w at in let q = total_set h vs₁ other u o there in omega arith in
        let h₀ : (g : ℕ) → bit u.hold (g + 1) ≡ 0 = λ g. bit_not u.hold (g + 1) (λ e. omega arith) in
        let w₀ : (g : ℕ) → bit u.work (g + 1) ≡ 0 = λ g. bit_not u.work (g + 1) (λ e. omega arith) in
        let q : Equal vs vs' = record {
          right = both right_of (omega arith);
          share = both share_of (omega arith);
          alive = λ g. both (live g) (let z = zero_has g in let a = h₀ g in let b = w₀ g in omega arith);
          pins = λ g. both (pins g) (let z = zero_has g in let a = h₀ g in let b = w₀ g in
              let c = times-append g v.strays u.strays in omega arith);
          in_get = λ g. both (in_get g) (let z = zero_has g in let o = outside_of g u idle in
              let a = o.0 in omega arith);
          in_birth = λ g. both (in_birth g) (let z = zero_has g in let o = outside_of g u idle in
              let a = o.1 in omega arith);
          in_retake = λ g. both (in_retake g) (let z = zero_has g in let o = outside_of g u idle in
              let a = o.2 in omega arith);
          in_lose = λ g. both (in_lose g) (let z = zero_has g in let o = outside_of g u idle in
              let a = o.3 in omega arith);
          in_drop = λ g. both (in_drop g) (let z = zero_has g in let o = outside_of g u idle in
              let a = o.4 in omega arith);
          puts = λ g. both (puts g) (let a = times-append g v.made.changes.put u.made.changes.put in omega arith);
          loses = λ g. both (loses g) (let a = losses-append g v.made.changes.lost u.made.changes.lost in omega arith);
          restores = λ g. both (restores g) (let a = times-append g v.made.changes.restored u.made.changes.restored in
              omega arith);
          drops = λ g. both (drops g) (let a = times-append g v.made.changes.dropped u.made.changes.dropped in
              omega arith);
          adds = λ x. both (adds x) (join_adds x v u idle);
        } in
        let sits : (x : View) → SitsIn f k s x → SitsIn f k (record s { views = vs' }) x = sits_equal f k s vs' q in
        let old = sits v mine in let gone = sits u theirs in let a' : Tally = tally k vs' in record {
          words = words_equal f k s vs' q r.words;
          each = λ j x e. ⊎_elim
              (λ (t : (j ≡ other) × (o ≡ x)). subst (SitsIn f k (record s { views = vs' })) t.1
              (fresh_sits f k s.number s.name a' 0 [] nothing_seen
              (λ _. refl) (λ g h. absurd (omega arith)) (nothing_seen_is f s.number s.name a')))
              (λ (t : (j ≢ other) × (get_elem? vs₁ j ≡ some x)). ⊎_elim
              (λ (y : (j ≡ id) × (w ≡ x)). subst (SitsIn f k (record s { views = vs' })) y.1
              record {
                spent = λ z. absurd (omega arith);
                strays = λ g h. let p = times-append g v.strays u.strays in
                    let e = times-append g v.seen.shut u.seen.shut in dite (ℕ_discrete (stray g v) 0)
                    (λ z. let c = gone.strays g (omega arith) in let c₀ = c.0 in
                    let c₁ = c.1 in (omega arith, omega arith))
                    (λ z. let c = old.strays g (omega arith) in let c₀ = c.0 in
                    let c₁ = c.1 in dite (ℕ_discrete (stray g u) 0) (λ y. (omega arith, omega arith))
                    (λ y. let d = (gone.strays g (omega arith)).1 in (omega arith, omega arith)));
                seen = record {
                  low = let a = old.seen.low in
                      let b = gone.seen.low in omega arith;
                  heard = greater v.seen.number u.seen.number (λ z. 0 < z → 0 < a' (answer.number z)) old.seen.heard
                      gone.seen.heard;
                  shut = λ g. times_either g v.seen.shut u.seen.shut (0 < a' (answer.closed g)) (old.seen.shut g)
                      (gone.seen.shut g);
                  born = λ n. times_either n v.seen.born u.seen.born (s.name n ≢ 0) (old.seen.born n)
                      (gone.seen.born n);
                  dropped = λ n. times_either n v.seen.dropped u.seen.dropped (s.name n ≡ 3) (old.seen.dropped n)
                      (gone.seen.dropped n);
                };
                last = λ m e. let t = old.last m e in (let a = t.0 in omega arith, t.1);
                right = old.right;
                build = old.build;
                pins = old.pins;
                inside = old.inside;
                own = old.own;
                gone = λ i m e. ⊎_elim (λ t. old.gone t.0 m t.1)
                    (λ t. theirs_too f k s.number s.name a' u gone t.0 m t.1) (at_append v.gone (u.own ∷ u.gone) i m e);
              })
              (λ (y : (j ≢ id) × (get_elem? vs j ≡ some x)). sits x (r.each j x y.1)) (at_set vs id j w x t.1))
              (at_set vs₁ other j o x e);
        }
