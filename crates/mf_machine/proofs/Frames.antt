-- What stays true of an actor over a step that changes other facts: the number may rise, sums may grow, and a name may
-- change where this actor's knowledge allows it.
use Rattle.std.proofs.Common.{◌≡◌, ◌≢◌, ◌⊎◌, ℕ, ◌+◌, ◌<◌, ◌≤◌, ◌∷◌, sym, refl, ap, ◌∙◌, subst, ⊎_elim, inl, inr, arith}
use mathlib.Core.Option.{some}
use lib.ListN.{get_elem?}
use Rattle.mf_machine.specs.declared.view.Build.{Build}
use Rattle.mf_machine.specs.declared.view.Inside.{Inside}
use Rattle.mf_machine.specs.declared.view.Met.{Met}
use Rattle.mf_machine.specs.declared.view.Seen.{Seen}
use Rattle.mf_machine.specs.declared.view.View.{View}
use Rattle.mf_machine.specs.Actors.{busy, PinHolds, AllShown}
use Rattle.mf_machine.specs.Counts.{times}
use Rattle.mf_machine.specs.File.{File, Opening, Holds}
use Rattle.mf_machine.specs.Answers.{Answer, number, refused, missed, closed, already, pinned, begun, opened, here}
use Rattle.mf_machine.specs.Answers.{lost, put, restored, made_lost, dropped}
use Rattle.mf_machine.specs.Ruled.{Ground, SeenIs, RightIs, BuildIs, InsideIs, MetIs, Sits}
use Rattle.mf_machine.specs.Sums.{Tally}
use Rattle.mf_machine.proofs.Entering.{enter, show, often_from, Tale, silence, reply, news, Known, known, tell}
use Rattle.mf_machine.proofs.Lists.{times_cons}

-- no sum falls
abbrev pub Grows : (a a' : Tally) → Type 0
Grows a a' = (x : Answer) → a x ≤ a' x

-- no name becomes Unborn, and a dropped one stays so
pub record Onward (name name' : ℕ → ℕ) : Type 0 where
  pub born : (n : ℕ) → name' n ≡ 0 → name n ≡ 0
  pub dropped : (n : ℕ) → name n ≡ 3 → name' n ≡ 3

-- what the holder of the right knows of the names stays: an unborn one stays so, and a lost one is at most dropped
pub record Builds (name name' : ℕ → ℕ) : Type 0 where
  pub unborn : (n : ℕ) → name n ≡ 0 → name' n ≡ 0
  pub lost : (n : ℕ) → 4 ≤ name n → (4 ≤ name' n) ⊎ (name' n ≡ 3)

-- a lost name of closed generations alone is at most dropped
abbrev pub Ends : File → Tally → (name name' : ℕ → ℕ) → Type 0
Ends f a name name' = (n : ℕ) → ((g : ℕ) → g < f.stages → Holds f g n → 0 < a (closed g)) → 4 ≤ name n
    → (name' n ≡ name n) ⊎ (name' n ≡ 3)

pub onward_same : (name : ℕ → ℕ) → Onward name name
onward_same name = record { born = λ n e. e; dropped = λ n e. e }

pub builds_same : (name : ℕ → ℕ) → Builds name name
builds_same name = record { unborn = λ n e. e; lost = λ n h. inl h }

pub ends_same : (f : File) (a : Tally) (name : ℕ → ℕ) → Ends f a name name
ends_same f a name n shown l = inl refl

pub onward_eq : (name name' : ℕ → ℕ) → ((n : ℕ) → name' n ≡ name n) → Onward name name'
onward_eq name name' e = record { born = λ n h. sym (e n) ∙ h; dropped = λ n h. e n ∙ h }

pub builds_eq : (name name' : ℕ → ℕ) → ((n : ℕ) → name' n ≡ name n) → Builds name name'
builds_eq name name' e = record { unborn = λ n h. e n ∙ h; lost = λ n h. let q = e n in inl (omega arith) }

pub ends_eq : (f : File) (a : Tally) (name name' : ℕ → ℕ) → ((n : ℕ) → name' n ≡ name n) → Ends f a name name'
ends_eq f a name name' e n shown l = inl (e n)

-- an idle actor is inside nothing but a get
pub idle_inside : (f : File) (name : ℕ → ℕ) (i : Inside) (hold work last : ℕ) (b : Build) (m : Met) → busy i ≡ 0
    → ((n : ℕ) → i.getting ≡ n + 1 → (n < f.names) × PinHolds f hold work n) → InsideIs f name i hold work last b m
idle_inside f name i hold work last b m idle get = record {
  getting = get;
  bearing = λ n e. absurd (omega arith);
  retaking = λ n e. absurd (omega arith);
  losing = λ n e. absurd (omega arith);
  dropping = λ n e. absurd (omega arith);
  trying = λ n e. absurd (omega arith);
}

module _ (f : File) (k : Opening) (p p' : ℕ) (name name' : ℕ → ℕ) (a a' : Tally) where
  pub seen_on : (s : Seen) → SeenIs p name a s → p ≤ p' → Grows a a' → Onward name name' → SeenIs p' name' a' s
  seen_on s r up g on = record {
    low = let l = r.low in omega arith;
    heard = λ z. let h = r.heard z in let q = g (number s.number) in omega arith;
    shut = λ n h. let t = r.shut n h in let q = g (closed n) in omega arith;
    born = λ n h e. r.born n h (on.born n e);
    dropped = λ n h. on.dropped n (r.dropped n h);
  }

  pub right_on : (b : Build) (last x : ℕ) → RightIs p b last x → (b.right ≡ 1 → p' ≡ p) → RightIs p' b last x
  right_on b last x r same = record {
    bit = r.bit;
    current = λ h l. let e = same h in let c = r.current h l in omega arith;
    has = r.has;
  }

  pub build_on : (b : Build) (i : Inside) → BuildIs name b i → Onward name name' → (b.right ≡ 1 → Builds name name')
      → BuildIs name' b i
  build_on b i r on builds = record {
    unborn = λ has n h. ⊎_elim (λ e. inl ((builds has).unborn n e)) (λ e. inr e) (r.unborn has n h);
    lost = λ has n h. ⊎_elim (λ l. ⊎_elim (λ q. inl q) (λ q. inr (inl q)) ((builds has).lost n l))
        (λ t. inr (⊎_elim (λ e. inl (on.dropped n e)) (λ e. inr e) t)) (r.lost has n h);
    settled = λ n h e. r.settled n h (on.born n e);
  }

  pub shown_shut : (m : Met) (n : ℕ) → MetIs a m → AllShown f m n → (g : ℕ) → g < f.stages → Holds f g n
      → 0 < a (closed g)
  shown_shut m n r all g l h = let s = all g l h in ⊎_elim (λ z. r (closed g) z) (λ z. r (already g) z)
      (either_way (times g m.closed) (times g m.already) s)
    where
      either_way : (x y : ℕ) → 0 < x + y → (0 < x) ⊎ (0 < y)
      either_way ℕ.zero y h = inr (omega arith)
      either_way (ℕ.suc x) y h = inl (omega arith)

  pub inside_on : (i : Inside) (hold work last : ℕ) (b : Build) (m : Met) → InsideIs f name i hold work last b m
      → MetIs a m → Onward name name' → Ends f a name name' → InsideIs f name' i hold work last b m
  inside_on i hold work last b m r met on ends = record {
    getting = r.getting;
    bearing = r.bearing;
    retaking = r.retaking;
    losing = r.losing;
    dropping = r.dropping;
    trying = λ n e. let t = r.trying n e in (
      t.0,
      t.1,
      t.2,
      ⊎_elim (λ q. ⊎_elim (λ y. inl (y ∙ q)) (λ y. inr y) (ends n (shown_shut m n met t.1)
          (let u = t.2 in omega arith))) (λ q. inr (on.dropped n q)) t.3,
    );
  }

  -- a ground stays, where sums grow and the Met's own begins and pins grow with them
  pub ground_on : (m m' : Met) (x : Answer) → Grows a a' → m'.begun + a begun ≤ m.begun + a' begun
      → ((g : ℕ) → times g m'.opened + a (opened g) ≤ times g m.opened + a' (opened g)) → Ground a m x → Ground a' m' x
  ground_on m m' refused g b o h = omega arith
  ground_on m m' (pinned n c d) g b o h = λ l. let q = o n in let t = h l in omega arith
  ground_on m m' (missed n) g b o h = let q = g (closed n) in omega arith
  ground_on m m' (already n) g b o h = let q = g (closed n) in omega arith
  ground_on m m' begun g b o h = tt
  ground_on m m' (opened n) g b o h = tt
  ground_on m m' (put n) g b o h = tt
  ground_on m m' (restored n) g b o h = tt
  ground_on m m' (made_lost n l) g b o h = tt
  ground_on m m' (dropped n) g b o h = tt
  ground_on m m' x g b o h = let q = g x in omega arith

  pub met_on : (m : Met) → MetIs a m → Grows a a' → MetIs a' m
  met_on m r g x h = ground_on m m x g (let b = g begun in omega arith) (λ n. let b = g (opened n) in
      omega arith) (r x h)

  -- a Met with one more answer
  pub met_enters : (x : Answer) (m : Met) → MetIs a m → Grows a a' → (enter x m).begun + a begun ≤ m.begun + a' begun
      → ((g : ℕ) → times g (enter x m).opened + a (opened g) ≤ times g m.opened + a' (opened g)) → Ground a'
      (enter x m) x → MetIs a' (enter x m)
  met_enters x m r g b o new y h = often_from x y m (Ground a' (enter x m) y) (λ e. subst (Ground a' (enter x m)) e new)
      (λ q. ground_on m (enter x m) y g b o (r y q)) h

  -- what an answer shows is so
  abbrev pub Shown : Answer → Type 0
  Shown (number n) = (n ≤ p') × (0 < a' (number n))
  Shown (missed g) = 0 < a' (closed g)
  Shown (closed g) = 0 < a' (closed g)
  Shown (already g) = 0 < a' (closed g)
  Shown (here n) = name' n ≢ 0
  Shown (lost n l) = name' n ≢ 0
  Shown (put n) = name' n ≢ 0
  Shown (restored n) = name' n ≢ 0
  Shown (dropped n) = name' n ≡ 3
  Shown x = Unit {0}

  more_shut : (g : ℕ) (s : Seen) → SeenIs p' name' a' s → 0 < a' (closed g) → SeenIs p' name' a'
      (record s { shut = g ∷ s.shut })
  more_shut g s r h = record {
    low = r.low;
    heard = r.heard;
    born = r.born;
    dropped = r.dropped;
    shut = λ m l. times_cons m g s.shut (0 < a' (closed m)) (λ e. subst (λ z. 0 < a' (closed z)) (sym e) h)
        (r.shut m) l;
  }

  more_born : (n : ℕ) (s : Seen) → SeenIs p' name' a' s → name' n ≢ 0 → SeenIs p' name' a'
      (record s { born = n ∷ s.born })
  more_born n s r h = record {
    low = r.low;
    heard = r.heard;
    shut = r.shut;
    dropped = r.dropped;
    born = λ m l. times_cons m n s.born (name' m ≢ 0) (λ e z. h (sym (ap name' e) ∙ z)) (r.born m) l;
  }

  -- a Seen with what one more answer shows
  pub seen_shows : (x : Answer) (s : Seen) → SeenIs p' name' a' s → Shown x → SeenIs p' name' a' (show x s)
  seen_shows (number n) s r h = record
      { low = h.0; heard = λ _. h.1; shut = r.shut; born = r.born; dropped = r.dropped }
  seen_shows (missed g) s r h = more_shut g s r h
  seen_shows (closed g) s r h = more_shut g s r h
  seen_shows (already g) s r h = more_shut g s r h
  seen_shows (here n) s r h = more_born n s r h
  seen_shows (lost n l) s r h = more_born n s r h
  seen_shows (put n) s r h = more_born n s r h
  seen_shows (restored n) s r h = more_born n s r h
  seen_shows (dropped n) s r h = record {
    low = r.low;
    heard = r.heard;
    shut = r.shut;
    born = r.born;
    dropped = λ m l. times_cons m n s.dropped (name' m ≡ 3) (λ e. ap name' e ∙ h) (r.dropped m) l;
  }
  seen_shows x s r h = r

  -- what a tale tells has its ground, and is so
  abbrev pub Says : Tale → Met → Type 0
  Says silence m = Unit {0}
  Says (reply x) m = Ground a' (enter x m) x × Shown x
  Says (news n) m = Shown (number n)

  -- what is known of an actor of its Met and Seen, after a tale
  abbrev pub KnownIs : Known → Type 0
  KnownIs q = SeenIs p' name' a' q.seen × MetIs a' q.own × ((i : ℕ) (m : Met) → get_elem? q.gone i ≡ some m
      → MetIs a' m)

  pub told_is : (t : Tale) (v : View) → SeenIs p name a v.seen → MetIs a v.own
      → ((i : ℕ) (m : Met) → get_elem? v.gone i ≡ some m → MetIs a m)
      → p ≤ p' → Grows a a' → Onward name name' → (tell t (known v)).own.begun + a begun ≤ v.own.begun + a' begun
      → ((g : ℕ) → times g (tell t (known v)).own.opened + a (opened g) ≤ times g v.own.opened + a' (opened g))
      → Says t v.own → KnownIs (tell t (known v))
  told_is silence v seen own gone up g on b o says = (
    seen_on v.seen seen up g on,
    met_on v.own own g,
    λ i m e. met_on m
        (gone i m e) g,
  )
  told_is (reply x) v seen own gone up g on b o says = (
    seen_shows x v.seen (seen_on v.seen seen up g on) says.1,
    met_enters x v.own own g b o says.0,
    λ i m e. met_on m
        (gone i m e) g,
  )
  told_is (news n) v seen own gone up g on b o says = (
    seen_shows (number n) v.seen (seen_on v.seen seen up g on) says,
    met_enters (number n) v.own own g b o says.1,
    λ
        i m e. met_on m (gone i m e) g,
  )

  pub sits_on : (v : View) → Sits f k p name a v → p ≤ p' → (v.build.right ≡ 1 → p' ≡ p) → Grows a a'
      → Onward name name' → (v.build.right ≡ 1 → Builds name name') → Ends f a name name' → Sits f k p' name' a' v
  sits_on v r up same g on builds ends = record {
    spent = r.spent;
    strays = r.strays;
    seen = seen_on v.seen r.seen up g on;
    last = r.last;
    right = right_on v.build v.last v.own.begun r.right same;
    build = build_on v.build v.inside r.build on builds;
    pins = r.pins;
    inside = inside_on v.inside v.hold v.work v.last v.build v.own r.inside r.own on ends;
    own = met_on v.own r.own g;
    gone = λ i m e. met_on m (r.gone i m e) g;
  }
