-- A step of one actor: what it leaves of the words, and of all other actors.
use Rattle.std.proofs.Common.{◌≡◌, ◌≢◌, ℕ, ◌+◌, ◌*◌, ◌<◌, ◌≤◌, List, set, sym, refl, ap, ◌∙◌, subst, ⊎_elim, arith}
use mathlib.Core.Option.{some}
use lib.ListN.{get_elem?}
use Rattle.mf_machine.specs.declared.view.Changes.{Changes}
use Rattle.mf_machine.specs.declared.view.Inside.{Inside}
use Rattle.mf_machine.specs.declared.view.View.{View}
use Rattle.mf_machine.specs.Actors.{has, on, live}
use Rattle.mf_machine.specs.Counts.{bit, times, losses, lines, total, all_begun, all_opened}
use Rattle.mf_machine.specs.File.{File, Opening, State, Holds, Home, HasCell}
use Rattle.mf_machine.specs.Answers as answer
use Rattle.mf_machine.specs.Answers.{Answer}
use Rattle.mf_machine.specs.Ruled.{Sits, StraysKnow, LastIs, RightIs, BuildIs, PinsKnow, InsideIs, NumberIs, PinsAre}
use Rattle.mf_machine.specs.Ruled.{NameIs, Words, SitsIn, Ruled}
use Rattle.mf_machine.specs.Sums.{right_of, share_of, stray, pins, publishings, closings, puts, loses, loses_by}
use Rattle.mf_machine.specs.Sums.{restores, drops, in_get, in_birth, in_retake, in_lose, in_drop, begun_of, opened_of}
use Rattle.mf_machine.specs.Sums.{raises, hides, lost_bit, adds, Tally, tally}
use Rattle.mf_machine.specs.Worlds.{spent_view}
use Rattle.mf_machine.proofs.Lists.{at_set}
use Rattle.mf_machine.proofs.Entering.{Tale, reply, Known, known, tell, gone_left}
use Rattle.mf_machine.proofs.Totals.{total_set, total_same, total_grows}
use Rattle.mf_machine.proofs.Frames.{Grows, Onward, Builds, Ends, onward_same, builds_same, ends_same, onward_eq}
use Rattle.mf_machine.proofs.Frames.{builds_eq, ends_eq, Says, KnownIs, told_is, sits_on}

-- what the actor adds to the tally doesn't fall
abbrev pub Adds : (v w : View) → Type 0
Adds v w = (x : Answer) → adds x v ≤ adds x w

-- so it is after a tale, but for what the actor is inside of
abbrev adds_of : Known → View
adds_of q = record spent_view { own = q.own; made = q.made; gone = q.gone }

adds_told : (x : Answer) (t : Tale) (q : Known) → adds x (adds_of q) ≤ adds x (adds_of (tell t q))
adds_told (answer.number k) (reply (answer.closed g)) q = omega arith
adds_told (answer.closed k) (reply (answer.closed g)) q = omega arith
adds_told (answer.lost k l) (reply (answer.closed g)) q = omega arith
adds_told (answer.here k) (reply (answer.closed g)) q = omega arith
adds_told (answer.not_lost k) (reply (answer.closed g)) q = omega arith
adds_told (answer.not_dropped k) (reply (answer.closed g)) q = omega arith
adds_told answer.begun (reply (answer.closed g)) q = omega arith
adds_told (answer.opened k) (reply (answer.closed g)) q = omega arith
adds_told x t q = omega arith

pub adds_by : (t : Tale) (v w : View) → known w ≡ tell t (known v) → ((n : ℕ) → raises n v ≤ raises n w)
    → ((n : ℕ) → hides n v ≤ hides n w) → Adds v w
adds_by t v w e raised hidden (answer.here n) = raised n
adds_by t v w e raised hidden (answer.not_dropped n) = hidden n
adds_by t v w e raised hidden x = subst (λ q. adds x (adds_of (known v)) ≤ adds x (adds_of q)) (sym e)
    (adds_told x t (known v))

-- a step that changes nothing that the actor is inside of
pub adds_calm : (t : Tale) (v w : View) → known w ≡ tell t (known v) → w.inside ≡ v.inside → Adds v w
adds_calm t v w e i = let a : (x : Answer) → adds x (adds_of (known v)) ≤ adds x (adds_of (known w)) =
    λ x. subst (λ q. adds x (adds_of (known v)) ≤ adds x (adds_of q)) (sym e) (adds_told x t (known v)) in
    adds_by t v w e (λ n. let b = a (answer.here n) in
    let d = ap (λ (z : Inside). has n z.bearing + has n z.retaking) i in omega arith)
    (λ n. let b = a (answer.not_dropped n) in let d = ap (λ (z : Inside). has n z.losing + has n z.dropping) i in
    omega arith)

-- the sums of one name
pub record Counts : Type 0 where
  pub in_get : ℕ
  pub in_birth : ℕ
  pub in_retake : ℕ
  pub in_lose : ℕ
  pub in_drop : ℕ
  pub puts : ℕ
  pub loses : ℕ
  pub restores : ℕ
  pub drops : ℕ

abbrev pub counts : ℕ → List View → Counts
counts n vs = record {
  in_get = total (in_get n) vs;
  in_birth = total (in_birth n) vs;
  in_retake = total (in_retake n) vs;
  in_lose = total (in_lose n) vs;
  in_drop = total (in_drop n) vs;
  puts = total (puts n) vs;
  loses = total (loses n) vs;
  restores = total (restores n) vs;
  drops = total (drops n) vs;
}

-- those of one actor
abbrev pub parts : ℕ → View → Counts
parts n v = record {
  in_get = in_get n v;
  in_birth = in_birth n v;
  in_retake = in_retake n v;
  in_lose = in_lose n v;
  in_drop = in_drop n v;
  puts = puts n v;
  loses = loses n v;
  restores = restores n v;
  drops = drops n v;
}

-- they and the losses by each line don't change
pub record Part (n : ℕ) (v w : View) : Type 0 where
  pub counts : parts n w ≡ parts n v
  pub lost_by : (l : ℕ) → loses_by n l w ≡ loses_by n l v

pub part_same : (n : ℕ) (v w : View) → w.made.changes ≡ v.made.changes → w.inside ≡ v.inside → Part n v w
part_same n v w c i = record {
  counts = λ j. record {
    in_get = has n (i j).getting;
    in_birth = has n (i j).bearing;
    in_retake = has n (i j).retaking;
    in_lose = has n (i j).losing;
    in_drop = has n (i j).dropping;
    puts = times n (c j).put;
    loses = losses n (c j).lost;
    restores = times n (c j).restored;
    drops = times n (c j).dropped;
  };
  lost_by = λ l. ap (λ (z : Changes). lines n l z.lost) c;
}

-- what the sums of one name become
pub record Moved (c c' a b : Counts) : Type 0 where
  pub in_get : c'.in_get + a.in_get ≡ c.in_get + b.in_get
  pub in_birth : c'.in_birth + a.in_birth ≡ c.in_birth + b.in_birth
  pub in_retake : c'.in_retake + a.in_retake ≡ c.in_retake + b.in_retake
  pub in_lose : c'.in_lose + a.in_lose ≡ c.in_lose + b.in_lose
  pub in_drop : c'.in_drop + a.in_drop ≡ c.in_drop + b.in_drop
  pub puts : c'.puts + a.puts ≡ c.puts + b.puts
  pub loses : c'.loses + a.loses ≡ c.loses + b.loses
  pub restores : c'.restores + a.restores ≡ c.restores + b.restores
  pub drops : c'.drops + a.drops ≡ c.drops + b.drops

pub moved : (n : ℕ) (vs : List View) (id : ℕ) (v w : View) → get_elem? vs id ≡ some v → Moved (counts n vs)
    (counts n (set vs id w)) (parts n v) (parts n w)
moved n vs id v w at = record {
  in_get = total_set (in_get n) vs id v w at;
  in_birth = total_set (in_birth n) vs id v w at;
  in_retake = total_set (in_retake n) vs id v w at;
  in_lose = total_set (in_lose n) vs id v w at;
  in_drop = total_set (in_drop n) vs id v w at;
  puts = total_set (puts n) vs id v w at;
  loses = total_set (loses n) vs id v w at;
  restores = total_set (restores n) vs id v w at;
  drops = total_set (drops n) vs id v w at;
}

-- the words of the gate know an actor by these
pub record Gate : Type 0 where
  pub right : ℕ
  pub share : ℕ
  pub strays : List ℕ
  pub hold : ℕ
  pub work : ℕ
  pub numbers : List ℕ
  pub closings : List ℕ

abbrev pub gate : View → Gate
gate v = record {
  right = v.build.right;
  share = v.share;
  strays = v.strays;
  hold = v.hold;
  work = v.work;
  numbers =
      v.made.numbers;
  closings = v.made.closings;
}

-- a step on the pins of g leaves all else
pub record ButPins (s : State) (g : ℕ) (s' : State) : Type 0 where
  pub number : s'.number ≡ s.number
  pub right : s'.right ≡ s.right
  pub pins : (h : ℕ) → h ≢ g → s'.pins h ≡ s.pins h
  pub names : (n : ℕ) → s'.name n ≡ s.name n
  pub homes : (n : ℕ) → s'.home n ≡ s.home n

-- a step on the right leaves all else
pub record ButRight (s s' : State) : Type 0 where
  pub number : s'.number ≡ s.number
  pub pins : (g : ℕ) → s'.pins g ≡ s.pins g
  pub names : (n : ℕ) → s'.name n ≡ s.name n
  pub homes : (n : ℕ) → s'.home n ≡ s.home n

-- a step on the number leaves all else
pub record ButNumber (s s' : State) : Type 0 where
  pub right : s'.right ≡ s.right
  pub pins : (g : ℕ) → s'.pins g ≡ s.pins g
  pub names : (n : ℕ) → s'.name n ≡ s.name n
  pub homes : (n : ℕ) → s'.home n ≡ s.home n

-- a step on the name n leaves all else
pub record ButName (f : File) (s : State) (n : ℕ) (s' : State) : Type 0 where
  pub number : s'.number ≡ s.number
  pub right : s'.right ≡ s.right
  pub pins : (g : ℕ) → g < f.stages → s'.pins g ≡ s.pins g
  pub names : (m : ℕ) → m ≢ n → s'.name m ≡ s.name m
  pub homes : (m : ℕ) → m ≢ n → s'.home m ≡ s.home m

pub pins_eq : (p p' g x x' sh sh' al al' all all' : ℕ) → PinsAre p g x sh al all → p ≤ p' → x' ≡ x → sh' ≡ sh → al' ≡ al
    → all' ≡ all → PinsAre p' g x' sh' al' all'
pins_eq p p' g x x' sh sh' al al' all all' r up ex es ea el = record {
  word = ex ∙ (r.word ∙ λ i. 9223372036854775808 * sym es i + sym el i);
  once = let o = r.once in omega arith;
  low = λ h. let t = r.low (omega arith) in let u = t.0 in (omega arith, ea ∙ t.1);
}

module _ (f : File) (k : Opening) (vs : List View) (id : ℕ) (v w : View) (at : get_elem? vs id ≡ some v) where
  pub grows : Adds v w → Grows (tally k vs) (tally k (set vs id w))
  grows a x = let t = total_grows (adds x) vs id v w at (a x) in omega arith

  -- a name that the step doesn't touch
  pub name_else : (n x x' : ℕ) (h h' : Home) → NameIs f k n x h vs → Part n v w → x' ≡ x → h' ≡ h
      → ((g : ℕ) → closings g v ≤ closings g w) → NameIs f k n x' h' (set vs id w)
  name_else n x x' h h' r p ex eh up = let m = moved n vs id v w at in let e = p.counts in
      let c : Counts = counts n vs in let c' : Counts = counts n (set vs id w) in
      let c₁ : c'.in_get ≡ c.in_get = (let a = m.in_get in let b = ap (λ (z : Counts). z.in_get) e in omega arith) in
      let c₂ : c'.in_birth ≡ c.in_birth = (let a = m.in_birth in let b = ap (λ (z : Counts). z.in_birth) e in
      omega arith) in
      let c₃ : c'.in_retake ≡ c.in_retake = (let a = m.in_retake in let b = ap (λ (z : Counts). z.in_retake) e in
      omega arith) in
      let c₄ : c'.in_lose ≡ c.in_lose = (let a = m.in_lose in let b = ap (λ (z : Counts). z.in_lose) e in
      omega arith) in
      let c₅ : c'.in_drop ≡ c.in_drop = (let a = m.in_drop in let b = ap (λ (z : Counts). z.in_drop) e in
      omega arith) in
      let c₆ : c'.puts ≡ c.puts = (let a = m.puts in let b = ap (λ (z : Counts). z.puts) e in omega arith) in
      let c₇ : c'.loses ≡ c.loses = (let a = m.loses in let b = ap (λ (z : Counts). z.loses) e in omega arith) in
      let c₈ : c'.restores ≡ c.restores = (let a = m.restores in let b = ap (λ (z : Counts). z.restores) e in
      omega arith) in
      let c₉ : c'.drops ≡ c.drops = (let a = m.drops in let b = ap (λ (z : Counts). z.drops) e in omega arith) in
      let b₀ = ap (λ y. bit y 0) ex in let b₂ = ap (λ y. bit y 2) ex in let b₃ = ap (λ y. bit y 3) ex in
      let b₄ = ap lost_bit ex in record {
        taken = let t = r.taken in omega arith;
        born = let t = r.born in omega arith;
        dropped = let t = r.dropped in omega arith;
        lost = λ ne. let t = r.lost (λ e. ne (ex ∙ e)) in omega arith;
        line = λ l e. let t = r.line l (sym ex ∙ e) in let q = total_same (loses_by n l) vs id v w at (p.lost_by l) in
            let u = t.0 in (omega arith, t.1);
        left = λ e g l q. let t = r.left (sym ex ∙ e) g l q in let u = total_grows (closings g) vs id v w at (up g) in
            omega arith;
        here = λ e. subst (λ (y : Home). HasCell f n y) (sym eh) (r.here (sym ex ∙ e));
        out = λ e. eh ∙ r.out (sym ex ∙ e);
        bare = λ a b. eh ∙ r.bare (λ e. a (ex ∙ e)) (λ e. b (ex ∙ e));
      }

  pub number_same : (p p' : ℕ) → NumberIs f k p vs → p' ≡ p → w.made.numbers ≡ v.made.numbers → NumberIs f k p'
      (set vs id w)
  number_same p p' r e same = let c : (m : ℕ) → total (publishings m)
      (set vs id w) ≡ total (publishings m) vs = λ m. total_same (publishings m) vs id v w at (ap (times m) same) in
      record {
        top = let t = r.top in omega arith;
        floor = let t = r.floor in omega arith;
        heard = subst (λ z. 0 < bit k.number z + total (publishings z) (set vs id w)) (sym e) (let t = r.heard in
            let q = c p in omega arith);
        once = λ m h. let q = c m in let t = r.once m (omega arith) in (q ∙ t.0, t.1, let u = t.2 in omega arith);
      }

  pub pins_same : (p p' g x x' : ℕ) → PinsAre p g x (tally k vs (answer.closed g)) (total (live g) vs)
      (total (pins g) vs) → p ≤ p' → x' ≡ x → live g w ≡ live g v → stray g w ≡ stray g v → closings g w ≡ closings g v
      → PinsAre p' g x' (tally k (set vs id w) (answer.closed g)) (total (live g) (set vs id w))
      (total (pins g) (set vs id w))
  pins_same p p' g x x' r up e lives strays shut = let a = total_same (live g) vs id v w at lives in
      let b = total_same (pins g) vs id v w at (λ i. lives i + strays i) in
      let c = total_same (closings g) vs id v w at shut in
      pins_eq p p' g x x' (tally k vs (answer.closed g)) (tally k (set vs id w) (answer.closed g)) (total (live g) vs)
      (total (live g) (set vs id w))
      (total (pins g) vs) (total (pins g) (set vs id w)) r up e (omega arith) a b

  pub live_same : (g : ℕ) → gate w ≡ gate v → live g w ≡ live g v
  live_same g a = ap (λ (z : Gate). on g z.hold z.work) a

module _ (f : File) (k : Opening) (s : State) (id : ℕ) (v w : View) (s' : State) where
  abbrev pub After : State
  After = record s' { views = set s.views id w }

  -- the words after a step on names: what the gate's words show stays
  pub names_move : Words f k s → get_elem? s.views id ≡ some v → gate w ≡ gate v → s'.number ≡ s.number
      → s'.right ≡ s.right → ((g : ℕ) → g < f.stages → s'.pins g ≡ s.pins g) → Onward s.name s'.name
      → ((n : ℕ) → n < f.names → NameIs f k n (s'.name n) (s'.home n) (set s.views id w)) → Words f k After
  names_move ws at a number right pin on names = record {
    number = number_same f k s.views id v w at s.number s'.number ws.number number (ap (λ (z : Gate). z.numbers) a);
    right = right ∙ (ws.right ∙ sym (total_same right_of s.views id v w at (ap (λ (z : Gate). z.right) a)));
    one = let o = ws.one in omega arith;
    shares = let c = total_same share_of s.views id v w at (ap (λ (z : Gate). z.share) a) in let d = ws.shares in
        omega arith;
    pins = λ g l. pins_same f k s.views id v w at s.number s'.number g (s.pins g) (s'.pins g) (ws.pins g l)
        (omega arith) (pin g l)
        (live_same f k s.views id v w at g a) (ap (λ (z : Gate). times g z.strays) a)
        (ap (λ (z : Gate). times g z.closings) a);
    names = names;
    born = λ g l h n i q e. let c = total_same (publishings (g + 1)) s.views id v w at
        (ap (λ (z : Gate). times (g + 1) z.numbers) a) in ws.born g l (omega arith) n i q (on.born n e);
  }

  -- the names after a step that touches none
  pub names_part : Words f k s → get_elem? s.views id ≡ some v → ((n : ℕ) → Part n v w)
      → ((n : ℕ) → s'.name n ≡ s.name n) → ((n : ℕ) → s'.home n ≡ s.home n) → ((g : ℕ) → closings g v ≤ closings g w)
      → (n : ℕ) → n < f.names → NameIs f k n (s'.name n) (s'.home n) (set s.views id w)
  names_part ws at part name home up n l = name_else f k s.views id v w at n (s.name n) (s'.name n) (s.home n)
      (s'.home n) (ws.names n l) (part n) (name n) (home n) up

  pub names_calm : Words f k s → get_elem? s.views id ≡ some v → w.made.changes ≡ v.made.changes → w.inside ≡ v.inside
      → ((n : ℕ) → s'.name n ≡ s.name n) → ((n : ℕ) → s'.home n ≡ s.home n) → ((g : ℕ) → closings g v ≤ closings g w)
      → (n : ℕ) → n < f.names → NameIs f k n (s'.name n) (s'.home n) (set s.views id w)
  names_calm ws at c i name home up = names_part ws at (λ n. part_same n v w c i) name home up

  -- which generations were born
  pub born_calm : Words f k s → get_elem? s.views id ≡ some v → w.made.numbers ≡ v.made.numbers → Onward s.name s'.name
      → (g : ℕ) → g < f.stages
      → 0 < tally k (set s.views id w) (answer.number (g + 1)) → (n : ℕ) → n < f.names → Holds f g n → s'.name n ≢ 0
  born_calm ws at same on g l h n i q e = let c = total_same (publishings (g + 1)) s.views id v w at
      (ap (times (g + 1)) same) in ws.born g l (omega arith) n i q (on.born n e)

  -- what is known of the actor beside its Met and Seen
  pub record Mine : Type 0 where
    pub active : 0 < w.share
    pub strays : StraysKnow w.share w.strays w.seen.shut
    pub last : LastIs w.last w.seen.number w.own.numbers
    pub right : RightIs s'.number w.build w.last w.own.begun
    pub build : BuildIs s'.name w.build w.inside
    pub pins : PinsKnow f w.hold w.work w.own
    pub inside : InsideIs f s'.name w.inside w.hold w.work w.last w.build w.own

  -- the rule after a step: the words, what its tale tells, and the actor's own facts, are enough
  pub stepped : (t : Tale) → known w ≡ tell t (known v) → Ruled f k s → get_elem? s.views id ≡ some v → Words f k After
      → s.number ≤ s'.number
      → ((j : ℕ) (u : View) → j ≢ id → get_elem? s.views j ≡ some u → u.build.right ≡ 1
      → (s'.number ≡ s.number) × Builds s.name s'.name)
      → Adds v w → Onward s.name s'.name → Ends f (tally k s.views) s.name s'.name
      → Says f k s.number s'.number s.name s'.name (tally k s.views) (tally k (set s.views id w)) t v.own → Mine
      → Ruled f k After
  stepped t told r at words up others adds on ends says m = let a : Tally = tally k s.views in
      let a' : Tally = tally k (set s.views id w) in
      let g = grows f k s.views id v w at adds in let old = r.each id v at in
      let gone = ap (λ (z : Known). z.gone) told ∙ gone_left t (known v) in
      let b₀ = total_set begun_of s.views id v w at in let b₁ = ap all_begun gone in
      let b₂ = ap (λ (z : Known). z.own.begun) told in
      let q = subst (KnownIs f k s.number s'.number s.name s'.name a a') (sym told)
      (told_is f k s.number s'.number s.name s'.name a a' t v old.seen old.own old.gone up g on (omega arith)
      (λ h. let o₀ = total_set (opened_of h) s.views id v w at in let o₁ = ap (all_opened h) gone in
      let o₂ = ap (λ (z : Known). times h z.own.opened) told in
      omega arith) says) in
      record {
        words = words;
        each = λ j u e. ⊎_elim (λ (t : (j ≡ id) × (w ≡ u)). subst (SitsIn f k After) t.1 record {
          spent = λ z. let c = m.active in absurd (omega arith);
          strays = m.strays;
          seen = q.0;
          last = m.last;
          right = m.right;
          build = m.build;
          pins = m.pins;
          inside = m.inside;
          own = q.1;
          gone = q.2;
        })
            (λ (t : (j ≢ id) × (get_elem? s.views j ≡ some u)). sits_on f k s.number s'.number s.name s'.name a a' u
            (r.each j u t.1) up (λ h. (others j u t.0 t.1 h).0)
            g on (λ h. (others j u t.0 t.1 h).1) ends)
            (at_set s.views id j w u e);
      }

-- a step that leaves all words
pub calm : (f : File) (k : Opening) (s : State) (id : ℕ) (v w : View) (t : Tale) → known w ≡ tell t (known v)
    → Ruled f k s → get_elem? s.views id ≡ some v → gate w ≡ gate v → ((n : ℕ) → Part n v w)
    → (Adds v w → Grows (tally k s.views) (tally k (set s.views id w))
    → Says f k s.number s.number s.name s.name (tally k s.views) (tally k (set s.views id w)) t v.own)
    → (Grows (tally k s.views) (tally k (set s.views id w)) → Mine f k s id v w s)
    → Ruled f k (record s { views = set s.views id w })
calm f k s id v w t told r at g part says mine = let ws = r.words in
    let add : Adds v w = adds_by t v w told
    (λ n. let e = ap (λ (z : Counts). z.puts + z.restores + z.in_birth + z.in_retake) (part n).counts in
    omega arith)
    (λ n. let e = ap (λ (z : Counts). z.loses + z.drops + z.in_lose + z.in_drop) (part n).counts in omega arith) in
    let up = grows f k s.views id v w at add in
    stepped f k s id v w s t told r at
    (names_move f k s id v w s ws at g refl refl (λ g l. refl) (onward_same s.name)
    (names_part f k s id v w s ws at part (λ n. refl) (λ n. refl)
    (λ h. let e = ap (λ (z : Gate). times h z.closings) g in omega arith)))
    (omega arith) (λ j u ne e h. (refl, builds_same s.name)) add (onward_same s.name)
    (ends_same f (tally k s.views) s.name) (says add up) (mine up)

-- a step that leaves the number and all names
pub gated : (f : File) (k : Opening) (s : State) (id : ℕ) (v w : View) (s' : State) (t : Tale)
    → known w ≡ tell t (known v) → Ruled f k s → get_elem? s.views id ≡ some v → s'.number ≡ s.number
    → ((n : ℕ) → s'.name n ≡ s.name n) → ((n : ℕ) → s'.home n ≡ s.home n)
    → w.made.changes ≡ v.made.changes → w.made.numbers ≡ v.made.numbers → w.inside ≡ v.inside → w.share ≡ v.share
    → (Grows (tally k s.views) (tally k (set s.views id w)) → (s'.right ≡ total right_of (set s.views id w)) ×
    (s'.right ≤ 1) × ((g : ℕ) → g < f.stages
    → PinsAre s'.number g (s'.pins g) (tally k (set s.views id w) (answer.closed g)) (total (live g) (set s.views id w))
    (total (pins g) (set s.views id w)))
    × Says f k s.number s'.number s.name s'.name (tally k s.views) (tally k (set s.views id w)) t v.own)
    → (Sits f k s'.number s'.name (tally k (set s.views id w)) v → Mine f k s id v w s')
    → Ruled f k (After f k s id v w s')
gated f k s id v w s' t told r at ep ename ehome changes numbers inside share gate mine = let ws = r.words in
    let add = adds_calm t v w told inside in let up = grows f k s.views id v w at add in let q = gate up in
    let on = onward_eq s.name s'.name ename in let builds = builds_eq s.name s'.name ename in
    let ends = ends_eq f (tally k s.views) s.name s'.name ename in
    stepped f k s id v w s' t told r at record {
      number = number_same f k s.views id v w at s.number s'.number ws.number ep numbers;
      right = q.0;
      one = q.1;
      shares = let c = total_same share_of s.views id v w at share in let d = ws.shares in omega arith;
      pins = q.2;
      names = names_calm f k s id v w s' ws at changes inside ename ehome (λ h. add (answer.closed h));
      born = born_calm f k s id v w s' ws at numbers on;
    }
    (omega arith) (λ j u ne e h. (ep, builds)) add on ends q.3
    (mine (sits_on f k s.number s'.number s.name s'.name (tally k s.views) (tally k (set s.views id w)) v
    (r.each id v at) (omega arith) (λ _. ep) up on (λ _. builds) ends))
