-- One name, over each change of its word: the words are 0 Unborn, 1 Here, 2 Taken, 3 Dropped, 4 + line for Lost.
use Rattle.std.proofs.Common.{◌≡◌, ◌≢◌, ◌⊎◌, ℕ, zero, suc, cond, ne_eqb, ◌+◌, ◌<◌, ◌≤◌, List, [], ◌∷◌, set, sym, refl}
use Rattle.std.proofs.Common.{ap, ◌∙◌, subst, inl, arith}
use Rattle.std.proofs.lemmas.Bool.{le-leb, lt-leb}
use mathlib.Core.Logic.{dite}
use mathlib.Core.Option.{some, some-ne-none}
use native.Mathlib.Decide.{ℕ_discrete, dec_le}
use lib.ListN.{get_elem?}
use Rattle.mf_machine.specs.Answers as answer
use Rattle.mf_machine.specs.declared.view.Loss.{Loss}
use Rattle.mf_machine.specs.declared.view.View.{View}
use Rattle.mf_machine.specs.Actors.{Free, has}
use Rattle.mf_machine.specs.Counts.{bit, truth, times, total, lines}
use Rattle.mf_machine.specs.File.{File, Opening, State, Holds, IsLoseLine, Home, HasCell, Unharmed}
use Rattle.mf_machine.specs.Ruled.{NameIs, Words, Sits, Ruled}
use Rattle.mf_machine.specs.Sums.{puts, loses, restores, drops, in_birth, in_get, in_retake, in_lose, in_drop, raises}
use Rattle.mf_machine.specs.Sums.{sinks}
use Rattle.mf_machine.specs.Sums.{hides, lost_bit, Tally, tally, closings}
use Rattle.mf_machine.specs.File.Home.{away, empty, keeps}
use Rattle.mf_machine.proofs.Lists.{bit_not, times_cons}
use Rattle.mf_machine.proofs.Entering.{Tale, known, tell}
use Rattle.mf_machine.proofs.Frames.{Grows, Onward, Builds, Ends, Says, sits_on}
use Rattle.mf_machine.proofs.Steps.{Counts, counts, Adds, After, ButName, Gate, gate, Mine, Moved, moved, Part, parts}
use Rattle.mf_machine.proofs.Steps.{grows, name_else, names_move, stepped}

-- the bits of a word
pub lost_is : (w : ℕ) → 4 ≤ w → lost_bit w ≡ 1
lost_is w l = ap truth (le-leb 4 w l)

pub lost_not : (w : ℕ) → w < 4 → lost_bit w ≡ 0
lost_not w l = ap truth (lt-leb 4 w l)

pub bits_low : (w : ℕ) (a : ℕ) → w ≡ a → (bit w 0 ≡ bit a 0) × (bit w 2 ≡ bit a 2) × (bit w 3 ≡ bit a 3) ×
    (lost_bit w ≡ lost_bit a)
bits_low w a e = (ap (λ z. bit z 0) e, ap (λ z. bit z 2) e, ap (λ z. bit z 3) e, ap lost_bit e)

pub bits_lost : (w : ℕ) → 4 ≤ w → (bit w 0 ≡ 0) × (bit w 2 ≡ 0) × (bit w 3 ≡ 0) × (lost_bit w ≡ 1)
bits_lost w l = (
  bit_not w 0 (λ e. omega arith),
  bit_not w 2 (λ e. omega arith),
  bit_not w 3
      (λ e. omega arith),
  lost_is w l,
)

-- a name that isn't Taken is in one of four states
pub one_state : (w : ℕ) → w ≢ 2 → bit w 0 + bit w 1 + bit w 3 + lost_bit w ≡ 1
one_state w ne = dite (dec_le 4 w) (λ l. let t = bits_lost w l in let t₀ = t.0 in let t₂ = t.2 in let t₃ = t.3 in
    let a = bit_not w 1 (λ e. omega arith) in omega arith)
    (λ s. dite (ℕ_discrete w 0) (λ e. let z = ap (λ (y : ℕ). bit y 0 + bit y 1 + bit y 3 + lost_bit y) e in z)
    (λ n₀. dite (ℕ_discrete w 1) (λ e. let z = ap (λ (y : ℕ). bit y 0 + bit y 1 + bit y 3 + lost_bit y) e in z)
    (λ n₁. let e : w ≡ 3 = omega arith in ap (λ (y : ℕ). bit y 0 + bit y 1 + bit y 3 + lost_bit y) e)))

-- a slot with the name's bytes has its cell, and, as long as nothing harms a kept chunk, the other way round
pub cell_here : (f : File) (n : ℕ) (h : Home) → h ≡ keeps (f.cell n) → HasCell f n h
unfolding HasCell
cell_here f n h e = λ _. e

pub cell_is : (f : File) (n : ℕ) (h : Home) → HasCell f n h → h ≡ keeps (f.cell n)
unfolding HasCell Unharmed
cell_is f n h has = has tt

module _ (f : File) (k : Opening) (n x x' : ℕ) (h h' : Home) (vs vs' : List View) (r : NameIs f k n x h vs) where
  abbrev c : Counts
  c = counts n vs

  abbrev c' : Counts
  c' = counts n vs'

  -- Unborn, Here or Lost to Taken
  pub away_with : x ≢ 2 → x ≢ 3 → x' ≡ 2 → h' ≡ away
      → c'.in_get + c'.in_birth + c'.in_retake + c'.in_lose + c'.in_drop ≡ c.in_get + c.in_birth + c.in_retake +
      c.in_lose + c.in_drop + 1
      → c'.puts + c'.in_birth ≡ c.puts + c.in_birth + bit x 0 → c'.drops ≡ c.drops → c'.loses ≡ c.loses
      → c'.restores + c'.in_retake ≡ c.restores + c.in_retake + lost_bit x → NameIs f k n x' h' vs'
  away_with n₂ n₃ e' out tk pb dr lo rr = let b₂ = bit_not x 2 n₂ in let b₃ = bit_not x 3 n₃ in
      let d = bits_low x' 2 e' in let d₀ = d.0 in let d₂ = d.1 in let d₃ = d.2 in let d₄ = d.3 in record {
        taken = let t = r.taken in omega arith;
        born = let t = r.born in omega arith;
        dropped = let t = r.dropped in omega arith;
        lost = λ _. let t = r.lost n₃ in omega arith;
        line = λ l z. absurd (omega arith);
        left = λ z. absurd (omega arith);
        here = λ z. absurd (omega arith);
        out = λ _. out;
        bare = λ _ z. absurd (z e');
      }

  -- Taken to Here, Lost or Dropped
  pub back_with : x ≡ 2 → x' ≢ 0 → x' ≢ 2
      → c'.in_get + c'.in_birth + c'.in_retake + c'.in_lose + c'.in_drop + 1 ≡ c.in_get + c.in_birth + c.in_retake +
      c.in_lose + c.in_drop
      → c'.puts + c'.in_birth ≡ c.puts + c.in_birth → c'.drops ≡ c.drops + bit x' 3 → c'.loses ≡ c.loses + lost_bit x'
      → c'.restores + c'.in_retake ≡ c.restores + c.in_retake → (x' ≡ 1 → HasCell f n h') → (x' ≢ 1 → h' ≡ empty)
      → ((l : ℕ) → x' ≡ 4 + l → (0 < tally k vs' (answer.lost n l)) × IsLoseLine f n l)
      → (x' ≡ 3 → (g : ℕ) → g < f.stages → Holds f g n → 0 < tally k vs' (answer.closed g)) → NameIs f k n x' h' vs'
  back_with e n₀ n₂ tk pb dr lo rr full bare line left = let b = bits_low x 2 e in let b₀ = b.0 in let b₂ = b.1 in
      let b₃ = b.2 in let b₄ = b.3 in
      let d₀ = bit_not x' 0 n₀ in let d₂ = bit_not x' 2 n₂ in record {
        taken = let t = r.taken in omega arith;
        born = let t = r.born in omega arith;
        dropped = let t = r.dropped in omega arith;
        lost = λ _. let t = r.lost (λ z. omega arith) in omega arith;
        line = line;
        left = left;
        here = full;
        out = λ z. absurd (n₂ z);
        bare = λ ne _. bare ne;
      }

  -- Lost to Dropped
  pub lost_dropped : 4 ≤ x → x' ≡ 3 → h' ≡ h → ((g : ℕ) → g < f.stages → Holds f g n → 0 < tally k vs'
      (answer.closed g))
      → c'.in_get + c'.in_birth + c'.in_retake + c'.in_lose + c'.in_drop ≡ c.in_get + c.in_birth + c.in_retake +
      c.in_lose + c.in_drop
      → c'.puts + c'.in_birth ≡ c.puts + c.in_birth → c'.drops ≡ c.drops + 1 → NameIs f k n x' h' vs'
  lost_dropped e e' same left tk pb dr = let b = bits_lost x e in let b₀ = b.0 in let b₂ = b.1 in let b₃ = b.2 in
      let d = bits_low x' 3 e' in
      let d₀ = d.0 in let d₂ = d.1 in let d₃ = d.2 in record {
        taken = let t = r.taken in omega arith;
        born = let t = r.born in omega arith;
        dropped = let t = r.dropped in omega arith;
        lost = λ z. absurd (z e');
        line = λ l z. absurd (omega arith);
        left = λ _. left;
        here = λ z. absurd (omega arith);
        out = λ z. absurd (omega arith);
        bare = λ _ _. same ∙ r.bare (λ z. omega arith) (λ z. omega arith);
      }

-- what a change of one name's word leaves of all names
module _ (name name' : ℕ → ℕ) (n : ℕ) (else_where : (m : ℕ) → m ≢ n → name' m ≡ name m) where
  pub onward_at : (name' n ≡ 0 → name n ≡ 0) → (name n ≡ 3 → name' n ≡ 3) → Onward name name'
  onward_at born dropped = record {
    born = λ m e. dite (ℕ_discrete m n) (λ d. ap name d ∙ born (sym (ap name' d) ∙ e)) (λ ne. sym (else_where m ne) ∙
        e);
    dropped = λ m e. dite (ℕ_discrete m n) (λ d. ap name' d ∙ dropped (sym (ap name d) ∙ e))
        (λ ne. else_where m ne ∙ e);
  }

  pub builds_at : (name n ≡ 0 → name' n ≡ 0) → (4 ≤ name n → (4 ≤ name' n) ⊎ (name' n ≡ 3)) → Builds name name'
  builds_at unborn lost = record {
    unborn = λ m e. dite (ℕ_discrete m n) (λ d. ap name' d ∙ unborn (sym (ap name d) ∙ e)) (λ ne. else_where m ne ∙ e);
    lost = λ m l. dite (ℕ_discrete m n) (λ d. subst (λ z. (4 ≤ name' z) ⊎ (name' z ≡ 3)) (sym d)
        (lost (subst (λ z. 4 ≤ name z) d l))) (λ ne. let e = else_where m ne in inl (omega arith));
  }

  pub ends_at : (f : File) (a : Tally) → (((g : ℕ) → g < f.stages → Holds f g n → 0 < a (answer.closed g)) → 4 ≤ name n
      → (name' n ≡ name n) ⊎ (name' n ≡ 3)) → Ends f a name name'
  ends_at f a lost m shut l = dite (ℕ_discrete m n)
      (λ d. subst (λ z. (name' z ≡ name z) ⊎ (name' z ≡ 3)) (sym d)
      (lost (subst (λ z. (g : ℕ) → g < f.stages → Holds f g z → 0 < a (answer.closed g)) d shut)
      (subst (λ z. 4 ≤ name z) d l)))
      (λ ne. inl (else_where m ne))

-- a place that gets a name, or loses it, says the same of every other name
pub turn_else : (m n place : ℕ) → m ≢ n → place ≡ 0 → has m (n + 1) ≡ has m place
turn_else m n place ne e = let a = bit_not (n + 1) (m + 1) (λ z. ne (omega arith)) in
    let b = bit_not place (m + 1) (λ z. omega arith) in omega arith

pub back_else : (m n place : ℕ) → m ≢ n → place ≡ n + 1 → has m 0 ≡ has m place
back_else m n place ne e = let a = bit_not place (m + 1) (λ z. ne (omega arith)) in
    let b = bit_not 0 (m + 1) (λ z. omega arith) in omega arith

-- the names after a step on one of them
pub names_at : (f : File) (k : Opening) (s : State) (id : ℕ) (v w : View) (name' : ℕ → ℕ) (home' : ℕ → Home) (n : ℕ)
    → Words f k s → get_elem? s.views id ≡ some v → ((g : ℕ) → closings g v ≤ closings g w)
    → ((m : ℕ) → m ≢ n → name' m ≡ s.name m) → ((m : ℕ) → m ≢ n → home' m ≡ s.home m) → ((m : ℕ) → m ≢ n → Part m v w)
    → NameIs f k n (name' n) (home' n) (set s.views id w)
    → (m : ℕ) → m < f.names → NameIs f k m (name' m) (home' m) (set s.views id w)
names_at f k s id v w name' home' n ws at up names homes parts here m l = dite (ℕ_discrete m n)
    (λ e. subst (λ z. NameIs f k z (name' z) (home' z) (set s.views id w)) (sym e) here)
    (λ ne. name_else f k s.views id v w at m (s.name m) (name' m) (s.home m) (home' m) (ws.names m l) (parts m ne)
    (names m ne) (homes m ne) up)

-- a step on the name n
pub named : (f : File) (k : Opening) (s : State) (id : ℕ) (v w : View) (s' : State) (n : ℕ) (t : Tale)
    → known w ≡ tell t (known v) → Ruled f k s → get_elem? s.views id ≡ some v → gate w ≡ gate v → ButName f s n s'
    → ((m : ℕ) → m ≢ n → Part m v w) → Adds v w
    → (Moved (counts n s.views) (counts n (set s.views id w)) (parts n v) (parts n w) → Grows (tally k s.views)
    (tally k (set s.views id w))
    → NameIs f k n (s'.name n) (s'.home n) (set s.views id w))
    → ((j : ℕ) (u : View) → j ≢ id → get_elem? s.views j ≡ some u → u.build.right ≡ 1 → Builds s.name s'.name)
    → Onward s.name s'.name → Ends f (tally k s.views) s.name s'.name
    → (Grows (tally k s.views) (tally k (set s.views id w))
    → Says f k s.number s'.number s.name s'.name (tally k s.views) (tally k (set s.views id w)) t v.own)
    → Mine f k s id v w s' → Ruled f k (After f k s id v w s')
named f k s id v w s' n t told r at g but part add name builds on ends says mine = let ep = but.number in
    let up = grows f k s.views id v w at add in
    stepped f k s id v w s' t told r at
    (names_move f k s id v w s' r.words at g but.number but.right but.pins on
    (names_at f k s id v w s'.name s'.home n r.words at (λ h. let e = ap (λ (z : Gate). times h z.closings) g in
    omega arith) but.names but.homes part
    (name (moved n s.views id v w at) up)))
    (omega arith) (λ j u ne e h. (ep, builds j u ne e h)) add on ends (says up) mine

-- a step on a name that is Here or Taken, and that isn't Unborn then
pub renamed : (f : File) (k : Opening) (s : State) (id : ℕ) (v w : View) (s' : State) (n : ℕ) (t : Tale)
    → known w ≡ tell t (known v) → Ruled f k s → get_elem? s.views id ≡ some v → gate w ≡ gate v → ButName f s n s'
    → (0 < s.name n) × (s.name n < 3) → s'.name n ≢ 0 → ((m : ℕ) → m ≢ n → Part m v w) → Adds v w
    → (Moved (counts n s.views) (counts n (set s.views id w)) (parts n v) (parts n w) → Grows (tally k s.views)
    (tally k (set s.views id w))
    → NameIs f k n (s'.name n) (s'.home n) (set s.views id w))
    → (Grows (tally k s.views) (tally k (set s.views id w))
    → Says f k s.number s'.number s.name s'.name (tally k s.views) (tally k (set s.views id w)) t v.own)
    → (Sits f k s'.number s'.name (tally k (set s.views id w)) v → Mine f k s id v w s')
    → Ruled f k (After f k s id v w s')
renamed f k s id v w s' n t told r at g but was alive part add name says mine = let ep = but.number in
    let low = was.0 in let high = was.1 in
    let on : Onward s.name s'.name = onward_at s.name s'.name n but.names (λ z. absurd (alive z))
    (λ z. absurd (omega arith)) in
    let builds : Builds s.name s'.name = builds_at s.name s'.name n but.names (λ z. absurd (omega arith))
    (λ z. absurd (omega arith)) in
    let ends : Ends f (tally k s.views) s.name s'.name = ends_at s.name s'.name n but.names f (tally k s.views)
    (λ _ z. absurd (omega arith)) in
    named f k s id v w s' n t told r at g but part add name (λ j u ne e h. builds) on ends says
    (mine (sits_on f k s.number s'.number s.name s'.name (tally k s.views) (tally k (set s.views id w)) v
    (r.each id v at) (omega arith) (λ _. ep)
    (grows f k s.views id v w at add) on (λ _. builds) ends))

-- an actor that has no name Taken has none of these
pub outside_of : (n : ℕ) (v : View) → Free v → (in_get n v ≡ 0) × (in_birth n v ≡ 0) × (in_retake n v ≡ 0) ×
    (in_lose n v ≡ 0) × (in_drop n v ≡ 0)
outside_of n v free = (
  bit_not v.inside.getting (n + 1) (λ e. omega arith),
  bit_not v.inside.bearing (n + 1) (λ e. omega arith),
  bit_not v.inside.retaking (n + 1) (λ e. omega arith),
  bit_not v.inside.losing (n + 1) (λ e. omega arith),
  bit_not v.inside.dropping (n + 1) (λ e. omega arith),
)

-- a list of what isn't Unborn, with one more
pub more_born : (name' : ℕ → ℕ) (n : ℕ) (xs : List ℕ) → name' n ≢ 0 → ((m : ℕ) → 0 < times m xs → name' m ≢ 0) → (m : ℕ)
    → 0 < times m (n ∷ xs) → name' m ≢ 0
more_born name' n xs alive old m l = times_cons m n xs (name' m ≢ 0) (λ e z. alive (sym (ap name' e) ∙ z)) (old m) l

-- what stands where it was set
pub set_in : (vs : List View) (i : ℕ) (v w : View) → get_elem? vs i ≡ some v → get_elem? (set vs i w) i ≡ some w
set_in [] i v w e = absurd (some-ne-none v (sym e))
set_in (x ∷ xs) zero v w e = refl
set_in (x ∷ xs) (suc i) v w e = set_in xs i v w e

-- a loss of another name
pub lines_other : (m n j l : ℕ) (xs : List Loss) → m ≢ n → lines m j ((record { name = n; line = l }) ∷ xs) ≡ lines m j
    xs
lines_other m n j l xs ne = (λ i. cond (ne_eqb n m (λ h. ne (sym h)) i) (bit l j) 0 + lines m j xs) ∙
    (let z : ℕ = lines m j xs in
    let e : 0 + z ≡ z = omega arith in e)

-- sums of sums
pub raises_parts : (n : ℕ) (vs : List View)
    → total (raises n) vs ≡ total (puts n) vs + total (restores n) vs + total (in_birth n) vs + total (in_retake n) vs
raises_parts n [] = refl
raises_parts n (v ∷ vs) = let r = raises_parts n vs in omega arith

pub sinks_parts : (n : ℕ) (vs : List View) → total (sinks n) vs ≡ total (loses n) vs + total (drops n) vs
sinks_parts n [] = refl
sinks_parts n (v ∷ vs) = let r = sinks_parts n vs in omega arith

pub hides_parts : (n : ℕ) (vs : List View)
    → total (hides n) vs ≡ total (loses n) vs + total (drops n) vs + total (in_lose n) vs + total (in_drop n) vs
hides_parts n [] = refl
hides_parts n (v ∷ vs) = let r = hides_parts n vs in omega arith
