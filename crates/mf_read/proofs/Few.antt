-- The entries of a read are few.
use Rattle.std.proofs.Common.{◌≡◌, ℕ, zero, suc, ◌+◌, ◌-◌, ◌*◌, ◌^◌, ◌<◌, ◌≤◌, min, List, [], ◌∷◌, ◌++◌}
use Rattle.std.proofs.Common.{length, length-append, refl, sym, ap, ◌∙◌, subst, arith, append_assoc, inl, inr}
use Rattle.std.proofs.Common.{◌⊎◌}
use Rattle.std.proofs.lemmas.Bool.{cases_lt}
use Rattle.std.proofs.lemmas.List.{get_or_past}
use Rattle.std.proofs.lemmas.List.FromFn.{length-range_with_len, length-map-range_with_len}
use Rattle.mf_machine.specs.declared.answer.Slot.TheVariants.{Work}
use Rattle.mf_shape.specs.Chain.{IsChain}
use Rattle.mf_shape.specs.Stages.{no_stage, stage_at, width_at, copies_at, parities_at}
use Rattle.mf_shape.specs.declared.Stage.{Stage}
use Rattle.mf_places.specs.declared.Name.{Name}
use Rattle.mf_places.specs.declared.Name.TheVariants as name
use Rattle.mf_places.specs.Facts.{BookFacts, IsBook, chunks_of}
use Rattle.mf_places.specs.Generations.{pieces_of, pieces_at, parities_of_stripe}
use Rattle.mf_vault.specs.declared.answers.Got.TheVariants as got
use Rattle.mf_vault.specs.Facts.{Facts}
use Rattle.mf_vault.specs.Actor.{Actor, Call, entry_of, get, unpin}
use Rattle.mf_vault.specs.Licence.{entries_of}
use Rattle.mf_read.specs.declared.outcome.ReadOutcome.{ReadOutcome}
use Rattle.mf_read.specs.declared.outcome.ReadOutcome.TheVariants as read
use Rattle.mf_read.specs.Asking.{Ask, Found, here, lost, away, still, IsAsked, homes_of, AreAsked, missing, joined}
use Rattle.mf_read.specs.Asking.{IsAsking, get_of, got_of, gets}
use Rattle.mf_read.specs.Reading.{AreServed, IsEnd, Ends, IsReadOf, IsThrough, IsRead, Reads, stripes}

entries_append : (xs ys : List Call) → entries_of (xs ++ ys) ≡ entries_of xs ++ entries_of ys
entries_append [] ys = refl
entries_append (c ∷ xs) ys = ap (λ l. entry_of c ++ l) (entries_append xs ys)
    ∙ sym (append_assoc (entry_of c) (entries_of xs) (entries_of ys))

both_few : (xs ys : List Call)
    → length (entries_of (xs ++ ys)) ≡ length (entries_of xs) + length (entries_of ys)
both_few xs ys = ap length (entries_append xs ys) ∙ length-append (entries_of xs) (entries_of ys)

-- at most as many are asked for as there are names
asked_by : (n : ℕ) (names : List Name) (r : Found) (asks : List Ask)
    → (IsAsked n names asks → length asks ≤ length names) → (IsAsked (suc n) names asks → length asks ≤ length names)
    → IsAsked (still r n) names asks → length asks ≤ length names
asked_by n names here asks one more is = one is
asked_by n names (lost l) asks one more is = more is
asked_by n names (away s) asks one more is = more is

asked_few : (n : ℕ) (names : List Name) (asks : List Ask) → IsAsked n names asks → length asks ≤ length names
asked_few zero names asks is = let e = ap length is in omega arith
asked_few (suc n) [] asks is = let e = ap length is in omega arith
asked_few (suc n) (x ∷ names) [] is = absurd is
asked_few (suc n) (x ∷ names) (a ∷ asks) (e, is) =
    let r = asked_by n names a.found asks (λ i. asked_few n names asks i) (λ i. asked_few (suc n) names asks i) is in
    let s : length (a ∷ asks) ≡ suc (length asks) = refl in
    let t : length (x ∷ names) ≡ suc (length names) = refl in omega arith

-- none where none is wanted
wanted_few : (n k : ℕ) (names : List Name) (asks : List Ask) → length names ≤ k → IsAsked n names asks
    → length asks ≤ k * n
wanted_few zero k names asks low is = let e = ap length is in omega arith
wanted_few (suc n) k names asks low is = let r = asked_few (suc n) names asks is in
    let e : k * suc n ≡ k + k * n = omega arith in omega arith

pieces_few : (b : BookFacts) (g : ℕ) (chunks : List ℕ) (pieces : List (List Ask)) → copies_at b.shape.stages g ≤ 2
    → AreAsked b g chunks pieces → (length (joined pieces) ≤ 3 * length chunks) × (missing pieces ≤ length chunks)
pieces_few b g [] pieces low is = (
  (let e = ap (λ (l : List (List Ask)). length (joined l)) is in omega arith),
  (let e = ap missing is in omega arith),
)
pieces_few b g (i ∷ chunks) [] low is = absurd is
pieces_few b g (i ∷ chunks) (asks ∷ pieces) low (is, others) =
    let r = pieces_few b g chunks pieces low others in
    let n = asked_few 1 (homes_of b g i) asks is in
    let h = length-map-range_with_len (λ c. name.Copy c i) 0 (copies_at b.shape.stages g) in
    let homes : length (homes_of b g i) ≡ suc (copies_at b.shape.stages g) = ap suc h in
    let e = length-append asks (joined pieces) in
    let one = r.0 in
    let two = r.1 in
    let l : length (i ∷ chunks) ≡ suc (length chunks) = refl in
    ((omega arith), (omega arith))

-- what a stage has
stage_past : (stages : List Stage) (g : ℕ) → length stages ≤ g → stage_at stages g ≡ no_stage
stage_past stages g high = get_or_past stages g no_stage high

copies_low : (stages : List Stage) (g : ℕ) → IsChain stages → copies_at stages g ≤ 2
copies_low stages g chain = elim (cases_lt g (length stages)) [
  | inl low ↦ chain.copies g low
  | inr high ↦ subst (λ (s : Stage). s.copies ≤ 2) (sym (stage_past stages g high)) (omega arith)
]

parities_low : (stages : List Stage) (g : ℕ) → IsChain stages → parities_at stages g ≤ 4
parities_low stages g chain = elim (cases_lt g (length stages)) [
  | inl low ↦ (chain.parities g low).1
  | inr high ↦ subst (λ (s : Stage). s.parities ≤ 4) (sym (stage_past stages g high)) (omega arith)
]

asking_few : (b : BookFacts) (g j : ℕ) (asks : List Ask) → IsBook b → IsAsking b g j asks
    → length asks ≤ 7 * pieces_of b g j
asking_few b g j asks book is =
    let stages = b.shape.stages in
    let c = copies_low stages g book.shape.chain in
    let r = parities_low stages g book.shape.chain in
    let p = pieces_few b g (pieces_at b g j) is.pieces c is.each in
    let p0 = p.0 in
    let p1 = p.1 in
    let h = length-map-range_with_len (λ q. name.Parity (width_at stages g) j q) 0 (parities_at stages g) in
    let names : length (parities_of_stripe b g j) ≤ 4 = omega arith in
    let w = wanted_few (missing is.pieces) 4 (parities_of_stripe b g j) is.parities names is.after in
    let e = ap length is.order ∙ length-append (joined is.pieces) is.parities in
    let k : length (pieces_at b g j) ≡ pieces_of b g j =
    length-range_with_len (j * width_at stages g) (pieces_of b g j) in
    omega arith

pieces_low : (m w j : ℕ) → min ((j + 1) * w) m - j * w ≤ m
pieces_low m w j = omega arith

one_more : (m w n k l : ℕ) → k ≤ 7 * min (n * w) m → l ≤ 7 * (min ((n + 1) * w) m - n * w)
    → k + l ≤ 7 * min (suc n * w) m
one_more m w n k l x y =
    let e : (n + 1) * w ≡ n * w + w = omega arith in
    let d : suc n * w ≡ n * w + w = omega arith in omega arith

served_few : (b : BookFacts) (g n : ℕ) (asks : List Ask) → IsBook b → AreServed b g n asks
    → length asks ≤ 7 * min (n * width_at b.shape.stages g) (chunks_of b)
served_few b g zero asks book is = let e = ap length is in omega arith
served_few b g (suc n) asks book (front, last, before, is, both) =
    let f = served_few b g n front book before in
    let l = asking_few b g n last book is.0 in
    let e = ap length both ∙ length-append front last in
    let more = one_more (chunks_of b) (width_at b.shape.stages g) n (length front) (length last) f l in omega arith

got_few : (f : Facts) (x : Name) (r : Found) → length (entries_of (get x (got_of f x r) ∷ [])) ≡ 1
got_few f x here = refl
got_few f x (lost l) = refl
got_few f x (away s) = refl

gets_few : (f : Facts) (asks : List Ask) → length (entries_of (gets f asks)) ≡ length asks
gets_few f [] = refl
gets_few f (a ∷ asks) =
    let e = both_few (get_of f a ∷ []) (gets f asks) in
    let o = got_few f a.name a.found in
    let r = gets_few f asks in
    let s : length (a ∷ asks) ≡ suc (length asks) = refl in omega arith

module _ (f : Facts) (book : IsBook f.book) where
  asking_low : (g j : ℕ) (asks : List Ask) → IsAsking f.book g j asks → length (entries_of (gets f asks)) ≤ 7168
  asking_low g j asks is =
      let a = asking_few f.book g j asks book is in
      let p = pieces_low (chunks_of f.book) (width_at f.book.shape.stages g) j in
      let m = book.chunks in
      let e = gets_few f asks in omega arith

  served_low : (g n : ℕ) (asks : List Ask) → AreServed f.book g n asks → length (entries_of (gets f asks)) ≤ 7168
  served_low g n asks is =
      let a = served_few f.book g n asks book is in
      let m = book.chunks in
      let e = gets_few f asks in omega arith

  front_low : (g j : ℕ) (asks rest : List Ask) → IsAsking f.book g j (asks ++ rest)
      → length (entries_of (gets f asks)) ≤ 7168
  front_low g j asks rest is =
      let a = asking_few f.book g j (asks ++ rest) book is in
      let p = pieces_low (chunks_of f.book) (width_at f.book.shape.stages g) j in
      let m = book.chunks in
      let l = length-append asks rest in
      let e = gets_few f asks in omega arith

  cut_low : (asks rest : List Ask) (cs : List Call) → length (entries_of (gets f asks)) ≤ 7168
      → ((cs ≡ gets f asks) ⊎ ((x : Name) × (others : List Ask) × (rest ≡ record { name = x; found = here } ∷ others)
      × (cs ≡ gets f asks ++ get x got.Memory ∷ []))) → length (entries_of cs) ≤ 7168
  cut_low asks rest cs low (inl e) = subst (λ l. length (entries_of l) ≤ 7168) (sym e) low
  cut_low asks rest cs low (inr (x, others, is, e)) = subst (λ l. length (entries_of l) ≤ 7168) (sym e)
      (let b = both_few (gets f asks) (get x got.Memory ∷ []) in omega arith)

  end_low : (g j : ℕ) (o : ReadOutcome) (cs : List Call) → IsEnd f g j o cs → length (entries_of cs) ≤ 7168
  end_low g j (read.DataLost h k names) cs (asks, e, i, short, is, same, more) =
      subst (λ l. length (entries_of l) ≤ 7168) (sym is) (asking_low g j asks short.0)
  end_low g j (read.Unreachable h k x server) cs (asks, e, i, short, is, low, more) =
      subst (λ l. length (entries_of l) ≤ 7168) (sym is) (asking_low g j asks short.0)
  end_low g j read.Memory cs (asks, rest, asking, either) =
      cut_low asks rest cs (front_low g j asks rest asking) either
  end_low g j read.Absent cs e = absurd e
  end_low g j read.Removed cs e = absurd e
  end_low g j (read.Bytes h bytes from) cs e = absurd e

  ends_low : (g : ℕ) (o : ReadOutcome) (cs : List Call) → Ends f g o cs → length (entries_of cs) ≤ 14336
  ends_low g o cs (j, front, rest, served, ends, is) = subst (λ l. length (entries_of l) ≤ 14336) (sym is)
      (let b = both_few (gets f front) rest in
      let s = served_low g j front served in
      let e = end_low g j o rest ends in omega arith)

  read_low : (g : ℕ) (o : ReadOutcome) (cs : List Call) → IsReadOf f g o cs → length (entries_of cs) ≤ 14336
  read_low g (read.Bytes h bytes from) cs (asks, e, served, is, same, from_is) =
      subst (λ l. length (entries_of l) ≤ 14336) (sym is)
      (let s = served_low g (stripes f.book g) asks served in omega arith)
  read_low g (read.DataLost h k names) cs ends = ends_low g (read.DataLost h k names) cs ends
  read_low g (read.Unreachable h k x server) cs ends = ends_low g (read.Unreachable h k x server) cs ends
  read_low g read.Memory cs ends = ends_low g read.Memory cs ends
  read_low g read.Absent cs ends = ends_low g read.Absent cs ends
  read_low g read.Removed cs ends = ends_low g read.Removed cs ends

  through_low : (hold g : ℕ) (inner cs : List Call) → length (entries_of inner) ≤ 14336 → IsThrough hold g inner cs
      → length (entries_of cs) ≤ 14336
  through_low hold g inner cs low (inl (held, is)) = subst (λ l. length (entries_of l) ≤ 14336) (sym is) low
  through_low hold g inner cs low (inr (free, (gs, is))) = subst (λ l. length (entries_of l) ≤ 14336) (sym is)
      (let b = both_few inner (unpin Work ∷ []) in omega arith)

  is_low : (hold : ℕ) (o : ReadOutcome) (cs : List Call) → IsRead f hold o cs → length (entries_of cs) ≤ 14336
  is_low hold read.Absent cs (free, (gs, is)) = subst (λ l. length (entries_of l) ≤ 14336) (sym is) (omega arith)
  is_low hold read.Removed cs (free, (gs, is)) = subst (λ l. length (entries_of l) ≤ 14336) (sym is) (omega arith)
  is_low hold (read.Bytes h bytes from) cs (g, inner, is, through) =
      through_low hold g inner cs (read_low g (read.Bytes h bytes from) inner is) through
  is_low hold (read.DataLost h k names) cs (g, inner, is, through) =
      through_low hold g inner cs (read_low g (read.DataLost h k names) inner is) through
  is_low hold (read.Unreachable h k x server) cs (g, inner, is, through) =
      through_low hold g inner cs (read_low g (read.Unreachable h k x server) inner is) through
  is_low hold read.Memory cs (g, inner, is, through) =
      through_low hold g inner cs (read_low g read.Memory inner is) through

pub reads_few : (o : ReadOutcome) {a b : Actor} → IsBook a.facts.book → (r : Reads o a b)
    → length (entries_of r.0) < 2 ^ 24
reads_few o {a = a} book r = let few = is_low a.facts book a.view.hold o r.0 r.1 in omega arith
