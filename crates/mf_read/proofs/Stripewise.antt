-- A read, stripe by stripe.
use Rattle.std.proofs.Common.{◌≡◌, ℕ, suc, ◌+◌, ◌*◌, ◌<◌, ◌≤◌, List, [], ◌∷◌, ◌++◌, length, take, drop, map, Result}
use Rattle.std.proofs.Common.{Ok, Err, mul-le-mul_right}
use Rattle.std.proofs.Common.{refl, sym, ap, ◌∙◌, subst, append-nil, inl, inr, arith, length-append}
use Rattle.std.proofs.lemmas.Grind.{div_ceil_times}
use Rattle.std.proofs.Common.{append_assoc, ◌^◌, ◌-◌}
use Rattle.std.proofs.lemmas.List.{take_all, length-take, take-append-drop, take-take, append_cancel_left}
use Rattle.std.specs.List.{concat}
use Rattle.std.specs.declared.alloc.Global.{Global}
use Rattle.std.specs.declared.vec.Vec.{Vec}
use denote.RawPtr.{null_ptr}
use Rattle.mf_lemmas.proofs.Parts.{take-append}
use Rattle.mf_stripe.proofs.Cuts.{stripe-joined}
use Rattle.mf_read.specs.Stripes.{chunks_of_stripe}
use Rattle.mf_read.specs.declared.outcome.IntoOutcome.{IntoOutcome}
use Rattle.mf_read.specs.declared.outcome.IntoOutcome.TheVariants as into
use Rattle.mf_read.specs.Taking.{with_bytes, bytes_before, AreTaken, ReadsInto}
use Rattle.mf_read.specs.Steps.{ReadsAny, HandsStripe, HandsUntil, HandsOn, bytes_at}
use Rattle.mf_machine.specs.Actors.{on}
use Rattle.mf_machine.specs.declared.answer.Slot.TheVariants.{Work}
use Rattle.mf_machine.proofs.Lists.{bit_is}
use Rattle.mf_shape.specs.Stages.{width_at}
use Rattle.mf_places.specs.Facts.{chunks_of}
use Rattle.mf_places.specs.Generations.{pieces_at}
use Rattle.mf_vault.specs.declared.answers.Entry.{Entry}
use Rattle.mf_vault.specs.declared.answers.Pinned.TheVariants as pinned
use Rattle.mf_vault.specs.Facts.{Facts, stages}
use Rattle.mf_vault.specs.declared.answers.Got.TheVariants as got
use Rattle.mf_vault.specs.Actor.{Actor, Call, pin, unpin, get, did}
use Rattle.mf_vault.specs.Answers.{Goes}
use Rattle.mf_vault.specs.Licence.{Does, IsKept, IsFile, did_all}
use Rattle.mf_vault.proofs.Doing.{nothing, then, one, more, facts_stay, entries_are}
use Rattle.mf_vault.proofs.Entering.{tried_work, pin_is}
use Rattle.mf_read.specs.declared.outcome.ReadOutcome.{ReadOutcome}
use Rattle.mf_read.specs.declared.outcome.ReadOutcome.TheVariants.{Bytes, Absent, Removed, DataLost, Unreachable}
use Rattle.mf_read.specs.declared.outcome.ReadOutcome.TheVariants.{Memory}
use Rattle.mf_read.specs.Asking.{Ask, here_in, lost_in, away_in, IsAsked, IsAsking, IsServed, IsShort, IsCut}
use Rattle.mf_read.specs.Asking.{homes_of, missing, gets}
use Rattle.mf_read.specs.Groups.{IsReader, asks_in}
use Rattle.mf_read.specs.Reading.{AreServed, IsEnd, Ends, IsReadOf, IsThrough, IsRead, Reads, bears, stripes}
use Rattle.mf_read.specs.Steps.{IsPinned, IsShortOf, LacksNames, ReadsStripe, ReadsAll, ReadsOf}
use Rattle.mf_read.proofs.Asked.{does_on}
use Rattle.mf_read.proofs.Parted.{opened_nil, begins}
use Rattle.mf_read.proofs.Readers.{hold_stays, work_stays, work_all}
use Rattle.mf_read.proofs.Shortage.{short_has_lost, served_here}
use Rattle.mf_read.proofs.Told.{since_gets}

-- calls in turn
did_both : (xs ys : List Call) (a : Actor) → did_all (xs ++ ys) a ≡ did_all ys (did_all xs a)
did_both [] ys a = refl
did_both (x ∷ xs) ys a = did_both xs ys (did x a)

-- ---- one stripe

-- a whole asking that wants memory at its end
pub whole_cut : (f : Facts) (g j : ℕ) (asks : List Ask) → IsAsking f.book g j asks → IsCut f g j (gets f asks)
whole_cut f g j asks is = (asks, [], subst (IsAsking f.book g j) (sym (append-nil asks)) is, inl refl)

-- a short one ends the read
pub ends_short : (f : Facts) (g j : ℕ) (asks : List Ask) (o : ReadOutcome) → IsShort f.book g j asks
    → IsShortOf (bears f.book g) g j asks o → IsEnd f g j o (gets f asks)
ends_short f g j asks (DataLost h k lost) short (eg, ej, is, many) = (asks, eg, ej, short, refl, is, many)
ends_short f g j asks (Unreachable h k x server) short (eg, ej, few, away) = (asks, eg, ej, short, refl, few, away)
ends_short f g j asks Memory short is = whole_cut f g j asks short.0
ends_short f g j asks Absent short is = absurd is
ends_short f g j asks Removed short is = absurd is
ends_short f g j asks (Bytes h bytes from) short is = absurd is

-- its asks are what its entries tell
pub asks_told : (f : Facts) (asks : List Ask) (n : ℕ) (entries : List Entry) {a b : Actor} → n ≡ length a.entries
    → entries ≡ b.entries → Does (gets f asks) a b
    → asks_in (drop n entries) ≡ asks
asks_told f asks n entries e d does = (λ i. asks_in (drop (e i) (d i))) ∙ since_gets f asks does

pub from_low : (f : Facts) (asks : List Ask) {a b : Actor} → Does (gets f asks) a b
    → length a.entries ≤ length b.entries
from_low f asks {a = a} {b = b} does =
    let e = ap length (entries_are does) in
    let d = length-append a.entries (Rattle.mf_vault.specs.Licence.entries_of (gets f asks)) in omega arith

-- a short asking of the stripe
pub stripe_lacks : (g j n : ℕ) {a b : Actor} → n ≡ length a.entries
    → (asks : List Ask) × IsShort a.facts.book g j asks × Does (gets a.facts asks) a b → LacksNames g n b
stripe_lacks g j n {a = a} {b = b} e (asks, short, does) none =
    let told = asks_told a.facts asks n b.entries e refl does in
    let f = facts_stay does in
    let many = short_has_lost a.facts.book g j asks short (ap away_in (sym told) ∙ none) in
    subst (λ (l : List Ask). bears b.facts.book g < length (lost_in l)) (sym told) (subst (λ
    (k : Facts). bears k.book g < length (lost_in asks)) (sym f) many)

pub stripe_from : (g j n : ℕ) {a b : Actor} → n ≡ length a.entries
    → (asks : List Ask) × IsShort a.facts.book g j asks × Does (gets a.facts asks) a b → n ≤ length b.entries
stripe_from g j n {a = a} e (asks, short, does) = let low = from_low a.facts asks does in omega arith

pub stripe_short : (g j n : ℕ) (o : IntoOutcome) {a b : Actor} → n ≡ length a.entries
    → (asks : List Ask) × IsShort a.facts.book g j asks × Does (gets a.facts asks) a b
    → ((v : Vec ℕ Global) → IsShortOf (bears b.facts.book g) g j (asks_in (drop n b.entries)) (with_bytes o v))
    → ReadsStripe g j (Err o) a b
stripe_short g j n o {a = a} {b = b} e (asks, short, does) is =
    let told = asks_told a.facts asks n b.entries e refl does in
    let f = facts_stay does in (
      gets a.facts asks,
      (λ v. ends_short a.facts g j asks (with_bytes o v) short
          (subst (λ (k : Facts). IsShortOf (bears k.book g) g j asks (with_bytes o v)) f (subst (λ
          (l : List Ask). IsShortOf (bears b.facts.book g) g j l (with_bytes o v)) told (is v)))),
      does,
    )

-- ---- the bytes of a stripe

-- they stand behind those of the stripes before it
up_to : (f : Facts) (g n : ℕ) → n * width_at f.book.shape.stages g * f.book.chunk
    ≤ (n + 1) * width_at f.book.shape.stages g * f.book.chunk
up_to f g n =
    let w = width_at f.book.shape.stages g in
    let low : n * w ≤ (n + 1) * w = mul-le-mul_right w (let z : n ≤ n + 1 = omega arith in z) in
    mul-le-mul_right f.book.chunk low

pub stripe_bytes : (f : Facts) (g n : ℕ) → bytes_before f g (n + 1) ≡ bytes_before f g n ++ bytes_at f g n
stripe_bytes f g n =
    let p = n * width_at f.book.shape.stages g * f.book.chunk in
    let m = (n + 1) * width_at f.book.shape.stages g * f.book.chunk in
    sym (take-append-drop p (take m f.bytes))
    ∙ ap (λ (l : List ℕ). l ++ drop p (take m f.bytes)) (take-take p m f.bytes (up_to f g n))

-- a front of them, behind those, is a front of the file's
pub front_of : (f : Facts) (g n : ℕ) (front rest : List ℕ) → bytes_at f g n ≡ front ++ rest
    → (others : List ℕ) × (f.bytes ≡ (bytes_before f g n ++ front) ++ others)
front_of f g n front rest e =
    let m = (n + 1) * width_at f.book.shape.stages g * f.book.chunk in
    let others = rest ++ drop m f.bytes in (
      others,
      sym (take-append-drop m f.bytes)
          ∙ ap (λ (l : List ℕ). l ++ drop m f.bytes) (stripe_bytes f g n
          ∙ ap (λ (l : List ℕ). bytes_before f g n ++ l) e ∙ sym (append_assoc (bytes_before f g n) front rest))
          ∙ append_assoc (bytes_before f g n ++ front) rest (drop m f.bytes),
    )

-- they are what its chunks have, as far as the file reaches
pub chunk_bytes : (f : Facts) (g n : ℕ) → IsFile f
    → take (length f.bytes - n * width_at f.book.shape.stages g * f.book.chunk) (concat (chunks_of_stripe f g n))
    ≡ bytes_at f g n
chunk_bytes f g n file =
    let w = width_at f.book.shape.stages g in
    let p = n * w * f.book.chunk in
    let front = bytes_before f g n in
    let chunks = concat (chunks_of_stripe f g n) in
    let low = length-take p f.bytes in
    let joined = stripe-joined f.book.chunk f.bytes w n front file.layout.chunk.0 refl in
    let e : length f.bytes - length front ≡ length f.bytes - p = omega (arith, low) in
    append_cancel_left front _ _
    (ap (λ (l : List ℕ). l ++ take (length f.bytes - p) chunks) (sym (take_all (length f.bytes) front (omega (
      arith,
      low,
    ))))
    ∙ ap (λ (k : ℕ). take (length f.bytes) front ++ take k chunks) (sym e)
    ∙ sym (take-append (length f.bytes) front chunks) ∙ joined ∙ stripe_bytes f g n)

-- nothing was handed on of a stripe
pub none_until : (bytes : List ℕ) (o : IntoOutcome) (before : List ℕ) → HandsUntil bytes o before before
none_until bytes (into.Bytes g count from) before = refl
none_until bytes (into.DataLost g j lost) before = refl
none_until bytes (into.Unreachable g j x server) before = refl
none_until bytes into.Absent before = refl
none_until bytes into.Removed before = refl
none_until bytes into.Memory before = ([], bytes, refl, sym (append-nil before))

-- ---- stripes in turn

pub record Reading (g n : ℕ) (before now : List ℕ) (a b : Actor) : Type 0 where
  pub asks : List Ask
  pub served : AreServed a.facts.book g n asks
  pub does : Does (gets a.facts asks) a b
  pub told : now ≡ before ++ bytes_before a.facts g n

pub none_read : (g : ℕ) (before : List ℕ) (a : Actor) → Reading g 0 before before a a
none_read g before a = record {
  asks = [];
  served = refl;
  does = nothing a;
  told = let w = width_at a.facts.book.shape.stages g in
      let z : 0 * w * a.facts.book.chunk ≡ 0 = omega arith in
      sym (append-nil before) ∙ ap (λ (k : ℕ). before ++ take k a.facts.bytes) (sym z);
}

pub one_read : (g n : ℕ) (before now : List ℕ) (r : Result Unit IntoOutcome) (more : List ℕ) {x : Unit} {a b c : Actor}
    → Reading g n before now a b → r ≡ Ok x → ReadsStripe g n r b c → HandsStripe (bytes_at b.facts g n) r now more
    → Reading g (n + 1) before more a c
one_read g n before now r more {x = x} {a = a} {b = b} {c = c} t e read hands =
    let (asks, is, does) = subst (λ (z : Result Unit IntoOutcome). ReadsStripe g n z b c) e read in
    let told = subst (λ (z : Result Unit IntoOutcome). HandsStripe (bytes_at b.facts g n) z now more) e hands in
    let f = facts_stay t.does in
    record {
      asks = t.asks ++ asks;
      served = subst (λ (k : ℕ). AreServed a.facts.book g k (t.asks ++ asks)) (let z : suc n ≡ n + 1 = omega arith in z)
          (t.asks, asks, t.served, subst (λ (k : Facts). IsServed k.book g n asks) f is, refl);
      does = does_on t.asks asks t.does does;
      told = told ∙ ap (λ (k : Facts). now ++ bytes_at k g n) f ∙ ap (λ (l : List ℕ). l ++ bytes_at a.facts g n) t.told
          ∙ append_assoc before (bytes_before a.facts g n) (bytes_at a.facts g n)
          ∙ ap (λ (l : List ℕ). before ++ l) (sym (stripe_bytes a.facts g n));
    }

pub ended_there : (g n : ℕ) (before now : List ℕ) (o : IntoOutcome) {a b c : Actor} → Reading g n before now a b
    → ReadsStripe g n (Err o) b c → ReadsAll g (Err o) a c
ended_there g n before now o {a = a} t (cs, is, does) = (
  gets a.facts t.asks ++ cs,
  (λ v. (
    n,
    t.asks,
    cs,
    t.served,
    subst (λ (k : Facts). IsEnd k g n (with_bytes o v) cs) (facts_stay t.does) (is v),
    refl,
  )),
  then t.does does,
)

-- what was handed on before the end
pub ended_hands : (v : Vec ℕ Global) (g n : ℕ) (before now after : List ℕ) (o : IntoOutcome) {a b c : Actor}
    → Reading g n before now a b → ReadsStripe g n (Err o) b c → HandsUntil (bytes_at b.facts g n) o now after
    → HandsOn a.facts o before after
ended_hands v g n before now after o {a = a} {b = b} t (cs, is, does) hands =
    let same = facts_stay t.does in
    until a.facts g n before now after o cs t.told (subst (λ (k : Facts). IsEnd k g n (with_bytes o v) cs) same (is v))
    (subst (λ (k : Facts). HandsUntil (bytes_at k g n) o now after) same hands)
  where
    until : (f : Facts) (g n : ℕ) (before now after : List ℕ) (o : IntoOutcome) (cs : List Call)
        → now ≡ before ++ bytes_before f g n → IsEnd f g n (with_bytes o v) cs
        → HandsUntil (bytes_at f g n) o now after → HandsOn f o before after
    until f g n before now after (into.Bytes h count from) cs told end hands = absurd end
    until f g n before now after into.Absent cs told end hands = absurd end
    until f g n before now after into.Removed cs told end hands = absurd end
    until f g n before now after (into.DataLost h k lost) cs told (asks, eg, ej, short, calls, is, many) hands =
        (bytes_before f h k, hands ∙ told ∙ (λ i. before ++ bytes_before f (sym eg i) (sym ej i)), refl)
    until f g n before now after (into.Unreachable h k x server) cs told (asks, eg, ej, short, calls, few, gone) hands =
        (bytes_before f h k, hands ∙ told ∙ (λ i. before ++ bytes_before f (sym eg i) (sym ej i)), refl)
    until f g n before now after into.Memory cs told end (front, rest, e, taken) = (
      bytes_before f g n ++ front,
      taken ∙ ap (λ (l : List ℕ). l ++ front) told ∙ append_assoc before (bytes_before f g n) front,
      front_of f g n front rest e,
    )

-- want of memory before the first stripe
pub nothing_cut : (f : Facts) (g j : ℕ) → IsCut f g j []
nothing_cut f g j =
    let p = begins f.book g (pieces_at f.book g j) 0
    (Rattle.mf_places.specs.Generations.parities_of_stripe f.book g j) []
    (opened_nil (map (homes_of f.book g) (pieces_at f.book g j)) 0
    (Rattle.mf_places.specs.Generations.parities_of_stripe f.book g j)) in (
      [],
      p.rest,
      record {
        pieces = p.all.pieces;
        parities = p.all.parities;
        order = p.all.order;
        each = p.all.each;
        after = subst (λ (k : ℕ). IsAsked k (Rattle.mf_places.specs.Generations.parities_of_stripe f.book g j)
            p.all.parities)
            (let z : missing p.all.pieces + 0 ≡ missing p.all.pieces = omega arith in z) p.all.after;
      },
      inl refl,
    )

-- all stripes have all bytes
times_more : (a b c : ℕ) → a ≤ b → a * c ≤ b * c
times_more a b c h = mul-le-mul_right c h

pub all_bytes : (f : Facts) (g : ℕ) → IsFile f → g < stages f → bytes_before f g (stripes f.book g) ≡ f.bytes
all_bytes f g file low =
    let w = width_at f.book.shape.stages g in
    let wide : 0 < w = (file.layout.shape.chain.widths g low).0 in
    let size : 0 < f.book.chunk = file.layout.chunk.0 in
    let chunks = div_ceil_times f.book.bytes f.book.chunk size in
    let rows = div_ceil_times (chunks_of f.book) w wide in
    let long : length f.bytes ≡ f.book.bytes = file.long in
    let more = times_more (chunks_of f.book) (stripes f.book g * w) f.book.chunk rows.0 in
    let few = chunks.0 in
    take_all (stripes f.book g * w * f.book.chunk) f.bytes
    (let z : length f.bytes ≤ stripes f.book g * w * f.book.chunk = omega arith in z)

pub all_here : (f : Facts) (g : ℕ) (asks : List Ask) → IsFile f → g < stages f
    → AreServed f.book g (stripes f.book g) asks → chunks_of f.book ≡ here_in asks
all_here f g asks file low served =
    let w = width_at f.book.shape.stages g in
    let wide : 0 < w = (file.layout.shape.chain.widths g low).0 in
    let rows = div_ceil_times (chunks_of f.book) w wide in
    let enough : chunks_of f.book ≤ stripes f.book g * w = rows.0 in
    let e = served_here f.book g (stripes f.book g) asks served in omega arith

-- ---- the actor has the generation pinned

pub pinner_reads : (g j : ℕ) (f : Facts) (asks : List Ask) {a b : Actor} → IsPinned g a → Does (gets f asks) a b
    → j < stripes a.facts.book g → IsReader g j b
pinner_reads g j f asks {a = a} {b = b} p does low = record {
  stage = subst (λ (k : Facts). g < length k.book.shape.stages) (sym (facts_stay does)) p.stage;
  pinned = subst (λ (n : ℕ). 0 < on g n b.view.work) (sym (hold_stays f asks does)) (subst (λ
      (n : ℕ). 0 < on g a.view.hold n) (sym (work_stays f asks does)) p.pinned);
  stripe = subst (λ (k : Facts). j < stripes k.book g) (sym (facts_stay does)) low;
}

pub hold_pinned : (g : ℕ) (a : Actor) → IsKept a → g + 1 ≡ a.view.hold → IsPinned g a
hold_pinned g a kept e = let b = bit_is a.view.hold (g + 1) (sym e) in let low = kept.ready.hold in
    record { stage = omega arith; pinned = omega arith }

pub work_pinned : (g : ℕ) (missed : List ℕ) {a b : Actor} → Goes (pin Work missed (pinned.At g)) a b → IsPinned g b
work_pinned g missed {a = a} {b = b} goes =
    let e : b.view.work ≡ g + 1 = ap (λ (z : Actor). z.view.work) goes.becomes
    ∙ tried_work a.facts missed (pinned.At g) a.view in
    let d = bit_is b.view.work (g + 1) e in
    record {
      stage = subst (λ (k : Facts). g < stages k) (sym (ap (λ
          (z : Actor). z.facts) goes.becomes)) (pin_is a.facts missed (pinned.At g) a.view goes.fair).0;
      pinned = omega arith;
    }

-- ---- the whole read

bytes_in : (g h : ℕ) (o : ReadOutcome) (hold : ℕ) (f : Facts) (inner cs : List Call) → IsReadOf f g o inner
    → IsThrough hold g inner cs → IsRead f hold o cs
bytes_in g h (Bytes k bytes from) hold f inner cs is through = (g, inner, is, through)
bytes_in g h (DataLost k j lost) hold f inner cs is through = (g, inner, is, through)
bytes_in g h (Unreachable k j x server) hold f inner cs is through = (g, inner, is, through)
bytes_in g h Memory hold f inner cs is through = (g, inner, is, through)
bytes_in g h Absent hold f inner cs (j, front, rest, served, end, e) through = absurd end
bytes_in g h Removed hold f inner cs (j, front, rest, served, end, e) through = absurd end

pub read_held : (g : ℕ) (o : ReadOutcome) {a b : Actor} → g + 1 ≡ a.view.hold → ReadsOf g o a b → Reads o a b
read_held g o {a = a} e (cs, is, does) = (cs, bytes_in g 0 o a.view.hold a.facts cs cs is (inl (sym e, refl)), does)

pub read_pinned : (g : ℕ) (o : ReadOutcome) (missed : List ℕ) {a b c d : Actor} → 0 ≡ a.view.hold
    → Goes (pin Work missed (pinned.At g)) a b → ReadsOf g o b c
    → Goes (unpin Work) c d → Reads o a d
read_pinned g o missed {a = a} {b = b} {c = c} {d = d} e goes (inner, is, does) frees =
    let f : b.facts ≡ a.facts = ap (λ (z : Actor). z.facts) goes.becomes in
    let calls = pin Work missed (pinned.At g) ∷ inner ++ unpin Work ∷ [] in (
      calls,
      bytes_in g 0 o a.view.hold a.facts inner calls (subst (λ (k : Facts). IsReadOf k g o inner) f is) (inr (
        sym e,
        (missed, refl),
      )),
      then (one goes) (then does (one frees)),
    )

-- where a read of a generation ended
ended : (g : ℕ) (f : Facts) (o : ReadOutcome) (cs : List Call) → Ends f g o cs → IsReadOf f g o cs
ended g f (Bytes h bytes from) cs (j, front, rest, served, end, e) = absurd end
ended g f (DataLost h k lost) cs ends = ends
ended g f (Unreachable h k x server) cs ends = ends
ended g f Memory cs ends = ends
ended g f Absent cs (j, front, rest, served, end, e) = absurd end
ended g f Removed cs (j, front, rest, served, end, e) = absurd end

pub ended_of : (g : ℕ) (o : IntoOutcome) {a b : Actor} → ReadsAll g (Err o) a b → ReadsAny g o a b
ended_of g o {a = a} (cs, ends, does) = (cs, (λ v e. ended g a.facts (with_bytes o v) cs (ends v)), does)

-- a vector of bytes
abbrev pub vector : Global → (bytes : List ℕ) → length bytes < 2 ^ 63 → Vec ℕ Global
vector alloc bytes low = record {
  ptr = null_ptr;
  len = length bytes;
  cap = length bytes;
  alloc = alloc;
  items = bytes;
  ok = (refl, omega arith);
  small = low;
}

pub few_bytes : (f : Facts) → IsFile f → length f.bytes < 2 ^ 63
few_bytes f file = let long = file.long in let most = file.layout.bytes in omega arith

-- the read, with a vector of the file's bytes
pub read_by : (alloc : Global) (g : ℕ) (o : IntoOutcome) {a b : Actor} → (file : IsFile a.facts) → ReadsAny g o a b
    → ReadsOf g (with_bytes o (vector alloc a.facts.bytes (few_bytes a.facts file))) a b
read_by alloc g o {a = a} file (cs, is, does) =
    (cs, is (vector alloc a.facts.bytes (few_bytes a.facts file)) refl, does)

pub into_held : (alloc : Global) (g : ℕ) (o : IntoOutcome) (before after : List ℕ) {a b : Actor} → IsFile a.facts
    → g + 1 ≡ a.view.hold → ReadsAny g o a b → HandsOn a.facts o before after → ReadsInto o before after a b
into_held alloc g o before after {a = a} file held reads (taken, told, are) =
    let v = vector alloc a.facts.bytes (few_bytes a.facts file) in
    record {
      bytes = v;
      reads = read_held g (with_bytes o v) held (read_by alloc g o file reads);
      taken = taken;
      told = told;
      are = are;
    }

pub into_pinned : (alloc : Global) (g : ℕ) (o : IntoOutcome) (missed before after : List ℕ) {a b c d : Actor}
    → IsFile a.facts → 0 ≡ a.view.hold → Goes (pin Work missed (pinned.At g)) a b → ReadsAny g o b c
    → HandsOn b.facts o before after → Goes (unpin Work) c d → ReadsInto o before after a d
into_pinned alloc g o missed before after {a = a} {b = b} file free goes reads (taken, told, are) frees =
    let same : b.facts ≡ a.facts = ap (λ (z : Actor). z.facts) goes.becomes in
    let file' = subst IsFile (sym same) file in
    let v = vector alloc b.facts.bytes (few_bytes b.facts file') in
    record {
      bytes = v;
      reads = read_pinned g (with_bytes o v) missed free goes (read_by alloc g o file' reads) frees;
      taken = taken;
      told = told;
      are = subst (λ (k : Facts). AreTaken k o taken) same are;
    }

-- a read that gave the bytes in one vector gave them in another
pub other_bytes : (f : Facts) (hold : ℕ) (o : IntoOutcome) (cs : List Call) (v w : Vec ℕ Global) → w.items ≡ f.bytes
    → IsRead f hold (with_bytes o v) cs → IsRead f hold (with_bytes o w) cs
other_bytes f hold (into.Bytes g count from) cs v w e (h, inner, (asks, eg, served, calls, bytes, few), through) =
    (h, inner, (asks, eg, served, calls, e, few), through)
other_bytes f hold (into.DataLost g j lost) cs v w e is = is
other_bytes f hold (into.Unreachable g j x server) cs v w e is = is
other_bytes f hold into.Memory cs v w e is = is
other_bytes f hold into.Absent cs v w e is = is
other_bytes f hold into.Removed cs v w e is = is

-- what was collected of a read
pub collected : (o : IntoOutcome) (w : Vec ℕ Global) {a b : Actor} → ReadsInto o [] w.items a b
    → Reads (with_bytes o w) a b
collected o w {a = a} {b = b} r = given o r
  where
    given : (o : IntoOutcome) → ReadsInto o [] w.items a b → Reads (with_bytes o w) a b
    given (into.Bytes g count from) r =
        let (cs, is, does) = r.reads in
        (cs, other_bytes a.facts a.view.hold (into.Bytes g count from) cs r.bytes w (r.told ∙ r.are.0) is, does)
    given (into.DataLost g j lost) r = r.reads
    given (into.Unreachable g j x server) r = r.reads
    given into.Memory r = r.reads
    given into.Absent r = r.reads
    given into.Removed r = r.reads

-- the Work pin is still there after the asks of a read
work_freed : (g : ℕ) (o : ReadOutcome) {a b : Actor} → ReadsOf g o a b → b.view.work ≡ a.view.work
work_freed g o {a = a} {b = b} (cs, is, does) = ap (λ (z : Actor). z.view.work) does.becomes ∙ by_outcome o is
  where
    cut_work : (j : ℕ) (x : List Call) (z : Actor) → IsCut a.facts g j x → (did_all x z).view.work ≡ z.view.work
    cut_work j x z (asks, others, asking, inl e) = ap (λ (l : List Call). (did_all l z).view.work) e
        ∙ work_all a.facts asks z
    cut_work j x z (asks, others, asking, inr (n, others', is, e)) =
        ap (λ (l : List Call). (did_all l z).view.work) e
        ∙ ap (λ (y : Actor). y.view.work) (did_both (gets a.facts asks) (get n got.Memory ∷ []) z)
        ∙ work_all a.facts asks z

    end_work : (j : ℕ) (o : ReadOutcome) (x : List Call) (z : Actor) → IsEnd a.facts g j o x
        → (did_all x z).view.work ≡ z.view.work
    end_work j (DataLost h k lost) x z (
      asks,
      eg,
      ej,
      short,
      e,
      is,
      many,
    ) = ap (λ (l : List Call). (did_all l z).view.work) e ∙ work_all a.facts asks z
    end_work j (Unreachable h k n s) x z (
      asks,
      eg,
      ej,
      short,
      e,
      few,
      gone,
    ) = ap (λ (l : List Call). (did_all l z).view.work) e ∙ work_all a.facts asks z
    end_work j Memory x z cut = cut_work j x z cut
    end_work j Absent x z is = absurd is
    end_work j Removed x z is = absurd is
    end_work j (Bytes h bytes from) x z is = absurd is

    ends_work : (o : ReadOutcome) → Ends a.facts g o cs → (did_all cs a).view.work ≡ a.view.work
    ends_work o (j, front, rest, served, end, e) =
        ap (λ (l : List Call). (did_all l a).view.work) e
        ∙ ap (λ (y : Actor). y.view.work) (did_both (gets a.facts front) rest a)
        ∙ end_work j o rest (did_all (gets a.facts front) a) end
        ∙ work_all a.facts front a

    by_outcome : (o : ReadOutcome) → IsReadOf a.facts g o cs → (did_all cs a).view.work ≡ a.view.work
    by_outcome (Bytes h bytes from) (
      asks,
      eg,
      served,
      e,
      same,
      count,
    ) = ap (λ (l : List Call). (did_all l a).view.work) e ∙ work_all a.facts asks a
    by_outcome (DataLost h k lost) is = ends_work (DataLost h k lost) is
    by_outcome (Unreachable h k n s) is = ends_work (Unreachable h k n s) is
    by_outcome Memory is = ends_work Memory is
    by_outcome Absent is = ends_work Absent is
    by_outcome Removed is = ends_work Removed is

pub may_free : (g : ℕ) (o : ReadOutcome) (missed : List ℕ) {a b c : Actor}
    → Goes (pin Work missed (pinned.At g)) a b → ReadsOf g o b c → 0 < c.view.work
may_free g o missed {a = a} {b = b} {c = c} goes read =
    let e : b.view.work ≡ g + 1 = ap (λ (z : Actor). z.view.work) goes.becomes
    ∙ tried_work a.facts missed (pinned.At g) a.view in
    let d = work_freed g o read in omega arith

pub frees_pin : (alloc : Global) (g : ℕ) (o : IntoOutcome) (missed : List ℕ) {a b c : Actor} → IsFile a.facts
    → Goes (pin Work missed (pinned.At g)) a b → ReadsAny g o b c → 0 < c.view.work
frees_pin alloc g o missed {a = a} {b = b} file goes reads =
    let same : b.facts ≡ a.facts = ap (λ (z : Actor). z.facts) goes.becomes in
    let file' = subst IsFile (sym same) file in
    may_free g (with_bytes o (vector alloc b.facts.bytes (few_bytes b.facts file'))) missed goes
    (read_by alloc g o file' reads)
