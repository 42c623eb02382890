-- The entries of a repair are few: at most 588 a stripe.
use Rattle.std.proofs.Common.{◌≡◌, ℕ, zero, suc, ◌+◌, ◌*◌, ◌^◌, ◌<◌, ◌≤◌, List, [], ◌∷◌, ◌++◌, length, map, take}
use Rattle.std.proofs.Common.{refl, sym, true}
use Rattle.std.proofs.Common.{ap, ◌∙◌, subst, ⊎_elim, arith, append_assoc, length-append}
use Rattle.std.specs.List.{range_with_len, flat_map}
use Rattle.std.proofs.lemmas.List.FromFn.{length-range_with_len, length-map-range_with_len}
use Rattle.std.proofs.lemmas.List.{length-map}
use Rattle.std.proofs.lemmas.List.{length-take}
use Rattle.std.proofs.lemmas.Nat.{mul-le}
use Rattle.mf_machine.specs.declared.answer.Slot.TheVariants.{Work}
use Rattle.mf_machine.specs.declared.answer.State.{State}
use Rattle.mf_machine.specs.declared.answer.State.TheVariants.{Unborn, Here, Lost, Away}
use Rattle.mf_places.specs.declared.Name.{Name}
use Rattle.mf_places.specs.declared.Name.TheVariants as name
use Rattle.mf_places.specs.Facts.{BookFacts, IsBook, chunks_of}
use Rattle.mf_places.specs.Generations.{pieces_of, pieces_at, stripe_names, data_of_stripe, copy_of_stripe}
use Rattle.mf_places.specs.Generations.{copies_of_stripe, parities_of_stripe}
use Rattle.mf_places.proofs.Counts.{div_ceil-le}
use Rattle.mf_shape.specs.Stages.{width_at, copies_at, parities_at}
use Rattle.mf_vault.specs.Facts.{Facts, stages}
use Rattle.mf_vault.specs.declared.answers.Pinned.TheVariants as pinned
use Rattle.mf_vault.specs.Actor as call
use Rattle.mf_vault.specs.Actor.{Actor, Call, did, entry_of}
use Rattle.mf_vault.specs.declared.answers.Got.TheVariants as got
use Rattle.mf_vault.specs.Licence.{Does, entries_of}
use Rattle.mf_read.specs.Asking.{Found, Ask, here, lost, away, still, IsAsked, AreAsked, IsAsking, IsCut, homes_of}
use Rattle.mf_read.specs.Asking.{joined, missing, gets}
use Rattle.mf_read.specs.Reading.{stripes}
use Rattle.mf_vault.proofs.Entering.{pin_is}
use Rattle.mf_repair.specs.declared.outcome.RepairOutcome.{RepairOutcome}
use Rattle.mf_repair.specs.Repair as licence
use Rattle.mf_repair.specs.Repair.{probes, if_lost, lost_names, restores, IsMended, AreMended, IsCutMend, IsEnd}
use Rattle.mf_repair.specs.Repair.{IsRepairOf, IsRepair, Repairs}

entries_append : (xs ys : List Call) → entries_of (xs ++ ys) ≡ entries_of xs ++ entries_of ys
entries_append [] ys = refl
entries_append (c ∷ xs) ys = ap (λ l. entry_of c ++ l) (entries_append xs ys)
    ∙ sym (append_assoc (entry_of c) (entries_of xs) (entries_of ys))

abbrev entries : List Call → ℕ
entries calls = length (entries_of calls)

entries_two : (xs ys : List Call) → entries (xs ++ ys) ≡ entries xs + entries ys
entries_two xs ys = ap length (entries_append xs ys) ∙ length-append (entries_of xs) (entries_of ys)

-- each call has at most one
one_entry : (c : Call) → length (entry_of c) ≤ 1
one_entry (call.cut_off s) = omega arith
one_entry (call.pin slot gs p) = omega arith
one_entry (call.unpin slot) = omega arith
one_entry (call.begin b) = omega arith
one_entry call.end = omega arith
one_entry (call.publish n) = omega arith
one_entry (call.probe x s) = omega arith
one_entry (call.put x) = omega arith
one_entry (call.restore x) = omega arith
one_entry (call.close g c) = omega arith
one_entry (call.discard x b) = omega arith
one_entry (call.get x (got.Here c)) = omega arith
one_entry (call.get x (got.Lost l)) = omega arith
one_entry (call.get x (got.Away s)) = omega arith
one_entry (call.get x got.Memory) = omega arith
one_entry (call.lose x l b) = omega arith

entries_le : (calls : List Call) → entries calls ≤ length calls
entries_le [] = omega arith
entries_le (c ∷ calls) = let a = length-append (entry_of c) (entries_of calls) in let b = one_entry c in
    let r = entries_le calls in omega arith

-- ---- how many names a stripe has

flat_le : {A : Type 0} (f : ℕ → List A) (n : ℕ) → ((c : ℕ) → length (f c) ≡ n) → (xs : List ℕ)
    → length (flat_map f xs) ≡ length xs * n
flat_le f n h [] = omega arith
flat_le f n h (x ∷ xs) = let a = length-append (f x) (flat_map f xs) in let r = flat_le f n h xs in let e = h x in
    let m : suc (length xs) * n ≡ n + length xs * n = omega arith in omega arith

record Narrow (b : BookFacts) (g j : ℕ) : Type 0 where
  pub pieces : pieces_of b g j ≤ 64
  pub copies : copies_at b.shape.stages g ≤ 2
  pub parities : parities_at b.shape.stages g ≤ 4

narrow : (b : BookFacts) → IsBook b → (g j : ℕ) → g < length b.shape.stages → Narrow b g j
narrow b book g j low =
    let w = width_at b.shape.stages g in
    let wide = (book.shape.chain.widths g low).1 in
    let e : (j + 1) * w ≡ j * w + w = omega arith in
    record {
      pieces = omega arith;
      copies = book.shape.chain.copies g low;
      parities = (book.shape.chain.parities g low).1;
    }

names_few : (b : BookFacts) (g j : ℕ) → Narrow b g j → length (stripe_names b g j) ≤ 196
unfolding stripe_names
names_few b g j n =
    let k = pieces_of b g j in
    let c = copies_at b.shape.stages g in
    let a = length-append (data_of_stripe b g j ++ copies_of_stripe b g j) (parities_of_stripe b g j) in
    let d = length-append (data_of_stripe b g j) (copies_of_stripe b g j) in
    let pieces = length-range_with_len (j * width_at b.shape.stages g) k in
    let chunks = length-map (pieces_at b g j) (λ i. name.Data i) in
    let copies = flat_le (copy_of_stripe b g j) k (λ e. length-map (pieces_at b g j) (λ i. name.Copy e i) ∙ pieces)
    (range_with_len 0 c) in
    let range = length-range_with_len 0 c in
    let parities = length-map-range_with_len (λ p. name.Parity (width_at b.shape.stages g) j p) 0
    (parities_at b.shape.stages g) in
    let few = n.pieces in let two = n.copies in let four = n.parities in
    let is : length (stripe_names b g j)
    ≡ length ((data_of_stripe b g j ++ copies_of_stripe b g j) ++ parities_of_stripe b g j) = refl in
    let most : length (range_with_len 0 c) * k ≤ 2 * 64 = mul-le (length (range_with_len 0 c)) k 2 64
    (omega arith) few in
    omega arith

-- ---- how long an asking is

asked_le : (n : ℕ) (names : List Name) (asks : List Ask) → IsAsked n names asks → length asks ≤ length names
asked_le zero names asks is = let e = ap length is in omega arith
asked_le (suc n) [] asks is = let e = ap length is in omega arith
asked_le (suc n) (x ∷ names) [] is = absurd is
asked_le (suc n) (x ∷ names) (a ∷ asks) (e, is) = let r = asked_le (still a.found n) names asks is in omega arith

pieces_le : (b : BookFacts) (g : ℕ) (chunks : List ℕ) (pieces : List (List Ask)) → copies_at b.shape.stages g ≤ 2
    → AreAsked b g chunks pieces → length (joined pieces) ≤ 3 * length chunks
pieces_le b g [] pieces two is = let e = ap (λ l. length (joined l)) is in omega arith
pieces_le b g (i ∷ chunks) [] two is = absurd is
pieces_le b g (i ∷ chunks) (asks ∷ pieces) two (is, rest) =
    let a = length-append asks (joined pieces) in
    let r = pieces_le b g chunks pieces two rest in
    let m = asked_le 1 (homes_of b g i) asks is in
    let c = length-map-range_with_len (λ d. name.Copy d i) 0 (copies_at b.shape.stages g) in
    let h : length (homes_of b g i) ≡ suc (length (map (λ d. name.Copy d i) (range_with_len 0
    (copies_at b.shape.stages g)))) = refl in
    let s : length (i ∷ chunks) ≡ suc (length chunks) = refl in
    omega arith

asking_few : (b : BookFacts) (g j : ℕ) (asks : List Ask) → Narrow b g j → IsAsking b g j asks → length asks ≤ 196
asking_few b g j asks n is =
    let e = ap length is.order ∙ length-append (joined is.pieces) is.parities in
    let p = pieces_le b g (pieces_at b g j) is.pieces n.copies is.each in
    let pieces = length-range_with_len (j * width_at b.shape.stages g) (pieces_of b g j) in
    let q = asked_le (missing is.pieces) (parities_of_stripe b g j) is.parities is.after in
    let parities = length-map-range_with_len (λ p. name.Parity (width_at b.shape.stages g) j p) 0
    (parities_at b.shape.stages g) in
    let few = n.pieces in let four = n.parities in
    omega arith

gets_long : (f : Facts) (asks : List Ask) → length (gets f asks) ≡ length asks
gets_long f [] = refl
gets_long f (a ∷ asks) = ap (λ n. suc n) (gets_long f asks)

cut_few : (f : Facts) (g j : ℕ) (calls : List Call) → Narrow f.book g j → IsCut f g j calls → length calls ≤ 197
cut_few f g j calls n (asks, rest, asking, how) =
    let most = asking_few f.book g j (asks ++ rest) n asking in
    let two = length-append asks rest in
    let long = gets_long f asks in
    ⊎_elim
    (λ e. let l = ap length e in omega arith)
    (λ (x, others, is, e). let l = ap length e ∙ length-append (gets f asks)
    (call.get x got.Memory ∷ []) in omega arith)
    how

-- ---- the calls of a stripe

probes_few : (names : List Name) (states : List State) → length (probes names states) ≤ length names
probes_few [] states = omega arith
probes_few (x ∷ names) [] = omega arith
probes_few (x ∷ names) (s ∷ states) = let r = probes_few names states in omega arith

if_few : (x : Name) (s : State) → length (if_lost x s) ≤ 1
if_few x Unborn = omega arith
if_few x Here = omega arith
if_few x (Lost l) = omega arith
if_few x (Away y) = omega arith

lost_few : (names : List Name) (states : List State) → length (lost_names names states) ≤ length names
lost_few [] states = omega arith
lost_few (x ∷ names) [] = omega arith
lost_few (x ∷ names) (s ∷ states) = let r = lost_few names states in let m = if_few x s in
    let a = length-append (if_lost x s) (lost_names names states) in omega arith

restores_long : (names : List Name) → length (restores names) ≡ length names
restores_long [] = refl
restores_long (x ∷ names) = ap (λ n. suc n) (restores_long names)

mended_few : {f : Facts} {g j : ℕ} {calls : List Call} → Narrow f.book g j → IsMended f g j calls → length calls ≤ 600
mended_few {f = f} {g = g} {j = j} n (licence.whole states long none) =
    let names = names_few f.book g j n in let p = probes_few (stripe_names f.book g j) states in omega arith
mended_few {f = f} {g = g} {j = j} n (licence.mended states asks long some served) =
    let all = stripe_names f.book g j in
    let names = names_few f.book g j n in
    let p = probes_few all states in
    let a = length-append (probes all states) (gets f asks ++ restores (lost_names all states)) in
    let b = length-append (gets f asks) (restores (lost_names all states)) in
    let l = gets_long f asks in
    let m = asking_few f.book g j asks n served.0 in
    let r = restores_long (lost_names all states) in
    let q = lost_few all states in
    omega arith

cut_mend_few : {f : Facts} {g j : ℕ} {calls : List Call} → Narrow f.book g j → IsCutMend f g j calls
    → length calls ≤ 600
cut_mend_few {f = f} {g = g} {j = j} n (licence.in_probes states long) =
    let names = names_few f.book g j n in let p = probes_few (stripe_names f.book g j) states in omega arith
cut_mend_few {f = f} {g = g} {j = j} n (licence.in_gets states cut long some is) =
    let all = stripe_names f.book g j in
    let names = names_few f.book g j n in
    let p = probes_few all states in
    let a = length-append (probes all states) cut in
    let c = cut_few f g j cut n is in
    omega arith
cut_mend_few {f = f} {g = g} {j = j} n (licence.in_restores states asks k long some served) =
    let all = stripe_names f.book g j in
    let names = names_few f.book g j n in
    let p = probes_few all states in
    let front = take k (lost_names all states) in
    let a = length-append (probes all states) (gets f asks ++ restores front) in
    let b = length-append (gets f asks) (restores front) in
    let l = gets_long f asks in
    let m = asking_few f.book g j asks n served.0 in
    let r = restores_long front in
    let t = length-take k (lost_names all states) in
    let q = lost_few all states in
    omega arith

short_few : {f : Facts} {g j : ℕ} {calls : List Call} → Narrow f.book g j → licence.IsShortMend f g j calls
    → length calls ≤ 600
short_few {f = f} {g = g} {j = j} n s =
    let all = stripe_names f.book g j in
    let names = names_few f.book g j n in
    let p = probes_few all s.states in
    let a = ap length s.order ∙ length-append (probes all s.states) (gets f s.asks) in
    let l = gets_long f s.asks in
    let m = asking_few f.book g j s.asks n s.short.0 in
    omega arith

end_few : {f : Facts} {g j : ℕ} {o : RepairOutcome} {calls : List Call} → Narrow f.book g j → IsEnd f g j o calls
    → length calls ≤ 600
end_few n (licence.data_lost calls s many) = short_few n s
end_few n (licence.unreachable calls x server others s few is) = short_few n s
end_few n (licence.no_memory calls cut) = cut_mend_few n cut

all_few : (f : Facts) (g n : ℕ) (calls : List Call) → ((j : ℕ) → Narrow f.book g j) → AreMended f g n calls
    → length calls ≤ n * 600
all_few f g zero calls narrow is = let e = ap length is in omega arith
all_few f g (suc n) calls narrow (front, last, before, is, e) =
    let a = ap length e ∙ length-append front last in
    let r = all_few f g n front narrow before in
    let m = mended_few (narrow n) is in
    omega arith

stripes_few : (b : BookFacts) (g : ℕ) → IsBook b → g < length b.shape.stages → stripes b g ≤ 1024
stripes_few b g book low =
    let wide : 0 < width_at b.shape.stages g = let r = (book.shape.chain.widths g low).0 in omega arith in
    let d = div_ceil-le (chunks_of b) (width_at b.shape.stages g) wide in
    let c = book.chunks in omega arith

-- a repair of a generation
pub generation_few : {f : Facts} {g : ℕ} {o : RepairOutcome} {calls : List Call} → IsBook f.book → g < stages f
    → IsRepairOf f g o calls → length (entries_of calls) < 2 ^ 20
generation_few {f = f} {g = g} book low (licence.repaired calls are) =
    let n = all_few f g (stripes f.book g) calls (λ j. narrow f.book book g j low) are in
    let s = stripes_few f.book g book low in
    let l = entries_le calls in omega arith
generation_few {f = f} {g = g} book low (licence.ended o j front last less are end) =
    let n = all_few f g j front (λ k. narrow f.book book g k low) are in
    let m = end_few (narrow f.book book g j low) end in
    let s = stripes_few f.book g book low in
    let a = length-append front last in
    let l = entries_le (front ++ last) in omega arith

by_licence : {a b : Actor} {o : RepairOutcome} {calls : List Call} → IsBook a.facts.book → IsRepair a.facts o calls
    → Does calls a b → length (entries_of calls) < 2 ^ 24
by_licence book licence.busy d = omega arith
by_licence book (licence.absent gs) d = omega arith
by_licence book (licence.removed gs) d = omega arith
by_licence {a = a} book (licence.through o gs g inner is) d =
    let n = generation_few book (pin_is a.facts gs (pinned.At g) (did (call.begin true) a).view d.fair.1.0).0 is in
    let e = entries_two inner (call.unpin Work ∷ call.end ∷ []) in
    omega arith

pub entries_few : {o : RepairOutcome} {a b : Actor} → IsBook a.facts.book → (r : Repairs o a b)
    → length (entries_of r.calls) < 2 ^ 24
entries_few book r = by_licence book r.licence r.does
