-- How many generations of a file were closed.
use Rattle.std.proofs.Common.{◌≡◌, ℕ, zero, suc, ◌+◌, ◌<◌, ◌≤◌, true, false, List, [], ◌∷◌, ◌++◌, length, filter}
use Rattle.std.proofs.Common.{Option, refl, sym, ap, ◌∙◌, subst, arith, inl, inr}
use mathlib.Core.Logic.{dite}
use native.Mathlib.Decide.{ℕ_discrete}
use Rattle.mf_machine.specs.declared.answer.Closed.{Closed}
use Rattle.mf_machine.specs.declared.answer.Closed.TheVariants as closing
use Rattle.mf_machine.specs.declared.answer.Slot.TheVariants.{Hold, Work}
use Rattle.mf_machine.specs.declared.answer.State.TheVariants as state
use Rattle.mf_machine.specs.declared.view.Made.{Made}
use Rattle.mf_machine.specs.declared.view.View.{View}
use Rattle.mf_machine.specs.Counts.{bit, times}
use Rattle.mf_machine.specs.Steps as row
use Rattle.mf_machine.specs.Words.{number_of}
use Rattle.mf_machine.proofs.Lists.{bit_is, bit_not, times-append}
use Rattle.mf_vault.specs.declared.answers.Got.TheVariants as got
use Rattle.mf_vault.specs.declared.answers.Pinned.TheVariants as pinned
use Rattle.mf_vault.specs.Facts.{Facts, stages}
use Rattle.mf_vault.specs.Actor.{Actor, Call, did, seen}
use Rattle.mf_vault.specs.Actor as call
use Rattle.mf_vault.specs.Answers.{LooksRise}
use Rattle.mf_vault.specs.Licence.{Does, AreFair, did_all}
use Rattle.mf_vault.proofs.Growing.{tried_made}
use Rattle.mf_vault.proofs.Leaving.{did_both}
use Rattle.mf_convert.specs.declared.change.Change.{Change}
use Rattle.mf_convert.specs.Create as create
use Rattle.mf_convert.specs.Create.{IsCreate, Creates, first_names}
use Rattle.mf_convert.specs.Remove as remove
use Rattle.mf_convert.specs.Remove.{IsRemove, Removes}
use Rattle.mf_convert.specs.Convert as convert
use Rattle.mf_convert.specs.Convert.{IsConversion, IsConvert, Converts, whole}
use Rattle.mf_read.specs.declared.outcome.ReadOutcome.{ReadOutcome}
use Rattle.mf_read.specs.declared.outcome.ReadOutcome.TheVariants as read
use Rattle.mf_read.specs.Reading.{IsThrough, IsRead, Reads}
use Rattle.mf_repair.specs.declared.outcome.RepairOutcome.{RepairOutcome}
use Rattle.mf_repair.specs.Repair as repair
use Rattle.mf_repair.specs.Repair.{IsRepair, Repairs}
use Rattle.mf_reclaim.specs.declared.outcome.ReclaimOutcome.{ReclaimOutcome}
use Rattle.mf_reclaim.specs.Reclaim as reclaim
use Rattle.mf_reclaim.specs.Reclaim.{Learns, IsReclaim, Reclaims, closes, discards, free_names, is_done}
use Rattle.mf_crew.specs.Tales.{reclaim_tale}
use Rattle.mf_crew.proofs.Counting.{IsMute, AreMute, whole_mute, cut_mute, create_probes_mute, brings_mute, read_mute}
use Rattle.mf_crew.proofs.Counting.{repair_mute, discards_mute}

-- ---- sums over the generations below q

abbrev pub sum_up : ℕ → (ℕ → ℕ) → ℕ
sum_up zero h = 0
sum_up (suc q) h = sum_up q h + h q

pub sum_same : (q : ℕ) (h k : ℕ → ℕ) → ((g : ℕ) → g < q → h g ≡ k g) → sum_up q h ≡ sum_up q k
sum_same zero h k e = refl
sum_same (suc q) h k e =
    let r = sum_same q h k (λ g low. e g (omega arith)) in let one = e q (omega arith) in omega arith

pub sum_both : (q : ℕ) (h k : ℕ → ℕ) → sum_up q (λ g. h g + k g) ≡ sum_up q h + sum_up q k
sum_both zero h k = refl
sum_both (suc q) h k = let r = sum_both q h k in omega arith

sum_beyond : (q n : ℕ) → q ≤ n → sum_up q (bit n) ≡ 0
sum_beyond zero n low = refl
sum_beyond (suc q) n low =
    let r = sum_beyond q n (omega arith) in let z = bit_not n q (λ e. omega arith) in omega arith

sum_one : (q n : ℕ) → n < q → sum_up q (bit n) ≡ 1
sum_one zero n low = absurd (omega arith)
sum_one (suc q) n low = dite (ℕ_discrete n q)
    (λ last. let one = bit_is n q last in let z = sum_beyond q n (omega arith) in omega arith)
    (λ before. let r = sum_one q n (omega arith) in let z = bit_not n q before in omega arith)

pub sum_zero : (q : ℕ) → sum_up q (λ g. 0) ≡ 0
sum_zero zero = refl
sum_zero (suc q) = let r = sum_zero q in omega arith

-- how many closings of generations below q a Made has
abbrev pub closings_in : (q : ℕ) → List ℕ → ℕ
closings_in q made = sum_up q (λ g. times g made)

abbrev pub closings_of : (q : ℕ) → View → ℕ
closings_of q v = closings_in q v.made.closings

-- one more
closed_more : (q n : ℕ) (made : List ℕ) → n < q → closings_in q (n ∷ made) ≡ closings_in q made + 1
closed_more q n made low =
    let a = sum_both q (bit n) (λ g. times g made) in let b = sum_one q n low in omega arith

pub closed_joined : (q : ℕ) (xs ys : List ℕ) → closings_in q (xs ++ ys) ≡ closings_in q xs + closings_in q ys
closed_joined q xs ys = sum_same q (λ g. times g (xs ++ ys)) (λ g. times g xs + times g ys)
    (λ g low. times-append g xs ys) ∙ sum_both q (λ g. times g xs) (λ g. times g ys)

-- ---- calls that close nothing

abbrev pub IsOpen : Call → Type 0
IsOpen (call.close g c) = ⊥
IsOpen c = Unit {0}

abbrev pub AreOpen : List Call → Type 0
AreOpen [] = Unit {0}
AreOpen (c ∷ cs) = IsOpen c × AreOpen cs

open_append : (cs ds : List Call) → AreOpen cs → AreOpen ds → AreOpen (cs ++ ds)
open_append [] ds p q = q
open_append (c ∷ cs) ds p q = (p.0, open_append cs ds p.1 q)

pub mute_open : (cs : List Call) → AreMute cs → AreOpen cs
mute_open [] q = tt
mute_open (c ∷ cs) q = (one c q.0, mute_open cs q.1)
  where
    one : (c : Call) → IsMute c → IsOpen c
    one (call.close g o) q = absurd q
    one c q = tt

closes_none : (f : Facts) (c : Call) (v : View) → IsOpen c → (seen f c v).made.closings ≡ v.made.closings
closes_none f (call.close g o) v q = absurd q
closes_none f (call.pin slot gs p) v q = ap (λ (z : Made). z.closings) (tried_made f slot gs p v)
closes_none f (call.unpin Hold) v q = refl
closes_none f (call.unpin Work) v q = refl
closes_none f (call.begin true) v q = refl
closes_none f (call.begin false) v q = refl
closes_none f (call.probe x state.Unborn) v q = refl
closes_none f (call.probe x state.Here) v q = refl
closes_none f (call.probe x (state.Lost l)) v q = refl
closes_none f (call.probe x (state.Away s)) v q = refl
closes_none f (call.discard x true) v q = refl
closes_none f (call.discard x false) v q = refl
closes_none f (call.get x (got.Here c)) v q = refl
closes_none f (call.get x (got.Lost l)) v q = refl
closes_none f (call.get x (got.Away s)) v q = refl
closes_none f (call.get x got.Memory) v q = refl
closes_none f (call.lose x l true) v q = refl
closes_none f (call.lose x l false) v q = refl
closes_none f c v q = refl

open_all : (cs : List Call) (a : Actor) → AreOpen cs → (did_all cs a).view.made.closings ≡ a.view.made.closings
open_all [] a q = refl
open_all (c ∷ cs) a q = open_all cs (did c a) q.1 ∙ closes_none a.facts c a.view q.0

pub open_does : {cs : List Call} {a b : Actor} → Does cs a b → AreOpen cs
    → b.view.made.closings ≡ a.view.made.closings
open_does {cs = cs} {a = a} x q = ap (λ (z : Actor). z.view.made.closings) x.becomes ∙ open_all cs a q

-- ---- the engines that close nothing

create_open : {f : Facts} {o : Change} {cs : List Call} → IsCreate f o cs → AreOpen cs
create_open create.busy = (tt, tt)
create_open (create.was_there gs g) = (tt, (tt, (tt, (tt, tt))))
create_open (create.was_removed gs) = (tt, (tt, (tt, tt)))
create_open (create.no_memory gs) = (tt, (tt, (tt, tt)))
create_open {f = f} (create.created gs ss long) =
    let xs = create.probes (first_names f) ss in
    let ys = create.brings (first_names f) ss in (
      tt,
      (
        tt,
        open_append xs (ys ++ (call.publish 1 ∷ call.end ∷ [])) (mute_open xs (create_probes_mute (first_names f) ss))
            (open_append ys (call.publish 1 ∷ call.end ∷ []) (mute_open ys (brings_mute (first_names f) ss)) (tt, (tt, tt))),
      ),
    )

pub creates_open : {o : Change} {a b : Actor} → Creates o a b → b.view.made.closings ≡ a.view.made.closings
creates_open x = open_does x.does (create_open x.licence)

remove_open : {f : Facts} {o : Change} {cs : List Call} → IsRemove f o cs → AreOpen cs
remove_open remove.busy = (tt, tt)
remove_open (remove.absent gs) = (tt, (tt, (tt, tt)))
remove_open (remove.was_removed gs) = (tt, (tt, (tt, tt)))
remove_open (remove.removed_now gs g) = (tt, (tt, (tt, (tt, (tt, tt)))))

pub removes_open : {o : Change} {a b : Actor} → Removes o a b → b.view.made.closings ≡ a.view.made.closings
removes_open x = open_does x.does (remove_open x.licence)

conversion_open : {f : Facts} {g : ℕ} {o : Change} {done : List Call} → IsConversion f g o done → AreOpen done
conversion_open {f = f} {g = g} (convert.converted states made on) =
    open_append (whole f g states) (call.publish (g + 2) ∷ []) (mute_open (whole f g states) (whole_mute f g states))
    (tt, tt)
conversion_open (convert.cut states o done on is) = mute_open done (cut_mute states is)

convert_open : {f : Facts} {upto : ℕ} {o : Change} {cs : List Call} → IsConvert f upto o cs → AreOpen cs
convert_open convert.busy = (tt, tt)
convert_open (convert.absent gs) = (tt, (tt, (tt, tt)))
convert_open (convert.was_removed gs) = (tt, (tt, (tt, tt)))
convert_open (convert.last gs g low) = (tt, (tt, (tt, (tt, tt))))
convert_open (convert.converting gs g o done low is) =
    (tt, (tt, open_append done (call.unpin Work ∷ call.end ∷ []) (conversion_open is) (tt, (tt, tt))))

pub converts_open : {upto : ℕ} {stop : Option ℕ} {o : Change} {a b : Actor} → Converts upto stop o a b
    → b.view.made.closings ≡ a.view.made.closings
converts_open x = open_does x.does (convert_open x.licence)

repair_open : {f : Facts} {o : RepairOutcome} {cs : List Call} → IsRepair f o cs → AreOpen cs
repair_open repair.busy = (tt, tt)
repair_open (repair.absent gs) = (tt, (tt, (tt, tt)))
repair_open (repair.removed gs) = (tt, (tt, (tt, tt)))
repair_open (repair.through o gs g inner is) =
    (tt, (tt, open_append inner (call.unpin Work ∷ call.end ∷ []) (mute_open inner (repair_mute is)) (tt, (tt, tt))))

pub repairs_open : {o : RepairOutcome} {a b : Actor} → Repairs o a b → b.view.made.closings ≡ a.view.made.closings
repairs_open x = open_does x.does (repair_open x.licence)

through_open : (hold g : ℕ) (inner cs : List Call) → AreMute inner → IsThrough hold g inner cs → AreOpen cs
through_open hold g inner cs q (inl (held, is)) = subst AreOpen (sym is) (mute_open inner q)
through_open hold g inner cs q (inr (free, (gs, is))) =
    subst AreOpen (sym is) (tt, open_append inner (call.unpin Work ∷ []) (mute_open inner q) (tt, tt))

read_open : (f : Facts) (hold : ℕ) (o : ReadOutcome) (cs : List Call) → IsRead f hold o cs → AreOpen cs
read_open f hold read.Absent cs (free, (gs, is)) = subst AreOpen (sym is) (tt, tt)
read_open f hold read.Removed cs (free, (gs, is)) = subst AreOpen (sym is) (tt, tt)
read_open f hold (read.Bytes h bytes from) cs (g, inner, is, through) =
    through_open hold g inner cs (read_mute f g (read.Bytes h bytes from) inner is) through
read_open f hold (read.DataLost h k names) cs (g, inner, is, through) =
    through_open hold g inner cs (read_mute f g (read.DataLost h k names) inner is) through
read_open f hold (read.Unreachable h k x server) cs (g, inner, is, through) =
    through_open hold g inner cs (read_mute f g (read.Unreachable h k x server) inner is) through
read_open f hold read.Memory cs (g, inner, is, through) =
    through_open hold g inner cs (read_mute f g read.Memory inner is) through

pub reads_open : (o : ReadOutcome) {a b : Actor} → Reads o a b → b.view.made.closings ≡ a.view.made.closings
reads_open o {a = a} (cs, is, does) = open_does does (read_open a.facts a.view.hold o cs is)

-- ---- a reclaim

-- the closes that were answered Done
closes_closed : (q h : ℕ) (answers : List Closed) (a : Actor) → h + length answers ≤ q
    → closings_of q (did_all (closes h answers) a).view ≡ closings_of q a.view + length (filter is_done answers)
closes_closed q h [] a low = omega arith
closes_closed q h (closing.Done ∷ answers) a low =
    let next = did (call.close h closing.Done) a in
    let r = closes_closed q (h + 1) answers next (omega arith) in
    let one = closed_more q h a.view.made.closings (omega arith) in omega arith
closes_closed q h (closing.Pins n ∷ answers) a low =
    closes_closed q (h + 1) answers (did (call.close h (closing.Pins n)) a) (omega arith)
closes_closed q h (closing.Already ∷ answers) a low =
    closes_closed q (h + 1) answers (did (call.close h closing.Already) a) (omega arith)

-- a pin's generation is a stage
pins_stage : (f : Facts) (gs : List ℕ) (g : ℕ) (v : View) → LooksRise f gs (pinned.At g) v → g < stages f
pins_stage f [] g v rises = rises.0
pins_stage f (h ∷ gs) g v rises = pins_stage f gs g (row.missed h (row.looked (number_of h) v)) rises.2

-- it closes generations that there are
learns_low : {f : Facts} {n : ℕ} {first : List Call} → Learns f n first → (rest : List Call) (a : Actor)
    → f ≡ a.facts → AreFair (first ++ rest) a → n ≤ stages a.facts
learns_low (reclaim.published gs g) rest a e fair = let low = pins_stage a.facts gs g a.view fair.0 in omega arith
learns_low (reclaim.removed gs) rest a e fair = let same = ap stages e in omega arith

learns_open : {f : Facts} {n : ℕ} {first : List Call} → Learns f n first → AreOpen first
learns_open (reclaim.published gs g) = (tt, (tt, tt))
learns_open (reclaim.removed gs) = (tt, tt)

reclaim_closed : {f : Facts} {o : ReclaimOutcome} {cs : List Call} (a : Actor) → f ≡ a.facts → IsReclaim f o cs
    → AreFair cs a
    → closings_of (stages a.facts) (did_all cs a).view ≡ closings_of (stages a.facts) a.view + (reclaim_tale o).closed
reclaim_closed a e reclaim.no_memory fair = omega arith
reclaim_closed a e (reclaim.absent gs) fair =
    let same = ap (closings_in (stages a.facts)) (open_all (call.pin Work gs pinned.Absent ∷ []) a (tt, tt)) in
    omega arith
reclaim_closed {f = f} a e (reclaim.reclaimed first answers changed learns long) fair =
    let q = stages a.facts in
    let last = discards (free_names f.book answers) changed in
    let mid = did_all first a in
    let behind = did_all (closes 0 answers) mid in
    let split = ap (λ (z : Actor). closings_of q z.view)
    (did_both first (closes 0 answers ++ last) a ∙ did_both (closes 0 answers) last mid) in
    let first_none = ap (closings_in q) (open_all first a (learns_open learns)) in
    let last_none = ap (closings_in q) (open_all last behind (mute_open last (discards_mute (free_names f.book answers) changed)))
    in
    let low = learns_low learns (closes 0 answers ++ last) a e fair in
    let closed = closes_closed q 0 answers mid (omega arith) in omega arith

pub reclaims_closed : {o : ReclaimOutcome} {a b : Actor} → Reclaims o a b
    → closings_of (stages a.facts) b.view ≡ closings_of (stages a.facts) a.view + (reclaim_tale o).closed
reclaims_closed {a = a} x =
    ap (λ (z : Actor). closings_of (stages a.facts) z.view) x.does.becomes
    ∙ reclaim_closed a refl x.licence x.does.fair
