-- How often calls say something.
use Rattle.std.proofs.Common.{◌≡◌, ℕ, zero, suc, ◌+◌, Bool, List, [], ◌∷◌, ◌++◌, take, refl, sym}
use Rattle.std.proofs.Common.{subst, arith, inl, inr, ◌⊎◌}
use Rattle.mf_machine.specs.declared.answer.Closed.{Closed}
use Rattle.mf_machine.specs.declared.answer.State.{State}
use Rattle.mf_machine.specs.declared.answer.State.TheVariants as state
use Rattle.mf_machine.specs.Answers as said
use Rattle.mf_places.specs.declared.Name.{Name}
use Rattle.mf_places.specs.Generations.{stripe_names}
use Rattle.mf_vault.specs.declared.answers.Got.TheVariants as got
use Rattle.mf_vault.specs.declared.answers.Pinned.{Pinned}
use Rattle.mf_vault.specs.declared.answers.Pinned.TheVariants.{At, Absent, Removed}
use Rattle.mf_vault.specs.Facts.{Facts}
use Rattle.mf_vault.specs.Actor.{Actor, Call}
use Rattle.mf_vault.specs.Actor as call
use Rattle.mf_vault.specs.Gains.{beside, publishes, sum_calls}
use Rattle.mf_vault.proofs.Leaving.{AreOps}
use Rattle.mf_convert.specs.declared.change.Change.{Change}
use Rattle.mf_convert.specs.Create as create
use Rattle.mf_convert.specs.Create.{first_names}
use Rattle.mf_convert.specs.Convert.{IsCut, whole}
use Rattle.mf_convert.proofs.Steady.{whole_ops, cut_ops}
use Rattle.mf_read.specs.declared.outcome.ReadOutcome.{ReadOutcome}
use Rattle.mf_read.specs.declared.outcome.ReadOutcome.TheVariants as read
use Rattle.mf_read.specs.Asking.{Ask, here, gets}
use Rattle.mf_read.specs.Reading.{IsEnd as IsReadEnd, Ends, IsReadOf}
use Rattle.mf_repair.specs.declared.outcome.RepairOutcome.{RepairOutcome}
use Rattle.mf_repair.specs.Repair as repair
use Rattle.mf_repair.specs.Repair.{probes, restores, lost_names, IsMended, AreMended, IsShortMend, IsCutMend, IsEnd}
use Rattle.mf_repair.specs.Repair.{IsRepairOf}
use Rattle.mf_reclaim.specs.Reclaim as reclaim
use Rattle.mf_client.specs.Acts.{loses}

pub sum_append : (h : Call → ℕ) (xs ys : List Call) → sum_calls h (xs ++ ys) ≡ sum_calls h xs + sum_calls h ys
sum_append h [] ys = omega arith
sum_append h (x ∷ xs) ys = let r = sum_append h xs ys in omega arith

-- 1 for a pin that found the file not created
abbrev pub finds_none : Pinned → ℕ
finds_none (At g) = 0
finds_none Absent = 1
finds_none Removed = 0

abbrev pub absents : Call → ℕ
absents (call.pin slot missed p) = finds_none p
absents c = 0

-- ---- calls on chunks say none of this

abbrev pub IsMute : Call → Type 0
IsMute (call.probe x s) = Unit {0}
IsMute (call.put x) = Unit {0}
IsMute (call.restore x) = Unit {0}
IsMute (call.get x o) = Unit {0}
IsMute (call.lose x l b) = Unit {0}
IsMute (call.discard x b) = Unit {0}
IsMute c = ⊥

abbrev pub AreMute : List Call → Type 0
AreMute [] = Unit {0}
AreMute (c ∷ cs) = IsMute c × AreMute cs

pub mute_append : (cs ds : List Call) → AreMute cs → AreMute ds → AreMute (cs ++ ds)
mute_append [] ds p q = q
mute_append (c ∷ cs) ds p q = (p.0, mute_append cs ds p.1 q)

-- they publish nothing, and begin nothing
pub record Silent (f : Facts) (cs : List Call) : Type 0 where
  pub published : (m : ℕ) → sum_calls (publishes m) cs ≡ 0
  pub begun : sum_calls (beside f said.begun) cs ≡ 0

mute_one : (f : Facts) (c : Call) → IsMute c → Silent f (c ∷ [])
mute_one f (call.probe x s) q = record { published = λ m. refl; begun = refl }
mute_one f (call.put x) q = record { published = λ m. refl; begun = refl }
mute_one f (call.restore x) q = record { published = λ m. refl; begun = refl }
mute_one f (call.get x (got.Here c)) q = record { published = λ m. refl; begun = refl }
mute_one f (call.get x (got.Lost l)) q = record { published = λ m. refl; begun = refl }
mute_one f (call.get x (got.Away s)) q = record { published = λ m. refl; begun = refl }
mute_one f (call.get x got.Memory) q = record { published = λ m. refl; begun = refl }
mute_one f (call.lose x l b) q = record { published = λ m. refl; begun = refl }
mute_one f (call.close g c) q = absurd q
mute_one f (call.discard x b) q = record { published = λ m. refl; begun = refl }
mute_one f (call.cut_off s) q = absurd q
mute_one f (call.pin slot gs p) q = absurd q
mute_one f (call.unpin slot) q = absurd q
mute_one f (call.begin b) q = absurd q
mute_one f call.end q = absurd q
mute_one f (call.publish n) q = absurd q

pub mute_all : (f : Facts) (cs : List Call) → AreMute cs → Silent f cs
mute_all f [] q = record { published = λ m. refl; begun = refl }
mute_all f (c ∷ cs) q =
    let one = mute_one f c q.0 in
    let rest = mute_all f cs q.1 in
    record {
      published = λ m. let a = one.published m in let b = rest.published m in omega arith;
      begun = let a = one.begun in let b = rest.begun in omega arith;
    }

-- ---- the lists of the engines are of such calls

op_mute : (c : Call) → AreOps (c ∷ []) → IsMute c
op_mute (call.probe x s) q = tt
op_mute (call.put x) q = tt
op_mute (call.restore x) q = tt
op_mute (call.get x o) q = tt
op_mute (call.cut_off s) q = absurd q.0
op_mute (call.pin slot gs p) q = absurd q.0
op_mute (call.unpin slot) q = absurd q.0
op_mute (call.begin b) q = absurd q.0
op_mute call.end q = absurd q.0
op_mute (call.publish n) q = absurd q.0
op_mute (call.close g c) q = absurd q.0
op_mute (call.discard x b) q = absurd q.0
op_mute (call.lose x l b) q = absurd q.0

ops_mute : (cs : List Call) → AreOps cs → AreMute cs
ops_mute [] q = tt
ops_mute (c ∷ cs) q = (op_mute c (q.0, tt), ops_mute cs q.1)

pub whole_mute : (f : Facts) (g : ℕ) (ss : List State) → AreMute (whole f g ss)
whole_mute f g ss = ops_mute (whole f g ss) (whole_ops f g ss)

pub cut_mute : {f : Facts} {g : ℕ} {o : Change} {done : List Call} (ss : List State)
    → IsCut f g (whole f g ss) o done → AreMute done
cut_mute {f = f} {g = g} {done = done} ss cut = ops_mute done (cut_ops cut (whole_ops f g ss))

pub create_probes_mute : (xs : List Name) (ss : List State) → AreMute (create.probes xs ss)
create_probes_mute [] ss = tt
create_probes_mute (x ∷ xs) [] = tt
create_probes_mute (x ∷ xs) (s ∷ ss) = (tt, create_probes_mute xs ss)

bring_mute : (x : Name) (s : State) → AreMute (create.bring x s)
bring_mute x state.Unborn = (tt, tt)
bring_mute x state.Here = tt
bring_mute x (state.Lost l) = (tt, tt)
bring_mute x (state.Away s) = tt

pub brings_mute : (xs : List Name) (ss : List State) → AreMute (create.brings xs ss)
brings_mute [] ss = tt
brings_mute (x ∷ xs) [] = tt
brings_mute (x ∷ xs) (s ∷ ss) =
    mute_append (create.bring x s) (create.brings xs ss) (bring_mute x s) (brings_mute xs ss)

-- a read
gets_mute : (f : Facts) (asks : List Ask) → AreMute (gets f asks)
gets_mute f [] = tt
gets_mute f (a ∷ asks) = (tt, gets_mute f asks)

cut_gets_mute : (f : Facts) (asks rest : List Ask) (cs : List Call) → ((cs ≡ gets f asks)
    ⊎ ((x : Name) × (others : List Ask) × (rest ≡ record { name = x; found = here } ∷ others)
    × (cs ≡ gets f asks ++ call.get x got.Memory ∷ []))) → AreMute cs
cut_gets_mute f asks rest cs (inl e) = subst AreMute (sym e) (gets_mute f asks)
cut_gets_mute f asks rest cs (inr (x, others, is, e)) = subst AreMute (sym e)
    (mute_append (gets f asks) (call.get x got.Memory ∷ []) (gets_mute f asks) (tt, tt))

read_end_mute : (f : Facts) (g j : ℕ) (o : ReadOutcome) (cs : List Call) → IsReadEnd f g j o cs → AreMute cs
read_end_mute f g j (read.DataLost h k names) cs (asks, e, i, short, is, same, more) =
    subst AreMute (sym is) (gets_mute f asks)
read_end_mute f g j (read.Unreachable h k x server) cs (asks, e, i, short, is, low, more) =
    subst AreMute (sym is) (gets_mute f asks)
read_end_mute f g j read.Memory cs (asks, rest, asking, either) = cut_gets_mute f asks rest cs either
read_end_mute f g j read.Absent cs e = absurd e
read_end_mute f g j read.Removed cs e = absurd e
read_end_mute f g j (read.Bytes h bytes from) cs e = absurd e

read_ends_mute : (f : Facts) (g : ℕ) (o : ReadOutcome) (cs : List Call) → Ends f g o cs → AreMute cs
read_ends_mute f g o cs (j, front, rest, served, ends, is) = subst AreMute (sym is)
    (mute_append (gets f front) rest (gets_mute f front) (read_end_mute f g j o rest ends))

pub read_mute : (f : Facts) (g : ℕ) (o : ReadOutcome) (cs : List Call) → IsReadOf f g o cs → AreMute cs
read_mute f g (read.Bytes h bytes from) cs (asks, e, served, is, same, from_is) =
    subst AreMute (sym is) (gets_mute f asks)
read_mute f g (read.DataLost h k names) cs ends = read_ends_mute f g (read.DataLost h k names) cs ends
read_mute f g (read.Unreachable h k x server) cs ends = read_ends_mute f g (read.Unreachable h k x server) cs ends
read_mute f g read.Memory cs ends = read_ends_mute f g read.Memory cs ends
read_mute f g read.Absent cs ends = read_ends_mute f g read.Absent cs ends
read_mute f g read.Removed cs ends = read_ends_mute f g read.Removed cs ends

-- a repair
probes_mute : (xs : List Name) (ss : List State) → AreMute (probes xs ss)
probes_mute [] ss = tt
probes_mute (x ∷ xs) [] = tt
probes_mute (x ∷ xs) (s ∷ ss) = (tt, probes_mute xs ss)

restores_mute : (xs : List Name) → AreMute (restores xs)
restores_mute [] = tt
restores_mute (x ∷ xs) = (tt, restores_mute xs)

behind_mute : (xs : List Name) (ss : List State) (cs : List Call) → AreMute cs → AreMute (probes xs ss ++ cs)
behind_mute xs ss cs q = mute_append (probes xs ss) cs (probes_mute xs ss) q

mended_mute : {f : Facts} {g j : ℕ} {cs : List Call} → IsMended f g j cs → AreMute cs
mended_mute {f = f} {g = g} {j = j} (repair.whole states long none) = probes_mute (stripe_names f.book g j) states
mended_mute {f = f} {g = g} {j = j} (repair.mended states asks long some served) =
    let xs = stripe_names f.book g j in
    behind_mute xs states (gets f asks ++ restores (lost_names xs states))
    (mute_append (gets f asks) (restores (lost_names xs states)) (gets_mute f asks)
    (restores_mute (lost_names xs states)))

all_mended_mute : (f : Facts) (g n : ℕ) (cs : List Call) → AreMended f g n cs → AreMute cs
all_mended_mute f g zero cs is = subst AreMute (sym is) tt
all_mended_mute f g (suc n) cs (front, last, before, one, is) = subst AreMute (sym is)
    (mute_append front last (all_mended_mute f g n front before) (mended_mute one))

short_mute : {f : Facts} {g j : ℕ} {cs : List Call} → IsShortMend f g j cs → AreMute cs
short_mute {f = f} {g = g} {j = j} x = subst AreMute (sym x.order)
    (behind_mute (stripe_names f.book g j) x.states (gets f x.asks) (gets_mute f x.asks))

cut_mend_mute : {f : Facts} {g j : ℕ} {cs : List Call} → IsCutMend f g j cs → AreMute cs
cut_mend_mute {f = f} {g = g} {j = j} (repair.in_probes states long) = probes_mute (stripe_names f.book g j) states
cut_mend_mute {f = f} {g = g} {j = j} (repair.in_gets states cut long some (asks, rest, is, either)) =
    behind_mute (stripe_names f.book g j) states cut (cut_gets_mute f asks rest cut either)
cut_mend_mute {f = f} {g = g} {j = j} (repair.in_restores states asks n long some served) =
    let xs = stripe_names f.book g j in
    let names = take n (lost_names xs states) in
    behind_mute xs states (gets f asks ++ restores names)
    (mute_append (gets f asks) (restores names) (gets_mute f asks) (restores_mute names))

end_mute : {f : Facts} {g j : ℕ} {o : RepairOutcome} {cs : List Call} → IsEnd f g j o cs → AreMute cs
end_mute (repair.data_lost calls short more) = short_mute short
end_mute (repair.unreachable calls x server others short low is) = short_mute short
end_mute (repair.no_memory calls cut) = cut_mend_mute cut

pub repair_mute : {f : Facts} {g : ℕ} {o : RepairOutcome} {cs : List Call} → IsRepairOf f g o cs → AreMute cs
repair_mute {f = f} {g = g} (repair.repaired calls are) = all_mended_mute f g _ calls are
repair_mute {f = f} {g = g} (repair.ended o j front last low are ends) =
    mute_append front last (all_mended_mute f g j front are) (end_mute ends)

-- a reclaim
pub closes_silent : (f : Facts) (g : ℕ) (answers : List Closed) (rest : List Call) → Silent f rest
    → Silent f (reclaim.closes g answers ++ rest)
closes_silent f g [] rest s = s
closes_silent f g (c ∷ answers) rest s = let r = closes_silent f (g + 1) answers rest s in record {
  published = λ m. let a = r.published m in omega arith;
  begun = let a = r.begun in omega arith;
}

pub discards_mute : (xs : List Name) (changed : List Bool) → AreMute (reclaim.discards xs changed)
discards_mute [] changed = tt
discards_mute (x ∷ xs) [] = tt
discards_mute (x ∷ xs) (b ∷ changed) = (tt, discards_mute xs changed)

-- a server that is emptied
pub loses_mute : (line : ℕ) (xs : List Name) (answers : List Bool) → AreMute (loses line xs answers)
loses_mute line [] answers = tt
loses_mute line (x ∷ xs) [] = tt
loses_mute line (x ∷ xs) (b ∷ answers) = (tt, loses_mute line xs answers)
