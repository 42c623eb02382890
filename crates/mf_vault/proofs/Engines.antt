-- What the calls of an engine add to its actor's Made and Met.
use Rattle.std.proofs.Common.{◌≡◌, ℕ, ◌+◌, true, false, List, [], ◌∷◌, ◌++◌, refl, sym, ap, ◌∙◌, arith}
use Rattle.mf_machine.specs.declared.answer.Slot.TheVariants.{Work}
use Rattle.mf_machine.specs.Answers as said
use Rattle.mf_machine.specs.Answers.{Answer}
use Rattle.mf_machine.specs.Counts.{times}
use Rattle.mf_machine.proofs.Lists.{times-append}
use Rattle.mf_vault.specs.declared.answers.Entry.{Entry}
use Rattle.mf_vault.specs.declared.answers.Pinned.{Pinned}
use Rattle.mf_vault.specs.Actor.{Actor, Call}
use Rattle.mf_vault.specs.Actor as call
use Rattle.mf_vault.specs.Facts.{Facts}
use Rattle.mf_vault.specs.Gains.{tells, sum_told, beside, publishes, sum_calls, FreeAtCloses, EngineGains}
use Rattle.mf_vault.specs.Licence.{Does, entries_of}
use Rattle.mf_vault.proofs.Gaining.{entries_tell, pins_are_looked}
use Rattle.mf_vault.proofs.Leaving.{IsOp, AreOps}

-- sums over calls
pub sums_then : (h : Call → ℕ) (cs ds : List Call) → sum_calls h (cs ++ ds) ≡ sum_calls h cs + sum_calls h ds
sums_then h [] ds = omega arith
sums_then h (c ∷ cs) ds = let r = sums_then h cs ds in omega arith

-- the numbers that calls publish, and how often they take the right and are refused it
pub record Profile (calls : List Call) (numbers : List ℕ) (rights refusals : ℕ) : Type 0 where
  pub published : (n : ℕ) → sum_calls (publishes n) calls ≡ times n numbers
  pub begun : (f : Facts) → sum_calls (beside f said.begun) calls ≡ rights
  pub refused : (f : Facts) → sum_calls (beside f said.refused) calls ≡ refusals

pub both : {cs ds : List Call} {ns ms : List ℕ} {r s u v : ℕ} → Profile cs ns r u → Profile ds ms s v
    → Profile (cs ++ ds) (ns ++ ms) (r + s) (u + v)
both {cs = cs} {ds = ds} {ns = ns} {ms = ms} x y = record {
  published = λ n. let a = x.published n in let b = y.published n in let t = times-append n ns ms in
      let z = sums_then (publishes n) cs ds in omega arith;
  begun = λ f. let a = x.begun f in let b = y.begun f in let z = sums_then (beside f said.begun) cs ds in omega arith;
  refused = λ f. let a = x.refused f in let b = y.refused f in
      let z = sums_then (beside f said.refused) cs ds in omega arith;
}

-- ---- chunk operations

op_publishes : (n : ℕ) (c : Call) → IsOp c → publishes n c ≡ 0
op_publishes n (call.publish next) op = absurd op
op_publishes n c op = refl

op_begins : (f : Facts) (c : Call) → IsOp c → beside f said.begun c ≡ 0
op_begins f (call.begin b) op = absurd op
op_begins f c op = refl

op_refuses : (f : Facts) (c : Call) → IsOp c → beside f said.refused c ≡ 0
op_refuses f (call.begin b) op = absurd op
op_refuses f c op = refl

ops_say : (h : Call → ℕ) → ((c : Call) → IsOp c → h c ≡ 0) → (cs : List Call) → AreOps cs → sum_calls h cs ≡ 0
ops_say h one [] ops = refl
ops_say h one (c ∷ cs) ops = let a = one c ops.0 in let r = ops_say h one cs ops.1 in omega arith

pub ops : {cs : List Call} → AreOps cs → Profile cs [] 0 0
ops {cs = cs} are = record {
  published = λ n. ops_say (publishes n) (op_publishes n) cs are;
  begun = λ f. ops_say (beside f said.begun) (op_begins f) cs are;
  refused = λ f. ops_say (beside f said.refused) (op_refuses f) cs are;
}

-- no close is among these
abbrev pub HaveNoClose : List Call → Type 0
HaveNoClose [] = Unit {0}
HaveNoClose (call.close g c ∷ cs) = ⊥
HaveNoClose (c ∷ cs) = HaveNoClose cs

pub no_close_then : (cs ds : List Call) → HaveNoClose cs → HaveNoClose ds → HaveNoClose (cs ++ ds)
no_close_then [] ds p q = q
no_close_then (call.close g c ∷ cs) ds p q = absurd p
no_close_then (c ∷ cs) ds p q = no_close_then cs ds p q

pub ops_no_close : (cs : List Call) → AreOps cs → HaveNoClose cs
ops_no_close [] are = tt
ops_no_close (call.close g c ∷ cs) are = absurd are.0
ops_no_close (c ∷ cs) are = ops_no_close cs are.1

pub free_without : (cs : List Call) (a : Actor) → HaveNoClose cs → FreeAtCloses cs a
free_without [] a p = tt
free_without (call.close g c ∷ cs) a p = absurd p
free_without (c ∷ cs) a p = free_without cs (call.did c a) p

-- ---- the begin, the pin and the ends of an engine

pub was_busy : Profile (call.begin false ∷ []) [] 0 1
was_busy = record { published = λ n. refl; begun = λ f. refl; refused = λ f. refl }

pub begun_and_pinned : (gs : List ℕ) (p : Pinned)
    → Profile (call.begin true ∷ call.pin Work gs p ∷ []) [] 1 0
begun_and_pinned gs p = record { published = λ n. refl; begun = λ f. refl; refused = λ f. refl }

pub pinned : (gs : List ℕ) (p : Pinned) → Profile (call.pin Work gs p ∷ []) [] 0 0
pinned gs p = record { published = λ n. refl; begun = λ f. refl; refused = λ f. refl }

pub publishing : (next : ℕ) → Profile (call.publish next ∷ []) (next ∷ []) 0 0
publishing next = record { published = λ n. refl; begun = λ f. refl; refused = λ f. refl }

pub unpinned : Profile (call.unpin Work ∷ []) [] 0 0
unpinned = record { published = λ n. refl; begun = λ f. refl; refused = λ f. refl }

pub ended : Profile (call.end ∷ []) [] 0 0
ended = record { published = λ n. refl; begun = λ f. refl; refused = λ f. refl }

pub unpinned_and_ended : Profile (call.unpin Work ∷ call.end ∷ []) [] 0 0
unpinned_and_ended = both unpinned ended

-- what they come to
none_begun : (f : Facts) (es : List Entry) → sum_told (tells f said.begun) es ≡ 0
none_begun f [] = refl
none_begun f (e ∷ es) = let r = none_begun f es in omega arith

none_refused : (f : Facts) (es : List Entry) → sum_told (tells f said.refused) es ≡ 0
none_refused f [] = refl
none_refused f (e ∷ es) = let r = none_refused f es in omega arith

pub engine_gains : {calls : List Call} {numbers : List ℕ} {rights refusals : ℕ} {a b : Actor}
    → Profile calls numbers rights refusals → Does calls a b → FreeAtCloses calls a
    → EngineGains calls numbers rights refusals a b
engine_gains {calls = calls} {a = a} {b = b} p d free =
    let t = entries_tell calls a b d in record {
      made = t.0;
      published = λ n. let x = t.0.numbers n in let y = p.published n in omega arith;
      met = t.1;
      begun = let x = t.1.told said.begun tt in let y = p.begun a.facts in
          let z = none_begun a.facts (entries_of calls) in omega arith;
      refused = let x = t.1.told said.refused tt in let y = p.refused a.facts in
          let z = none_refused a.facts (entries_of calls) in omega arith;
      looked = pins_are_looked calls a b d;
      free = free;
    }
