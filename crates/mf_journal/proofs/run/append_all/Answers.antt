use Rattle.std.proofs.Common.{◌≡◌, ℕ, ◌+◌, ◌*◌, ◌<◌, List, [], ◌∷◌, ◌++◌, length, get_or, take}
use Rattle.std.proofs.Common.{true, Vec, sym, ap, subst, ◌∙◌, arith, append_assoc}
use Rattle.std.proofs.lemmas.List.{get_or-map, length-map, take_more}
use Rattle.std.specs.declared.alloc.Global.{Global}
use Rattle.mf_journal.specs.Calls.{Ran}
use Rattle.mf_journal.specs.Kept.{Keeps, adds, adds_all, gate_after, gate_of}
use Rattle.mf_journal.specs.Opening.{lists}
use Rattle.mf_journal.proofs.Runs.{adds_push, fails, gate_push, goes, ran_calls, ran_on}
use Rattle.mf_journal.proofs.run.append_all.Goals as goal

-- the first records, with the one that was read at i
next_one : (vs : List (Vec ℕ Global)) (i : ℕ) (v : Vec ℕ Global) (p : List ℕ) → i < length vs
    → v ≡ get_or vs i v
    → p ≡ v.items → take (i + 1) (lists vs) ≡ take i (lists vs) ++ p ∷ []
next_one vs i v p within is same =
    let items = λ (u : Vec ℕ Global). u.items in
    let here : get_or (lists vs) i [] ≡ p =
    get_or-map items vs i v [] within ∙ ap items (sym is) ∙ sym same in
    take_more (lists vs) i [] (omega (arith, length-map vs items))
    ∙ ap (λ q. take i (lists vs) ++ q ∷ []) here

pub returns-in-Err-clause-any_moment_err : goal.returns-in-Err-clause-any_moment_err
returns-in-Err-clause-any_moment_err g c =
    let D = g.D.Disk in
    let vs = c.args.payloads.now in
    let v = c.index-payloads-i.result in
    let inv = c.loop-i.invariant in
    let more = next_one vs c.loop-i.i v c.deref.result.now c.loop-i-test.true
    c.index-payloads-i.is c.deref.ensures.value in
    fails D.reads D.leaves (λ d. (D.log d).calls) D.left_since c.args.journal.now (lists vs)
    c.loop-i.journal c.append.new.self c.loop-i.i c.deref.result.now
    (omega (arith, length-map vs (λ (u : Vec ℕ Global). u.items)))
    more inv.moments inv.keeps inv.calls c.append.ensures.any_moment

pub loop-i-preserved : goal.loop-i-preserved
loop-i-preserved g c =
    let D = g.D.Disk in
    let vs = c.args.payloads.now in
    let v = c.index-payloads-i.result in
    let p = c.deref.result.now in
    let i = c.loop-i.i in
    let old = c.args.journal.now in
    let mid = c.loop-i.journal in
    let now = c.append.new.self in
    let gate = gate_of old in
    let inv = c.loop-i.invariant in
    let more = next_one vs i v p c.loop-i-test.true c.index-payloads-i.is c.deref.ensures.value in
    let done = c.in-Ok.ensures in
    let ran = ran_on (adds_all gate (take i (lists vs))) (adds (gate_of mid) p) (D.log old.disk)
    (D.log mid.disk) (D.log now.disk) true inv.ran done.ran.0 in
    let calls : (D.log now.disk).calls ≡ (D.log old.disk).calls + 4 * (i + 1) =
    omega (
      arith,
      inv.calls,
      ran_calls (adds (gate_of mid) p) (D.log mid.disk) (D.log now.disk) done.ran.0,
    ) in
    let keeps : (ps : List (List ℕ)) → Keeps D.reads D.leaves old ps
    → Keeps D.reads D.leaves now (ps ++ take (i + 1) (lists vs)) =
    λ ps kept. subst (Keeps D.reads D.leaves now)
    (append_assoc ps (take i (lists vs)) (p ∷ []) ∙ ap (λ l. ps ++ l) (sym more))
    (done.acknowledged (ps ++ take i (lists vs)) (inv.keeps ps kept)) in
    record {
      ran = subst (λ cs. Ran cs (D.log old.disk) (D.log now.disk) true)
          (ap (λ n. adds_all gate (take i (lists vs)) ++ adds n p) inv.gate
          ∙ sym (adds_push gate (take i (lists vs)) p) ∙ ap (adds_all gate) (sym more)) ran;
      gate = done.ran.1
          ∙ ap (λ n. n + 5 + length p) inv.gate
          ∙ sym (gate_push gate (take i (lists vs)) p)
          ∙ ap (gate_after gate) (sym more);
      calls = calls;
      origin = c.append.ensures.origin ∙ inv.origin;
      keeps = keeps;
      moments = goes D.reads D.leaves (λ d. (D.log d).calls) D.left_since old (lists vs) mid now i p
          (omega (arith, length-map vs (λ (u : Vec ℕ Global). u.items))) more inv.moments inv.keeps
          inv.calls
          c.append.ensures.any_moment keeps calls (g.met.D.Disk.only_now now.disk);
    }
