-- How a create, a remove and a convert leave an actor.
use Rattle.std.proofs.Common.{ℕ, ◌+◌, List, [], ◌∷◌, ◌++◌, Option, refl, sym, ◌∙◌, subst}
use Rattle.mf_machine.specs.declared.answer.State.{State}
use Rattle.mf_machine.specs.declared.answer.State.TheVariants as state
use Rattle.mf_machine.specs.Steps.{begun}
use Rattle.mf_places.specs.declared.Name.{Name}
use Rattle.mf_vault.specs.declared.answers.Pinned.TheVariants as pinned
use Rattle.mf_vault.specs.Facts.{Facts}
use Rattle.mf_vault.specs.Actor.{Actor, Call, end, publish}
use Rattle.mf_vault.specs.Conditions.{IsIdle, Leaves}
use Rattle.mf_vault.specs.Licence.{did_all}
use Rattle.mf_vault.proofs.Entering.{tried_hold}
use Rattle.mf_vault.proofs.Leaving.{AreQuiet, quiet_all, quiet_append, ops_quiet, stays_on, did_both, entered}
use Rattle.mf_vault.proofs.Leaving.{AreOps, ops_then}
use Rattle.mf_vault.proofs.Leaving.{entered_work, worked, turned, refused}
use Rattle.mf_convert.specs.declared.change.Change.{Change}
use Rattle.mf_convert.specs.Create as create
use Rattle.mf_convert.specs.Create.{IsCreate, Creates, probes, bring, brings, first_names}
use Rattle.mf_convert.specs.Remove as remove
use Rattle.mf_convert.specs.Remove.{IsRemove, Removes}
use Rattle.mf_convert.specs.Convert as convert
use Rattle.mf_convert.specs.Convert.{IsConversion, IsConvert, Converts, whole}
use Rattle.mf_convert.proofs.Steady.{whole_ops, cut_ops, probes_ops}

-- ---- create

pub bring_ops : (x : Name) (s : State) → AreOps (bring x s)
bring_ops x state.Unborn = (tt, tt)
bring_ops x state.Here = tt
bring_ops x (state.Lost l) = (tt, tt)
bring_ops x (state.Away s) = tt

pub brings_ops : (xs : List Name) (ss : List State) → AreOps (brings xs ss)
brings_ops [] ss = tt
brings_ops (x ∷ xs) [] = tt
brings_ops (x ∷ xs) (s ∷ ss) = ops_then (bring x s) (brings xs ss) (bring_ops x s) (brings_ops xs ss)

built : (gs : List ℕ) (xs ys : List Call) (a : Actor) → IsIdle a → AreQuiet xs → AreQuiet ys
    → Leaves a (did_all (xs ++ (ys ++ (publish 1 ∷ end ∷ []))) (entered gs pinned.Absent a))
built gs xs ys a idle p q =
    let e = entered gs pinned.Absent a in
    let x = quiet_all xs e p in
    let y = quiet_all ys (did_all xs e) q in
    let s = stays_on x y in
    let is = did_both xs (ys ++ (publish 1 ∷ end ∷ [])) e ∙ did_both ys (publish 1 ∷ end ∷ []) (did_all xs e) in
    subst (Leaves a) (sym is) (record {
      idle = record { right = refl; work = s.work ∙ entered_work gs pinned.Absent a idle };
      facts = s.facts;
      hold = s.hold ∙ tried_hold a.facts gs pinned.Absent (begun a.view);
      cut = s.cut;
    })

create_leaves : (f : Facts) {o : Change} {cs : List Call} → IsCreate f o cs → (a : Actor) → IsIdle a
    → Leaves a (did_all cs a)
create_leaves f create.busy a idle = refused a idle
create_leaves f (create.was_there gs g) a idle = worked gs g [] a tt
create_leaves f (create.was_removed gs) a idle = turned gs pinned.Removed a idle refl
create_leaves f (create.no_memory gs) a idle = turned gs pinned.Absent a idle refl
create_leaves f (create.created gs ss long) a idle =
    let xs = first_names f in
    built gs (probes xs ss) (brings xs ss) a idle (ops_quiet (probes xs ss) (probes_ops xs ss))
    (ops_quiet (brings xs ss) (brings_ops xs ss))

pub creates_leaves : {o : Change} {a b : Actor} → Creates o a b → IsIdle a → Leaves a b
creates_leaves {a = a} x idle = subst (Leaves a) (sym x.does.becomes) (create_leaves a.facts x.licence a idle)

-- ---- remove

remove_leaves : (f : Facts) {o : Change} {cs : List Call} → IsRemove f o cs → (a : Actor) → IsIdle a
    → Leaves a (did_all cs a)
remove_leaves f remove.busy a idle = refused a idle
remove_leaves f (remove.absent gs) a idle = turned gs pinned.Absent a idle refl
remove_leaves f (remove.was_removed gs) a idle = turned gs pinned.Removed a idle refl
remove_leaves f (remove.removed_now gs g) a idle = record {
  idle = record { right = refl; work = refl };
  facts = refl;
  hold = tried_hold a.facts gs (pinned.At g) (begun a.view);
  cut = refl;
}

pub removes_leaves : {o : Change} {a b : Actor} → Removes o a b → IsIdle a → Leaves a b
removes_leaves {a = a} x idle = subst (Leaves a) (sym x.does.becomes) (remove_leaves a.facts x.licence a idle)

-- ---- convert

quiet_conversion : {f : Facts} {g : ℕ} {o : Change} {done : List Call} → IsConversion f g o done → AreQuiet done
quiet_conversion {f = f} {g = g} (convert.converted states made all) =
    quiet_append (whole f g states) (publish (g + 2) ∷ []) (ops_quiet (whole f g states) (whole_ops f g states))
    (tt, tt)
quiet_conversion {f = f} {g = g} (convert.cut states o done all is) =
    ops_quiet done (cut_ops is (whole_ops f g states))

convert_leaves : {f : Facts} {upto : ℕ} {o : Change} {cs : List Call} → IsConvert f upto o cs → (a : Actor) → IsIdle a
    → Leaves a (did_all cs a)
convert_leaves convert.busy a idle = refused a idle
convert_leaves (convert.absent gs) a idle = turned gs pinned.Absent a idle refl
convert_leaves (convert.was_removed gs) a idle = turned gs pinned.Removed a idle refl
convert_leaves (convert.last gs g low) a idle = worked gs g [] a tt
convert_leaves (convert.converting gs g o done low is) a idle = worked gs g done a (quiet_conversion is)

pub converts_leaves : {upto : ℕ} {stop : Option ℕ} {o : Change} {a b : Actor}
    → Converts upto stop o a b → IsIdle a → Leaves a b
converts_leaves {a = a} x idle = subst (Leaves a) (sym x.does.becomes) (convert_leaves x.licence a idle)
