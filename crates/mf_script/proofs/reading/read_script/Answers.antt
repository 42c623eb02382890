use Rattle.std.proofs.Common.{◌∙◌, subst}
use Rattle.mf_shape.specs.Chain.{Chain, IsShape}
use Rattle.mf_check.specs.Faults as families
use Rattle.mf_script.proofs.Exclusive.{told_is_no_script}
use Rattle.mf_script.proofs.ScriptLemmas.{line_fault, shape_fault, family_fault, read_is, read_kept}
use Rattle.mf_script.proofs.reading.read_script.Goals as goal

pub returns-in-Err-clause-fault : goal.returns-in-Err-clause-fault
returns-in-Err-clause-fault c = line_fault c.args.text.now c.in-Err.fault c.in-Err.ensures

pub returns-in-Err-clause-none : goal.returns-in-Err-clause-none
returns-in-Err-clause-none c = told_is_no_script c.args.text.now _ _ (returns-in-Err-clause-fault c)

pub returns-in-Err-new-clause-fault : goal.returns-in-Err-new-clause-fault
returns-in-Err-new-clause-fault c =
    rw c.shape_fault.ensures
    (shape_fault c.args.text.now c.in-Ok.draft c.in-Ok.ensures c.in-Err-new.fault
    (rw c.deref.ensures.value at c.in-Err-new.ensures.refused))

pub returns-in-Err-new-clause-none : goal.returns-in-Err-new-clause-none
returns-in-Err-new-clause-none c = told_is_no_script c.args.text.now _ _ (returns-in-Err-new-clause-fault c)

pub returns-in-Err-check-clause-fault : goal.returns-in-Err-check-clause-fault
returns-in-Err-check-clause-fault c =
    let shape = rw c.deref.ensures.value at c.in-Ok-new.ensures.kept.0 in
    let kept = subst IsShape shape c.in-Ok-new.ensures.kept.1 in
    let fault =
    subst (λ (s : Chain). families.IsFault s.stages c.as_slice.result.now c.in-Err-check.fault) shape
    c.in-Err-check.ensures.fault in
    rw c.family_fault.ensures
    (family_fault c.args.text.now c.in-Ok.draft c.in-Ok.ensures c.in-Err-check.fault kept
    (rw c.as_slice.ensures at fault))

pub returns-in-Err-check-clause-none : goal.returns-in-Err-check-clause-none
returns-in-Err-check-clause-none c = told_is_no_script c.args.text.now _ _ (returns-in-Err-check-clause-fault c)

pub invariant_of-result : goal.invariant_of-result
invariant_of-result c =
    let shape = rw c.deref.ensures.value at c.in-Ok-new.ensures.kept.0 in
    let code = c.in-Ok-check.ensures.family in
    read_kept c.args.text.now c.in-Ok.draft c.in-Ok.ensures c.in-Ok-one_family.families.items c.in-Ok-check.family
    c.in-Ok-one_family.ensures
    (code.0 ∙ (λ i. record { shape = shape i; points = c.as_slice.ensures i })) code.1

pub returns-clause-script : goal.returns-clause-script
returns-clause-script c =
    let shape = rw c.deref.ensures.value at c.in-Ok-new.ensures.kept.0 in
    let code = c.in-Ok-check.ensures.family in
    read_is c.args.text.now c.in-Ok.draft c.in-Ok.ensures c.in-Ok-one_family.families.items c.in-Ok-check.family
    c.in-Ok-one_family.ensures
    (code.0 ∙ (λ i. record { shape = shape i; points = c.as_slice.ensures i })) code.1
