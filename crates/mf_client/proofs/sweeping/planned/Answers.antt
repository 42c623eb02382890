use Rattle.std.proofs.Common.{◌≡◌, sym, ap, ◌∙◌, subst, map, arith, length, List, Option, ℕ}
use Rattle.std.proofs.lemmas.List.{length-map}
use Rattle.mf_policy.specs.Due.{policies_of, sweep_of}
use Rattle.mf_script.specs.Families.{file_policies}
use Rattle.mf_client.specs.Sweeps.{ages_in}
use Rattle.mf_client.specs.Steps.{AreDue}
use Rattle.mf_client.proofs.Dues.{all_due, few_due}
use Rattle.mf_client.proofs.sweeping.planned.Goals as goal

pub returns-clause-dues : goal.returns-clause-dues
returns-clause-dues g c =
    c.in_ok-dues.ensures
    ∙ (λ i. sweep_of (policies_of (c.policies-policies.ensures.value i) (c.file_families-families.ensures.value i))
    ((c.as_slice.ensures.value ∙ c.in_ok-ages.ensures) i))

pub returns-clause-due : goal.returns-clause-due
returns-clause-due g c =
    let actors = map g.A.Access.actor c.args.accesses.now in
    let s = c.args.script.now in
    subst (AreDue s) (sym (returns-clause-dues g c))
    (all_due s actors c.policies-policies.ensures.kept c.file_families-families.ensures.kept
    (length-map c.args.accesses.now g.A.Access.actor ∙ c.requires.count))

pub returns-clause-few : goal.returns-clause-few
returns-clause-few g c =
    let actors = map g.A.Access.actor c.args.accesses.now in
    let same = ap length (returns-clause-dues g c) in
    let low = few_due (file_policies c.args.script.now) actors in
    let long = length-map c.args.accesses.now g.A.Access.actor in
    let few = c.requires.few in omega arith
