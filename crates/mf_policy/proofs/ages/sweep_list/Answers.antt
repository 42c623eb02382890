use Rattle.std.proofs.Common.{◌≡◌, ℕ, ◌++◌, ◌∷◌, [], ◌∙◌, not, eqb, ap, sym, cond, arith, get_or}
use Rattle.std.proofs.Common.{None}
use Rattle.std.proofs.lemmas.List.{get_or-map, get_or_default}
use Rattle.std.proofs.lemmas.List.FromFn.{filter_of_map_range_with_len_more}
use Rattle.mf_policy.specs.Due.{due_by, due_file, policies_of}
use Rattle.mf_policy.proofs.ages.sweep_list.Goals as goal

pub loop-file-preserved : goal.loop-file-preserved
loop-file-preserved c =
    let i = c.loop-file.file in
    let policies = c.args.policies.now in
    let of = c.args.of.now in
    let age = get_or c.args.ages.now i 0 in
    let family = get_or of i 0 in
    let here : c.index-policies-of.result ≡ get_or (policies_of policies of) i None =
    c.index-policies-of.is
    ∙ get_or_default policies family c.index-policies-of.result None (c.requires.families i 0 (omega arith))
    ∙ sym (get_or-map (λ x. get_or policies x None) of i 0 None (omega arith)) in
    let due = c.due_by.ensures ∙ ap (λ p. due_by p age) here in
    c.in_ok-add_due.ensures
    ∙ (λ j. c.loop-file.invariant j ++ cond (not (eqb (due j) 0)) ((i, due j) ∷ []) [])
    ∙ sym (filter_of_map_range_with_len_more (λ (d : ℕ × ℕ). not (eqb d.1 0))
    (due_file (policies_of policies of) c.args.ages.now) 0 i i (omega arith))
