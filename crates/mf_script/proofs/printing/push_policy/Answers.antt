use Rattle.std.proofs.Common.{◌++◌, [], ◌∙◌, sym, ap}
use Rattle.std.specs.Prelude.{option_copied}
use Rattle.mf_lines.specs.declared.forms.Form.TheVariants as says
use Rattle.mf_script.specs.Printing.{policy_forms, next_line, lines_text}
use Rattle.mf_script.proofs.TextLemmas.{on_ok-map, lines_text-one, none_yet}
use Rattle.mf_script.proofs.printing.push_policy.Goals as goal

pub returns-in-None : goal.returns-in-None
returns-in-None c =
    none_yet [] c.args.out.now.items
    ∙ ap (λ p. c.args.out.now.items ++ lines_text [] (policy_forms (option_copied p))) (sym c.in-None.is)

pub returns-in-Some : goal.returns-in-Some
returns-in-Some c =
    on_ok-map c.push_thresholds.result _ _
    (λ e. e ∙ ap (λ ts. c.args.out.now.items ++ next_line [] (says.Policy ts)) c.thresholds.ensures.value
    ∙ ap (λ r. c.args.out.now.items ++ r) (sym (lines_text-one [] (says.Policy c.in-Some.policy.now)))
    ∙ ap (λ p. c.args.out.now.items ++ lines_text [] (policy_forms (option_copied p))) (sym c.in-Some.is))
    c.push_thresholds.ensures
