use Rattle.std.proofs.Common.{◌++◌, ◌∷◌, ◌∙◌, sym, ap, map, take}
use Rattle.std.proofs.lemmas.List.{map_more}
use Rattle.mf_lines.specs.declared.forms.Form.TheVariants as says
use Rattle.mf_script.specs.Printing.{command_form}
use Rattle.mf_script.specs.Printing.{lines_text}
use Rattle.mf_lines.specs.Meaning.{names_in}
use Rattle.mf_script.proofs.TextLemmas.{add_form, client_start}
use Rattle.mf_script.proofs.printing.push_client.Goals as goal

pub loop-command-init : goal.loop-command-init
loop-command-init c =
    c.in_ok-begin.ensures ∙ ap (λ r. c.args.out.now.items ++ r) (client_start (names_in c.args.files.now))

pub loop-command-preserved : goal.loop-command-preserved
loop-command-preserved c =
    c.in_ok-push_command.ensures
    ∙ add_form (names_in c.args.files.now) c.args.out.now.items c.loop-command.out.items
    (says.Client ∷ map command_form (take c.loop-command.command-index c.as_slice-command-items.result.now)) _
    c.loop-command.invariant
    ∙ ap (λ fs. c.args.out.now.items ++ lines_text (names_in c.args.files.now) (says.Client ∷ fs))
    (sym (map_more command_form c.as_slice-command-items.result.now c.loop-command.command-index _
    c.loop-command-test.true))
