use Rattle.std.proofs.Common.{◌++◌, ◌∙◌, ap, take}
use Rattle.mf_lines.specs.declared.parts.Item.TheVariants as item
use Rattle.mf_script.specs.Printing.{client_forms, item_forms}
use Rattle.mf_script.specs.Printing.{lines_text}
use Rattle.mf_lines.specs.Meaning.{names_in}
use Rattle.mf_script.proofs.TextLemmas.{add_forms, client_step, phase_start}
use Rattle.mf_script.proofs.printing.push_phase.Goals as goal

pub loop-client-init : goal.loop-client-init
loop-client-init c =
    c.in_ok-begin.ensures ∙ ap (λ r. c.args.out.now.items ++ r) (phase_start (names_in c.args.files.now))

pub loop-client-preserved : goal.loop-client-preserved
loop-client-preserved c =
    c.in_ok-push_client.ensures
    ∙ add_forms (names_in c.args.files.now) c.args.out.now.items c.loop-client.out.items
    (item_forms (item.Phase (take c.loop-client.client-index c.args.clients.now)))
    (client_forms c.client-item.result) c.loop-client.invariant
    ∙ ap (λ fs. c.args.out.now.items ++ lines_text (names_in c.args.files.now) fs)
    (client_step c.args.clients.now c.loop-client.client-index c.client-item.result
    c.loop-client-test.true c.client-item.is)
