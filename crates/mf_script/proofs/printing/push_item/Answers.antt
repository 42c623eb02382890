use Rattle.std.proofs.Common.{◌++◌, ◌∙◌, sym, ap}
use Rattle.mf_lines.specs.Meaning.{names_in}
use Rattle.mf_script.specs.Printing.{item_forms, lines_text}
use Rattle.mf_script.proofs.TextLemmas.{on_ok-map, tick_text}
use Rattle.mf_script.proofs.printing.push_item.Goals as goal

pub returns-in-Tick : goal.returns-in-Tick
returns-in-Tick c =
    on_ok-map c.push_tick.result _ _
    (λ e. e ∙ ap (λ r. c.args.out.now.items ++ r) (tick_text (names_in c.args.files.now) c.in-Tick.ticks)
    ∙ ap (λ x. c.args.out.now.items ++ lines_text (names_in c.args.files.now) (item_forms x)) (sym c.in-Tick.is))
    c.push_tick.ensures
