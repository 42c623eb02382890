use Rattle.std.proofs.Common.{◌∙◌, ap, ℕ, ◌≤◌, List, length, sym, subst}
use Rattle.mf_text.specs.Lines.{lines_of}
use Rattle.mf_script.specs.Printing.{script_text, AreAlike}
use Rattle.mf_script.specs.Scripts.{script_with, IsScript}
use Rattle.mf_script.proofs.ScriptLemmas.{if_ok-map, printed_text, printed, lines_kept, shortest}
use Rattle.mf_script.proofs.printing.print_script.Goals as goal

pub returns-clause-text : goal.returns-clause-text
returns-clause-text c =
    let s = c.script.inside in
    if_ok-map c.print.result _ _
    (λ v is. is ∙ printed_text s.servers s.chunk _ _ _ s.file_families.items _ _
    ∙ ap script_text
    ((λ i. script_with s.servers s.chunk (c.deref.ensures.value i) (c.as_ref.ensures.value i)
    (c.deref-2.ensures.value i) s.file_families.items (c.deref-3.ensures.value i) (c.deref-4.ensures.value i))
    ∙ c.script.view_is))
    c.print.ensures

pub returns-clause-again : goal.returns-clause-again
returns-clause-again c =
    if_ok-map c.print.result _ _
    (λ v is text script. subst (λ t. IsScript t c.args.script.now) (sym is) (printed text c.args.script.now script))
    (returns-clause-text c)

pub returns-clause-short : goal.returns-clause-short
returns-clause-short c =
    if_ok-map c.print.result _ _
    (λ v is text script. subst (λ (t : List ℕ). length t ≤ length text) (sym is)
    (shortest text c.args.script.now script)) (returns-clause-text c)

pub returns-clause-lines : goal.returns-clause-lines
returns-clause-lines c =
    if_ok-map c.print.result _ _
    (λ v is text script. subst (λ (t : List ℕ). AreAlike (lines_of text) (lines_of t)) (sym is)
    (lines_kept text c.args.script.now script)) (returns-clause-text c)
