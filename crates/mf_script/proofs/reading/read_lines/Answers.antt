use Rattle.std.proofs.Common.{◌∙◌, sym, length}
use Rattle.std.proofs.lemmas.Bool.{eqb-true}
use Rattle.mf_script.proofs.ReadingLemmas.{Reading-start, Reading-next, Reading-refused, Reading-end}
use Rattle.mf_script.proofs.reading.read_lines.Goals as goal

pub loop-rest-init : goal.loop-rest-init
loop-rest-init c = Reading-start c.args.text.now c.new-draft.result c.new-draft.ensures.so c.new-draft.ensures.draft

pub returns-in-Err : goal.returns-in-Err
returns-in-Err c =
    Reading-refused c.args.text.now c.loop-rest.rest.now c.loop-rest.draft c.first_line-len.result.0
    c.first_line-len.result.1 c.in-Err.kind c.loop-rest.invariant c.first_line-len.ensures.first
    c.in-Err.ensures.fault

pub loop-rest-preserved : goal.loop-rest-preserved
loop-rest-preserved c =
    Reading-next c.args.text.now c.loop-rest.rest.now c.loop-rest.draft c.add_line.new.self c.first_line-len.result.0
    c.first_line-len.result.1 c.loop-rest.invariant c.first_line-len.ensures.first
    c.first_line-len.ensures.bounded c.first_line-len.ensures.progress c.in_default.ensures.line
    c.in_default.ensures.draft

pub returns-in-None : goal.returns-in-None
returns-in-None c =
    let none = eqb-true (length c.loop-rest.rest.now) 0 (sym c.is_empty.ensures ∙ c.loop-rest-test.false) in
    Reading-end c.args.text.now c.loop-rest.rest.now c.loop-rest.draft _ c.loop-rest.invariant none
    (sym c.end_fault.ensures ∙ c.in-None.is)

pub returns-in-Some : goal.returns-in-Some
returns-in-Some c _ =
    let none = eqb-true (length c.loop-rest.rest.now) 0 (sym c.is_empty.ensures ∙ c.loop-rest-test.false) in
    Reading-end c.args.text.now c.loop-rest.rest.now c.loop-rest.draft _ c.loop-rest.invariant none
    (sym c.end_fault.ensures ∙ c.in-Some.is)
