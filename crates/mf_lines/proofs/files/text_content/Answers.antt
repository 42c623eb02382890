use Rattle.std.proofs.Common.{◌∙◌, sym, ap, length, Ok}
use Rattle.std.proofs.lemmas.Bool.{eqb-true}
use Rattle.mf_lines.specs.declared.parts.Content.TheVariants as given
use Rattle.mf_lines.specs.Words.{behind}
use Rattle.mf_lines.specs.Lines.{text_in}
use Rattle.mf_lines.proofs.ListLemmas.{text_none, text_some}
use Rattle.mf_lines.proofs.files.text_content.Goals as goal

pub returns-then-is_empty : goal.returns-then-is_empty
returns-then-is_empty c _ =
    ap (λ rest. text_in (behind rest)) c.in-Some.is
    ∙ text_none c.in-Some.bytes.now
    (eqb-true (length c.in-Some.bytes.now) 0 (sym c.is_empty.ensures ∙ c.if-is_empty.true))

pub returns : goal.returns
returns c =
    ap (λ rest. text_in (behind rest)) c.in-Some.is
    ∙ text_some c.in-Some.bytes.now (sym c.is_empty.ensures ∙ c.if-is_empty.false)
    ∙ ap (λ b. Ok (given.Text b)) (sym c.in_ok-copied.ensures)
