-- The loop over the lines of a text.
use Rattle.std.proofs.Common.{◌≡◌, ◌≢◌, ℕ, ◌+◌, ◌-◌, ◌<◌, ◌≤◌, List, length, take, drop, Option, Err}
use Rattle.std.proofs.Common.{sym, ap, ◌∙◌, subst, arith}
use Rattle.std.proofs.lemmas.List.{length-drop, nil_from_length, take_rest}
use Rattle.mf_text.specs.Lines.{lines_of, IsFirstLine}
use Rattle.mf_text.proofs.LineLemmas.{lines_of-nil}
use Rattle.mf_lines.specs.declared.parts.Kind.{Kind}
use Rattle.mf_lines.specs.declared.parts.Kind.TheVariants as kind
use Rattle.mf_lines.specs.declared.draft.Draft.{Draft}
use Rattle.mf_lines.specs.Meaning.{SoFar, so_before}
use Rattle.mf_lines.specs.Lines.{form_at}
use Rattle.mf_lines.specs.Drafts.{so_in, IsDraft, Adds}
use Rattle.mf_script.specs.Texts.{end_fault}
use Rattle.mf_script.specs.Passes.{at_end, read_lines}
use Rattle.mf_script.proofs.PassLemmas.{read_more, read_refused, read_end}

-- the rest of the text is read behind the draft
pub record Reading (text rest : List ℕ) (draft : Draft) : Type 0 where
  pub goes : read_lines so_before (lines_of text) ≡ read_lines (so_in draft) (lines_of rest)
  pub kept : IsDraft draft
  pub used : draft.lines + length rest ≤ length text

pub Reading-start : (text : List ℕ) (draft : Draft) → so_in draft ≡ so_before → IsDraft draft → Reading text text draft
Reading-start text draft so kept =
    let none : draft.lines ≡ 0 = ap (λ (x : SoFar). x.lines) so in
    record { goes = ap (λ x. read_lines x (lines_of text)) (sym so); kept = kept; used = omega arith }

pub Reading-next : (text rest : List ℕ) (old new : Draft) (len whole : ℕ) → Reading text rest old
    → IsFirstLine rest len whole → whole ≤ length rest → 0 < whole
    → Adds (so_in old) (so_in new) (take len rest) → IsDraft new
    → Reading text (take (length rest - whole) (drop whole rest)) new
Reading-next text rest old new len whole so first fits some adds kept =
    let more : new.lines ≡ old.lines + 1 = ap (λ (x : SoFar). x.lines) adds.so in
    let used = so.used in
    let left = length-drop whole rest in
    let next : Reading text (drop whole rest) new = record {
      goes = so.goes ∙ ap (read_lines (so_in old)) first.line
          ∙ read_more (so_in old) (take len rest) (lines_of (drop whole rest)) adds.form adds.said
          ∙ ap (λ x. read_lines x (lines_of (drop whole rest))) (sym adds.so);
      kept = kept;
      used = omega arith;
    } in
    subst (λ r. Reading text r new) (sym (take_rest rest whole)) next

pub Reading-refused : (text rest : List ℕ) (old : Draft) (len whole : ℕ) (k : Kind) → Reading text rest old
    → IsFirstLine rest len whole
    → (k ≢ kind.Memory → form_at (so_in old) (take len rest) ≡ Err k) → k ≢ kind.Memory
    → read_lines so_before (lines_of text) ≡ Err (record { line = old.lines + 1; kind = k })
Reading-refused text rest old len whole k so first refused other =
    so.goes ∙ ap (read_lines (so_in old)) first.line
    ∙ read_refused (so_in old) (take len rest) (lines_of (drop whole rest)) k (refused other)

pub Reading-end : (text rest : List ℕ) (draft : Draft) (o : Option Kind) → Reading text rest draft → length rest ≡ 0
    → end_fault draft.last ≡ o → read_lines so_before (lines_of text) ≡ at_end (so_in draft) o
Reading-end text rest draft o so none is =
    so.goes ∙ ap (λ r. read_lines (so_in draft) (lines_of r)) (nil_from_length rest none)
    ∙ ap (read_lines (so_in draft)) lines_of-nil ∙ read_end (so_in draft) o is
