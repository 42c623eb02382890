-- One pass over the lines finds what they add up to, or the first fault, and no other.
use Rattle.std.proofs.Common.{◌≡◌, ℕ, ◌+◌, List, [], ◌∷◌, ◌++◌, length, Option, Some, None, Result, Ok, Err}
use Rattle.std.proofs.Common.{ltb, refl, sym, ap, ◌∙◌, subst, arith, inl, inr, ◌⊎◌}
use Rattle.std.proofs.lemmas.Bool.{cases_Bool, cond-true, cond-false, ltb-true, ltb-false, lt-ltb, le-ltb}
use Rattle.mf_text.specs.Lines.{lines_of}
use Rattle.mf_lines.specs.declared.words.LineWord.{LineWord}
use Rattle.mf_lines.specs.declared.words.LineWord.TheVariants as word
use Rattle.mf_lines.specs.declared.parts.LimitName.TheVariants as limit
use Rattle.mf_lines.specs.declared.parts.Kind.{Kind}
use Rattle.mf_lines.specs.declared.parts.Kind.TheVariants as kind
use Rattle.mf_lines.specs.declared.parts.ScriptFault.{ScriptFault}
use Rattle.mf_lines.specs.declared.forms.Form.{Form}
use Rattle.mf_lines.specs.Meaning.{SoFar, so_before, with_line, so_with, so_of}
use Rattle.mf_lines.specs.Lines.{form_at}
use Rattle.mf_script.specs.Texts.{end_fault, MakeForms, HasForms, IsLineFault}
use Rattle.mf_script.specs.Passes.{at_end, after, read_lines, read_text}

-- ---- the end

ends : (last : Option LineWord) → end_fault last ≡ None → last ≡ Some word.End
ends None e = absurd cc
ends (Some word.End) e = refl
ends (Some last) e = absurd cc

ended_ok : (so all : SoFar) (k : Option Kind) → at_end so k ≡ Ok all → (k ≡ None) × (so ≡ all)
ended_ok so all None e = (refl, cc)
ended_ok so all (Some k) e = absurd cc

-- the line and the kind of a fault
abbrev pub line_in : Result SoFar ScriptFault → ℕ
line_in (Ok so) = 0
line_in (Err fault) = fault.line

abbrev pub kind_in : Result SoFar ScriptFault → Kind
kind_in (Ok so) = kind.Memory
kind_in (Err fault) = fault.kind

ended_err : (so : SoFar) (o : Option Kind) (n : ℕ) (k : Kind) → at_end so o ≡ Err (record { line = n; kind = k })
    → (o ≡ Some k) × (n ≡ so.lines + 1)
ended_err so None n k e = absurd cc
ended_err so (Some j) n k e = (ap Some (ap kind_in e), sym (ap line_in e))

-- ---- one line

pub read_more : (so : SoFar) (line : List ℕ) (lines : List (List ℕ)) (form : Form) → form_at so line ≡ Ok form
    → read_lines so (line ∷ lines) ≡ read_lines (with_line so form) lines
unfolding read_lines
read_more so line lines form e = ap (λ r. after so r (λ f. read_lines (with_line so f) lines)) e

pub read_refused : (so : SoFar) (line : List ℕ) (lines : List (List ℕ)) (k : Kind) → form_at so line ≡ Err k
    → read_lines so (line ∷ lines) ≡ Err (record { line = so.lines + 1; kind = k })
unfolding read_lines
read_refused so line lines k e = ap (λ r. after so r (λ f. read_lines (with_line so f) lines)) e

pub read_end : (so : SoFar) (o : Option Kind) → end_fault so.last ≡ o → read_lines so [] ≡ at_end so o
unfolding read_lines
read_end so o e = ap (at_end so) e

-- ---- lines that have forms

record Passed (so : SoFar) (lines : List (List ℕ)) (all : SoFar) : Type 0 where
  forms : List Form
  made : MakeForms so lines forms
  is : all ≡ so_with so forms
  last : all.last ≡ Some word.End

passed : (so : SoFar) (lines : List (List ℕ)) (all : SoFar) → read_lines so lines ≡ Ok all → Passed so lines all
unfolding read_lines
passed so [] all e =
    let done = ended_ok so all (end_fault so.last) e in
    record {
      forms =
          [];
      made = tt;
      is = sym done.1;
      last = subst (λ (x : SoFar). x.last ≡ Some word.End) done.1 (ends so.last done.0);
    }
passed so (line ∷ lines) all e = go (form_at so line) refl e (λ form. passed (with_line so form) lines all)
  where
    go : (r : Result Form Kind) → form_at so line ≡ r
        → after so r (λ form. read_lines (with_line so form) lines) ≡ Ok all
        → ((form : Form) → read_lines (with_line so form) lines ≡ Ok all → Passed (with_line so form) lines all)
        → Passed so (line ∷ lines) all
    go (Ok form) at x more =
        let rest = more form x in
        record { forms = form ∷ rest.forms; made = (at, rest.made); is = rest.is; last = rest.last }
    go (Err k) at x more = absurd cc

have_passed : (so : SoFar) (lines : List (List ℕ)) (forms : List Form) → MakeForms so lines forms
    → (so_with so forms).last ≡ Some word.End → read_lines so lines ≡ Ok (so_with so forms)
have_passed so [] [] h end = read_end so None (ap end_fault end)
have_passed so [] (form ∷ forms) h end = absurd h
have_passed so (line ∷ lines) [] h end = absurd h
have_passed so (line ∷ lines) (form ∷ forms) h end =
    read_more so line lines form h.0 ∙ have_passed (with_line so form) lines forms h.1 end

-- ---- the first fault

record FirstFrom (so : SoFar) (lines : List (List ℕ)) (n : ℕ) (k : Kind) : Type 0 where
  done : List (List ℕ)
  line : List ℕ
  behind : List (List ℕ)
  forms : List Form
  split : lines ≡ done ++ line ∷ behind
  number : n ≡ so.lines + length done + 1
  read : MakeForms so done forms
  is : form_at (so_with so forms) line ≡ Err k

record EndFrom (so : SoFar) (lines : List (List ℕ)) (n : ℕ) (k : Kind) : Type 0 where
  forms : List Form
  number : n ≡ so.lines + length lines + 1
  read : MakeForms so lines forms
  is : end_fault (so_with so forms).last ≡ Some k

fault_from : (so : SoFar) (lines : List (List ℕ)) (n : ℕ) (k : Kind)
    → read_lines so lines ≡ Err (record { line = n; kind = k }) → FirstFrom so lines n k ⊎ EndFrom so lines n k
unfolding read_lines
fault_from so [] n k e =
    let done = ended_err so (end_fault so.last) n k e in
    inr (record { forms = []; number = omega (arith, done.1); read = tt; is = done.0 })
fault_from so (line ∷ lines) n k e = go (form_at so line) refl e (λ form. fault_from (with_line so form) lines n k)
  where
    go : (r : Result Form Kind) → form_at so line ≡ r
        → after so r (λ form. read_lines (with_line so form) lines) ≡ Err (record { line = n; kind = k })
        → ((form : Form) → read_lines (with_line so form) lines ≡ Err (record { line = n; kind = k })
        → FirstFrom (with_line so form) lines n k ⊎ EndFrom (with_line so form) lines n k)
        → FirstFrom so (line ∷ lines) n k ⊎ EndFrom so (line ∷ lines) n k
    go (Ok form) at x more =
        elim (more form x) [
          | inl h ↦ inl (record {
            done = line ∷ h.done;
            line = h.line;
            behind = h.behind;
            forms = form ∷ h.forms;
            split = ap (λ ls. line ∷ ls) h.split;
            number = omega (arith, h.number);
            read = (at, h.read);
            is = h.is;
          })
          | inr h ↦
              inr (record { forms = form ∷ h.forms; number = omega (arith, h.number); read = (at, h.read); is = h.is })
        ]
    go (Err j) at x more =
        let number : so.lines + 1 ≡ n = ap line_in x in
        let same : j ≡ k = ap kind_in x in
        inl (record {
          done =
              [];
          line =
              line;
          behind =
              lines;
          forms = [];
          split = refl;
          number = omega (arith, number);
          read = tt;
          is = at ∙ ap Err same;
        })

first_found : (so : SoFar) (done : List (List ℕ)) (line : List ℕ) (behind : List (List ℕ)) (forms : List Form) (n : ℕ)
    (k : Kind)
    → MakeForms so done forms → form_at (so_with so forms) line ≡ Err k → n ≡ so.lines + length done + 1
    → read_lines so (done ++ line ∷ behind) ≡ Err (record { line = n; kind = k })
first_found so [] line behind [] n k h is number =
    let same : so.lines + 1 ≡ n = omega arith in
    read_refused so line behind k is ∙ ap (λ m. Err (record { line = m; kind = k })) same
first_found so [] line behind (form ∷ forms) n k h is number = absurd h
first_found so (d ∷ done) line behind [] n k h is number = absurd h
first_found so (d ∷ done) line behind (form ∷ forms) n k h is number =
    read_more so d (done ++ line ∷ behind) form h.0
    ∙ first_found (with_line so form) done line behind forms n k h.1 is (omega arith)

end_found : (so : SoFar) (lines : List (List ℕ)) (forms : List Form) (n : ℕ) (k : Kind)
    → MakeForms so lines forms → end_fault (so_with so forms).last ≡ Some k → n ≡ so.lines + length lines + 1
    → read_lines so lines ≡ Err (record { line = n; kind = k })
end_found so [] [] n k h is number =
    let same : so.lines + 1 ≡ n = omega arith in
    read_end so (Some k) is ∙ ap (λ m. Err (record { line = m; kind = k })) same
end_found so [] (form ∷ forms) n k h is number = absurd h
end_found so (line ∷ lines) [] n k h is number = absurd h
end_found so (line ∷ lines) (form ∷ forms) n k h is number =
    read_more so line lines form h.0 ∙ end_found (with_line so form) lines forms n k h.1 is (omega arith)

-- ---- of a whole text

pub record HasSo (text : List ℕ) (so : SoFar) : Type 0 where
  pub forms : List Form
  pub lines : HasForms text forms
  pub is : so ≡ so_of forms

pub so_read : (text : List ℕ) (so : SoFar) → read_text text ≡ Ok so → HasSo text so
unfolding read_text so_of
so_read text so e =
    elim (cases_Bool (ltb 1048576 (length text))) [
      | inl holds ↦ let at = sym (cond-true _ _ _ holds) ∙ e in absurd cc
      | inr fails ↦
          let have = passed so_before (lines_of text) so (sym (cond-false _ _ _ fails) ∙ e) in
          record {
            forms = have.forms;
            lines = record {
              short =
                  ltb-false 1048576 (length text) fails;
              lines =
                  have.made;
              ended = ap (λ (x : SoFar). x.last) (sym have.is) ∙ have.last;
            };
            is = have.is;
          }
    ]

pub read_text-have : (text : List ℕ) (forms : List Form) → HasForms text forms → read_text text ≡ Ok (so_of forms)
unfolding read_text so_of
read_text-have text forms h =
    let short = h.short in
    cond-false _ _ _ (le-ltb 1048576 (length text) (omega arith))
    ∙ have_passed so_before (lines_of text) forms h.lines h.ended

pub fault_read : (text : List ℕ) (n : ℕ) (k : Kind) → read_text text ≡ Err (record { line = n; kind = k })
    → IsLineFault text n k
unfolding read_text so_of
fault_read text n k e =
    elim (cases_Bool (ltb 1048576 (length text))) [
      | inl holds ↦
          let at = sym (cond-true _ _ _ holds) ∙ e in
          let number : 0 ≡ n = ap line_in at in
          let same : kind.Limit limit.Text ≡ k = ap kind_in at in
          inl (record { long = ltb-true 1048576 (length text) holds; number = sym number; is = sym same })
      | inr fails ↦
          inr (
            ltb-false 1048576 (length text) fails,
            elim (fault_from so_before (lines_of text) n k (sym (cond-false _ _ _ fails) ∙ e)) [
              | inl h ↦
                  inl (record {
                    before =
                        h.done;
                    line =
                        h.line;
                    after =
                        h.behind;
                    forms =
                        h.forms;
                    split = h.split;
                    number = omega (arith, h.number);
                    read = h.read;
                    is = h.is;
                  })
              | inr h ↦ inr (record { forms = h.forms; number = omega (arith, h.number); read = h.read; is = h.is })
            ],
          )
    ]

pub read_text-fault : (text : List ℕ) (n : ℕ) (k : Kind) → IsLineFault text n k
    → read_text text ≡ Err (record { line = n; kind = k })
unfolding read_text so_of
read_text-fault text n k (inl h) =
    cond-true _ _ _ (lt-ltb 1048576 (length text) h.long)
    ∙ (λ i. Err (record { line = sym h.number i; kind = sym h.is i }))
read_text-fault text n k (inr (short, inl h)) =
    cond-false _ _ _ (le-ltb 1048576 (length text) short)
    ∙ ap (read_lines so_before) h.split
    ∙ first_found so_before h.before h.line h.after h.forms n k h.read h.is (omega (arith, h.number))
read_text-fault text n k (inr (short, inr h)) =
    cond-false _ _ _ (le-ltb 1048576 (length text) short)
    ∙ end_found so_before (lines_of text) h.forms n k h.read h.is (omega (arith, h.number))
