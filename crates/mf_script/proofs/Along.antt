-- What holds along the lines of a text.
use Rattle.std.proofs.Common.{◌≡◌, ℕ, List, [], ◌∷◌, ◌++◌, sym, subst}
use Rattle.std.proofs.lemmas.List.{append-nil, append_assoc}
use Rattle.mf_text.specs.Lines.{lines_of}
use Rattle.mf_lines.specs.declared.forms.Form.{Form}
use Rattle.mf_lines.specs.Meaning.{SoFar, so_before, with_line, so_with, so_of}
use Rattle.mf_lines.proofs.FormLemmas.{LineIs, line_is}
use Rattle.mf_script.specs.Texts.{MakeForms, HasForms}

-- P speaks of the lines so far, of their forms, and of what they add up to
module _ (P : List (List ℕ) → List Form → SoFar → Type 0)
    (step : (done : List (List ℕ)) (before : List Form) (so : SoFar) (line : List ℕ) (form : Form)
    → LineIs so line form → P done before so → P (done ++ line ∷ []) (before ++ form ∷ []) (with_line so form)) where
  pub along : (done : List (List ℕ)) (before : List Form) (so : SoFar) (lines : List (List ℕ)) (forms : List Form)
      → MakeForms so lines forms → P done before so → P (done ++ lines) (before ++ forms) (so_with so forms)
  along done before so [] [] made h =
      subst (λ d. P d (before ++ []) so) (sym (append-nil done))
      (subst (λ b. P done b so) (sym (append-nil before)) h)
  along done before so [] (form ∷ forms) made h = absurd made
  along done before so (line ∷ lines) [] made h = absurd made
  along done before so (line ∷ lines) (form ∷ forms) made h =
      let all : SoFar = so_with (with_line so form) forms in
      subst (λ d. P d (before ++ form ∷ forms) all) (append_assoc done (line ∷ []) lines)
      (subst (λ b. P ((done ++ line ∷ []) ++ lines) b all) (append_assoc before (form ∷ []) forms)
      (along (done ++ line ∷ []) (before ++ form ∷ []) (with_line so form) lines forms made.1
      (step done before so line form (line_is so line form made.0) h)))

  -- what holds before the first line, and behind each line where it holds before it, holds behind all lines of a text
  pub along_text : (text : List ℕ) (forms : List Form) → HasForms text forms → P [] [] so_before
      → P (lines_of text) forms (so_of forms)
  unfolding so_of
  along_text text forms has h = along [] [] so_before (lines_of text) forms has.lines h
