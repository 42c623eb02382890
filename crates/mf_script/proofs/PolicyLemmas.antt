-- A policy has as many thresholds as there are stages.
use Rattle.std.proofs.Common.{◌≡◌, ℕ, ◌+◌, true, List, [], ◌∷◌, length, Option, Some, None, sym, ap, ◌∙◌, subst, inl}
use Rattle.std.proofs.Common.{inr}
use Rattle.std.proofs.Common.{refl}
use Rattle.std.specs.Prelude.{IfSome}
use Rattle.mf_lines.specs.declared.words.LineWord.{LineWord}
use Rattle.mf_lines.specs.declared.words.LineWord.TheVariants as word
use Rattle.mf_lines.specs.declared.forms.Form.{Form}
use Rattle.mf_lines.specs.declared.forms.Form.TheVariants as says
use Rattle.mf_lines.specs.Meaning.{Script, SoFar, main_of, first_word, with_form}
use Rattle.mf_lines.specs.Lines.{may_follow}
use Rattle.mf_lines.specs.Keeps.{Keeps}
use Rattle.mf_lines.proofs.FormLemmas.{LineIs}

abbrev pub Fits : Script → Type 0
Fits s = IfSome s.policy (λ thresholds. length thresholds ≡ length (main_of s).stages)

-- by the last line: there is none up to the stages
abbrev pub Ruled : Option LineWord → Script → Type 0
Ruled None s = s.policy ≡ None
Ruled (Some word.Morph) s = s.policy ≡ None
Ruled (Some word.Servers) s = s.policy ≡ None
Ruled (Some word.Chunk) s = s.policy ≡ None
Ruled (Some word.Points) s = s.policy ≡ None
Ruled (Some word.Stage) s = s.policy ≡ None
Ruled (Some last) s = Fits s

none_fits : (s : Script) → s.policy ≡ None → Fits s
none_fits s none = subst (λ p. IfSome p (λ thresholds. length thresholds ≡ length (main_of s).stages)) (sym none) tt

fits : (last : LineWord) (s : Script) → Ruled (Some last) s → Fits s
fits word.Morph s ruled = none_fits s ruled
fits word.Servers s ruled = none_fits s ruled
fits word.Chunk s ruled = none_fits s ruled
fits word.Points s ruled = none_fits s ruled
fits word.Stage s ruled = none_fits s ruled
fits last s ruled = ruled

-- one line more
next : (last : LineWord) (so : SoFar) (n : ℕ) (form : Form) → may_follow last (first_word form) ≡ true
    → Keeps so form → Ruled (Some last) so.script → Ruled (Some (first_word form)) (with_form so.script n form)
unfolding may_follow
next word.Morph so n (says.Servers x) e timely ruled = ruled
next word.Servers so n (says.Chunk x) e timely ruled = ruled
next word.Chunk so n (says.Points x) e timely ruled = ruled
next word.Points so n (says.Stage x) e timely ruled = ruled
next word.Stage so n (says.Stage x) e timely ruled = ruled
next last so n (says.Policy thresholds) e timely ruled = timely
next last so n (says.File file) e timely ruled = fits last so.script ruled
next last so n (says.Tick ticks) e timely ruled = fits last so.script ruled
next last so n says.Phase e timely ruled = fits last so.script ruled
next last so n says.Client e timely ruled = fits last so.script ruled
next last so n (says.Command act) e timely ruled = fits last so.script ruled
next last so n (says.Dump file) e timely ruled = fits last so.script ruled
next last so n says.End e timely ruled = fits last so.script ruled
next last so n form e timely ruled = absurd cc

pub ruled_line : (so : SoFar) (line : List ℕ) (form : Form) → LineIs so line form → Ruled so.last so.script
    → Ruled (Some (first_word form)) (with_form so.script (so.lines + 1) form)
ruled_line so line form is ruled =
    elim is.place [
      | inl first ↦ subst (λ f. Ruled (Some (first_word f)) (with_form so.script (so.lines + 1) f)) (sym first.1)
          (subst (λ l. Ruled l so.script) first.0 ruled)
      | inr (last, was, follows) ↦ next last so (so.lines + 1) form follows is.keeps
          (subst (λ l. Ruled l so.script) was ruled)
    ]
