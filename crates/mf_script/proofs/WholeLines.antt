-- Texts of whole lines, each of which has its form behind the lines so far.
use Rattle.std.proofs.Common.{◌≡◌, ℕ, zero, suc, ◌+◌, ◌*◌, ◌≤◌, ◌<◌, true, not, List, [], ◌∷◌, ◌++◌, length}
use Rattle.std.proofs.Common.{Some, Ok, refl, sym, ap, ◌∙◌, subst, arith}
use Rattle.std.specs.Prelude.{ok_or}
use Rattle.std.specs.List.{flat_map, range_with_len, join_with_byte}
use Rattle.std.proofs.lemmas.Bool.{cond-true, cond-false}
use Rattle.std.proofs.lemmas.List.{append_assoc, length-append}
use Rattle.mf_text.specs.Lines.{lines_of}
use Rattle.mf_text.proofs.LineLemmas.{lines_of-cons}
use Rattle.mf_text.proofs.WordLemmas.{words_of-join}
use Rattle.mf_lines.specs.declared.parts.Kind.TheVariants as kind
use Rattle.mf_lines.specs.declared.words.LineWord.{LineWord}
use Rattle.mf_lines.specs.declared.forms.Form.{Form}
use Rattle.mf_lines.specs.Words.{refuse, word_text, word_of}
use Rattle.mf_lines.specs.Meaning.{SoFar, with_line, so_with}
use Rattle.mf_lines.specs.Lines.{form_in, may_follow, later_form, placed, form_at}
use Rattle.mf_lines.proofs.FormLemmas.{line_is}
use Rattle.mf_lines.proofs.CommandLemmas.{then, AreFit, clean_joined, words_alone}
use Rattle.mf_script.specs.Texts.{MakeForms}

-- ---- some lines, and more

so_more : (so : SoFar) (fs gs : List Form) → so_with so (fs ++ gs) ≡ so_with (so_with so fs) gs
so_more so [] gs = refl
so_more so (f ∷ fs) gs = so_more (with_line so f) fs gs

made_more : (so : SoFar) (a b : List (List ℕ)) (fs gs : List Form) → MakeForms so a fs
    → MakeForms (so_with so fs) b gs → MakeForms so (a ++ b) (fs ++ gs)
made_more so [] b [] gs h k = k
made_more so [] b (f ∷ fs) gs h k = absurd h
made_more so (x ∷ a) b [] gs h k = absurd h
made_more so (x ∷ a) b (f ∷ fs) gs h k = (h.0, made_more (with_line so f) a b fs gs h.1 k)

-- ---- texts

-- The text is whole lines of at most 64 bytes with their ends, whatever stands behind them. Behind the lines so far
-- each has its form, and what they then add up to has P.
pub record Goes (P : SoFar → Type 0) (so : SoFar) (text : List ℕ) : Type 0 where
  pub lines : List (List ℕ)
  pub forms : List Form
  pub splits : (rest : List ℕ) → lines_of (text ++ rest) ≡ lines ++ lines_of rest
  pub made : MakeForms so lines forms
  pub short : length text + 64 * so.lines ≤ 64 * (so_with so forms).lines
  pub holds : P (so_with so forms)

-- a text, and more of it
pub along : (P Q : SoFar → Type 0) (so : SoFar) (a b : List ℕ) → Goes P so a
    → ((next : SoFar) → P next → Goes Q next b) → Goes Q so (a ++ b)
along P Q so a b first more =
    let next : SoFar = so_with so first.forms in
    let second = more next first.holds in
    let all = so_more so first.forms second.forms in
    record {
      lines = first.lines ++ second.lines;
      forms = first.forms ++ second.forms;
      splits = λ rest. ap lines_of (append_assoc a b rest) ∙ first.splits (b ++ rest)
          ∙ ap (λ ls. first.lines ++ ls) (second.splits rest)
          ∙ sym (append_assoc first.lines second.lines (lines_of rest));
      made = made_more so first.lines second.lines first.forms second.forms first.made second.made;
      short = omega (
        arith,
        length-append a b,
        first.short,
        second.short,
        ap (λ (x : SoFar). x.lines) all,
      );
      holds = subst Q (sym all) second.holds;
    }

-- what has P has Q
pub as_well : (P Q : SoFar → Type 0) (so : SoFar) (text : List ℕ) → ((next : SoFar) → P next → Q next)
    → Goes P so text → Goes Q so text
as_well P Q so text follows h = record {
  lines = h.lines;
  forms = h.forms;
  splits = h.splits;
  made = h.made;
  short = h.short;
  holds = follows (so_with so h.forms) h.holds;
}

-- no line
pub nothing : (P : SoFar → Type 0) (so : SoFar) → P so → Goes P so []
nothing P so h = record {
  lines = [];
  forms = [];
  splits = λ rest. refl;
  made = tt;
  short = omega arith;
  holds = h;
}

-- one line
pub one_line : (P : SoFar → Type 0) (so : SoFar) (line : List ℕ) (form : Form) → form_at so line ≡ Ok form
    → length line ≤ 63 → P (with_line so form) → Goes P so (line ++ 10 ∷ [])
one_line P so line form is short h = record {
  lines = line ∷ [];
  forms = form ∷ [];
  splits = λ rest. ap lines_of (append_assoc line (10 ∷ []) rest)
      ∙ lines_of-cons line rest (line_is so line form is).clean;
  made = (is, tt);
  short = omega (arith, short, length-append line (10 ∷ []));
  holds = h;
}

-- pieces in turn, each of which leads from the P of its number to the next one
pub turns : (P : ℕ → SoFar → Type 0) (f : ℕ → List ℕ) (end : ℕ)
    → ((i : ℕ) (so : SoFar) → i < end → P i so → Goes (P (i + 1)) so (f i))
    → (i n : ℕ) → i + n ≤ end → (so : SoFar) → P i so → Goes (P (i + n)) so (flat_map f (range_with_len i n))
turns P f end step i zero le so h =
    let e : i ≡ i + 0 = omega arith in nothing (P (i + 0)) so (subst (λ k. P k so) e h)
turns P f end step i (suc n) le so h =
    let e : i + 1 + n ≡ i + suc n = omega arith in
    along (P (i + 1)) (P (i + suc n)) so (f i) (flat_map f (range_with_len (i + 1) n)) (step i so (omega arith) h)
    (λ next k. subst (λ m. Goes (P m) next (flat_map f (range_with_len (i + 1) n))) e
    (turns P f end step (i + 1) n (omega arith) next k))

-- ---- a line behind others, word by word

-- a line that is these words has the form that they read as
word_form : (so : SoFar) (last first : LineWord) (ws : List (List ℕ)) (form : Form) → so.last ≡ Some last
    → word_of (word_text first) ≡ Some first → form_in so first ws ≡ Ok form → may_follow last first ≡ true
    → AreFit (word_text first ∷ ws) → form_at so (join_with_byte 32 (word_text first ∷ ws)) ≡ Ok form
unfolding form_at
word_form so last first ws form was spelled e follows fit =
    let line : List ℕ = join_with_byte 32 (word_text first ∷ ws) in
    cond-true _ _ _ (clean_joined (word_text first) ws fit) ∙ ap (λ l. placed l so line) was
    ∙ ap (later_form so last) (words_of-join (word_text first) ws fit.0.0 (words_alone ws fit.1))
    ∙ then (ok_or (word_of (word_text first)) kind.Unknown) _ first form (ap (λ o. ok_or o kind.Unknown) spelled)
    (then (form_in so first ws) _ form form e
    (then (refuse (not (may_follow last first)) kind.Order) (λ _. Ok form) tt form
    (cond-false _ _ _ (ap not follows)) refl))

pub word_line : (P : SoFar → Type 0) (so : SoFar) (last first : LineWord) (ws : List (List ℕ)) (form : Form)
    → so.last ≡ Some last → word_of (word_text first) ≡ Some first → form_in so first ws ≡ Ok form
    → may_follow last first ≡ true → AreFit (word_text first ∷ ws)
    → length (join_with_byte 32 (word_text first ∷ ws)) ≤ 63 → P (with_line so form)
    → Goes P so (join_with_byte 32 (word_text first ∷ ws) ++ 10 ∷ [])
word_line P so last first ws form was spelled e follows fit short h =
    one_line P so (join_with_byte 32 (word_text first ∷ ws)) form
    (word_form so last first ws form was spelled e follows fit) short h
