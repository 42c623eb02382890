-- A line that has a form is that form's text, stands where it may, and names what it must.
use Rattle.std.proofs.Common.{◌≡◌, ℕ, ◌≤◌, true, false, not, leb, List}
use Rattle.std.proofs.Common.{[], ◌∷◌, Option, Some, None, Ok, refl, sym, ap, ◌∙◌, subst}
use Rattle.std.proofs.Common.{inl, inr, ◌⊎◌}
use Rattle.std.specs.Prelude.{codes, ok_or}
use Rattle.std.specs.List.{join_with_byte}
use Rattle.std.specs.Str.{bytes_eq}
use Rattle.std.proofs.lemmas.Bool.{cases_Bool, cond-true, cond-false, not-false}
use Rattle.std.proofs.lemmas.Slice.Eq.{bytes_eq-Decides}
use Rattle.mf_text.specs.Lines.{is_clean}
use Rattle.mf_text.specs.Words.{words_of}
use Rattle.mf_text.proofs.WordLemmas.{is_word, AreWordsAlone, join-words_of, words_of-join, words_of-words}
use Rattle.mf_lines.specs.declared.parts.Kind.TheVariants as kind
use Rattle.mf_lines.specs.declared.parts.LimitName.TheVariants as limit
use Rattle.mf_lines.specs.declared.words.Verb.{Verb}
use Rattle.mf_lines.specs.declared.words.LineWord.{LineWord}
use Rattle.mf_lines.specs.declared.words.LineWord.TheVariants as word
use Rattle.mf_lines.specs.declared.forms.Form.{Form}
use Rattle.mf_lines.specs.declared.forms.Form.TheVariants as says
use Rattle.mf_lines.specs.Words.{refuse, word_text, word_of}
use Rattle.mf_lines.specs.Words.{no_words, spelled}
use Rattle.mf_lines.specs.Meaning.{SoFar, names_in, first_word}
use Rattle.mf_lines.specs.Lines.{within}
use Rattle.mf_lines.specs.Lines.{form_in, may_follow, first_form}
use Rattle.mf_lines.specs.Lines.{later_form, placed, form_at, knows_servers}
use Rattle.mf_lines.specs.declared.draft.Draft.{Draft}
use Rattle.mf_lines.specs.Drafts.{IsNew}
use Rattle.mf_lines.specs.LineTexts.{line_text}
use Rattle.mf_lines.specs.LineTexts.{Alike}
use Rattle.mf_lines.proofs.LineWordLemmas.{bound, some_is, not_refused, word_is, NewName, KnowsFile, bare_read}
use Rattle.mf_lines.proofs.LineWordLemmas.{servers_read, chunk_read, points_read, stage_read, policy_read, file_read}
use Rattle.mf_lines.proofs.LineWordLemmas.{tick_read, dump_read}
use Rattle.mf_lines.specs.Keeps.{Keeps}
use Rattle.mf_lines.proofs.KeepLemmas.{keeps}
use Rattle.mf_lines.proofs.CommandLemmas.{then, AreFit, fit_words, clean_joined, words_alone, IsRead, as_it_is}
use Rattle.mf_lines.proofs.CommandLemmas.{command_read}

-- ---- any line

pub no_morph : (last : LineWord) → may_follow last word.Morph ≡ false
unfolding may_follow
no_morph word.Morph = refl
no_morph last = refl

-- a command stands behind a line that stands behind the line of the servers
knows_command : (last : LineWord) (v : Verb) → may_follow last (word.Command v) ≡ true
    → knows_servers (Some last) ≡ true
unfolding may_follow
knows_command word.Morph v follows = absurd cc
knows_command last v follows = refl

form_read : (so : SoFar) (last first : LineWord) (ws : List (List ℕ)) (form : Form) → so.last ≡ Some last
    → may_follow last first ≡ true → form_in so first ws ≡ Ok form → IsRead so first ws form
form_read so last word.Morph ws form was follows e = absurd (let no = sym (no_morph last) ∙ follows in cc)
form_read so last word.Servers ws form was follows e =
    as_it_is so word.Servers ws form e (servers_read (names_in so.script.files) ws form e)
form_read so last word.Chunk ws form was follows e =
    as_it_is so word.Chunk ws form e (chunk_read (names_in so.script.files) ws form e)
form_read so last word.Points ws form was follows e =
    as_it_is so word.Points ws form e (points_read (names_in so.script.files) ws form e)
form_read so last word.Stage ws form was follows e =
    as_it_is so word.Stage ws form e (stage_read (names_in so.script.files) ws form e)
form_read so last word.Policy ws form was follows e = as_it_is so word.Policy ws form e (policy_read so ws form e)
form_read so last word.Tick ws form was follows e =
    as_it_is so word.Tick ws form e (tick_read (names_in so.script.files) ws form e)
form_read so last word.File ws form was follows e = as_it_is so word.File ws form e (file_read so ws form e)
form_read so last word.Phase ws form was follows e =
    let a = bound (no_words ws) _ form e in
    let b = bound (within ((leb 64 so.phases, limit.Phases) ∷ [])) (λ _. Ok says.Phase) form a.next in
    as_it_is so word.Phase ws form e
    (bare_read (names_in so.script.files) word.Phase ws a.value says.Phase form a.is (let n =
    b.next in cc) refl refl tt tt)
form_read so last word.Client ws form was follows e =
    let a = bound (no_words ws) _ form e in
    let b = bound (within ((leb 8 so.clients, limit.Clients) ∷ [])) (λ _. Ok says.Client) form a.next in
    as_it_is so word.Client ws form e
    (bare_read (names_in so.script.files) word.Client ws a.value says.Client form a.is (let n =
    b.next in cc) refl refl tt tt)
form_read so last (word.Command v) ws form was follows e =
    command_read so v ws form (ap knows_servers was ∙ knows_command last v follows) e
form_read so last word.Dump ws form was follows e = as_it_is so word.Dump ws form e (dump_read so ws form e)
form_read so last word.End ws form was follows e =
    let a = bound (no_words ws) (λ _. Ok says.End) form e in
    as_it_is so word.End ws form e
    (bare_read (names_in so.script.files) word.End ws a.value says.End form a.is (let n = a.next in cc) refl refl tt tt)

-- What is known of a line that has a form: it is clean; it stands first, or behind a line that it may follow; its
-- file's name is new, or its command's file is there; and it keeps its limits. Where the script has
-- at most 128 servers, it is the form's text, but for the order of a list of servers, and that text has the same form.
pub record LineIs (so : SoFar) (line : List ℕ) (form : Form) : Type 0 where
  pub clean : is_clean line ≡ true
  pub place : ((so.last ≡ None) × (form ≡ says.Morph))
      ⊎ ((last : LineWord) × (so.last ≡ Some last) × (may_follow last (first_word form) ≡ true))
  pub new : NewName (names_in so.script.files) form
  pub known : KnowsFile (names_in so.script.files) form
  pub keeps : Keeps so form
  pub again : form_at so (line_text (names_in so.script.files) form) ≡ Ok form
  pub alike : so.script.servers ≤ 128 → Alike line (line_text (names_in so.script.files) form)

-- where a line reads as a form
module _ (so : SoFar) (last : LineWord) (was : so.last ≡ Some last) where
  again_later : (first : LineWord) (ws : List (List ℕ)) (form : Form) → word_of (word_text first) ≡ Some first
      → form_in so first ws ≡ Ok form → may_follow last first ≡ true → AreFit (word_text first ∷ ws)
      → form_at so (join_with_byte 32 (word_text first ∷ ws)) ≡ Ok form
  unfolding form_at
  again_later first ws form spelled e follows fit =
      let line : List ℕ = join_with_byte 32 (word_text first ∷ ws) in
      cond-true _ _ _ (clean_joined (word_text first) ws fit) ∙ ap (λ l. placed l so line) was
      ∙ ap (later_form so last) (words_of-join (word_text first) ws fit.0.0 (words_alone ws fit.1))
      ∙ then (ok_or (word_of (word_text first)) kind.Unknown) _ first form (ap (λ o. ok_or o kind.Unknown) spelled)
      (then (form_in so first ws) _ form form e
      (then (refuse (not (may_follow last first)) kind.Order) (λ _. Ok form) tt form
      (cond-false _ _ _ (ap not follows)) refl))

  later_is : (line : List ℕ) (ws : List (List ℕ)) (form : Form) → is_clean line ≡ true → words_of line ≡ ws
      → join_with_byte 32 ws ≡ line → later_form so last ws ≡ Ok form → LineIs so line form
  unfolding line_text
  later_is line [] form clean words joined e = absurd cc
  later_is line (w ∷ ws) form clean words joined e =
      let a = bound (ok_or (word_of w) kind.Unknown) _ form e in
      let b = bound (form_in so a.value ws) _ form a.next in
      let c = bound (refuse (not (may_follow last a.value)) kind.Order) (λ _. Ok b.value) form b.next in
      let is : b.value ≡ form = let n = c.next in cc in
      let follows =
      not-false (may_follow last a.value) (not_refused (not (may_follow last a.value)) kind.Order c.value c.is) in
      let found = some_is (word_of w) kind.Unknown a.value a.is in
      let spelling = word_is w a.value found in
      let read = form_read so last a.value ws b.value was follows b.is in
      let text : join_with_byte 32 (word_text a.value ∷ read.printed) ≡ line_text (names_in so.script.files) b.value =
      read.says.text in
      let fit = fit_words w ws (ap is_clean joined ∙ clean) (subst AreWordsAlone words (words_of-words line)) in
      subst (LineIs so line) is (record {
        clean = clean;
        place = inr (last, was, ap (may_follow last) read.says.word ∙ follows);
        new = read.says.new;
        known = read.says.known;
        keeps = keeps so a.value ws b.value b.is read.says.word;
        again = ap (form_at so) (sym text)
            ∙ again_later a.value read.printed b.value (ap word_of (sym spelling) ∙ found) read.again follows
            (subst (λ v. (is_word v ≡ true) × (is_clean v ≡ true)) spelling fit.0, read.fit fit.1);
        alike = λ few. subst (λ l. Alike line l) text
            (subst (λ l. Alike l (join_with_byte 32 (word_text a.value ∷ read.printed)))
            (ap (λ v. join_with_byte 32 (v ∷ ws)) (sym spelling) ∙ joined)
            (read.alike few));
      })

first_is : (so : SoFar) (line : List ℕ) (form : Form) → is_clean line ≡ true → so.last ≡ None
    → first_form line ≡ Ok form → LineIs so line form
unfolding line_text form_at
first_is so line form clean was e =
    elim (cases_Bool (bytes_eq line (codes "morph 1"))) [
      | inl holds ↦
          let at = sym (cond-true _ _ _ holds) ∙ e in
          let is : says.Morph ≡ form = cc in
          let same = (bytes_eq-Decides line (codes "morph 1")).0 holds in
          subst (LineIs so line) is (record {
            clean = clean;
            place = inl (was, refl);
            new = tt;
            known = tt;
            keeps = tt;
            again = ap (form_at so) (sym same)
                ∙ cond-true _ _ _ clean ∙ ap (λ l. placed l so line) was ∙ cond-true _ _ _ holds;
            alike = λ few. inl same;
          })
      | inr fails ↦ let at = sym (cond-false _ _ _ fails) ∙ e in absurd cc
    ]

placed_is : (last : Option LineWord) (so : SoFar) (line : List ℕ) (form : Form) → is_clean line ≡ true
    → so.last ≡ last → placed last so line ≡ Ok form → LineIs so line form
placed_is None so line form clean was e = first_is so line form clean was e
placed_is (Some last) so line form clean was e =
    later_is so last was line (words_of line) form clean refl (join-words_of line) e

pub line_is : (so : SoFar) (line : List ℕ) (form : Form) → form_at so line ≡ Ok form → LineIs so line form
unfolding form_at
line_is so line form e =
    elim (cases_Bool (is_clean line)) [
      | inl holds ↦ placed_is so.last so line form holds refl (sym (cond-true _ _ _ holds) ∙ e)
      | inr fails ↦ let at = sym (cond-false _ _ _ fails) ∙ e in absurd cc
    ]

pub is_new : (draft : Draft) (form : Form) → NewName (names_in draft.files.items) form → IsNew draft form
is_new draft (says.File file) h = h
is_new draft form h = tt
