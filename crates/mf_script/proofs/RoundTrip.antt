-- What is printed of a script that was read has the lines that it was read from.
use Rattle.std.proofs.Common.{◌≡◌, ℕ, ◌+◌, ◌-◌, ◌<◌, ◌≤◌, true, get_or, eqb, List, [], ◌∷◌, ◌++◌, map, length, refl}
use Rattle.std.proofs.Common.{false, Some, None, sym, ap, ◌∙◌, subst, arith, inl, inr, ◌⊎◌}
use Rattle.std.specs.Prelude.{IfSome, codes}
use Rattle.std.specs.List.{AllByRecursion, slice_split, join_with_byte, flat_map}
use Rattle.std.specs.List.Sorted.{IsPermutation}
use Rattle.std.specs.Str.Lines.{lines_of_parts, strip_carriage_return}
use Rattle.std.proofs.lemmas.Bool.{cases_Bool, cond-true, cond-false}
use Rattle.std.proofs.lemmas.List.{append_assoc, append-nil, map_push, length-append, length-take, get_or_append_left}
use Rattle.std.proofs.lemmas.List.Concat.{length-flat_map}
use Rattle.std.proofs.lemmas.List.Sorted.{sum_by-IsPermutation}
use Rattle.std.proofs.lemmas.List.Splits.{join_with_byte-slice_split}
use Rattle.mf_text.specs.Lines.{lines_of, is_clean}
use Rattle.mf_text.proofs.LineLemmas.{AreLines, lines_of-join}
use Rattle.mf_places.specs.Servers.{servers_of}
use Rattle.mf_lines.specs.declared.parts.Act.{Act}
use Rattle.mf_lines.specs.declared.parts.Act.TheVariants as act
use Rattle.mf_lines.specs.declared.words.Verb.{Verb}
use Rattle.mf_lines.specs.declared.words.Verb.TheVariants as verb
use Rattle.mf_lines.specs.declared.words.LineWord.{LineWord}
use Rattle.mf_lines.specs.declared.words.LineWord.TheVariants as word
use Rattle.mf_lines.specs.declared.forms.Form.{Form}
use Rattle.mf_lines.specs.declared.forms.Form.TheVariants as says
use Rattle.mf_lines.specs.Words.{verb_text, word_text}
use Rattle.mf_lines.specs.Meaning.{Script, SoFar, verb_of, file_in, first_word, names_in, with_form, so_before}
use Rattle.mf_lines.specs.Meaning.{with_line, so_with, so_of}
use Rattle.mf_lines.specs.Lines.{knows_servers, may_follow, form_at}
use Rattle.mf_lines.specs.LineTexts.{listed, limited, behind_verb, behind_word, spaced, line_text, Alike}
use Rattle.mf_lines.proofs.ListLemmas.{spaced_join}
use Rattle.mf_lines.proofs.LineWordLemmas.{KnowsFile}
use Rattle.mf_lines.proofs.FormLemmas.{no_morph, LineIs, line_is}
use Rattle.mf_script.specs.Texts.{MakeForms, HasForms}
use Rattle.mf_script.specs.Printing.{script_text, AreAlike}
use Rattle.mf_script.proofs.Along.{along}
use Rattle.mf_script.proofs.Building.{forms_are}

-- ---- names only grow, and no line's text changes by further names

abbrev names_said : Form → List (List ℕ)
names_said (says.File file) = file.name ∷ []
names_said form = []

names_form : (s : Script) (n : ℕ) (form : Form)
    → names_in (with_form s n form).files ≡ names_in s.files ++ names_said form
names_form s n (says.File file) = map_push (λ f. f.name) s.files file
names_form s n form = sym (append-nil (names_in s.files))

same_words : (names more : List (List ℕ)) (a : Act) → IfSome (file_in a) (λ file. file < length names)
    → behind_verb names a ≡ behind_verb (names ++ more) a
same_words names more (act.Create file) h = ap (λ w. w ∷ []) (sym (get_or_append_left names more [] file h))
same_words names more (act.Read file away) h =
    ap (λ w. w ∷ listed (servers_of away)) (sym (get_or_append_left names more [] file h))
same_words names more (act.Hold file) h = ap (λ w. w ∷ []) (sym (get_or_append_left names more [] file h))
same_words names more (act.Release file) h = ap (λ w. w ∷ []) (sym (get_or_append_left names more [] file h))
same_words names more (act.Repair file away) h =
    ap (λ w. w ∷ listed (servers_of away)) (sym (get_or_append_left names more [] file h))
same_words names more (act.Convert file away stop) h =
    ap (λ w. w ∷ limited away stop) (sym (get_or_append_left names more [] file h))
same_words names more (act.Reclaim file) h = ap (λ w. w ∷ []) (sym (get_or_append_left names more [] file h))
same_words names more (act.Remove file) h = ap (λ w. w ∷ []) (sym (get_or_append_left names more [] file h))
same_words names more (act.Lose server) h = refl
same_words names more act.Sweep h = refl

same_text : (names more : List (List ℕ)) (form : Form) → KnowsFile names form
    → line_text names form ≡ line_text (names ++ more) form
unfolding line_text
same_text names more (says.Command act) h =
    ap (λ ws. join_with_byte 32 (verb_text (verb_of act) ∷ ws)) (same_words names more act h)
same_text names more (says.Dump file) h =
    ap (λ w. join_with_byte 32 (word_text word.Dump ∷ w ∷ [])) (sym (get_or_append_left names more [] file h))
same_text names more form h = refl

-- ---- a line is never empty

verb_some : (v : Verb) → 0 < length (verb_text v)
verb_some verb.Create = omega arith
verb_some v = omega arith

word_some : (w : LineWord) → 0 < length (word_text w)
word_some (word.Command v) = verb_some v
word_some w = omega arith

joined_some : (w : List ℕ) (ws : List (List ℕ)) → 0 < length w → 0 < length (join_with_byte 32 (w ∷ ws))
joined_some w [] some = some
joined_some w (v ∷ ws) some = omega (arith, length-append w (32 ∷ join_with_byte 32 (v ∷ ws)))

text_some : (names : List (List ℕ)) (form : Form) → 0 < length (line_text names form)
unfolding line_text
text_some names form = joined_some (word_text (first_word form)) (behind_word names form) (word_some (first_word form))

-- ---- the number of servers, once it is known, stays

no_servers_line : (last : LineWord) → knows_servers (Some last) ≡ true → may_follow last word.Servers ≡ false
unfolding may_follow
no_servers_line word.Morph h = absurd cc
no_servers_line last h = refl

kept_form : (s : Script) (n : ℕ) (last : LineWord) (form : Form) → may_follow last (first_word form) ≡ true
    → knows_servers (Some last) ≡ true
    → (knows_servers (Some (first_word form)) ≡ true) × ((with_form s n form).servers ≡ s.servers)
kept_form s n last says.Morph follows h = absurd (let no = sym (no_morph last) ∙ follows in cc)
kept_form s n last (says.Servers m) follows h = absurd (let no = sym (no_servers_line last h) ∙ follows in cc)
kept_form s n last form follows h = (refl, refl)

kept_line : (so : SoFar) (form : Form) → knows_servers so.last ≡ true
    → ((so.last ≡ None) × (form ≡ says.Morph))
    ⊎ ((last : LineWord) × (so.last ≡ Some last) × (may_follow last (first_word form) ≡ true))
    → (knows_servers (with_line so form).last ≡ true) × ((with_line so form).script.servers ≡ so.script.servers)
kept_line so form knows (inl first) = absurd (let no = ap knows_servers (sym first.0) ∙ knows in cc)
kept_line so form knows (inr (last, was, follows)) =
    kept_form so.script (so.lines + 1) last form follows (ap knows_servers (sym was) ∙ knows)

kept : (so : SoFar) (lines : List (List ℕ)) (forms : List Form) → MakeForms so lines forms
    → knows_servers so.last ≡ true → (so_with so forms).script.servers ≡ so.script.servers
kept so lines forms made knows =
    (along (λ done before now. (knows_servers now.last ≡ true) × (now.script.servers ≡ so.script.servers))
    (λ done before now line form is h.
    let next = kept_line now form h.0 is.place in (next.0, next.1 ∙ h.1)) [] [] so lines forms made (knows, refl)).1

-- before they are known there are none, and behind that they are those of the script
abbrev Counts : SoFar → Type 0
Counts so = ((knows_servers so.last ≡ false) × (so.script.servers ≡ 0)) ⊎ (knows_servers so.last ≡ true)

few_here : (so : SoFar) (lines : List (List ℕ)) (forms : List Form) → MakeForms so lines forms → Counts so
    → (so_with so forms).script.servers ≤ 128 → so.script.servers ≤ 128
few_here so lines forms made (inl none) few = omega (arith, none.1)
few_here so lines forms made (inr knows) few = omega (arith, few, kept so lines forms made knows)

counts_next : (so : SoFar) (line : List ℕ) (form : Form) → LineIs so line form → Counts so → Counts (with_line so form)
counts_next so line form is counts = go form is.place
  where
    later : (last : LineWord) (next : Form) → may_follow last (first_word next) ≡ true
        → Counts (with_line so next)
    later last says.Morph follows = absurd (let no = sym (no_morph last) ∙ follows in cc)
    later last next follows = inr refl

    start : so.last ≡ None → Counts so → so.script.servers ≡ 0
    start was (inl none) = none.1
    start was (inr knows) = absurd (let no = ap knows_servers (sym was) ∙ knows in cc)

    go : (next : Form)
        → ((so.last ≡ None) × (next ≡ says.Morph))
        ⊎ ((last : LineWord) × (so.last ≡ Some last) × (may_follow last (first_word next) ≡ true))
        → Counts (with_line so next)
    go next (inl first) =
        subst (λ f. Counts (with_line so f)) (sym first.1) (inl (refl, start first.0 counts))
    go next (inr (last, was, follows)) = later last next follows

-- ---- along the lines

-- Lines that make these forms, and the texts of the forms: where the names only grow, these are alike, and make the
-- same forms.
record Told (so : SoFar) (lines : List (List ℕ)) (forms : List Form) : Type 0 where
  more : List (List ℕ)
  names : names_in (so_with so forms).script.files ≡ names_in so.script.files ++ more
  alike : AreAlike lines (map (line_text (names_in (so_with so forms).script.files)) forms)
  again : MakeForms so (map (line_text (names_in (so_with so forms).script.files)) forms) forms
  clean : AllByRecursion (λ line. (is_clean line ≡ true) × (0 < length line))
      (map (line_text (names_in (so_with so forms).script.files)) forms)

told_line : (so : SoFar) (line : List ℕ) (lines : List (List ℕ)) (form : Form) (forms : List Form)
    → LineIs so line form → so.script.servers ≤ 128 → Told (with_line so form) lines forms
    → Told so (line ∷ lines) (form ∷ forms)
told_line so line lines form forms is few rest =
    let names : names_in (so_with so (form ∷ forms)).script.files ≡ names_in so.script.files ++
    (names_said form ++ rest.more) =
    rest.names ∙ ap (λ ns. ns ++ rest.more) (names_form so.script (so.lines + 1) form)
    ∙ append_assoc (names_in so.script.files) (names_said form) rest.more in
    let text : line_text (names_in so.script.files) form
    ≡ line_text (names_in (so_with so (form ∷ forms)).script.files) form =
    same_text (names_in so.script.files) (names_said form ++ rest.more) form is.known
    ∙ ap (λ ns. line_text ns form) (sym names) in
    let again = ap (form_at so) (sym text) ∙ is.again in
    record {
      more = names_said form ++ rest.more;
      names = names;
      alike = (subst (Alike line) text (is.alike few), rest.alike);
      again = (again, rest.again);
      clean = (
        (
          (line_is so (line_text (names_in (so_with so (form ∷ forms)).script.files) form) form again).clean,
          text_some (names_in (so_with so (form ∷ forms)).script.files) form,
        ),
        rest.clean,
      );
    }

told : (so : SoFar) (lines : List (List ℕ)) (forms : List Form) → MakeForms so lines forms → Counts so
    → (so_with so forms).script.servers ≤ 128 → Told so lines forms
told so [] [] made counts few = record {
  more = [];
  names = sym (append-nil (names_in so.script.files));
  alike = tt;
  again = tt;
  clean = tt;
}
told so [] (form ∷ forms) made counts few = absurd made
told so (line ∷ lines) [] made counts few = absurd made
told so (line ∷ lines) (form ∷ forms) made counts few =
    let is = line_is so line form made.0 in
    told_line so line lines form forms is (few_here so (line ∷ lines) (form ∷ forms) made counts few)
    (told (with_line so form) lines forms made.1 (counts_next so line form is counts) few)

-- ---- lines that are alike are as long

listed_length : (w : List ℕ) (ws vs : List (List ℕ)) → IsPermutation ws vs
    → length (join_with_byte 32 (w ∷ ws)) ≡ length (join_with_byte 32 (w ∷ vs))
listed_length w ws vs perm =
    let a = ap length (spaced_join w ws) ∙ length-append w (flat_map spaced ws) in
    let b = ap length (spaced_join w vs) ∙ length-append w (flat_map spaced vs) in
    let c = length-flat_map spaced ws in
    let d = length-flat_map spaced vs in
    let e = sum_by-IsPermutation (λ x. length (spaced x)) ws vs perm in
    omega (arith, a, b, c, d, e)

front_length : (w : List ℕ) (v u : List ℕ) → length v ≡ length u → length (w ++ 32 ∷ v) ≡ length (w ++ 32 ∷ u)
front_length w v u e = omega (arith, length-append w (32 ∷ v), length-append w (32 ∷ u), e)

alike_length : (l m : List ℕ) → Alike l m → length l ≡ length m
alike_length l m (inl same) = ap length same
alike_length l m (inr h) =
    ap length h.is
    ∙ front_length (verb_text h.verb) _ _
    (front_length h.name _ _ (listed_length (codes "without") h.servers h.others h.same))
    ∙ sym (ap length h.other_is)

lines_length : (ls ms : List (List ℕ)) → AreAlike ls ms → length (join_with_byte 10 ls) ≡ length (join_with_byte 10 ms)
lines_length [] [] h = refl
lines_length [] (m ∷ ms) h = absurd h
lines_length (l ∷ ls) [] h = absurd h
lines_length (l ∷ []) (m ∷ []) h = alike_length l m h.0
lines_length (l ∷ []) (m ∷ n ∷ ms) h = absurd h.1
lines_length (l ∷ k ∷ ls) (m ∷ []) h = absurd h.1
lines_length (l ∷ k ∷ ls) (m ∷ n ∷ ms) h =
    omega (
      arith,
      alike_length l m h.0,
      lines_length (k ∷ ls) (n ∷ ms) h.1,
      length-append l (10 ∷ join_with_byte 10 (k ∷ ls)),
      length-append m (10 ∷ join_with_byte 10 (n ∷ ms)),
    )

-- ---- lines joined by LF are no longer than the text

strip_le : (l : List ℕ) → length (strip_carriage_return l) ≤ length l
strip_le l =
    elim (cases_Bool (eqb (get_or l (length l - 1) 0) 13)) [
      | inl holds ↦ subst (λ x. length x ≤ length l) (sym (cond-true _ _ _ holds))
          (omega (arith, length-take (length l - 1) l))
      | inr fails ↦ subst (λ x. length x ≤ length l) (sym (cond-false _ _ _ fails)) (omega arith)
    ]

joined_le : (parts : List (List ℕ))
    → length (join_with_byte 10 (lines_of_parts parts)) ≤ length (join_with_byte 10 parts)
joined_le [] = omega arith
joined_le (x ∷ []) =
    elim (cases_Bool (eqb (length x) 0)) [
      | inl holds ↦ subst (λ y. length (join_with_byte 10 y) ≤ length x) (sym (cond-true _ _ _ holds)) (omega arith)
      | inr fails ↦ subst (λ y. length (join_with_byte 10 y) ≤ length x) (sym (cond-false _ _ _ fails)) (omega arith)
    ]
joined_le (x ∷ y ∷ more) = go (lines_of_parts (y ∷ more)) (joined_le (y ∷ more))
  where
    go : (ls : List (List ℕ)) → length (join_with_byte 10 ls) ≤ length (join_with_byte 10 (y ∷ more))
        → length (join_with_byte 10 (strip_carriage_return x ∷ ls)) ≤ length (join_with_byte 10 (x ∷ y ∷ more))
    go [] h = omega (arith, strip_le x, length-append x (10 ∷ join_with_byte 10 (y ∷ more)))
    go (l ∷ ls) h =
        omega (
          arith,
          strip_le x,
          h,
          length-append x (10 ∷ join_with_byte 10 (y ∷ more)),
          length-append (strip_carriage_return x) (10 ∷ join_with_byte 10 (l ∷ ls)),
        )

pub lines_le : (text : List ℕ) → length (join_with_byte 10 (lines_of text)) ≤ length text
unfolding lines_of
lines_le text =
    omega (arith, joined_le (slice_split (λ b. eqb b 10) text), ap length (join_with_byte-slice_split 10 text))

-- ---- the round trip

are_lines : (ls : List (List ℕ)) → AllByRecursion (λ line. (is_clean line ≡ true) × (0 < length line)) ls → AreLines ls
are_lines [] h = tt
are_lines (l ∷ []) h = h.0
are_lines (l ∷ m ∷ ls) h = (h.0.0, are_lines (m ∷ ls) h.1)

-- a text whose lines make these forms, where the script has at most 128 servers
module _ (text : List ℕ) (forms : List Form) (has : HasForms text forms)
    (few : (so_of forms).script.servers ≤ 128) where
  texts : List (List ℕ)
  texts = map (line_text (names_in (so_of forms).script.files)) forms

  all : Told so_before (lines_of text) forms
  unfolding so_of
  all = told so_before (lines_of text) forms has.lines (inl (refl, refl)) few

  printed_lines : lines_of (script_text (so_of forms).script) ≡ texts
  unfolding script_text so_of texts
  printed_lines =
      ap (λ fs. lines_of (join_with_byte 10 (map (line_text (names_in (so_of forms).script.files)) fs)))
      (forms_are text forms has)
      ∙ lines_of-join texts (are_lines texts all.clean)

  pub alike_lines : AreAlike (lines_of text) (lines_of (script_text (so_of forms).script))
  unfolding so_of texts
  alike_lines = subst (AreAlike (lines_of text)) (sym printed_lines) all.alike

  pub no_longer : length (script_text (so_of forms).script) ≤ length text
  unfolding script_text so_of texts
  no_longer =
      let printed : length (script_text (so_of forms).script) ≡ length (join_with_byte 10 texts) =
      ap (λ fs. length (join_with_byte 10 (map (line_text (names_in (so_of forms).script.files)) fs)))
      (forms_are text forms has) in
      omega (arith, printed, lines_length (lines_of text) texts all.alike, lines_le text)

  pub again : HasForms (script_text (so_of forms).script) forms
  unfolding so_of texts
  again =
      let short = has.short in
      let less = no_longer in
      record {
        short = omega arith;
        lines = subst (λ ls. MakeForms so_before ls forms) (sym printed_lines) all.again;
        ended = has.ended;
      }
