-- Each script of a text is sound: one induction over its lines.
use Rattle.std.proofs.Common.{◌≡◌, ◌≢◌, ℕ, zero, suc, ◌+◌, ◌*◌, ◌<◌, ◌≤◌, ◌^◌, false, ◌||◌, List, [], ◌∷◌, ◌++◌, length}
use Rattle.std.proofs.Common.{Option, Some, None, refl, sym, ap, ◌∙◌, subst, arith, map, get_or, true}
use Rattle.std.proofs.Common.{length-append}
use Rattle.std.specs.List.{All, AllPairs, list_any}
use Rattle.std.specs.Str.{bytes_eq}
use Rattle.std.proofs.lemmas.Bool.{or_parts}
use Rattle.std.proofs.lemmas.List.{map_push}
use Rattle.std.proofs.lemmas.List.Elements.{All-nil}
use Rattle.std.proofs.lemmas.List.Quantifiers.{all_pairs_push}
use Rattle.std.proofs.lemmas.Slice.Eq.{bytes_eq-Decides}
use Rattle.mf_text.specs.Lines.{lines_of}
use Rattle.mf_lines.specs.declared.parts.FileLine.{FileLine}
use Rattle.mf_lines.specs.declared.parts.Client.{Client}
use Rattle.mf_lines.specs.declared.words.LineWord.TheVariants as word
use Rattle.mf_lines.specs.declared.forms.Form.{Form}
use Rattle.mf_lines.specs.declared.forms.Form.TheVariants as says
use Rattle.mf_lines.specs.Meaning.{Script, SoFar, on_last, with_points, with_stage, with_form, with_line, so_before}
use Rattle.mf_lines.specs.Meaning.{so_of, no_block, names_in, phases_in, main_of}
use Rattle.mf_lines.specs.Lines.{has_name}
use Rattle.mf_lines.specs.Keeps.{FileFits}
use Rattle.mf_lines.proofs.LineWordLemmas.{NewName}
use Rattle.mf_lines.proofs.FormLemmas.{LineIs}
use Rattle.mf_script.specs.Scripts.{IsScript}
use Rattle.mf_script.specs.Limits.{in_items, Limits}
use Rattle.mf_script.specs.Sound.{HasOne, IsSound, ticks_in}
use Rattle.mf_script.proofs.Along.{along_text}
use Rattle.mf_script.proofs.PolicyLemmas.{Fits, Ruled, ruled_line}
use Rattle.mf_script.proofs.Limits.{KeptAt, kept_line, Counts, counts_more}
use Rattle.mf_script.proofs.ClientLemmas.{AreFew, Stands, line_stands, all_few}
use Rattle.mf_script.proofs.PhaseLemmas.{form_few, few_lines}
use Rattle.mf_script.proofs.Known.{AreKnown, known_more}

-- ---- one family

one_more : (s : Script) (n : ℕ) (form : Form) → HasOne s → HasOne (with_form s n form)
one_more s n (says.Points points) h =
    record {
      block = with_points points h.block;
      families = ap (on_last (with_points points)) h.families;
      file_families = h.file_families;
    }
one_more s n (says.Stage stage) h =
    record {
      block = with_stage stage h.block;
      families = ap (on_last (with_stage stage)) h.families;
      file_families = h.file_families;
    }
one_more s n (says.File file) h = record {
  block = h.block;
  families = h.families;
  file_families = ap (λ hs. hs ++ 0 ∷ []) h.file_families ∙ sym (map_push (λ (f : FileLine). 0) s.files file);
}
one_more s n form h = record { block = h.block; families = h.families; file_families = h.file_families }

-- ---- names that differ

abbrev Apart : List (List ℕ) → Type 0
Apart names = AllPairs (λ name other. name ≢ other) names

other_name : (names : List (List ℕ)) (name : List ℕ) → has_name names name ≡ false → (k : ℕ) (d : List ℕ)
    → k < length names → get_or names k d ≢ name
other_name [] name new k d low = absurd (omega (arith, low))
other_name (n ∷ names) name new zero d low =
    λ same.
    let no = (or_parts (bytes_eq name n) (list_any (bytes_eq name) names) new).0 in
    let is = (bytes_eq-Decides name n).1 (sym same) in
    let clash : false ≡ true = sym no ∙ is in absurd cc
other_name (n ∷ names) name new (suc k) d low =
    other_name names name (or_parts (bytes_eq name n) (list_any (bytes_eq name) names) new).1 k d (omega (arith, low))

apart_more : (s : Script) (n : ℕ) (form : Form) → NewName (names_in s.files) form → Apart (names_in s.files)
    → Apart (names_in (with_form s n form).files)
apart_more s n (says.File file) new h =
    subst Apart (sym (map_push (λ (f : FileLine). f.name) s.files file))
    (all_pairs_push (λ name other. name ≢ other) (names_in s.files) file.name h
    (other_name (names_in s.files) file.name new))
apart_more s n form new h = h

-- ---- the lines so far

record So (done : List (List ℕ)) (before : List Form) (so : SoFar) : Type 0 where
  one : HasOne so.script
  names : Apart (names_in so.script.files)
  ruled : Ruled so.last so.script
  kept : KeptAt so.last so.script
  counts : Counts so
  clients : Stands so.last so.clients so.script.items
  known : AreKnown so.script
  ticks : ticks_in so.script.items ≤ 1000000000 * length done

so_first : So [] [] so_before
unfolding in_items
so_first = record {
  one = record { block = no_block; families = refl; file_families = refl };
  names = λ i j d low within. absurd (omega (arith, within));
  ruled = refl;
  kept = refl;
  counts = record {
    files = omega arith;
    counted_phases = refl;
    phases = omega arith;
    counted = omega arith;
    commands = omega arith;
  };
  clients = (tt, tt);
  known = tt;
  ticks = omega arith;
}

so_more : (done : List (List ℕ)) (before : List Form) (so : SoFar) (line : List ℕ) (form : Form) → LineIs so line form
    → So done before so → So (done ++ line ∷ []) (before ++ form ∷ []) (with_line so form)
so_more done before so line form is h = record {
  one = one_more so.script (so.lines + 1) form h.one;
  names = apart_more so.script (so.lines + 1) form is.new h.names;
  ruled = ruled_line so line form is h.ruled;
  kept = kept_line so line form is h.kept;
  counts = counts_more so form is.keeps h.counts;
  clients = line_stands so line form is h.clients;
  known = known_more so (so.lines + 1) form is.known is.keeps h.known;
  ticks =
      let few = form_few so (so.lines + 1) form is.keeps in
      let was = h.ticks in
      let long = length-append done (line ∷ []) in
      omega arith;
}

so_text : (text : List ℕ) (s : Script) (is : IsScript text s) → So (lines_of text) is.forms (so_of is.forms)
so_text text s is = along_text So so_more text is.forms is.lines so_first

-- ---- of each script

pub sound : (text : List ℕ) (s : Script) → IsScript text s → IsSound s
sound text s is =
    let so = so_of is.forms in
    let all = so_text text s is in
    let kept = subst (λ l. KeptAt l so.script) is.lines.ended all.kept in
    let stand = subst (λ l. Stands l so.clients so.script.items) is.lines.ended all.clients in
    let few = all.counts in
    let ticks = all.ticks in
    let lines = few_lines text is.lines.short in
    let phases = few.phases in
    let counted = few.counted_phases in
    let commands = few.commands in
    let many = few.counted in
    let says = sym is.says in
    record {
      one = subst HasOne says all.one;
      families = is.families;
      chunk = subst (λ (x : Script). (1 ≤ x.chunk) × (x.chunk ≤ 65536)) says kept.chunk;
      files = subst (λ (x : Script). length x.files ≤ 64) says few.files;
      names = subst (λ (x : Script). Apart (names_in x.files)) says all.names;
      each = subst (λ (x : Script). All (λ (file : FileLine). FileFits x.chunk file.content) x.files) says kept.files;
      policy = subst Fits says (subst (λ l. Ruled l so.script) is.lines.ended all.ruled);
      phases = subst (λ (x : Script). length (phases_in x.items) ≤ 1024) says (omega arith);
      clients = subst (λ (x : Script). All AreFew (phases_in x.items)) says (all_few so.clients (phases_in so.script.items) stand.0 stand.1);
      commands = subst (λ (x : Script). in_items x.items ≤ 1024) says (omega arith);
      known = subst AreKnown says all.known;
      ticks = subst (λ (x : Script). ticks_in x.items < 2 ^ 64) says (omega arith);
    }

pub limits : (text : List ℕ) (s : Script) → IsScript text s → Limits s
limits text s is =
    let is_sound = sound text s is in
    let few = (so_text text s is).counts in
    let phases = few.phases in
    let counted = few.counted_phases in
    record {
      chunk = is_sound.chunk;
      files = is_sound.files;
      each = is_sound.each;
      phases = subst (λ (x : Script). length (phases_in x.items) ≤ 64) (sym is.says) (omega arith);
      commands = is_sound.commands;
    }
