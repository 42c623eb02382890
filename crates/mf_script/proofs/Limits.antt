-- The limits of scripts, line by line, and those of their files.
use Rattle.std.proofs.Common.{◌≡◌, ℕ, zero, suc, ◌+◌, ◌<◌, ◌≤◌, true, List, [], ◌∷◌, ◌++◌, length, Option, Some, None}
use Rattle.std.proofs.Common.{refl, sym, ap, ◌∙◌, subst, arith, inl, inr, length-append, get_or}
use Rattle.std.specs.Prelude.{slice_get}
use Rattle.std.specs.List.{All}
use Rattle.std.proofs.lemmas.Option.{slice_get_within, slice_get-get_or}
use Rattle.std.proofs.lemmas.List.Elements.{All-nil, All-push}
use Rattle.std.proofs.lemmas.List.FromFn.{length-map-range_with_len}
use Rattle.mf_code.specs.Chunks.{chunk_count}
use Rattle.mf_lines.specs.declared.parts.Content.{Content}
use Rattle.mf_lines.specs.declared.parts.Content.TheVariants as given
use Rattle.mf_lines.specs.declared.parts.FileLine.{FileLine}
use Rattle.mf_lines.specs.declared.parts.Command.{Command}
use Rattle.mf_lines.specs.declared.parts.Client.{Client}
use Rattle.mf_lines.specs.declared.parts.Item.{Item}
use Rattle.mf_lines.specs.declared.parts.Item.TheVariants as item
use Rattle.mf_lines.specs.declared.words.LineWord.{LineWord}
use Rattle.mf_lines.specs.declared.words.LineWord.TheVariants as word
use Rattle.mf_lines.specs.declared.forms.Form.{Form}
use Rattle.mf_lines.specs.declared.forms.Form.TheVariants as says
use Rattle.mf_lines.specs.Meaning.{SoFar, Script, with_line, with_form, on_last, with_client}
use Rattle.mf_lines.specs.Meaning.{client_with, with_command, phases_in, first_word}
use Rattle.mf_lines.specs.Lines.{content_length, may_follow_command, may_follow}
use Rattle.mf_lines.specs.Keeps.{FileFits, NewFile, Keeps}
use Rattle.mf_lines.proofs.FormLemmas.{LineIs}
use Rattle.mf_script.specs.Contents.{bytes_in}
use Rattle.mf_script.specs.Limits.{in_clients, in_item, in_items, FileIs}

length-on_last : {X : Type 0} (f : X → X) (xs : List X) → length (on_last f xs) ≡ length xs
length-on_last f [] = refl
length-on_last f (x ∷ []) = refl
length-on_last f (x ∷ y ∷ xs) = ap suc (length-on_last f (y ∷ xs))

-- ---- how many commands there are

in_clients-command : (c : Command) (cs : List Client) → in_clients (on_last (client_with c) cs) ≤ in_clients cs + 1
unfolding in_clients
in_clients-command c [] = omega arith
in_clients-command c (x ∷ []) = omega (arith, length-append x.commands (c ∷ []))
in_clients-command c (x ∷ y ∷ xs) = omega (arith, in_clients-command c (y ∷ xs))

in_clients-client : (cs : List Client) → in_clients (cs ++ record { commands = [] } ∷ []) ≡ in_clients cs
unfolding in_clients
in_clients-client [] = refl
in_clients-client (x ∷ xs) = ap (λ n. length x.commands + n) (in_clients-client xs)

in_item-command : (c : Command) (x : Item) → in_item (with_command c x) ≤ in_item x + 1
unfolding in_item
in_item-command c (item.Tick ticks) = omega arith
in_item-command c (item.Phase clients) = in_clients-command c clients

in_item-client : (x : Item) → in_item (with_client x) ≡ in_item x
unfolding in_item
in_item-client (item.Tick ticks) = refl
in_item-client (item.Phase clients) = in_clients-client clients

in_items-command : (c : Command) (items : List Item) → in_items (on_last (with_command c) items) ≤ in_items items + 1
unfolding in_items
in_items-command c [] = omega arith
in_items-command c (x ∷ []) = omega (arith, in_item-command c x)
in_items-command c (x ∷ y ∷ xs) = omega (arith, in_items-command c (y ∷ xs))

in_items-client : (items : List Item) → in_items (on_last with_client items) ≡ in_items items
unfolding in_items
in_items-client [] = refl
in_items-client (x ∷ []) = ap (λ n. n + 0) (in_item-client x)
in_items-client (x ∷ y ∷ xs) = ap (λ n. in_item x + n) (in_items-client (y ∷ xs))

in_items-phase : (items : List Item) → in_items (items ++ item.Phase [] ∷ []) ≡ in_items items
unfolding in_items in_item in_clients
in_items-phase [] = refl
in_items-phase (x ∷ xs) = ap (λ n. in_item x + n) (in_items-phase xs)

in_items-tick : (ticks : ℕ) (items : List Item) → in_items (items ++ item.Tick ticks ∷ []) ≡ in_items items
unfolding in_items in_item
in_items-tick ticks [] = refl
in_items-tick ticks (x ∷ xs) = ap (λ n. in_item x + n) (in_items-tick ticks xs)

-- ---- how many phases there are

phases-tick : (ticks : ℕ) (items : List Item) → phases_in (items ++ item.Tick ticks ∷ []) ≡ phases_in items
phases-tick ticks [] = refl
phases-tick ticks (item.Tick n ∷ xs) = phases-tick ticks xs
phases-tick ticks (item.Phase cs ∷ xs) = ap (λ ps. cs ∷ ps) (phases-tick ticks xs)

phases-phase : (items : List Item) → length (phases_in (items ++ item.Phase [] ∷ [])) ≡ length (phases_in items) + 1
phases-phase [] = omega arith
phases-phase (item.Tick n ∷ xs) = phases-phase xs
phases-phase (item.Phase cs ∷ xs) = omega (arith, phases-phase xs)

phases-client : (items : List Item) → length (phases_in (on_last with_client items)) ≡ length (phases_in items)
phases-client [] = refl
phases-client (item.Tick n ∷ []) = refl
phases-client (item.Phase cs ∷ []) = refl
phases-client (item.Tick n ∷ y ∷ xs) = phases-client (y ∷ xs)
phases-client (item.Phase cs ∷ y ∷ xs) = ap suc (phases-client (y ∷ xs))

phases-command : (c : Command) (items : List Item)
    → length (phases_in (on_last (with_command c) items)) ≡ length (phases_in items)
phases-command c [] = refl
phases-command c (item.Tick n ∷ []) = refl
phases-command c (item.Phase cs ∷ []) = refl
phases-command c (item.Tick n ∷ y ∷ xs) = phases-command c (y ∷ xs)
phases-command c (item.Phase cs ∷ y ∷ xs) = ap suc (phases-command c (y ∷ xs))

-- ---- what is kept line by line

-- a file fits this chunk size, and each of these does
abbrev Fits : ℕ → FileLine → Type 0
Fits chunk file = FileFits chunk file.content

abbrev FilesFit : ℕ → List FileLine → Type 0
FilesFit chunk files = All (Fits chunk) files

no_files_fit : (chunk : ℕ) (fs : List FileLine) → fs ≡ [] → FilesFit chunk fs
no_files_fit chunk fs e = subst (FilesFit chunk) (sym e) (All-nil (Fits chunk))

-- there is a chunk size, from the line of it on; before there is no file
abbrev pub Chunked : LineWord → Script → Type 0
Chunked word.Morph s = s.files ≡ []
Chunked word.Servers s = s.files ≡ []
Chunked last s = (1 ≤ s.chunk) × (s.chunk ≤ 65536)

pub record Kept (last : LineWord) (s : Script) : Type 0 where
  pub chunk : Chunked last s
  pub files : FilesFit s.chunk s.files

abbrev After : SoFar → Form → Type 0
After so form = Kept (first_word form) (with_form so.script (so.lines + 1) form)

in_client : (so : SoFar) (form : Form) → may_follow_command (first_word form) ≡ true
    → (1 ≤ so.script.chunk) × (so.script.chunk ≤ 65536) → FilesFit so.script.chunk so.script.files → After so form
in_client so says.Client e chunk files = record { chunk = chunk; files = files }
in_client so says.Phase e chunk files = record { chunk = chunk; files = files }
in_client so (says.Tick ticks) e chunk files = record { chunk = chunk; files = files }
in_client so (says.Command act) e chunk files = record { chunk = chunk; files = files }
in_client so says.End e chunk files = record { chunk = chunk; files = files }
in_client so (says.Dump file) e chunk files = record { chunk = chunk; files = files }
in_client so form e chunk files = absurd cc

file_more : (so : SoFar) (f : FileLine) → NewFile so f → (1 ≤ so.script.chunk) × (so.script.chunk ≤ 65536)
    → FilesFit so.script.chunk so.script.files → After so (says.File f)
file_more so f own chunk files = record {
  chunk = chunk;
  files = All-push (Fits so.script.chunk) so.script.files f files (own.fits chunk.0);
}

kept_more : (so : SoFar) (last : LineWord) (form : Form) → may_follow last (first_word form) ≡ true → Keeps so form
    → Kept last so.script → After so form
unfolding may_follow
kept_more so word.Morph (says.Servers x) e own h = record { chunk = h.chunk; files = h.files }
kept_more so word.Servers (says.Chunk x) e own h =
    record { chunk = own; files = no_files_fit x so.script.files h.chunk }
kept_more so word.Chunk (says.Points x) e own h = record { chunk = h.chunk; files = h.files }
kept_more so word.Points (says.Stage x) e own h = record { chunk = h.chunk; files = h.files }
kept_more so word.Stage (says.Stage x) e own h = record { chunk = h.chunk; files = h.files }
kept_more so word.Stage (says.Policy x) e own h = record { chunk = h.chunk; files = h.files }
kept_more so word.Stage (says.File f) e own h = file_more so f own h.chunk h.files
kept_more so word.Policy (says.File f) e own h = file_more so f own h.chunk h.files
kept_more so word.File (says.File f) e own h = file_more so f own h.chunk h.files
kept_more so word.File (says.Tick ticks) e own h = record { chunk = h.chunk; files = h.files }
kept_more so word.File says.Phase e own h = record { chunk = h.chunk; files = h.files }
kept_more so word.File says.End e own h = record { chunk = h.chunk; files = h.files }
kept_more so word.File (says.Dump file) e own h = record { chunk = h.chunk; files = h.files }
kept_more so word.Tick (says.Tick ticks) e own h = record { chunk = h.chunk; files = h.files }
kept_more so word.Tick says.Phase e own h = record { chunk = h.chunk; files = h.files }
kept_more so word.Tick says.End e own h = record { chunk = h.chunk; files = h.files }
kept_more so word.Tick (says.Dump file) e own h = record { chunk = h.chunk; files = h.files }
kept_more so word.Dump (says.Dump file) e own h = record { chunk = h.chunk; files = h.files }
kept_more so word.Dump says.End e own h = record { chunk = h.chunk; files = h.files }
kept_more so word.Phase says.Client e own h = record { chunk = h.chunk; files = h.files }
kept_more so word.Client form e own h = in_client so form e h.chunk h.files
kept_more so (word.Command verb) form e own h = in_client so form e h.chunk h.files
kept_more so last form e own h = absurd cc

pub record Counts (so : SoFar) : Type 0 where
  pub files : length so.script.files ≤ 64
  pub counted_phases : length (phases_in so.script.items) ≡ so.phases
  pub phases : so.phases ≤ 64
  pub counted : in_items so.script.items ≤ so.commands
  pub commands : so.commands ≤ 1024

pub counts_more : (so : SoFar) (form : Form) → Keeps so form → Counts so → Counts (with_line so form)
counts_more so (says.File f) own h = record {
  files = omega (arith, own.few, length-append so.script.files (f ∷ []));
  counted_phases = h.counted_phases;
  phases = h.phases;
  counted = h.counted;
  commands = h.commands;
}
counts_more so (says.Tick ticks) own h = record {
  files = h.files;
  counted_phases = ap length (phases-tick ticks so.script.items) ∙ h.counted_phases;
  phases = h.phases;
  counted = subst (λ n. n ≤ so.commands) (sym (in_items-tick ticks so.script.items)) h.counted;
  commands = h.commands;
}
counts_more so says.Phase own h = record {
  files = h.files;
  counted_phases = phases-phase so.script.items ∙ ap (λ n. n + 1) h.counted_phases;
  phases = omega (arith, own);
  counted = subst (λ n. n ≤ so.commands) (sym (in_items-phase so.script.items)) h.counted;
  commands = h.commands;
}
counts_more so says.Client own h = record {
  files = h.files;
  counted_phases = phases-client so.script.items ∙ h.counted_phases;
  phases = h.phases;
  counted = subst (λ n. n ≤ so.commands) (sym (in_items-client so.script.items)) h.counted;
  commands = h.commands;
}
counts_more so (says.Command act) own h =
    let c : Command = record { line = so.lines + 1; act = act } in
    record {
      files = h.files;
      counted_phases = phases-command c so.script.items ∙ h.counted_phases;
      phases = h.phases;
      counted = omega (arith, in_items-command c so.script.items, h.counted);
      commands = (let few = own.0 in omega arith);
    }
counts_more so form own h =
    record {
      files = h.files;
      counted_phases = h.counted_phases;
      phases = h.phases;
      counted = h.counted;
      commands = h.commands;
    }

-- before the first line, and behind lines
abbrev pub KeptAt : Option LineWord → Script → Type 0
KeptAt None s = s.files ≡ []
KeptAt (Some last) s = Kept last s

pub kept_line : (so : SoFar) (line : List ℕ) (form : Form) → LineIs so line form → KeptAt so.last so.script
    → After so form
kept_line so line form is h =
    elim is.place [
      | inl first ↦
          let start = subst (λ l. KeptAt l so.script) first.0 h in
          subst (After so) (sym first.1) (record {
            chunk = start;
            files = no_files_fit so.script.chunk so.script.files start;
          })
      | inr (last, was, follows) ↦ kept_more so last form follows is.keeps (subst (λ l. KeptAt l so.script) was h)
    ]

-- ---- a file of a script

content_long : (content : Content) → length (bytes_in content) ≡ content_length content
content_long given.Empty = refl
content_long (given.Text bytes) = refl
content_long (given.Hex bytes) = refl
content_long (given.Pattern n start) = length-map-range_with_len _ 0 n

-- the limits of a file that fits
pub fit_file : (s : Script) (n : ℕ) (line : FileLine) → length s.files ≤ 64 → FilesFit s.chunk s.files
    → slice_get s.files n ≡ Some line → FileIs s n line
fit_file s n line few each at =
    let within = slice_get_within s.files n line at in
    let there : Some (get_or s.files n line) ≡ Some line = sym (slice_get-get_or s.files n line within) ∙ at in
    let same : get_or s.files n line ≡ line = cc in
    let fits = subst (Fits s.chunk) same (each n line within) in
    let long = sym (content_long line.content) in
    record {
      number = omega (arith, few, within);
      short = subst (λ m. m ≤ 1048576) long fits.short;
      cut = subst (λ m. chunk_count s.chunk m ≤ 1024) long fits.cut;
    }
