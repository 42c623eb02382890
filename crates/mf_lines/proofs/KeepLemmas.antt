-- What an accepted line keeps.
use Rattle.std.proofs.Common.{◌≡◌, ℕ, zero, suc, ◌<◌, ◌≤◌, Bool, true, false, not, ◌&&◌, ◌||◌, eqb, ltb, leb}
use Rattle.std.proofs.Common.{List, [], ◌∷◌, length, Option, Some, None, Ok, refl, sym, subst, arith}
use Rattle.std.specs.Prelude.{ok_or}
use Rattle.std.specs.Int.{div_ceil}
use Rattle.std.specs.List.{list_any}
use Rattle.std.proofs.lemmas.Bool.{lt-ltb, leb-false, ltb-false, or_parts}
use Rattle.mf_places.specs.declared.servers.Servers.{Servers}
use Rattle.mf_lines.specs.declared.parts.Kind.TheVariants as kind
use Rattle.mf_lines.specs.declared.parts.LimitName.{LimitName}
use Rattle.mf_lines.specs.declared.parts.LimitName.TheVariants as limit
use Rattle.mf_lines.specs.declared.parts.Act.{Act}
use Rattle.mf_lines.specs.declared.parts.Act.TheVariants as act
use Rattle.mf_lines.specs.declared.words.Verb.{Verb}
use Rattle.mf_lines.specs.declared.words.Verb.TheVariants as verb
use Rattle.mf_lines.specs.declared.words.LineWord.{LineWord}
use Rattle.mf_lines.specs.declared.words.LineWord.TheVariants as word
use Rattle.mf_lines.specs.declared.forms.Form.{Form}
use Rattle.mf_lines.specs.declared.forms.Form.TheVariants as says
use Rattle.mf_lines.specs.Words.{◌>>=◌, refuse, content_word_of, no_words, one_word, number_in}
use Rattle.mf_lines.specs.Meaning.{SoFar, names_in, verb_of, first_word}
use Rattle.mf_lines.specs.Names.{is_name}
use Rattle.mf_lines.specs.Lines.{is_above, numbers_in, within, chunk_form, has_name, content_in, content_length}
use Rattle.mf_lines.specs.Lines.{starts_high, file_limits, file_form, phase_form, command_fits, file_operand}
use Rattle.mf_lines.specs.Lines.{server_operand, away_words, servers_in, away_operands, stop_words, stop_operands}
use Rattle.mf_lines.specs.Lines.{convert_in, sweep_operand, act_in, form_in}
use Rattle.mf_lines.specs.Keeps.{IsPolicied, Keeps}
use Rattle.mf_lines.proofs.LineWordLemmas.{bound}
use Rattle.mf_lines.proofs.AgeLemmas.{policy_many, tick_small, client_room, sweep_known}

kept : (b : Bool) (l : LimitName) (ls : List (Bool × LimitName)) (u : Unit {0}) → within ((b, l) ∷ ls) ≡ Ok u
    → (b ≡ false) × (within ls ≡ Ok u)
kept true l ls u e = absurd cc
kept false l ls u e = (refl, e)

second : (a b : Bool) → (a && b) ≡ false → a ≡ true → b ≡ false
second true b e is = e
second false b e is = absurd cc

some : (n : ℕ) → eqb n 0 ≡ false → 1 ≤ n
some zero e = absurd cc
some (suc n) e = omega arith

chunk_kept : (so : SoFar) (ws : List (List ℕ)) (form : Form) → chunk_form ws ≡ Ok form → Keeps so form
chunk_kept so ws form e =
    let a = bound (one_word ws) _ form e in
    let b = bound (number_in a.value) _ form a.next in
    let c = bound (within ((eqb b.value 0 || ltb 65536 b.value, limit.Chunk) ∷ []))
    (λ _. Ok (says.Chunk b.value)) form b.next in
    let is : says.Chunk b.value ≡ form = let n = c.next in cc in
    let held = or_parts (eqb b.value 0) (ltb 65536 b.value)
    (kept (eqb b.value 0 || ltb 65536 b.value) limit.Chunk [] c.value c.is).0 in
    subst (Keeps so) is (some b.value held.0, ltb-false 65536 b.value held.1)

file_kept : (so : SoFar) (ws : List (List ℕ)) (form : Form) → file_form so ws ≡ Ok form → Keeps so form
file_kept so [] form e = absurd cc
file_kept so (name ∷ []) form e = absurd cc
file_kept so (name ∷ w ∷ ws) form e =
    let a = bound (ok_or (content_word_of w) kind.Unknown) _ form e in
    let b = bound (content_in a.value ws) _ form a.next in
    let c = bound (within (file_limits so name b.value)) _ form b.next in
    let d = bound (refuse (has_name (names_in so.script.files) name) kind.Twice)
    (λ _. Ok (says.File (record { name = name; content = b.value }))) form c.next in
    let is : says.File (record { name = name; content = b.value }) ≡ form = let n = d.next in cc in
    let size = content_length b.value in
    let cuts : List (Bool × LimitName) =
    (ltb 0 so.script.chunk && ltb 1024 (div_ceil size so.script.chunk), limit.Chunks) ∷ [] in
    let longs : List (Bool × LimitName) = (ltb 1048576 size, limit.Length) ∷ cuts in
    let starts : List (Bool × LimitName) = (starts_high b.value, limit.Pattern) ∷ longs in
    let fews : List (Bool × LimitName) = (leb 64 (length so.script.files), limit.Files) ∷ starts in
    let high = kept (not (is_name name)) limit.Name fews c.value c.is in
    let few = kept (leb 64 (length so.script.files)) limit.Files starts c.value high.1 in
    let start = kept (starts_high b.value) limit.Pattern longs c.value few.1 in
    let long = kept (ltb 1048576 size) limit.Length cuts c.value start.1 in
    let cut = kept (ltb 0 so.script.chunk && ltb 1024 (div_ceil size so.script.chunk)) limit.Chunks [] c.value long.1 in
    subst (Keeps so) is (record {
      few = leb-false 64 (length so.script.files) few.0;
      fits = λ there. record {
        short = ltb-false 1048576 size long.0;
        cut = ltb-false 1024 (div_ceil size so.script.chunk)
            (second (ltb 0 so.script.chunk) _ cut.0 (lt-ltb 0 so.script.chunk there));
      };
    })

fits_few : (so : SoFar) (u : Unit {0}) → command_fits so ≡ Ok u → so.commands < 1024
fits_few so u e = leb-false 1024 so.commands (kept (leb 1024 so.commands) limit.Commands [] u e).0

operand_few : (so : SoFar) (ws : List (List ℕ)) (n : ℕ) → file_operand so ws ≡ Ok n → so.commands < 1024
operand_few so ws n e =
    let a = bound (one_word ws) _ n e in
    let b = bound (command_fits so) _ n a.next in
    fits_few so b.value b.is

server_few : (so : SoFar) (ws : List (List ℕ)) (n : ℕ) → server_operand so ws ≡ Ok n → so.commands < 1024
server_few so ws n e =
    let a = bound (one_word ws) _ n e in
    let b = bound (number_in a.value) _ n a.next in
    let c = bound (command_fits so) _ n b.next in
    fits_few so c.value c.is

away_few : (so : SoFar) (ws : List (List ℕ)) (two : ℕ × Servers) → away_operands so ws ≡ Ok two → so.commands < 1024
away_few so ws two e =
    let a = bound (away_words ws) _ two e in
    let b = bound (servers_in so a.value.1) _ two a.next in
    let c = bound (numbers_in a.value.1) _ b.value b.is in
    let rest : List (Bool × LimitName) = (leb 1024 so.commands, limit.Commands) ∷ [] in
    let d = bound (within ((list_any (is_above 4294967295) c.value, limit.Number) ∷ rest)) _ b.value c.next in
    let few = kept (list_any (is_above 4294967295) c.value) limit.Number rest d.value d.is in
    leb-false 1024 so.commands (kept (leb 1024 so.commands) limit.Commands [] d.value few.1).0

sweep_few : (so : SoFar) (ws : List (List ℕ)) (u : Unit {0}) → sweep_operand so ws ≡ Ok u → so.commands < 1024
sweep_few so ws u e =
    let a = bound (no_words ws) _ u e in
    let b = bound (command_fits so) _ u a.next in
    fits_few so b.value b.is

stop_few : (so : SoFar) (words : List ℕ × List ℕ) (two : ℕ × ℕ) → stop_operands so words ≡ Ok two
    → so.commands < 1024
stop_few so words two e =
    let a = bound (number_in words.1) _ two e in
    let b = bound (command_fits so) _ two a.next in
    fits_few so b.value b.is

convert_few : (so : SoFar) (ws : List (List ℕ)) (o : Option (List ℕ × List ℕ)) (read : Act)
    → convert_in so o ws ≡ Ok read → so.commands < 1024
convert_few so ws (Some words) read e =
    let a = bound (stop_operands so words) _ read e in stop_few so words a.value a.is
convert_few so ws None read e = let a = bound (away_operands so ws) _ read e in away_few so ws a.value a.is

act_few : (so : SoFar) (v : Verb) (ws : List (List ℕ)) (read : Act) → act_in so v ws ≡ Ok read → so.commands < 1024
act_few so verb.Lose ws read e = let a = bound (server_operand so ws) _ read e in server_few so ws a.value a.is
act_few so verb.Read ws read e = let a = bound (away_operands so ws) _ read e in away_few so ws a.value a.is
act_few so verb.Repair ws read e = let a = bound (away_operands so ws) _ read e in away_few so ws a.value a.is
act_few so verb.Convert ws read e = convert_few so ws (stop_words ws) read e
act_few so verb.Sweep ws read e = let a = bound (sweep_operand so ws) _ read e in sweep_few so ws a.value a.is
act_few so v ws read e = let a = bound (file_operand so ws) _ read e in operand_few so ws a.value a.is

command_few : (so : SoFar) (x : Act) (ws : List (List ℕ))
    → form_in so (word.Command (verb_of x)) ws ≡ Ok (says.Command x) → so.commands < 1024
command_few so x ws e =
    let a = bound (act_in so (verb_of x) ws) (λ act. Ok (says.Command act)) (says.Command x) e in
    act_few so (verb_of x) ws a.value a.is

command_policied : (so : SoFar) (x : Act) (ws : List (List ℕ))
    → form_in so (word.Command (verb_of x)) ws ≡ Ok (says.Command x) → IsPolicied so.script.policy x
command_policied so act.Sweep ws e = sweep_known so ws (says.Command act.Sweep) e
command_policied so x ws e = tt

phase_room : (so : SoFar) (ws : List (List ℕ)) (form : Form) → phase_form so ws ≡ Ok form → so.phases < 64
phase_room so ws form e =
    let a = bound (no_words ws) _ form e in
    let b = bound (within ((leb 64 so.phases, limit.Phases) ∷ [])) (λ _. Ok says.Phase) form a.next in
    leb-false 64 so.phases (kept (leb 64 so.phases) limit.Phases [] b.value b.is).0

-- what a line keeps, by its first word and the words behind it
pub keeps : (so : SoFar) (first : LineWord) (ws : List (List ℕ)) (form : Form) → form_in so first ws ≡ Ok form
    → first_word form ≡ first → Keeps so form
keeps so first ws (says.Chunk size) e is =
    chunk_kept so ws (says.Chunk size) (subst (λ f. form_in so f ws ≡ Ok (says.Chunk size)) (sym is) e)
keeps so first ws (says.Policy thresholds) e is =
    policy_many so ws thresholds (subst (λ f. form_in so f ws ≡ Ok (says.Policy thresholds)) (sym is) e)
keeps so first ws (says.File file) e is =
    file_kept so ws (says.File file) (subst (λ f. form_in so f ws ≡ Ok (says.File file)) (sym is) e)
keeps so first ws (says.Tick ticks) e is =
    tick_small ws ticks (subst (λ f. form_in so f ws ≡ Ok (says.Tick ticks)) (sym is) e)
keeps so first ws says.Phase e is =
    phase_room so ws says.Phase (subst (λ f. form_in so f ws ≡ Ok says.Phase) (sym is) e)
keeps so first ws says.Client e is =
    client_room so ws says.Client (subst (λ f. form_in so f ws ≡ Ok says.Client) (sym is) e)
keeps so first ws (says.Command act) e is =
    let read = subst (λ f. form_in so f ws ≡ Ok (says.Command act)) (sym is) e in
    (command_few so act ws read, command_policied so act ws read)
keeps so first ws form e is = tt
