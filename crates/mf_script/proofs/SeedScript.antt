-- The text of each seed has its forms, line by line.
use Rattle.std.proofs.Common.{◌≡◌, ◌≢◌, ℕ, zero, suc, ◌+◌, ◌*◌, ◌/◌, ◌^◌, ◌<◌, ◌≤◌, true, List, [], ◌∷◌, ◌++◌, length}
use Rattle.std.proofs.Common.{refl, sym, ap, ◌∙◌, subst, arith, All}
use Rattle.std.specs.Prelude.{codes, Result, Ok, Err, IfErr}
use Rattle.std.specs.List.{flat_map, range_with_len, AllByRecursion}
use Rattle.std.proofs.lemmas.Nat.{mod_below}
use Rattle.std.proofs.lemmas.List.{append-nil}
use Rattle.std.proofs.lemmas.List.Elements.{All-cons, All-nil}
use Rattle.mf_text.specs.Lines.{lines_of, is_clean}
use Rattle.mf_text.specs.Words.{words_of}
use Rattle.mf_text.specs.Decimal.{decimal_of, is_decimal}
use Rattle.mf_text.proofs.LineLemmas.{lines_of-nil}
use Rattle.mf_check.specs.Families.{IsCode}
use Rattle.mf_lines.specs.declared.parts.Kind.{Kind}
use Rattle.mf_lines.specs.declared.parts.Kind.TheVariants as kind
use Rattle.mf_lines.specs.declared.parts.ScriptFault.{ScriptFault}
use Rattle.mf_lines.specs.declared.words.Verb.{Verb}
use Rattle.mf_lines.specs.declared.words.Verb.TheVariants as verb
use Rattle.mf_lines.specs.declared.words.LineWord.{LineWord}
use Rattle.mf_lines.specs.declared.words.LineWord.TheVariants as word
use Rattle.mf_lines.specs.declared.forms.Form.{Form}
use Rattle.mf_lines.specs.declared.forms.Form.TheVariants as says
use Rattle.mf_lines.specs.Words.{word_of}
use Rattle.mf_lines.specs.Meaning.{Script, SoFar, so_before, with_line, so_with, so_of}
use Rattle.mf_lines.specs.Lines.{form_at, may_follow}
use Rattle.mf_script.specs.Texts.{MakeForms, HasForms}
use Rattle.mf_script.specs.Scripts.{code_of, IsScript}
use Rattle.mf_script.specs.Seeds as seeds
use Rattle.mf_script.proofs.WholeLines.{Goes, along, as_well, nothing, one_line, turns}
use Rattle.mf_script.proofs.SeedSteps.{At, loosen, phase_line, client_line, end_line, tick_line, lose_line, sweep_line}
use Rattle.mf_script.proofs.SeedSteps.{create_line, read_line, repair_line, convert_line, reclaim_line, dump_line}
use Rattle.mf_script.proofs.SeedSteps.{file_line, family}
use Rattle.mf_script.proofs.SeedFamily.{accepted}

-- ---- which lines follow which

policy_file : may_follow word.Policy word.File ≡ true
unfolding may_follow
policy_file = refl

file_file : may_follow word.File word.File ≡ true
unfolding may_follow
file_file = refl

file_phase : may_follow word.File word.Phase ≡ true
unfolding may_follow
file_phase = refl

tick_phase : may_follow word.Tick word.Phase ≡ true
unfolding may_follow
tick_phase = refl

phase_client : may_follow word.Phase word.Client ≡ true
unfolding may_follow
phase_client = refl

client_command : (v : Verb) → may_follow word.Client (word.Command v) ≡ true
unfolding may_follow
client_command v = refl

command_command : (u v : Verb) → may_follow (word.Command u) (word.Command v) ≡ true
unfolding may_follow
command_command u v = refl

command_client : (v : Verb) → may_follow (word.Command v) word.Client ≡ true
unfolding may_follow
command_client v = refl

command_phase : (v : Verb) → may_follow (word.Command v) word.Phase ≡ true
unfolding may_follow
command_phase v = refl

command_tick : (v : Verb) → may_follow (word.Command v) word.Tick ≡ true
unfolding may_follow
command_tick v = refl

command_dump : (v : Verb) → may_follow (word.Command v) word.Dump ≡ true
unfolding may_follow
command_dump v = refl

dump_dump : may_follow word.Dump word.Dump ≡ true
unfolding may_follow
dump_dump = refl

dump_end : may_follow word.Dump word.End ≡ true
unfolding may_follow
dump_end = refl

-- ---- draws

below : (m x : ℕ) → 0 < m → seeds.draw m x < m
unfolding seeds.draw
below m x some = mod_below (seeds.next x / 2 ^ 33) m some

-- ---- the store

-- lines that are written out
all_lines : (P : SoFar → Type 0) (so : SoFar) (lines : List (List ℕ)) (forms : List Form) → MakeForms so lines forms
    → AllByRecursion (λ line. length line ≤ 63) lines → P (so_with so forms)
    → Goes P so (flat_map seeds.ended lines)
all_lines P so [] [] made short h = nothing P so h
all_lines P so [] (form ∷ forms) made short h = absurd made
all_lines P so (line ∷ lines) [] made short h = absurd made
all_lines P so (line ∷ lines) (form ∷ forms) made short h =
    along (λ next. next ≡ with_line so form) P so (line ++ 10 ∷ []) (flat_map seeds.ended lines)
    (one_line (λ next. next ≡ with_line so form) so line form made.0 short.0 refl)
    (λ next e. subst (λ x. Goes P x (flat_map seeds.ended lines)) (sym e)
    (all_lines P (with_line so form) lines forms made.1 short.1 h))

store_texts : List (List ℕ)
store_texts =
    codes "morph 1" ∷ codes "servers 16" ∷ codes "chunk 64" ∷ codes "points 1 2 4" ∷ codes "stage 6 3 1"
    ∷ codes "stage 6 3 0" ∷ codes "stage 12 3 0" ∷ codes "policy 0 7 30" ∷ []

store_forms : List Form
store_forms =
    says.Morph ∷ says.Servers 16 ∷ says.Chunk 64 ∷ says.Points (1 ∷ 2 ∷ 4 ∷ [])
    ∷ says.Stage (record { width = 6; parities = 3; copies = 1 })
    ∷ says.Stage (record { width = 6; parities = 3; copies = 0 })
    ∷ says.Stage (record { width = 12; parities = 3; copies = 0 })
    ∷ says.Policy (0 ∷ 7 ∷ 30 ∷ []) ∷ []

store_made : MakeForms so_before store_texts store_forms
unfolding store_texts store_forms form_at is_clean words_of word_of decimal_of is_decimal may_follow
store_made = (refl, (refl, (refl, (refl, (refl, (refl, (refl, (refl, tt))))))))

store_at : At 8 0 0 0 0 0 word.Policy (so_with so_before store_forms)
unfolding store_forms
store_at = record {
  last = refl;
  servers = refl;
  chunk = refl;
  families = refl;
  policy = refl;
  names = refl;
  dumped = refl;
  few_lines = omega arith;
  few_phases = omega arith;
  few_clients = omega arith;
  few_commands = omega arith;
}

store : Goes (At 8 0 0 0 0 0 word.Policy) so_before seeds.store_lines
unfolding seeds.store_lines store_texts
store =
    all_lines (At 8 0 0 0 0 0 word.Policy) so_before store_texts store_forms store_made (
      omega arith,
      (
        omega arith,
        (
          omega arith,
          (
            omega arith,
            (omega arith, (omega arith, (omega arith, (omega arith, tt)))),
          ),
        ),
      ),
    )
    store_at

-- ---- the files

one_file : (l i x : ℕ) (w : LineWord) (so : SoFar) → i < 8 → may_follow w word.File ≡ true → At l i 0 0 0 0 w so
    → Goes (At (l + 1) (i + 1) 0 0 0 0 word.File) so (seeds.file_line x i)
one_file l i x w so lt follows at =
    file_line l 0 0 0 0 w so i at lt (seeds.draw 4001 x) (seeds.draw 251 (seeds.next x)) (below 4001 x (omega arith))
    (below 251 (seeds.next x) (omega arith)) follows

files : (x : ℕ) (so : SoFar) → At 8 0 0 0 0 0 word.Policy so → Goes (At 16 8 0 0 0 0 word.File) so (seeds.file_lines x)
unfolding seeds.file_lines
files x so at =
    let piece : ℕ → List ℕ = λ i. seeds.file_line (seeds.behind (2 * i) x) i in
    let P : ℕ → SoFar → Type 0 = λ i. At (8 + i) i 0 0 0 0 word.File in
    along (P 1) (P 8) so (piece 0) (flat_map piece (range_with_len 1 7))
    (one_file 8 0 (seeds.behind 0 x) word.Policy so (omega arith) policy_file at)
    (turns P piece 8 (λ i so lt h.
    as_well (At (8 + i + 1) (i + 1) 0 0 0 0 word.File) (P (i + 1)) so (piece i)
    (λ so. loosen (8 + i + 1) (8 + (i + 1)) (i + 1) 0 0 0 0 0 0 0 word.File so (omega arith) (omega arith) (omega arith)
    (omega arith))
    (one_file (8 + i) i (seeds.behind (2 * i) x) word.File so lt file_file h))
    1 7 (omega arith))

-- ---- the clients of the first phase

one_creator : (l p c k : ℕ) (w : LineWord) (so : SoFar) → c < 4 → k + 2 < 1024 → may_follow w word.Client ≡ true
    → At l 8 p c k 0 w so
    → Goes (At (l + 3) 8 p (c + 1) (k + 2) 0 (word.Command verb.Create)) so (seeds.creator_lines c)
one_creator l p c k w so lt room follows at =
    let first : List ℕ = seeds.ended (seeds.on_file (codes "create") (2 * c)) in
    let second : List ℕ = seeds.ended (seeds.on_file (codes "create") (2 * c + 1)) in
    let client : SoFar → Type 0 = At (l + 1) 8 p (c + 1) k 0 word.Client in
    let one : SoFar → Type 0 = At (l + 1 + 1) 8 p (c + 1) (k + 1) 0 (word.Command verb.Create) in
    let two : SoFar → Type 0 = At (l + 1 + 1 + 1) 8 p (c + 1) (k + 1 + 1) 0 (word.Command verb.Create) in
    let all : SoFar → Type 0 = At (l + 3) 8 p (c + 1) (k + 2) 0 (word.Command verb.Create) in
    let opened : List ℕ = seeds.ended (codes "client") in
    along one all so (opened ++ first) second
    (along client one so opened first (client_line l 8 p c k 0 w so at follows (omega arith))
    (λ a in_client. create_line (l + 1) p (c + 1) k 0 word.Client a in_client (2 * c) (omega arith) (omega arith)
    (client_command verb.Create)))
    (λ b in_one. as_well two all b second
    (λ s. loosen (l + 1 + 1 + 1) (l + 3) 8 p p (c + 1) (c + 1) (k + 1 + 1) (k + 2) 0 (word.Command verb.Create) s
    (omega arith) (omega arith) (omega arith) (omega arith))
    (create_line (l + 1 + 1) p (c + 1) (k + 1) 0 (word.Command verb.Create) b in_one (2 * c + 1) (omega arith)
    (omega arith) (command_command verb.Create verb.Create)))

creators : (so : SoFar) → At 17 8 1 0 0 0 word.Phase so
    → Goes (At 29 8 1 4 8 0 (word.Command verb.Create)) so seeds.creators_lines
unfolding seeds.creators_lines
creators so at =
    let P : ℕ → SoFar → Type 0 = λ i. At (17 + 3 * i) 8 1 i (2 * i) 0 (word.Command verb.Create) in
    along (P 1) (P 4) so (seeds.creator_lines 0) (flat_map seeds.creator_lines (range_with_len 1 3))
    (one_creator 17 1 0 0 word.Phase so (omega arith) (omega arith) phase_client at)
    (turns P seeds.creator_lines 4 (λ i so lt h.
    as_well (At (17 + 3 * i + 3) 8 1 (i + 1) (2 * i + 2) 0 (word.Command verb.Create)) (P (i + 1)) so
    (seeds.creator_lines i)
    (λ so. loosen (17 + 3 * i + 3) (17 + 3 * (i + 1)) 8 1 1 (i + 1) (i + 1) (2 * i + 2) (2 * (i + 1)) 0
    (word.Command verb.Create) so (omega arith) (omega arith) (omega arith) (omega arith))
    (one_creator (17 + 3 * i) 1 i (2 * i) (word.Command verb.Create) so lt (omega arith)
    (command_client verb.Create) h))
    1 3 (omega arith))

-- ---- the clients of a round

-- a command on a file, and a read of it
module _ (l p c k : ℕ) (w : LineWord) (so : SoFar) (at : At l 8 p c k 0 w so) (i : ℕ) (lt : i < 8)
    (room : k + 2 < 1024) (follows : (v : Verb) → may_follow w (word.Command v) ≡ true) where
  and_read : (v : Verb) (line : List ℕ) → Goes (At (l + 1) 8 p c (k + 1) 0 (word.Command v)) so line
      → Goes (At (l + 2) 8 p c (k + 2) 0 (word.Command verb.Read)) so
      (line ++ seeds.ended (seeds.on_file (codes "read") i))
  and_read v line first =
      let reading : List ℕ = seeds.ended (seeds.on_file (codes "read") i) in
      let two : SoFar → Type 0 = At (l + 1 + 1) 8 p c (k + 1 + 1) 0 (word.Command verb.Read) in
      let all : SoFar → Type 0 = At (l + 2) 8 p c (k + 2) 0 (word.Command verb.Read) in
      along (At (l + 1) 8 p c (k + 1) 0 (word.Command v)) all so line reading first
      (λ b in_one. as_well two all b reading
      (λ s. loosen (l + 1 + 1) (l + 2) 8 p p c c (k + 1 + 1) (k + 2) 0 (word.Command verb.Read) s
      (omega arith) (omega arith) (omega arith) (omega arith))
      (read_line (l + 1) p c (k + 1) 0 (word.Command v) b in_one i lt (omega arith) (command_command v verb.Read)))

  turn_of : (v : ℕ) → v < 4
      → Goes (At (l + 2) 8 p c (k + 2) 0 (word.Command verb.Read)) so
      (seeds.ended (seeds.on_file (seeds.verb v) i) ++ seeds.ended (seeds.on_file (codes "read") i))
  turn_of zero v_lt = and_read verb.Read _ (read_line l p c k 0 w so at i lt (omega arith) (follows verb.Read))
  turn_of (suc zero) v_lt =
      and_read verb.Repair _ (repair_line l p c k 0 w so at i lt (omega arith) (follows verb.Repair))
  turn_of (suc (suc zero)) v_lt =
      and_read verb.Convert _ (convert_line l p c k 0 w so at i lt (omega arith) (follows verb.Convert))
  turn_of (suc (suc (suc zero))) v_lt =
      and_read verb.Reclaim _ (reclaim_line l p c k 0 w so at i lt (omega arith) (follows verb.Reclaim))
  turn_of (suc (suc (suc (suc v)))) v_lt = absurd (omega arith)

  turn : (x : ℕ) → Goes (At (l + 2) 8 p c (k + 2) 0 (word.Command verb.Read)) so (seeds.turn_lines x i)
  turn x = turn_of (seeds.draw 4 x) (below 4 x (omega arith))

one_client : (l p c k x : ℕ) (w : LineWord) (so : SoFar) → c < 4 → k + 4 < 1024 → may_follow w word.Client ≡ true
    → At l 8 p c k 0 w so
    → Goes (At (l + 5) 8 p (c + 1) (k + 4) 0 (word.Command verb.Read)) so (seeds.client_lines x c)
one_client l p c k x w so lt room follows at =
    let first : List ℕ = seeds.turn_lines x (2 * c) in
    let second : List ℕ = seeds.turn_lines (seeds.next x) (2 * c + 1) in
    let client : SoFar → Type 0 = At (l + 1) 8 p (c + 1) k 0 word.Client in
    let one : SoFar → Type 0 = At (l + 1 + 2) 8 p (c + 1) (k + 2) 0 (word.Command verb.Read) in
    let two : SoFar → Type 0 = At (l + 1 + 2 + 2) 8 p (c + 1) (k + 2 + 2) 0 (word.Command verb.Read) in
    let all : SoFar → Type 0 = At (l + 5) 8 p (c + 1) (k + 4) 0 (word.Command verb.Read) in
    let opened : List ℕ = seeds.ended (codes "client") in
    along one all so (opened ++ first) second
    (along client one so opened first (client_line l 8 p c k 0 w so at follows (omega arith))
    (λ a in_client. turn (l + 1) p (c + 1) k word.Client a in_client (2 * c) (omega arith) (omega arith) client_command
    x))
    (λ b in_one. as_well two all b second
    (λ s. loosen (l + 1 + 2 + 2) (l + 5) 8 p p (c + 1) (c + 1) (k + 2 + 2) (k + 4) 0 (word.Command verb.Read) s
    (omega arith) (omega arith) (omega arith) (omega arith))
    (turn (l + 1 + 2) p (c + 1) (k + 2) (word.Command verb.Read) b in_one (2 * c + 1) (omega arith) (omega arith)
    (command_command verb.Read) (seeds.next x)))

clients : (l p k x : ℕ) (so : SoFar) → k + 16 < 1024 → At l 8 p 0 k 0 word.Phase so
    → Goes (At (l + 20) 8 p 4 (k + 16) 0 (word.Command verb.Read)) so (seeds.clients_lines x)
unfolding seeds.clients_lines
clients l p k x so room at =
    let piece : ℕ → List ℕ = λ c. seeds.client_lines (seeds.behind (2 * c) x) c in
    let P : ℕ → SoFar → Type 0 = λ c. At (l + 5 * c) 8 p c (k + 4 * c) 0 (word.Command verb.Read) in
    along (P 1) (P 4) so (piece 0) (flat_map piece (range_with_len 1 3))
    (one_client l p 0 k (seeds.behind 0 x) word.Phase so (omega arith) (omega arith) phase_client at)
    (turns P piece 4 (λ c so lt h.
    as_well (At (l + 5 * c + 5) 8 p (c + 1) (k + 4 * c + 4) 0 (word.Command verb.Read)) (P (c + 1)) so (piece c)
    (λ so. loosen (l + 5 * c + 5) (l + 5 * (c + 1)) 8 p p (c + 1) (c + 1) (k + 4 * c + 4) (k + 4 * (c + 1)) 0
    (word.Command verb.Read) so (omega arith) (omega arith) (omega arith) (omega arith))
    (one_client (l + 5 * c) p c (k + 4 * c) (seeds.behind (2 * c) x) (word.Command verb.Read) so lt (omega arith)
    (command_client verb.Read) h))
    1 3 (omega arith))

-- ---- a round

loss : (l p c k x : ℕ) (v : Verb) (so : SoFar) → p < 64 → k < 1024 → At l 8 p c k 0 (word.Command v) so
    → Goes (At (l + 4) 8 (p + 1) 1 (k + 1) 0 (word.Command verb.Lose)) so (seeds.loss_lines x)
unfolding seeds.loss_lines
loss l p c k x v so few room at =
    let ticks : List ℕ = seeds.ended (codes "tick" ++ seeds.spaced (seeds.draw 10 x)) in
    let phase : List ℕ = seeds.ended (codes "phase") in
    let client : List ℕ = seeds.ended (codes "client") in
    let lose : List ℕ = seeds.ended (codes "lose" ++ seeds.spaced (seeds.draw 16 (seeds.next x))) in
    let all : SoFar → Type 0 = At (l + 4) 8 (p + 1) 1 (k + 1) 0 (word.Command verb.Lose) in
    let ticked : SoFar → Type 0 = At (l + 1) 8 p c k 0 word.Tick in
    let in_phase : SoFar → Type 0 = At (l + 1 + 1) 8 (p + 1) 0 k 0 word.Phase in
    let in_client : SoFar → Type 0 = At (l + 1 + 1 + 1) 8 (p + 1) 1 k 0 word.Client in
    let lost : SoFar → Type 0 = At (l + 1 + 1 + 1 + 1) 8 (p + 1) 1 (k + 1) 0 (word.Command verb.Lose) in
    along in_client all so (ticks ++ phase ++ client) lose
    (along in_phase in_client so (ticks ++ phase) client
    (along ticked in_phase so ticks phase
    (tick_line l 8 p c k 0 (word.Command v) so at (seeds.draw 10 x) (below 10 x (omega arith)) (command_tick v))
    (λ a h. phase_line (l + 1) 8 p c k 0 word.Tick a h tick_phase few))
    (λ a h. client_line (l + 1 + 1) 8 (p + 1) 0 k 0 word.Phase a h phase_client (omega arith)))
    (λ a h. as_well lost all a lose
    (λ s. loosen (l + 1 + 1 + 1 + 1) (l + 4) 8 (p + 1) (p + 1) 1 1 (k + 1) (k + 1) 0 (word.Command verb.Lose) s
    (omega arith) (omega arith) (omega arith) (omega arith))
    (lose_line (l + 1 + 1 + 1) 8 (p + 1) 1 k 0 word.Client a h (seeds.draw 16 (seeds.next x))
    (below 16 (seeds.next x) (omega arith)) room (client_command verb.Lose)))

sweep : (l p c k : ℕ) (v : Verb) (so : SoFar) → p < 64 → k < 1024 → At l 8 p c k 0 (word.Command v) so
    → Goes (At (l + 3) 8 (p + 1) 4 (k + 1) 0 (word.Command verb.Sweep)) so seeds.sweep_lines
unfolding seeds.sweep_lines
sweep l p c k v so few room at =
    let phase : List ℕ = seeds.ended (codes "phase") in
    let client : List ℕ = seeds.ended (codes "client") in
    let sweeps : List ℕ = seeds.ended (codes "sweep") in
    let all : SoFar → Type 0 = At (l + 3) 8 (p + 1) 4 (k + 1) 0 (word.Command verb.Sweep) in
    let in_phase : SoFar → Type 0 = At (l + 1) 8 (p + 1) 0 k 0 word.Phase in
    let in_client : SoFar → Type 0 = At (l + 1 + 1) 8 (p + 1) 1 k 0 word.Client in
    let swept : SoFar → Type 0 = At (l + 1 + 1 + 1) 8 (p + 1) 1 (k + 1) 0 (word.Command verb.Sweep) in
    along in_client all so (phase ++ client) sweeps
    (along in_phase in_client so phase client (phase_line l 8 p c k 0 (word.Command v) so at (command_phase v) few)
    (λ a h. client_line (l + 1) 8 (p + 1) 0 k 0 word.Phase a h phase_client (omega arith)))
    (λ a h. as_well swept all a sweeps
    (λ s. loosen (l + 1 + 1 + 1) (l + 3) 8 (p + 1) (p + 1) 1 4 (k + 1) (k + 1) 0 (word.Command verb.Sweep) s
    (omega arith) (omega arith) (omega arith) (omega arith))
    (sweep_line (l + 1 + 1) 8 (p + 1) 1 k 0 word.Client a h room (client_command verb.Sweep)))

one_round : (l p k x : ℕ) (v : Verb) (so : SoFar) → p + 3 < 64 → k + 18 < 1024 → At l 8 p 4 k 0 (word.Command v) so
    → Goes (At (l + 28) 8 (p + 3) 4 (k + 18) 0 (word.Command verb.Sweep)) so (seeds.round_lines x)
one_round l p k x v so few room at =
    let lost : List ℕ = seeds.loss_lines x in
    let phase : List ℕ = seeds.ended (codes "phase") in
    let turns : List ℕ = seeds.clients_lines (seeds.behind 2 x) in
    let all : SoFar → Type 0 = At (l + 28) 8 (p + 3) 4 (k + 18) 0 (word.Command verb.Sweep) in
    let in_loss : SoFar → Type 0 = At (l + 4) 8 (p + 1) 1 (k + 1) 0 (word.Command verb.Lose) in
    let in_phase : SoFar → Type 0 = At (l + 4 + 1) 8 (p + 1 + 1) 0 (k + 1) 0 word.Phase in
    let in_turns : SoFar → Type 0 = At (l + 4 + 1 + 20) 8 (p + 1 + 1) 4 (k + 1 + 16) 0 (word.Command verb.Read) in
    let swept : SoFar → Type 0 =
    At (l + 4 + 1 + 20 + 3) 8 (p + 1 + 1 + 1) 4 (k + 1 + 16 + 1) 0 (word.Command verb.Sweep) in
    along in_turns all so (lost ++ phase ++ turns) seeds.sweep_lines
    (along in_phase in_turns so (lost ++ phase) turns
    (along in_loss in_phase so lost phase (loss l p 4 k x v so (omega arith) (omega arith) at)
    (λ a h. phase_line (l + 4) 8 (p + 1) 1 (k + 1) 0 (word.Command verb.Lose) a h (command_phase verb.Lose)
    (omega arith)))
    (λ a h. clients (l + 4 + 1) (p + 1 + 1) (k + 1) (seeds.behind 2 x) a (omega arith) h))
    (λ a h. as_well swept all a seeds.sweep_lines
    (λ s. loosen (l + 4 + 1 + 20 + 3) (l + 28) 8 (p + 1 + 1 + 1) (p + 3) 4 4 (k + 1 + 16 + 1) (k + 18) 0
    (word.Command verb.Sweep) s (omega arith) (omega arith) (omega arith) (omega arith))
    (sweep (l + 4 + 1 + 20) (p + 1 + 1) 4 (k + 1 + 16) verb.Read a (omega arith) (omega arith) h))

rounds : (x : ℕ) (so : SoFar) → At 29 8 1 4 8 0 (word.Command verb.Create) so
    → Goes (At 253 8 25 4 152 0 (word.Command verb.Sweep)) so (seeds.rounds_lines x)
unfolding seeds.rounds_lines
rounds x so at =
    let piece : ℕ → List ℕ = λ r. seeds.round_lines (seeds.behind (10 * r) x) in
    let P : ℕ → SoFar → Type 0 = λ r. At (29 + 28 * r) 8 (1 + 3 * r) 4 (8 + 18 * r) 0 (word.Command verb.Sweep) in
    along (P 1) (P 8) so (piece 0) (flat_map piece (range_with_len 1 7))
    (one_round 29 1 8 (seeds.behind 0 x) verb.Create so (omega arith) (omega arith) at)
    (turns P piece 8 (λ r so lt h.
    as_well (At (29 + 28 * r + 28) 8 (1 + 3 * r + 3) 4 (8 + 18 * r + 18) 0 (word.Command verb.Sweep)) (P (r + 1)) so
    (piece r)
    (λ so. loosen (29 + 28 * r + 28) (29 + 28 * (r + 1)) 8 (1 + 3 * r + 3) (1 + 3 * (r + 1)) 4 4 (8 + 18 * r + 18)
    (8 + 18 * (r + 1)) 0 (word.Command verb.Sweep) so (omega arith) (omega arith) (omega arith) (omega arith))
    (one_round (29 + 28 * r) (1 + 3 * r) (8 + 18 * r) (seeds.behind (10 * r) x) verb.Sweep so (omega arith)
    (omega arith) h))
    1 7 (omega arith))

-- ---- the dumps

dumps : (so : SoFar) → At 253 8 25 4 152 0 (word.Command verb.Sweep) so
    → Goes (At 261 8 25 4 152 8 word.Dump) so seeds.dump_lines
unfolding seeds.dump_lines
dumps so at =
    let piece : ℕ → List ℕ = λ i. seeds.ended (seeds.on_file (codes "dump") i) in
    let P : ℕ → SoFar → Type 0 = λ i. At (253 + i) 8 25 4 152 i word.Dump in
    along (P 1) (P 8) so (piece 0) (flat_map piece (range_with_len 1 7))
    (dump_line 253 25 4 152 (word.Command verb.Sweep) so 0 at (omega arith) (command_dump verb.Sweep))
    (turns P piece 8 (λ i so lt h.
    as_well (At (253 + i + 1) 8 25 4 152 (i + 1) word.Dump) (P (i + 1)) so (piece i)
    (λ so. loosen (253 + i + 1) (253 + (i + 1)) 8 25 25 4 4 152 152 (i + 1) word.Dump so (omega arith) (omega arith)
    (omega arith) (omega arith))
    (dump_line (253 + i) 25 4 152 word.Dump so i h lt dump_dump))
    1 7 (omega arith))

-- ---- the whole text

whole : (n : ℕ) → Goes (At 262 8 25 4 152 8 word.End) so_before (seeds.seed_text n)
unfolding seeds.seed_text
whole n =
    let phase : List ℕ = seeds.ended (codes "phase") in
    let some : List ℕ = seeds.rounds_lines (seeds.behind 16 n) in
    let end : List ℕ = seeds.ended (codes "end") in
    let in_store : SoFar → Type 0 = At 8 0 0 0 0 0 word.Policy in
    let in_files : SoFar → Type 0 = At 16 8 0 0 0 0 word.File in
    let in_phase : SoFar → Type 0 = At 17 8 1 0 0 0 word.Phase in
    let created : SoFar → Type 0 = At 29 8 1 4 8 0 (word.Command verb.Create) in
    let in_rounds : SoFar → Type 0 = At 253 8 25 4 152 0 (word.Command verb.Sweep) in
    let dumped : SoFar → Type 0 = At 261 8 25 4 152 8 word.Dump in
    let all : SoFar → Type 0 = At 262 8 25 4 152 8 word.End in
    let to_files : List ℕ = seeds.store_lines ++ seeds.file_lines n in
    let to_created : List ℕ = to_files ++ phase ++ seeds.creators_lines in
    along dumped all so_before (to_created ++ some ++ seeds.dump_lines) end
    (along in_rounds dumped so_before (to_created ++ some) seeds.dump_lines
    (along created in_rounds so_before to_created some
    (along in_phase created so_before (to_files ++ phase) seeds.creators_lines
    (along in_files in_phase so_before to_files phase
    (along in_store in_files so_before seeds.store_lines (seeds.file_lines n) store (files n))
    (λ a h. phase_line 16 8 0 0 0 0 word.File a h file_phase (omega arith)))
    creators)
    (rounds (seeds.behind 16 n)))
    dumps)
    (λ a h. end_line 261 8 25 4 152 8 word.Dump a h dump_end)

-- The lines of a seed's text have forms, and what they add up to is known.
pub record SeedForms (n : ℕ) : Type 0 where
  pub forms : List Form
  pub has : HasForms (seeds.seed_text n) forms
  pub at : At 262 8 25 4 152 8 word.End (so_of forms)

pub seed_forms : (n : ℕ) → SeedForms n
unfolding so_of
seed_forms n =
    let goes = whole n in
    let lines : lines_of (seeds.seed_text n) ≡ goes.lines =
    ap lines_of (sym (append-nil (seeds.seed_text n))) ∙ goes.splits [] ∙ ap (λ ls. goes.lines ++ ls) lines_of-nil
    ∙ append-nil goes.lines in
    record {
      forms = goes.forms;
      has = record {
        short = omega (arith, goes.short, goes.holds.few_lines);
        lines = subst (λ ls. MakeForms so_before ls goes.forms) (sym lines) goes.made;
        ended = goes.holds.last;
      };
      at = goes.holds;
    }

-- ---- the script

-- each seed's text is a script
pub seed_is : (n : ℕ) → (s : Script) × IsScript (seeds.seed_text n) s
seed_is n =
    let f = seed_forms n in
    let s : Script = (so_of f.forms).script in
    let code : IsCode (code_of s family) =
    subst (λ m. IsCode (record { shape = record { stages = family.stages; servers = m }; points = family.points }))
    (sym f.at.servers) accepted in (
      s,
      record {
        forms = f.forms;
        lines = f.has;
        says = refl;
        families = subst (λ blocks. All (λ block. IsCode (code_of s block)) blocks) (sym f.at.families)
            (All-cons (λ block. IsCode (code_of s block)) family [] code (All-nil (λ block. IsCode (code_of s block))));
      },
    )

-- a kind that is no other is want of memory
only_memory : (k : Kind) → (k ≢ kind.Memory → ⊥) → k ≡ kind.Memory
only_memory kind.Memory h = refl
only_memory k h = absurd (h (λ e. absurd cc))

-- where no text with a fault but want of memory is a script, a seed's text has no other fault
pub memory_alone : {X : Type 0} (n : ℕ) (text : List ℕ) (r : Result X ScriptFault) → text ≡ seeds.seed_text n
    → IfErr r (λ fault. fault.kind ≢ kind.Memory → (s : Script) → IsScript text s → ⊥)
    → IfErr r (λ fault. fault.kind ≡ kind.Memory)
memory_alone n text (Ok x) is h = tt
memory_alone n text (Err fault) is h =
    let s = seed_is n in
    only_memory fault.kind (λ other. h other s.0 (subst (λ t. IsScript t s.0) (sym is) s.1))
