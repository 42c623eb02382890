-- The lines of a seed's script, each behind what the lines before it add up to.
use Rattle.std.proofs.Common.{◌≡◌, ℕ, zero, suc, ◌+◌, ◌^◌, ◌<◌, ◌≤◌, Bool, true, false, not, ◌&&◌, eqb, ltb, leb}
use Rattle.std.proofs.Common.{List, [], ◌∷◌, ◌++◌, length, map, Some, None, Ok, refl, sym, ap, ◌∙◌, subst, arith, lit<}
use Rattle.std.specs.Prelude.{codes, ok_or, is_some}
use Rattle.std.specs.Int.{div_ceil}
use Rattle.std.specs.List.{range_with_len, join_with_byte, list_any}
use Rattle.std.proofs.lemmas.Bool.{cond-false, le-ltb, lt-leb}
use Rattle.std.proofs.lemmas.Grind.{div_ceil_times}
use Rattle.std.proofs.lemmas.Fmt.{decimal_digit}
use Rattle.std.proofs.lemmas.List.{append_assoc, length-append, length-map, map_push}
use Rattle.std.proofs.lemmas.List.FromFn.{length-range_with_len, map-range_with_len_more}
use Rattle.mf_text.specs.Decimal.{decimal_text}
use Rattle.mf_text.specs.Lines.{is_clean}
use Rattle.mf_text.proofs.WordLemmas.{is_word}
use Rattle.mf_text.proofs.DecimalLemmas.{decimal_of-decimal_text, is_word-decimal_text, is_clean-decimal_text}
use Rattle.mf_text.proofs.DecimalLemmas.{length-decimal_text-le}
use Rattle.mf_places.specs.Servers.{set_of}
use Rattle.mf_places.proofs.Ranges.{range-more}
use Rattle.mf_lines.specs.declared.parts.Kind.TheVariants as kind
use Rattle.mf_lines.specs.declared.parts.LimitName.TheVariants as limit
use Rattle.mf_lines.specs.declared.parts.Content.TheVariants as given
use Rattle.mf_lines.specs.declared.parts.FileLine.{FileLine}
use Rattle.mf_lines.specs.declared.parts.Act.{Act}
use Rattle.mf_lines.specs.declared.parts.Act.TheVariants as act
use Rattle.mf_lines.specs.declared.words.ContentWord.TheVariants as content
use Rattle.mf_lines.specs.declared.words.Verb.{Verb}
use Rattle.mf_lines.specs.declared.words.Verb.TheVariants as verb
use Rattle.mf_lines.specs.declared.words.LineWord.{LineWord}
use Rattle.mf_lines.specs.declared.words.LineWord.TheVariants as word
use Rattle.mf_lines.specs.declared.forms.Form.TheVariants as says
use Rattle.mf_lines.specs.Names.{is_name}
use Rattle.mf_lines.specs.Words.{refuse, verb_text, word_text, word_of, content_word_of, spelled, small, number_in}
use Rattle.mf_lines.specs.Meaning.{SoFar, Block, verb_of, names_in, with_line}
use Rattle.mf_lines.specs.Lines.{within, has_name, file_number, content_in, file_limits, file_form}
use Rattle.mf_lines.specs.Lines.{file_operand, command_fits, away_operands, knows_servers, lacks_server, server_operand}
use Rattle.mf_lines.specs.Lines.{sweep_operand, servers_in, act_in, may_follow}
use Rattle.mf_lines.proofs.CommandLemmas.{then, AreFit}
use Rattle.mf_script.specs.Seeds as seeds
use Rattle.mf_script.proofs.WholeLines.{Goes, word_line}

-- ---- what the lines so far add up to

-- the name of file i, which is below 8
abbrev pub name : ℕ → List ℕ
name i = 102 ∷ (48 + i) ∷ []

-- the family of every seed
abbrev pub family : Block
family =
    record {
      name = codes "main";
      points = 1 ∷ 2 ∷ 4 ∷ [];
      stages = record { width = 6; parities = 3; copies = 1 } ∷ record { width = 6; parities = 3; copies = 0 }
          ∷ record { width = 12; parities = 3; copies = 0 } ∷ [];
    }

-- At most so many lines, phases, clients since the last phase line and commands, and just so many files and dumps; the
-- last line began with this word, and the store is that of every seed.
pub record At (lines files phases clients commands dumps : ℕ) (w : LineWord) (so : SoFar) : Type 0 where
  pub last : so.last ≡ Some w
  pub servers : so.script.servers ≡ 16
  pub chunk : so.script.chunk ≡ 64
  pub families : so.script.families ≡ family ∷ []
  pub policy : so.script.policy ≡ Some (0 ∷ 7 ∷ 30 ∷ [])
  pub names : names_in so.script.files ≡ map name (range_with_len 0 files)
  pub dumped : so.script.dumps ≡ range_with_len 0 dumps
  pub few_lines : so.lines ≤ lines
  pub few_phases : so.phases ≤ phases
  pub few_clients : so.clients ≤ clients
  pub few_commands : so.commands ≤ commands

-- bounds may grow
pub loosen : (l l2 f p p2 c c2 k k2 d : ℕ) (w : LineWord) (so : SoFar) → l ≤ l2 → p ≤ p2 → c ≤ c2 → k ≤ k2
    → At l f p c k d w so → At l2 f p2 c2 k2 d w so
loosen l l2 f p p2 c c2 k k2 d w so more_l more_p more_c more_k at = record {
  last = at.last;
  servers = at.servers;
  chunk = at.chunk;
  families = at.families;
  policy = at.policy;
  names = at.names;
  dumped = at.dumped;
  few_lines = omega (arith, at.few_lines, more_l);
  few_phases = omega (arith, at.few_phases, more_p);
  few_clients = omega (arith, at.few_clients, more_c);
  few_commands = omega (arith, at.few_commands, more_k);
}

-- ---- words

spelled_verb : (v : Verb) → word_of (verb_text v) ≡ Some (word.Command v)
unfolding word_of
spelled_verb verb.Create = refl
spelled_verb v = refl

fit_verb : (v : Verb) → (is_word (verb_text v) ≡ true) × (is_clean (verb_text v) ≡ true)
unfolding is_word is_clean
fit_verb verb.Create = (refl, refl)
fit_verb v = (refl, refl)

verb_short : (v : Verb) → length (verb_text v) ≤ 10
verb_short verb.Create = omega arith
verb_short v = omega arith

spelled_word : (w : LineWord) → word_of (word_text w) ≡ Some w
unfolding word_of
spelled_word (word.Command v) = spelled_verb v
spelled_word w = refl

fit_word : (w : LineWord) → (is_word (word_text w) ≡ true) × (is_clean (word_text w) ≡ true)
unfolding is_word is_clean
fit_word (word.Command v) = fit_verb v
fit_word w = (refl, refl)

-- ---- names

-- what is known of the name of a file
pub record IsFileName (i : ℕ) : Type 0 where
  pub fit : (is_word (name i) ≡ true) × (is_clean (name i) ≡ true)
  pub proper : is_name (name i) ≡ true
  pub new : has_name (map name (range_with_len 0 i)) (name i) ≡ false
  pub found : file_number (map name (range_with_len 0 8)) (name i) ≡ Some i
  pub other : list_any (λ other. eqb i other) (range_with_len 0 i) ≡ false

pub file_name : (i : ℕ) → i < 8 → IsFileName i
unfolding is_word is_clean
file_name zero lt = record { fit = (refl, refl); proper = refl; new = refl; found = refl; other = refl }
file_name (suc zero) lt = record { fit = (refl, refl); proper = refl; new = refl; found = refl; other = refl }
file_name (suc (suc zero)) lt = record { fit = (refl, refl); proper = refl; new = refl; found = refl; other = refl }
file_name (suc (suc (suc zero))) lt =
    record { fit = (refl, refl); proper = refl; new = refl; found = refl; other = refl }
file_name (suc (suc (suc (suc zero)))) lt =
    record { fit = (refl, refl); proper = refl; new = refl; found = refl; other = refl }
file_name (suc (suc (suc (suc (suc zero))))) lt =
    record { fit = (refl, refl); proper = refl; new = refl; found = refl; other = refl }
file_name (suc (suc (suc (suc (suc (suc zero)))))) lt =
    record { fit = (refl, refl); proper = refl; new = refl; found = refl; other = refl }
file_name (suc (suc (suc (suc (suc (suc (suc zero))))))) lt =
    record { fit = (refl, refl); proper = refl; new = refl; found = refl; other = refl }
file_name (suc (suc (suc (suc (suc (suc (suc (suc i)))))))) lt = absurd (omega arith)

-- how the name is drawn
named : (i : ℕ) → i < 8 → decimal_text i ≡ (48 + i) ∷ []
unfolding decimal_text
named i lt = decimal_digit i (omega arith)

behind_space : (i : ℕ) → i < 8 → codes " f" ++ decimal_text i ≡ 32 ∷ name i
behind_space i lt = ap (λ ds. codes " f" ++ ds) (named i lt)

on_file_is : (word : List ℕ) (i : ℕ) → i < 8 → seeds.on_file word i ≡ word ++ 32 ∷ name i
on_file_is word i lt = append_assoc word (codes " f") (decimal_text i) ∙ ap (λ ds. word ++ ds) (behind_space i lt)

-- ---- numbers

fit_number : (n : ℕ) → n ≤ 4294967295 → (is_word (decimal_text n) ≡ true) × (is_clean (decimal_text n) ≡ true)
fit_number n le =
    let big : 4294967295 < 2 ^ 64 = lit< tt in
    let small : n < 2 ^ 64 = omega arith in (is_word-decimal_text n small, is_clean-decimal_text n small)

spelled_number : (n : ℕ) → n ≤ 4294967295 → spelled (decimal_text n) ≡ Ok n
spelled_number n le =
    let big : 4294967295 < 2 ^ 64 = lit< tt in
    ap (λ o. ok_or o kind.Number) (decimal_of-decimal_text n (omega arith))

small_number : (n : ℕ) → n ≤ 4294967295 → small n ≡ Ok n
small_number n le = cond-false _ _ _ (le-ltb 4294967295 n le)

number_again : (n : ℕ) → n ≤ 4294967295 → number_in (decimal_text n) ≡ Ok n
number_again n le = then (spelled (decimal_text n)) small n n (spelled_number n le) (small_number n le)

-- ten thousand has five digits
number_short : (n : ℕ) → n < 10000 → length (decimal_text n) ≤ 4
number_short n lt =
    let power : 10000 ≡ 10 ^ 4 = refl in
    let big : 10000 < 2 ^ 64 = lit< tt in
    length-decimal_text-le 4 n (omega arith) (omega (arith, lt, power)) (omega (arith, lt, big))

-- ---- lines without operands

module _ (l f p c k d : ℕ) (w : LineWord) (so : SoFar) (at : At l f p c k d w so) where
  pub phase_line : may_follow w word.Phase ≡ true → p < 64
      → Goes (At (l + 1) f (p + 1) 0 k d word.Phase) so (seeds.ended (codes "phase"))
  phase_line follows room =
      word_line (At (l + 1) f (p + 1) 0 k d word.Phase) so w word.Phase [] says.Phase at.last (spelled_word word.Phase)
      (then (within ((leb 64 so.phases, limit.Phases) ∷ [])) (λ _. Ok says.Phase) tt says.Phase
      (cond-false _ _ _ (lt-leb 64 so.phases (omega (arith, at.few_phases, room)))) refl)
      follows (fit_word word.Phase, tt) (omega arith) (record {
        last = refl;
        servers = at.servers;
        chunk = at.chunk;
        families = at.families;
        policy = at.policy;
        names = at.names;
        dumped = at.dumped;
        few_lines = omega (arith, at.few_lines);
        few_phases = omega (arith, at.few_phases);
        few_clients = omega arith;
        few_commands = at.few_commands;
      })

  pub client_line : may_follow w word.Client ≡ true → c < 8
      → Goes (At (l + 1) f p (c + 1) k d word.Client) so (seeds.ended (codes "client"))
  client_line follows room =
      word_line (At (l + 1) f p (c + 1) k d word.Client) so w word.Client [] says.Client at.last
      (spelled_word word.Client)
      (then (within ((leb 8 so.clients, limit.Clients) ∷ [])) (λ _. Ok says.Client) tt says.Client
      (cond-false _ _ _ (lt-leb 8 so.clients (omega (arith, at.few_clients, room)))) refl)
      follows (fit_word word.Client, tt) (omega arith) (record {
        last = refl;
        servers = at.servers;
        chunk = at.chunk;
        families = at.families;
        policy = at.policy;
        names = at.names;
        dumped = at.dumped;
        few_lines = omega (arith, at.few_lines);
        few_phases = at.few_phases;
        few_clients = omega (arith, at.few_clients);
        few_commands = at.few_commands;
      })

  pub end_line : may_follow w word.End ≡ true
      → Goes (At (l + 1) f p c k d word.End) so (seeds.ended (codes "end"))
  end_line follows =
      word_line (At (l + 1) f p c k d word.End) so w word.End [] says.End at.last (spelled_word word.End) refl follows
      (fit_word word.End, tt) (omega arith) (record {
        last = refl;
        servers = at.servers;
        chunk = at.chunk;
        families = at.families;
        policy = at.policy;
        names = at.names;
        dumped = at.dumped;
        few_lines = omega (arith, at.few_lines);
        few_phases = at.few_phases;
        few_clients = at.few_clients;
        few_commands = at.few_commands;
      })

  -- ---- ticks

  pub tick_line : (n : ℕ) → n < 10 → may_follow w word.Tick ≡ true
      → Goes (At (l + 1) f p c k d word.Tick) so (seeds.ended (codes "tick" ++ seeds.spaced n))
  tick_line n lt follows =
      word_line (At (l + 1) f p c k d word.Tick) so w word.Tick (decimal_text n ∷ []) (says.Tick n) at.last
      (spelled_word word.Tick)
      (then (spelled (decimal_text n)) _ n (says.Tick n) (spelled_number n (omega arith))
      (then (within ((ltb 1000000000 n, limit.Tick) ∷ [])) (λ _. Ok (says.Tick n)) tt (says.Tick n)
      (cond-false _ _ _ (le-ltb 1000000000 n (omega arith))) refl))
      follows (fit_word word.Tick, (fit_number n (omega arith), tt))
      (omega (arith, number_short n (omega arith))) (record {
        last = refl;
        servers = at.servers;
        chunk = at.chunk;
        families = at.families;
        policy = at.policy;
        names = at.names;
        dumped = at.dumped;
        few_lines = omega (arith, at.few_lines);
        few_phases = at.few_phases;
        few_clients = at.few_clients;
        few_commands = at.few_commands;
      })

  -- ---- commands

  fits : k < 1024 → command_fits so ≡ Ok tt
  fits room = cond-false _ _ _ (lt-leb 1024 so.commands (omega (arith, at.few_commands, room)))

  -- a line of words that read as what a command does
  command_line : (v : Verb) (ws : List (List ℕ)) (does : Act) → act_in so v ws ≡ Ok does → verb_of does ≡ v
      → may_follow w (word.Command v) ≡ true → AreFit ws → length (join_with_byte 32 (verb_text v ∷ ws)) ≤ 63
      → Goes (At (l + 1) f p c (k + 1) d (word.Command v)) so (join_with_byte 32 (verb_text v ∷ ws) ++ 10 ∷ [])
  command_line v ws does reads is follows fit short =
      word_line (At (l + 1) f p c (k + 1) d (word.Command v)) so w (word.Command v) ws (says.Command does) at.last
      (spelled_verb v) (then (act_in so v ws) (λ act. Ok (says.Command act)) does (says.Command does) reads refl)
      follows (fit_verb v, fit) short (record {
        last = ap (λ u. Some (word.Command u)) is;
        servers = at.servers;
        chunk = at.chunk;
        families = at.families;
        policy = at.policy;
        names = at.names;
        dumped = at.dumped;
        few_lines = omega (arith, at.few_lines);
        few_phases = at.few_phases;
        few_clients = at.few_clients;
        few_commands = omega (arith, at.few_commands);
      })

  pub lose_line : (n : ℕ) → n < 16 → k < 1024 → may_follow w (word.Command verb.Lose) ≡ true
      → Goes (At (l + 1) f p c (k + 1) d (word.Command verb.Lose)) so (seeds.ended (codes "lose" ++ seeds.spaced n))
  lose_line n lt room follows =
      command_line verb.Lose (decimal_text n ∷ []) (act.Lose n)
      (then (server_operand so (decimal_text n ∷ [])) (λ server. Ok (act.Lose server)) n (act.Lose n)
      (then (number_in (decimal_text n)) _ n n (number_again n (omega arith))
      (then (command_fits so) _ tt n (fits room)
      (then (refuse (lacks_server so n) kind.NoServer) (λ _. Ok n) tt n (cond-false _ _ _ there) refl)))
      refl)
      refl follows (fit_number n (omega arith), tt) (omega (arith, number_short n (omega arith)))
    where
      none : (b : Bool) → (b && false) ≡ false
      none true = refl
      none false = refl

      there : lacks_server so n ≡ false
      there =
          ap (λ b. knows_servers so.last && b) (lt-leb so.script.servers n (omega (arith, at.servers, lt)))
          ∙ none (knows_servers so.last)

  pub sweep_line : k < 1024 → may_follow w (word.Command verb.Sweep) ≡ true
      → Goes (At (l + 1) f p c (k + 1) d (word.Command verb.Sweep)) so (seeds.ended (codes "sweep"))
  sweep_line room follows =
      command_line verb.Sweep [] act.Sweep
      (then (sweep_operand so []) (λ _. Ok act.Sweep) tt act.Sweep
      (then (command_fits so) _ tt tt (fits room)
      (cond-false _ _ _ (ap (λ o. not (is_some o)) at.policy))) refl)
      refl follows tt (omega arith)

-- ---- commands on files

-- a word and the name of a file, as a line
module _ (l p c k d : ℕ) (w : LineWord) (so : SoFar) (at : At l 8 p c k d w so) (i : ℕ) (lt : i < 8)
    (room : k < 1024) where
  file_found : ok_or (file_number (names_in so.script.files) (name i)) kind.NoFile ≡ Ok i
  file_found =
      ap (λ ns. ok_or (file_number ns (name i)) kind.NoFile) at.names
      ∙ ap (λ o. ok_or o kind.NoFile) (file_name i lt).found

  operand : file_operand so (name i ∷ []) ≡ Ok i
  operand = then (command_fits so) _ tt i (fits l 8 p c k d w so at room) file_found

  free : servers_in so [] ≡ Ok []
  free =
      then (within ((false, limit.Number) ∷ (leb 1024 so.commands, limit.Commands) ∷ [])) _ tt []
      (cond-false _ _ _ (lt-leb 1024 so.commands (omega (arith, at.few_commands, room)))) refl

  operands : away_operands so (name i ∷ []) ≡ Ok (i, set_of [])
  operands =
      then (servers_in so []) _ [] (i, set_of []) free
      (then (ok_or (file_number (names_in so.script.files) (name i)) kind.NoFile) _ i (i, set_of []) file_found refl)

  -- a command that reads so
  on_name : (v : Verb) (does : Act) → act_in so v (name i ∷ []) ≡ Ok does → verb_of does ≡ v
      → may_follow w (word.Command v) ≡ true
      → Goes (At (l + 1) 8 p c (k + 1) d (word.Command v)) so (seeds.ended (seeds.on_file (verb_text v) i))
  on_name v does reads is follows =
      subst (λ line. Goes (At (l + 1) 8 p c (k + 1) d (word.Command v)) so (seeds.ended line))
      (sym (on_file_is (verb_text v) i lt))
      (command_line l 8 p c k d w so at v (name i ∷ []) does reads is follows ((file_name i lt).fit, tt)
      (omega (arith, verb_short v, length-append (verb_text v) (32 ∷ name i))))

  pub create_line : may_follow w (word.Command verb.Create) ≡ true
      → Goes (At (l + 1) 8 p c (k + 1) d (word.Command verb.Create)) so (seeds.ended (seeds.on_file (codes "create") i))
  create_line follows =
      on_name verb.Create (act.Create i)
      (then (file_operand so (name i ∷ [])) (λ file. Ok (act.Create file)) i (act.Create i) operand refl) refl follows

  pub read_line : may_follow w (word.Command verb.Read) ≡ true
      → Goes (At (l + 1) 8 p c (k + 1) d (word.Command verb.Read)) so (seeds.ended (seeds.on_file (codes "read") i))
  read_line follows =
      on_name verb.Read (act.Read i (set_of []))
      (then (away_operands so (name i ∷ [])) (λ two. Ok (act.Read two.0 two.1)) (i, set_of [])
      (act.Read i (set_of [])) operands refl) refl follows

  pub repair_line : may_follow w (word.Command verb.Repair) ≡ true
      → Goes (At (l + 1) 8 p c (k + 1) d (word.Command verb.Repair)) so (seeds.ended (seeds.on_file (codes "repair") i))
  repair_line follows =
      on_name verb.Repair (act.Repair i (set_of []))
      (then (away_operands so (name i ∷ [])) (λ two. Ok (act.Repair two.0 two.1)) (i, set_of [])
      (act.Repair i (set_of [])) operands refl) refl follows

  pub convert_line : may_follow w (word.Command verb.Convert) ≡ true
      → Goes (At (l + 1) 8 p c (k + 1) d (word.Command verb.Convert)) so
      (seeds.ended (seeds.on_file (codes "convert") i))
  convert_line follows =
      on_name verb.Convert (act.Convert i (set_of []) None)
      (then (away_operands so (name i ∷ [])) (λ two. Ok (act.Convert two.0 two.1 None)) (i, set_of [])
      (act.Convert i (set_of []) None) operands refl) refl follows

  pub reclaim_line : may_follow w (word.Command verb.Reclaim) ≡ true
      → Goes (At (l + 1) 8 p c (k + 1) d (word.Command verb.Reclaim)) so
      (seeds.ended (seeds.on_file (codes "reclaim") i))
  reclaim_line follows =
      on_name verb.Reclaim (act.Reclaim i)
      (then (file_operand so (name i ∷ [])) (λ file. Ok (act.Reclaim file)) i (act.Reclaim i) operand refl) refl follows

-- ---- dumps

pub dump_line : (l p c k : ℕ) (w : LineWord) (so : SoFar) (i : ℕ) → At l 8 p c k i w so → i < 8
    → may_follow w word.Dump ≡ true
    → Goes (At (l + 1) 8 p c k (i + 1) word.Dump) so (seeds.ended (seeds.on_file (codes "dump") i))
dump_line l p c k w so i at lt follows =
    subst (λ line. Goes (At (l + 1) 8 p c k (i + 1) word.Dump) so (seeds.ended line))
    (sym (on_file_is (codes "dump") i lt))
    (word_line (At (l + 1) 8 p c k (i + 1) word.Dump) so w word.Dump (name i ∷ []) (says.Dump i) at.last
    (spelled_word word.Dump)
    (then (ok_or (file_number (names_in so.script.files) (name i)) kind.NoFile) _ i (says.Dump i)
    (ap (λ ns. ok_or (file_number ns (name i)) kind.NoFile) at.names
    ∙ ap (λ o. ok_or o kind.NoFile) (file_name i lt).found)
    (then (refuse (list_any (λ other. eqb i other) so.script.dumps) kind.Twice) (λ _. Ok (says.Dump i)) tt (says.Dump i)
    (cond-false _ _ _ (ap (list_any (λ other. eqb i other)) at.dumped ∙ (file_name i lt).other)) refl))
    follows (fit_word word.Dump, ((file_name i lt).fit, tt)) (omega arith) (record {
      last = refl;
      servers = at.servers;
      chunk = at.chunk;
      families = at.families;
      policy = at.policy;
      names = at.names;
      dumped = ap (λ ns. ns ++ i ∷ []) at.dumped ∙ sym (range-more i);
      few_lines = omega (arith, at.few_lines);
      few_phases = at.few_phases;
      few_clients = at.few_clients;
      few_commands = at.few_commands;
    }))

-- ---- files

-- a length and a start, as the bytes of a file are given
module _ (l p c k d : ℕ) (w : LineWord) (so : SoFar) (i : ℕ) (at : At l i p c k d w so) (lt : i < 8) (n s : ℕ)
    (n_lt : n < 4001) (s_lt : s < 251) where
  words : List (List ℕ)
  words = name i ∷ codes "pattern" ∷ decimal_text n ∷ decimal_text s ∷ []

  line : FileLine
  line = record { name = name i; content = given.Pattern n s }

  how_many : length so.script.files ≡ i
  how_many =
      sym (length-map so.script.files (λ (file : FileLine). file.name)) ∙ ap length at.names
      ∙ length-map (range_with_len 0 i) name ∙ length-range_with_len 0 i

  few_chunks : ltb 1024 (div_ceil n so.script.chunk) ≡ false
  few_chunks =
      ap (λ size. ltb 1024 (div_ceil n size)) at.chunk
      ∙ le-ltb 1024 (div_ceil n 64) (omega (arith, (div_ceil_times n 64 (omega arith)).1, n_lt))

  no_limit : within (file_limits so (name i) (given.Pattern n s)) ≡ Ok tt
  no_limit =
      cond-false _ _ _ (ap not (file_name i lt).proper)
      ∙ cond-false _ _ _ (lt-leb 64 (length so.script.files) (omega (arith, how_many, lt)))
      ∙ cond-false _ _ _ (le-ltb 250 s (omega (arith, s_lt)))
      ∙ cond-false _ _ _ (le-ltb 1048576 n (omega (arith, n_lt)))
      ∙ cond-false _ _ _ (ap (λ b. ltb 0 so.script.chunk && b) few_chunks ∙ none (ltb 0 so.script.chunk))
    where
      none : (b : Bool) → (b && false) ≡ false
      none true = refl
      none false = refl

  pattern : content_in content.Pattern (decimal_text n ∷ decimal_text s ∷ []) ≡ Ok (given.Pattern n s)
  pattern =
      then (spelled (decimal_text n)) _ n (given.Pattern n s) (spelled_number n (omega (arith, n_lt)))
      (then (spelled (decimal_text s)) _ s (given.Pattern n s) (spelled_number s (omega (arith, s_lt)))
      (then (small n) _ n (given.Pattern n s) (small_number n (omega (arith, n_lt)))
      (then (small s) (λ x. Ok (given.Pattern n x)) s (given.Pattern n s) (small_number s (omega (arith, s_lt))) refl)))

  content_word : content_word_of (codes "pattern") ≡ Some content.Pattern
  unfolding content_word_of
  content_word = refl

  reads : file_form so words ≡ Ok (says.File line)
  unfolding words line
  reads =
      then (ok_or (content_word_of (codes "pattern")) kind.Unknown) _ content.Pattern (says.File line)
      (ap (λ o. ok_or o kind.Unknown) content_word)
      (then (content_in content.Pattern (decimal_text n ∷ decimal_text s ∷ [])) _ (given.Pattern n s) (says.File line)
      pattern
      (then (within (file_limits so (name i) (given.Pattern n s))) _ tt (says.File line) no_limit
      (then (refuse (has_name (names_in so.script.files) (name i)) kind.Twice) (λ _. Ok (says.File line)) tt
      (says.File line)
      (cond-false _ _ _ (ap (λ ns. has_name ns (name i)) at.names ∙ (file_name i lt).new)) refl)))

  fit : AreFit (codes "file" ∷ words)
  unfolding words is_word is_clean
  fit = (
    (refl, refl),
    (
      (file_name i lt).fit,
      ((refl, refl), (fit_number n (omega (arith, n_lt)), (fit_number s (omega (arith, s_lt)), tt))),
    ),
  )

  line_short : length (join_with_byte 32 (codes "file" ∷ words)) ≤ 63
  unfolding words
  line_short =
      omega (
        arith,
        number_short n (omega (arith, n_lt)),
        number_short s (omega (arith, s_lt)),
        length-append (decimal_text n) (32 ∷ decimal_text s),
      )

  next : At (l + 1) (i + 1) p c k d word.File (with_line so (says.File line))
  unfolding line
  next = record {
    last = refl;
    servers = at.servers;
    chunk = at.chunk;
    families = at.families;
    policy = at.policy;
    names = map_push (λ (file : FileLine). file.name) so.script.files line
        ∙ ap (λ ns. ns ++ name i ∷ []) at.names
        ∙ sym (map-range_with_len_more name 0 i i (omega arith));
    dumped = at.dumped;
    few_lines = omega (arith, at.few_lines);
    few_phases = at.few_phases;
    few_clients = at.few_clients;
    few_commands = at.few_commands;
  }

  pub file_line : may_follow w word.File ≡ true
      → Goes (At (l + 1) (i + 1) p c k d word.File) so
      (seeds.ended (seeds.on_file (codes "file") i ++ codes " pattern" ++ seeds.spaced n ++ seeds.spaced s))
  unfolding words
  file_line follows =
      subst (λ (front : List ℕ). Goes (At (l + 1) (i + 1) p c k d word.File) so
      (seeds.ended (front ++ codes " pattern" ++ seeds.spaced n ++ seeds.spaced s)))
      (sym (on_file_is (codes "file") i lt))
      (word_line (At (l + 1) (i + 1) p c k d word.File) so w word.File words (says.File line) at.last
      (spelled_word word.File) reads follows fit line_short next)
