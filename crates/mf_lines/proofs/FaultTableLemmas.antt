-- A line's fault is the first in the order of the table.
use Rattle.std.proofs.Common.{◌≡◌, ℕ, Bool, true, false, not, ◌&&◌, ◌||◌, eqb, ltb, leb, List, [], ◌∷◌, ◌++◌, length}
use Rattle.std.proofs.Common.{map, Option, Some, None, Result, Ok, Err, refl, sym, ap, ◌∙◌, subst, arith, inl, inr}
use Rattle.std.specs.Prelude.{codes, ok_or, is_none, is_some, unwrap_or, if◌then◌else◌}
use Rattle.std.specs.Int.{div_ceil}
use Rattle.std.specs.List.{list_any, join_with_byte}
use Rattle.std.specs.Str.{bytes_eq}
use Rattle.std.proofs.lemmas.Bool.{cases_Bool, cond-true, cond-false, ne_eqb, lt-ltb}
use Rattle.std.proofs.lemmas.List.{length-map}
use Rattle.std.proofs.lemmas.Slice.Eq.{bytes_eq-Decides}
use Rattle.mf_text.specs.Decimal.{decimal_of}
use Rattle.mf_text.specs.Hex.{hex_of}
use Rattle.mf_text.specs.Lines.{is_clean}
use Rattle.mf_text.specs.Words.{words_of}
use Rattle.mf_places.specs.declared.servers.Servers.{Servers}
use Rattle.mf_places.specs.Servers.{set_of, no_servers}
use Rattle.mf_lines.specs.declared.parts.Kind.{Kind}
use Rattle.mf_lines.specs.declared.parts.Kind.TheVariants as kind
use Rattle.mf_lines.specs.declared.parts.LimitName.TheVariants as limit
use Rattle.mf_lines.specs.declared.parts.Content.{Content}
use Rattle.mf_lines.specs.declared.parts.Content.TheVariants as given
use Rattle.mf_lines.specs.declared.parts.Act.{Act}
use Rattle.mf_lines.specs.declared.parts.Act.TheVariants as act
use Rattle.mf_lines.specs.declared.words.Verb.{Verb}
use Rattle.mf_lines.specs.declared.words.Verb.TheVariants as verb
use Rattle.mf_lines.specs.declared.words.LineWord.{LineWord}
use Rattle.mf_lines.specs.declared.words.LineWord.TheVariants as word
use Rattle.mf_lines.specs.declared.words.ContentWord.{ContentWord}
use Rattle.mf_lines.specs.declared.words.ContentWord.TheVariants as content
use Rattle.mf_lines.specs.declared.forms.Form.{Form}
use Rattle.mf_lines.specs.declared.forms.Form.TheVariants as says
use Rattle.mf_lines.specs.Words.{◌>>=◌, refuse, word_of, content_word_of, spelled, small, number_in}
use Rattle.mf_lines.specs.Meaning.{SoFar, names_in, main_of}
use Rattle.mf_lines.specs.Names.{is_name}
use Rattle.mf_lines.specs.Lines.{within, is_above, numbers_in, points_in, are_thresholds, has_name, file_number}
use Rattle.mf_lines.specs.Lines.{content_in, content_length, starts_high, file_limits, command_fits, lacks_server}
use Rattle.mf_lines.specs.Lines.{has_twice, form_in, may_follow, away_operands, servers_in, convert_in, later_form}
use Rattle.mf_lines.specs.Lines.{placed, form_at, file_operand}
use Rattle.mf_lines.specs.FaultTable.{value, is_header, fits_content, is_hex_wrong, is_dumped, content_numbers}
use Rattle.mf_lines.specs.FaultTable.{spells_above, passes_start, content_size, option_words, without_words, is_without}
use Rattle.mf_lines.specs.FaultTable.{file_words}
use Rattle.mf_lines.specs.FaultTable.{word_rows, known_rows, words_rows, line_rows, first_kind, fault_of}

-- ---- numbers of words

not_one : (w v : List ℕ) (ws : List (List ℕ)) → eqb (length (w ∷ v ∷ ws)) 1 ≡ false
not_one w v ws = ne_eqb (length (w ∷ v ∷ ws)) 1 (λ e. omega (arith, e))

not_none : (w : List ℕ) (ws : List (List ℕ)) → eqb (length (w ∷ ws)) 0 ≡ false
not_none w ws = ne_eqb (length (w ∷ ws)) 0 (λ e. omega (arith, e))

not_two : (w v u : List ℕ) (ws : List (List ℕ)) → eqb (length (w ∷ v ∷ u ∷ ws)) 2 ≡ false
not_two w v u ws = ne_eqb (length (w ∷ v ∷ u ∷ ws)) 2 (λ e. omega (arith, e))

not_three : (w v u t : List ℕ) (ws : List (List ℕ)) → eqb (length (w ∷ v ∷ u ∷ t ∷ ws)) 3 ≡ false
not_three w v u t ws = ne_eqb (length (w ∷ v ∷ u ∷ t ∷ ws)) 3 (λ e. omega (arith, e))

some : {X : Type 0} (x : X) (xs : List X) → ltb 0 (length (x ∷ xs)) ≡ true
some x xs = lt-ltb 0 (length (x ∷ xs)) (omega arith)

-- whether a word spells no number
abbrev no_number : List ℕ → Bool
no_number word = is_none (decimal_of word)

-- the numbers of words, and the fault of one that spells none
abbrev numbers_or : Bool → List ℕ → Result (List ℕ) Kind
numbers_or wrong ns = if wrong then Err kind.Number else Ok ns

numbers_by : (ws : List (List ℕ)) → numbers_in ws ≡ numbers_or (list_any no_number ws) (map value ws)
numbers_by [] = refl
numbers_by (w ∷ ws) =
    ap (λ r. spelled w >>= λ n. r >>= λ more. Ok (n ∷ more)) (numbers_by ws)
    ∙ go (decimal_of w) (list_any no_number ws) (map value ws)
  where
    go : (o : Option ℕ) (wrong : Bool) (ns : List ℕ)
        → (ok_or o kind.Number >>= λ n. numbers_or wrong ns >>= λ more. Ok (n ∷ more))
        ≡ numbers_or (is_none o || wrong) (unwrap_or o 0 ∷ ns)
    go None wrong ns = refl
    go (Some n) true ns = refl
    go (Some n) false ns = refl

-- ---- the end of each line: whether it may stand there

abbrev closed : Bool → Form → Result Form Kind
closed wrong form = refuse wrong kind.Order >>= λ _. Ok form

ended : (f : Bool) (form : Form) → fault_of (closed f form) ≡ first_kind ((f, kind.Order) ∷ [])
ended true form = refl
ended false form = refl

-- ---- lines by their first word

abbrev Told : SoFar → LineWord → LineWord → List (List ℕ) → Type 0
Told so last first ws =
    fault_of (form_in so first ws >>= closed (not (may_follow last first)))
    ≡ first_kind (word_rows so (Some last) first ws)

morph_told : (so : SoFar) (last : LineWord) (ws : List (List ℕ)) → Told so last word.Morph ws
morph_told so last [] = refl
morph_told so last (w ∷ []) = ended (not (may_follow last word.Morph)) says.Morph
morph_told so last (w ∷ v ∷ ws) = sym (cond-true _ _ _ (ap not (not_one w v ws)))

servers_told : (so : SoFar) (last : LineWord) (ws : List (List ℕ)) → Told so last word.Servers ws
servers_told so last [] = refl
servers_told so last (w ∷ []) = go (decimal_of w) (not (may_follow last word.Servers))
  where
    small_or : (b f : Bool) (n : ℕ)
        → fault_of (((if b then Err (kind.Limit limit.Number) else Ok n) >>= λ n. Ok (says.Servers n)) >>= closed f)
        ≡ first_kind ((b || false, kind.Limit limit.Number) ∷ (f, kind.Order) ∷ [])
    small_or true f n = refl
    small_or false true n = refl
    small_or false false n = refl

    go : (o : Option ℕ) (f : Bool)
        → fault_of (((ok_or o kind.Number >>= small) >>= λ n. Ok (says.Servers n)) >>= closed f)
        ≡ first_kind ((is_none o || false, kind.Number)
        ∷ (is_above 4294967295 (unwrap_or o 0) || false, kind.Limit limit.Number) ∷ (f, kind.Order) ∷ [])
    go None f = refl
    go (Some n) f = small_or (ltb 4294967295 n) f n
servers_told so last (w ∷ v ∷ ws) = sym (cond-true _ _ _ (ap not (not_one w v ws)))

chunk_told : (so : SoFar) (last : LineWord) (ws : List (List ℕ)) → Told so last word.Chunk ws
chunk_told so last [] = refl
chunk_told so last (w ∷ []) = go (decimal_of w) (not (may_follow last word.Chunk))
  where
    fits : (c f : Bool) (n : ℕ)
        → fault_of ((within ((c, limit.Chunk) ∷ []) >>= λ _. Ok (says.Chunk n)) >>= closed f)
        ≡ first_kind ((c || false, kind.Limit limit.Chunk) ∷ (f, kind.Order) ∷ [])
    fits true f n = refl
    fits false true n = refl
    fits false false n = refl

    small_or : (b f : Bool) (n : ℕ)
        → fault_of (((if b then Err (kind.Limit limit.Number) else Ok n)
        >>= λ n. within ((eqb n 0 || ltb 65536 n, limit.Chunk) ∷ []) >>= λ _. Ok (says.Chunk n)) >>= closed f)
        ≡ first_kind ((b || false, kind.Limit limit.Number)
        ∷ ((eqb n 0 || ltb 65536 n) || false, kind.Limit limit.Chunk) ∷ (f, kind.Order) ∷ [])
    small_or true f n = refl
    small_or false f n = fits (eqb n 0 || ltb 65536 n) f n

    go : (o : Option ℕ) (f : Bool)
        → fault_of (((ok_or o kind.Number >>= small)
        >>= λ n. within ((eqb n 0 || ltb 65536 n, limit.Chunk) ∷ []) >>= λ _. Ok (says.Chunk n)) >>= closed f)
        ≡ first_kind ((is_none o || false, kind.Number)
        ∷ (is_above 4294967295 (unwrap_or o 0) || false, kind.Limit limit.Number)
        ∷ ((eqb (unwrap_or o 0) 0 || ltb 65536 (unwrap_or o 0)) || false, kind.Limit limit.Chunk)
        ∷ (f, kind.Order) ∷ [])
    go None f = refl
    go (Some n) f = small_or (ltb 4294967295 n) f n
chunk_told so last (w ∷ v ∷ ws) = sym (cond-true _ _ _ (ap not (not_one w v ws)))

points_limits : (a b c f : Bool) (ns : List ℕ)
    → fault_of ((within ((a, limit.Number) ∷ (b, limit.Point) ∷ (c, limit.Points) ∷ [])
    >>= λ _. Ok (says.Points ns)) >>= closed f)
    ≡ first_kind ((a, kind.Limit limit.Number) ∷ (b, kind.Limit limit.Point) ∷ (c, kind.Limit limit.Points)
    ∷ (f, kind.Order) ∷ [])
points_limits true b c f ns = refl
points_limits false true c f ns = refl
points_limits false false true f ns = refl
points_limits false false false f ns = ended f (says.Points ns)

points_by : (wrong f : Bool) (ns : List ℕ)
    → fault_of ((numbers_or wrong ns >>= points_in) >>= closed f)
    ≡ first_kind ((wrong, kind.Number) ∷ (list_any (is_above 4294967295) ns, kind.Limit limit.Number)
    ∷ (list_any (is_above 255) ns, kind.Limit limit.Point) ∷ (ltb 4 (length ns), kind.Limit limit.Points)
    ∷ (f, kind.Order) ∷ [])
points_by true f ns = refl
points_by false f ns =
    points_limits (list_any (is_above 4294967295) ns) (list_any (is_above 255) ns) (ltb 4 (length ns)) f ns

points_told : (so : SoFar) (last : LineWord) (ws : List (List ℕ)) → Told so last word.Points ws
points_told so last [] = refl
points_told so last (w ∷ ws) =
    let f : Bool = not (may_follow last word.Points) in
    let ns : List ℕ = map value (w ∷ ws) in
    ap (λ r. fault_of ((r >>= points_in) >>= closed f)) (numbers_by (w ∷ ws))
    ∙ points_by (list_any no_number (w ∷ ws)) f ns
    ∙ (λ i. first_kind ((list_any no_number (w ∷ ws), kind.Number)
    ∷ (list_any (is_above 4294967295) ns, kind.Limit limit.Number)
    ∷ (list_any (is_above 255) ns, kind.Limit limit.Point)
    ∷ (ltb 4 (length-map (w ∷ ws) value i), kind.Limit limit.Points) ∷ (f, kind.Order) ∷ []))
    ∙ sym (cond-false _ _ _ (ap not (some w ws)))

abbrev staged : ℕ → ℕ → ℕ → Form
staged k r c = says.Stage (record { width = k; parities = r; copies = c })

abbrev small_or : Bool → ℕ → Result ℕ Kind
small_or big n = if big then Err (kind.Limit limit.Number) else Ok n

all_small : (x y z f : Bool) (k r c : ℕ)
    → fault_of ((small_or x k >>= λ k. small_or y r >>= λ r. small_or z c >>= λ c. Ok (staged k r c)) >>= closed f)
    ≡ first_kind ((x || (y || (z || false)), kind.Limit limit.Number) ∷ (f, kind.Order) ∷ [])
all_small true y z f k r c = refl
all_small false true z f k r c = refl
all_small false false true f k r c = refl
all_small false false false f k r c = ended f (staged k r c)

stage_by : (p q o : Option ℕ) (f : Bool)
    → fault_of ((ok_or p kind.Number >>= λ k. ok_or q kind.Number >>= λ r. ok_or o kind.Number >>= λ c.
    small k >>= λ k. small r >>= λ r. small c >>= λ c. Ok (staged k r c)) >>= closed f)
    ≡ first_kind ((is_none p || (is_none q || (is_none o || false)), kind.Number)
    ∷ (
      is_above 4294967295 (unwrap_or p 0)
          || (is_above 4294967295 (unwrap_or q 0) || (is_above 4294967295 (unwrap_or o 0) || false)),
      kind.Limit limit.Number,
    ) ∷ (f, kind.Order) ∷ [])
stage_by None q o f = refl
stage_by (Some k) None o f = refl
stage_by (Some k) (Some r) None f = refl
stage_by (Some k) (Some r) (Some c) f =
    all_small (ltb 4294967295 k) (ltb 4294967295 r) (ltb 4294967295 c) f k r c

stage_told : (so : SoFar) (last : LineWord) (ws : List (List ℕ)) → Told so last word.Stage ws
stage_told so last [] = refl
stage_told so last (a ∷ []) = refl
stage_told so last (a ∷ b ∷ []) = refl
stage_told so last (a ∷ b ∷ c ∷ []) =
    stage_by (decimal_of a) (decimal_of b) (decimal_of c) (not (may_follow last word.Stage))
stage_told so last (a ∷ b ∷ c ∷ d ∷ ws) = sym (cond-true _ _ _ (ap not (not_three a b c d ws)))

rising : (t a f : Bool) (ns : List ℕ)
    → fault_of ((within ((t, limit.Tick) ∷ []) >>= λ _. refuse a kind.Order >>= λ _. Ok (says.Policy ns))
    >>= closed f)
    ≡ first_kind ((t, kind.Limit limit.Tick) ∷ (a || f, kind.Order) ∷ [])
rising true a f ns = refl
rising false true f ns = refl
rising false false true ns = refl
rising false false false ns = refl

-- a policy of these thresholds
abbrev thresholds_in : List ℕ → Result Form Kind
thresholds_in ns =
    within ((list_any (is_above 1000000000) ns, limit.Tick) ∷ []) >>= λ _.
    refuse (not (are_thresholds ns)) kind.Order >>= λ _. Ok (says.Policy ns)

policy_by : (e l wrong f : Bool) (ns : List ℕ)
    → fault_of ((refuse e kind.Arity >>= λ _. refuse (not l) kind.Arity >>= λ _.
    numbers_or wrong ns >>= thresholds_in) >>= closed f)
    ≡ first_kind ((not (not e && l), kind.Arity) ∷ (wrong, kind.Number)
    ∷ (list_any (is_above 1000000000) ns, kind.Limit limit.Tick)
    ∷ (not (are_thresholds ns) || f, kind.Order) ∷ [])
policy_by true l wrong f ns = refl
policy_by false false wrong f ns = refl
policy_by false true true f ns = refl
policy_by false true false f ns = rising (list_any (is_above 1000000000) ns) (not (are_thresholds ns)) f ns

policy_told : (so : SoFar) (last : LineWord) (ws : List (List ℕ)) → Told so last word.Policy ws
policy_told so last ws =
    let f : Bool = not (may_follow last word.Policy) in
    let e : Bool = eqb (length (main_of so.script).stages) 0 in
    let l : Bool = eqb (length ws) (length (main_of so.script).stages) in
    ap (λ r. fault_of ((refuse e kind.Arity >>= λ _. refuse (not l) kind.Arity >>= λ _. r >>= thresholds_in)
    >>= closed f)) (numbers_by ws)
    ∙ policy_by e l (list_any no_number ws) f (map value ws)

tick_told : (so : SoFar) (last : LineWord) (ws : List (List ℕ)) → Told so last word.Tick ws
tick_told so last [] = refl
tick_told so last (w ∷ []) = go (decimal_of w) (not (may_follow last word.Tick))
  where
    fits : (t f : Bool) (n : ℕ)
        → fault_of ((within ((t, limit.Tick) ∷ []) >>= λ _. Ok (says.Tick n)) >>= closed f)
        ≡ first_kind ((t || false, kind.Limit limit.Tick) ∷ (f, kind.Order) ∷ [])
    fits true f n = refl
    fits false true n = refl
    fits false false n = refl

    go : (o : Option ℕ) (f : Bool)
        → fault_of ((ok_or o kind.Number >>= λ n. within ((ltb 1000000000 n, limit.Tick) ∷ [])
        >>= λ _. Ok (says.Tick n)) >>= closed f)
        ≡ first_kind ((is_none o || false, kind.Number)
        ∷ (is_above 1000000000 (unwrap_or o 0) || false, kind.Limit limit.Tick) ∷ (f, kind.Order) ∷ [])
    go None f = refl
    go (Some n) f = fits (ltb 1000000000 n) f n
tick_told so last (w ∷ v ∷ ws) = sym (cond-true _ _ _ (ap not (not_one w v ws)))

-- a limit, and whether the line may stand there
one_limit : (b f : Bool) (form : Form) (fault : Kind)
    → fault_of ((refuse b fault >>= λ _. Ok form) >>= closed f)
    ≡ first_kind ((b, fault) ∷ (f, kind.Order) ∷ [])
one_limit true f form fault = refl
one_limit false true form fault = refl
one_limit false false form fault = refl

phase_told : (so : SoFar) (last : LineWord) (ws : List (List ℕ)) → Told so last word.Phase ws
phase_told so last [] =
    one_limit (leb 64 so.phases) (not (may_follow last word.Phase)) says.Phase (kind.Limit limit.Phases)
phase_told so last (w ∷ ws) = sym (cond-true _ _ _ (ap not (not_none w ws)))

client_told : (so : SoFar) (last : LineWord) (ws : List (List ℕ)) → Told so last word.Client ws
client_told so last [] =
    one_limit (leb 8 so.clients) (not (may_follow last word.Client)) says.Client (kind.Limit limit.Clients)
client_told so last (w ∷ ws) = sym (cond-true _ _ _ (ap not (not_none w ws)))

dump_told : (so : SoFar) (last : LineWord) (ws : List (List ℕ)) → Told so last word.Dump ws
dump_told so last [] = refl
dump_told so last (w ∷ []) =
    go (file_number (names_in so.script.files) w) so.script.dumps (not (may_follow last word.Dump))
  where
    once : (t f : Bool) (file : ℕ)
        → fault_of ((refuse t kind.Twice >>= λ _. Ok (says.Dump file)) >>= closed f)
        ≡ first_kind ((t, kind.Twice) ∷ (f, kind.Order) ∷ [])
    once t f file = one_limit t f (says.Dump file) kind.Twice

    go : (o : Option ℕ) (dumps : List ℕ) (f : Bool)
        → fault_of ((ok_or o kind.NoFile >>= λ file. refuse (list_any (λ other. eqb file other) dumps) kind.Twice
        >>= λ _. Ok (says.Dump file)) >>= closed f)
        ≡ first_kind ((is_dumped dumps o, kind.Twice) ∷ (is_none o || false, kind.NoFile) ∷ (f, kind.Order) ∷ [])
    go None dumps f = refl
    go (Some file) dumps f = once (list_any (λ other. eqb file other) dumps) f file
dump_told so last (w ∷ v ∷ ws) = sym (cond-true _ _ _ (ap not (not_one w v ws)))

end_told : (so : SoFar) (last : LineWord) (ws : List (List ℕ)) → Told so last word.End ws
end_told so last [] = ended (not (may_follow last word.End)) says.End
end_told so last (w ∷ ws) = sym (cond-true _ _ _ (ap not (not_none w ws)))

-- ---- file lines

-- what is left of a file line once its content is read
abbrev file_rest : SoFar → List ℕ → Bool → Content → Result Form Kind
file_rest so name f given =
    (within (file_limits so name given) >>= λ _. refuse (has_name (names_in so.script.files) name) kind.Twice >>= λ _.
    Ok (says.File (record { name = name; content = given }))) >>= closed f

limits_by : (a b c d e t f : Bool) (form : Form)
    → fault_of ((within ((a, limit.Name) ∷ (b, limit.Files) ∷ (c, limit.Pattern) ∷ (d, limit.Length)
    ∷ (e, limit.Chunks) ∷ []) >>= λ _. refuse t kind.Twice >>= λ _. Ok form) >>= closed f)
    ≡ first_kind ((a, kind.Limit limit.Name) ∷ (b, kind.Limit limit.Files) ∷ (c, kind.Limit limit.Pattern)
    ∷ (d, kind.Limit limit.Length) ∷ (e, kind.Limit limit.Chunks) ∷ (t, kind.Twice) ∷ (f, kind.Order) ∷ [])
limits_by true b c d e t f form = refl
limits_by false true c d e t f form = refl
limits_by false false true d e t f form = refl
limits_by false false false true e t f form = refl
limits_by false false false false true t f form = refl
limits_by false false false false false true f form = refl
limits_by false false false false false false f form = ended f form

-- the rows of a file's name, start, length and place
abbrev rest_rows : SoFar → List ℕ → Bool → Bool → ℕ → List (Bool × Kind)
rest_rows so name f high size =
    (not (is_name name), kind.Limit limit.Name)
    ∷ (leb 64 (length so.script.files), kind.Limit limit.Files)
    ∷ (high, kind.Limit limit.Pattern)
    ∷ (ltb 1048576 size, kind.Limit limit.Length)
    ∷ (ltb 0 so.script.chunk && ltb 1024 (div_ceil size so.script.chunk), kind.Limit limit.Chunks)
    ∷ (has_name (names_in so.script.files) name, kind.Twice)
    ∷ (f, kind.Order) ∷ []

rest_by : (so : SoFar) (name : List ℕ) (f : Bool) (given : Content)
    → fault_of (file_rest so name f given)
    ≡ first_kind (rest_rows so name f (starts_high given) (content_length given))
rest_by so name f given =
    limits_by (not (is_name name)) (leb 64 (length so.script.files)) (starts_high given)
    (ltb 1048576 (content_length given))
    (ltb 0 so.script.chunk && ltb 1024 (div_ceil (content_length given) so.script.chunk))
    (has_name (names_in so.script.files) name) f (says.File (record { name = name; content = given }))

-- the rows of a file line, by its content word
abbrev file_rows : SoFar → List ℕ → Bool → Option ContentWord → List (List ℕ) → List (Bool × Kind)
file_rows so name f o ws =
    (is_none o, kind.Unknown)
    ∷ (not (fits_content o ws), kind.Arity)
    ∷ (is_hex_wrong o ws || list_any no_number (content_numbers o ws), kind.Number)
    ∷ (spells_above 4294967295 (content_numbers o ws), kind.Limit limit.Number)
    ∷ rest_rows so name f (passes_start o ws) (content_size o ws)

hex_by : (so : SoFar) (name : List ℕ) (f : Bool) (o : Option (List ℕ))
    → fault_of ((ok_or o kind.Number >>= λ bytes. Ok (given.Hex bytes)) >>= file_rest so name f)
    ≡ first_kind ((is_none o || false, kind.Number) ∷ rest_rows so name f false (length (unwrap_or o [])))
hex_by so name f None = refl
hex_by so name f (Some bytes) = rest_by so name f (given.Hex bytes)

both_small : (so : SoFar) (name : List ℕ) (f x y : Bool) (n start : ℕ)
    → fault_of ((small_or x n >>= λ n. small_or y start >>= λ start. Ok (given.Pattern n start))
    >>= file_rest so name f)
    ≡ first_kind ((x || (y || false), kind.Limit limit.Number) ∷ rest_rows so name f (ltb 250 start) n)
both_small so name f true y n start = refl
both_small so name f false true n start = refl
both_small so name f false false n start = rest_by so name f (given.Pattern n start)

pattern_by : (so : SoFar) (name : List ℕ) (f : Bool) (p q : Option ℕ)
    → fault_of ((ok_or p kind.Number >>= λ n. ok_or q kind.Number >>= λ start. small n >>= λ n. small start >>= λ start.
    Ok (given.Pattern n start)) >>= file_rest so name f)
    ≡ first_kind ((is_none p || (is_none q || false), kind.Number)
    ∷ (is_above 4294967295 (unwrap_or p 0) || (is_above 4294967295 (unwrap_or q 0) || false), kind.Limit limit.Number)
    ∷ rest_rows so name f (ltb 250 (unwrap_or q 0)) (unwrap_or p 0))
pattern_by so name f None q = refl
pattern_by so name f (Some n) None = refl
pattern_by so name f (Some n) (Some start) =
    both_small so name f (ltb 4294967295 n) (ltb 4294967295 start) n start

content_told : (so : SoFar) (name : List ℕ) (f : Bool) (x : ContentWord) (ws : List (List ℕ))
    → fault_of (content_in x ws >>= file_rest so name f) ≡ first_kind (file_rows so name f (Some x) ws)
content_told so name f content.Empty [] = rest_by so name f given.Empty
content_told so name f content.Empty (w ∷ ws) = sym (cond-true _ _ _ (ap not (not_none w ws)))
content_told so name f content.Text [] = refl
content_told so name f content.Text ([] ∷ []) = refl
content_told so name f content.Text ((b ∷ w) ∷ []) =
    rest_by so name f (given.Text (b ∷ w)) ∙ sym (cond-false _ _ _ (ap not (some b w)))
content_told so name f content.Text ([] ∷ v ∷ ws) =
    rest_by so name f (given.Text (join_with_byte 32 ([] ∷ v ∷ ws)))
    ∙ sym (cond-false _ _ _ (ap not (some 32 (join_with_byte 32 (v ∷ ws)))))
content_told so name f content.Text ((b ∷ w) ∷ v ∷ ws) =
    rest_by so name f (given.Text (join_with_byte 32 ((b ∷ w) ∷ v ∷ ws)))
    ∙ sym (cond-false _ _ _ (ap not (some b (w ++ 32 ∷ join_with_byte 32 (v ∷ ws)))))
content_told so name f content.Hex [] = refl
content_told so name f content.Hex (w ∷ []) = hex_by so name f (hex_of w)
content_told so name f content.Hex (w ∷ v ∷ ws) = sym (cond-true _ _ _ (ap not (not_one w v ws)))
content_told so name f content.Pattern [] = refl
content_told so name f content.Pattern (w ∷ []) = refl
content_told so name f content.Pattern (w ∷ v ∷ []) = pattern_by so name f (decimal_of w) (decimal_of v)
content_told so name f content.Pattern (w ∷ v ∷ u ∷ ws) = sym (cond-true _ _ _ (ap not (not_two w v u ws)))

-- the same steps, taken together in another way
assoc : {A B C : Type 0} (r : Result A Kind) (g : A → Result B Kind) (h : B → Result C Kind)
    → ((r >>= g) >>= h) ≡ (r >>= λ x. g x >>= h)
assoc (Ok x) g h = refl
assoc (Err k) g h = refl

-- what is read of a file line behind its content
abbrev file_of : SoFar → List ℕ → Content → Result Form Kind
file_of so name given =
    within (file_limits so name given) >>= λ _. refuse (has_name (names_in so.script.files) name) kind.Twice >>= λ _.
    Ok (says.File (record { name = name; content = given }))

file_by : (so : SoFar) (name : List ℕ) (f : Bool) (o : Option ContentWord) (ws : List (List ℕ))
    → fault_of ((ok_or o kind.Unknown >>= λ x. content_in x ws >>= file_of so name) >>= closed f)
    ≡ first_kind (file_rows so name f o ws)
file_by so name f None ws = refl
file_by so name f (Some x) ws =
    ap fault_of (assoc (content_in x ws) (file_of so name) (closed f)) ∙ content_told so name f x ws

file_told : (so : SoFar) (last : LineWord) (ws : List (List ℕ)) → Told so last word.File ws
file_told so last [] = refl
file_told so last (name ∷ []) = refl
file_told so last (name ∷ w ∷ ws) = file_by so name (not (may_follow last word.File)) (content_word_of w) ws

-- ---- commands

abbrev limited : Bool → Result (Unit {0}) Kind
limited b = within ((b, limit.Commands) ∷ [])

-- a command whose one operand is a file
on_file_by : (make : ℕ → Act) (c f : Bool) (o : Option ℕ)
    → fault_of ((((limited c >>= λ _. ok_or o kind.NoFile) >>= λ file. Ok (make file)) >>= λ act. Ok (says.Command act))
    >>= closed f)
    ≡ first_kind ((c, kind.Limit limit.Commands) ∷ (is_none o || false, kind.NoFile) ∷ (f, kind.Order) ∷ [])
on_file_by make true f o = refl
on_file_by make false f None = refl
on_file_by make false f (Some file) = ended f (says.Command (make file))

abbrev OnFile : SoFar → Bool → (ℕ → Act) → List (List ℕ) → Type 0
OnFile so f make ws =
    fault_of (((file_operand so ws >>= λ file. Ok (make file)) >>= λ act. Ok (says.Command act)) >>= closed f)
    ≡ first_kind ((not (eqb (length ws) 1), kind.Arity) ∷ (leb 1024 so.commands, kind.Limit limit.Commands)
    ∷ (
      list_any (λ name. is_none (file_number (names_in so.script.files) name))
          (file_words (word.Command verb.Create) ws),
      kind.NoFile,
    ) ∷ (f, kind.Order) ∷ [])

on_file_told : (so : SoFar) (f : Bool) (make : ℕ → Act) (ws : List (List ℕ)) → OnFile so f make ws
on_file_told so f make [] = refl
on_file_told so f make (w ∷ []) =
    on_file_by make (leb 1024 so.commands) f (file_number (names_in so.script.files) w)
on_file_told so f make (w ∷ v ∷ ws) = sym (cond-true _ _ _ (ap not (not_one w v ws)))

lose_there : (c l f : Bool) (n : ℕ)
    → fault_of ((((limited c >>= λ _. refuse l kind.NoServer >>= λ _. Ok n) >>= λ server. Ok (act.Lose server))
    >>= λ act. Ok (says.Command act)) >>= closed f)
    ≡ first_kind ((c, kind.Limit limit.Commands) ∷ (l || false, kind.NoServer) ∷ (f, kind.Order) ∷ [])
lose_there true l f n = refl
lose_there false true f n = refl
lose_there false false f n = ended f (says.Command (act.Lose n))

-- a command whose one operand is a server
lose_small : (so : SoFar) (b f : Bool) (n : ℕ)
    → fault_of ((((small_or b n >>= λ server. command_fits so >>= λ _. refuse (lacks_server so server) kind.NoServer
    >>= λ _. Ok server) >>= λ server. Ok (act.Lose server)) >>= λ act. Ok (says.Command act)) >>= closed f)
    ≡ first_kind ((b || false, kind.Limit limit.Number) ∷ (leb 1024 so.commands, kind.Limit limit.Commands)
    ∷ (lacks_server so n || false, kind.NoServer) ∷ (f, kind.Order) ∷ [])
lose_small so true f n = refl
lose_small so false f n = lose_there (leb 1024 so.commands) (lacks_server so n) f n

lose_by : (so : SoFar) (o : Option ℕ) (f : Bool)
    → fault_of (((((ok_or o kind.Number >>= small) >>= λ server. command_fits so >>= λ _.
    refuse (lacks_server so server) kind.NoServer >>= λ _. Ok server)
    >>= λ server. Ok (act.Lose server)) >>= λ act. Ok (says.Command act)) >>= closed f)
    ≡ first_kind ((is_none o || false, kind.Number)
    ∷ (is_above 4294967295 (unwrap_or o 0) || false, kind.Limit limit.Number)
    ∷ (leb 1024 so.commands, kind.Limit limit.Commands)
    ∷ (lacks_server so (unwrap_or o 0) || false, kind.NoServer) ∷ (f, kind.Order) ∷ [])
lose_by so None f = refl
lose_by so (Some n) f = lose_small so (ltb 4294967295 n) f n

lose_told : (so : SoFar) (last : LineWord) (ws : List (List ℕ)) → Told so last (word.Command verb.Lose) ws
lose_told so last [] = refl
lose_told so last (w ∷ []) = lose_by so (decimal_of w) (not (may_follow last (word.Command verb.Lose)))
lose_told so last (w ∷ v ∷ ws) = sym (cond-true _ _ _ (ap not (not_one w v ws)))

sweep_by : (c f : Bool) (policy : Option (List ℕ))
    → fault_of ((((limited c >>= λ _. refuse (not (is_some policy)) kind.Order) >>= λ _. Ok act.Sweep)
    >>= λ act. Ok (says.Command act)) >>= closed f)
    ≡ first_kind ((c, kind.Limit limit.Commands) ∷ (is_none policy || f, kind.Order) ∷ [])
sweep_by true f policy = refl
sweep_by false f None = refl
sweep_by false f (Some thresholds) = ended f (says.Command act.Sweep)

sweep_told : (so : SoFar) (last : LineWord) (ws : List (List ℕ)) → Told so last (word.Command verb.Sweep) ws
sweep_told so last [] =
    sweep_by (leb 1024 so.commands) (not (may_follow last (word.Command verb.Sweep))) so.script.policy
sweep_told so last (w ∷ ws) = sym (cond-true _ _ _ (ap not (not_none w ws)))

-- ---- commands with a list of servers

-- a file and a set of servers, a file and a number, a name and words
abbrev reached : ℕ → List ℕ → Result (ℕ × Servers) Kind
reached file servers = Ok (file, set_of servers)

abbrev stopped : ℕ → ℕ → Result (ℕ × ℕ) Kind
stopped file stop = Ok (file, stop)

abbrev worded : List ℕ → List (List ℕ) → Result (List ℕ × List (List ℕ)) Kind
worded name ws = Ok (name, ws)

-- what is left of such a command once its servers are read
abbrev list_rest : SoFar → (ℕ → Servers → Act) → Bool → Option ℕ → List ℕ → Result Form Kind
list_rest so make f o servers =
    (((ok_or o kind.NoFile >>= λ file. refuse (list_any (lacks_server so) servers) kind.NoServer >>= λ _.
    reached file servers) >>= λ two. Ok (make two.0 two.1)) >>= λ act. Ok (says.Command act)) >>= closed f

list_there : (so : SoFar) (make : ℕ → Servers → Act) (f l : Bool) (o : Option ℕ) (servers : List ℕ)
    → fault_of ((((ok_or o kind.NoFile >>= λ file. refuse l kind.NoServer >>= λ _. reached file servers)
    >>= λ two. Ok (make two.0 two.1)) >>= λ act. Ok (says.Command act)) >>= closed f)
    ≡ first_kind ((is_none o || false, kind.NoFile) ∷ (l, kind.NoServer) ∷ (f, kind.Order) ∷ [])
list_there so make f l None servers = refl
list_there so make f true (Some file) servers = refl
list_there so make f false (Some file) servers = ended f (says.Command (make file (set_of servers)))

-- the servers of a list, and what is left
abbrev list_form : SoFar → (ℕ → Servers → Act) → Bool → Option ℕ → Result (List ℕ) Kind → Result Form Kind
list_form so make f o read =
    (((read >>= λ servers. ok_or o kind.NoFile >>= λ file. refuse (list_any (lacks_server so) servers) kind.NoServer
    >>= λ _. reached file servers) >>= λ two. Ok (make two.0 two.1)) >>= λ act. Ok (says.Command act)) >>= closed f

list_once : (so : SoFar) (make : ℕ → Servers → Act) (f a c t : Bool) (o : Option ℕ) (servers : List ℕ)
    → fault_of (list_form so make f o (within ((a, limit.Number) ∷ (c, limit.Commands) ∷ []) >>= λ _.
    refuse t kind.Twice >>= λ _. Ok servers))
    ≡ first_kind ((a, kind.Limit limit.Number) ∷ (c, kind.Limit limit.Commands) ∷ (t, kind.Twice)
    ∷ (is_none o || false, kind.NoFile) ∷ (list_any (lacks_server so) servers, kind.NoServer) ∷ (f, kind.Order) ∷ [])
list_once so make f true c t o servers = refl
list_once so make f false true t o servers = refl
list_once so make f false false true o servers = refl
list_once so make f false false false o servers =
    list_there so make f (list_any (lacks_server so) servers) o servers

-- these servers, which are different and whose command passes no limit
abbrev servers_or : SoFar → Result (List ℕ) Kind → Result (List ℕ) Kind
servers_or so read =
    read >>= λ servers. within (
    (list_any (is_above 4294967295) servers, limit.Number) ∷ (leb 1024 so.commands, limit.Commands) ∷ []) >>= λ _.
    refuse (has_twice servers) kind.Twice >>= λ _. Ok servers

list_read : (so : SoFar) (make : ℕ → Servers → Act) (f wrong : Bool) (o : Option ℕ) (ns : List ℕ)
    → fault_of (list_form so make f o (servers_or so (numbers_or wrong ns)))
    ≡ first_kind ((wrong, kind.Number) ∷ (list_any (is_above 4294967295) ns, kind.Limit limit.Number)
    ∷ (leb 1024 so.commands, kind.Limit limit.Commands) ∷ (has_twice ns, kind.Twice)
    ∷ (is_none o || false, kind.NoFile) ∷ (list_any (lacks_server so) ns, kind.NoServer) ∷ (f, kind.Order) ∷ [])
list_read so make f true o ns = refl
list_read so make f false o ns =
    list_once so make f (list_any (is_above 4294967295) ns) (leb 1024 so.commands) (has_twice ns) o ns

-- the rows of a command with a list of servers: whether the list is behind `without`, and its words
abbrev list_rows : SoFar → Bool → Option ℕ → Bool → List (List ℕ) → List (Bool × Kind)
list_rows so f o b ws =
    (list_any no_number ws, kind.Number)
    ∷ (list_any (is_above 4294967295) (map value ws), kind.Limit limit.Number)
    ∷ (leb 1024 so.commands, kind.Limit limit.Commands)
    ∷ (has_twice (map value (if b then ws else [])), kind.Twice)
    ∷ (is_none o || false, kind.NoFile)
    ∷ (list_any (lacks_server so) (map value (if b then ws else [])), kind.NoServer)
    ∷ (f, kind.Order) ∷ []

list_by : (so : SoFar) (make : ℕ → Servers → Act) (f b : Bool) (name : List ℕ) (ws : List (List ℕ))
    → fault_of (((((refuse (not b) kind.Arity >>= λ _. worded name ws) >>= λ named. servers_in so named.1 >>= λ servers.
    ok_or (file_number (names_in so.script.files) named.0) kind.NoFile >>= λ file.
    refuse (list_any (lacks_server so) servers) kind.NoServer >>= λ _. reached file servers)
    >>= λ two. Ok (make two.0 two.1)) >>= λ act. Ok (says.Command act)) >>= closed f)
    ≡ first_kind ((not b, kind.Arity) ∷ list_rows so f (file_number (names_in so.script.files) name) b ws)
list_by so make f false name ws = refl
list_by so make f true name ws =
    let o = file_number (names_in so.script.files) name in
    ap (λ r. fault_of (list_form so make f o (servers_or so r))) (numbers_by ws)
    ∙ list_read so make f (list_any no_number ws) o (map value ws)

-- a command that is no conversion
abbrev OnList : SoFar → Bool → (ℕ → Servers → Act) → List (List ℕ) → Type 0
OnList so f make ws =
    fault_of (((away_operands so ws >>= λ two. Ok (make two.0 two.1)) >>= λ act. Ok (says.Command act)) >>= closed f)
    ≡ first_kind ((not (is_without ws), kind.Arity) ∷ (list_any no_number (option_words ws), kind.Number)
    ∷ (spells_above 4294967295 (option_words ws), kind.Limit limit.Number)
    ∷ (leb 1024 so.commands, kind.Limit limit.Commands) ∷ (has_twice (map value (without_words ws)), kind.Twice)
    ∷ (
      list_any (λ name. is_none (file_number (names_in so.script.files) name))
          (file_words (word.Command verb.Read) ws),
      kind.NoFile,
    ) ∷ (list_any (lacks_server so) (map value (without_words ws)), kind.NoServer) ∷ (f, kind.Order) ∷ [])

on_list_told : (so : SoFar) (f : Bool) (make : ℕ → Servers → Act) (ws : List (List ℕ)) → OnList so f make ws
on_list_told so f make [] = refl
on_list_told so f make (name ∷ []) = list_by so make f true name []
on_list_told so f make (name ∷ w ∷ []) = refl
on_list_told so f make (name ∷ w ∷ s ∷ ws) = list_by so make f (bytes_eq w (codes "without")) name (s ∷ ws)

-- a conversion without a number behind `stop`
abbrev converting : ℕ → Servers → Act
converting file away = act.Convert file away None

-- a conversion that stops
stop_small : (b c f : Bool) (o : Option ℕ) (n : ℕ)
    → fault_of ((((small_or b n >>= λ stop. limited c >>= λ _. ok_or o kind.NoFile >>= λ file. stopped file stop)
    >>= λ two. Ok (act.Convert two.0 no_servers (Some two.1))) >>= λ act. Ok (says.Command act)) >>= closed f)
    ≡ first_kind ((b || false, kind.Limit limit.Number) ∷ (c, kind.Limit limit.Commands)
    ∷ (is_none o || false, kind.NoFile) ∷ (f, kind.Order) ∷ [])
stop_small true c f o n = refl
stop_small false true f o n = refl
stop_small false false f None n = refl
stop_small false false f (Some file) n = ended f (says.Command (act.Convert file no_servers (Some n)))

stop_by : (c f : Bool) (o p : Option ℕ)
    → fault_of (((((ok_or p kind.Number >>= small) >>= λ stop. limited c >>= λ _. ok_or o kind.NoFile >>= λ file.
    stopped file stop) >>= λ two. Ok (act.Convert two.0 no_servers (Some two.1))) >>= λ act. Ok (says.Command act))
    >>= closed f)
    ≡ first_kind ((is_none p || false, kind.Number)
    ∷ (is_above 4294967295 (unwrap_or p 0) || false, kind.Limit limit.Number) ∷ (c, kind.Limit limit.Commands)
    ∷ (is_none o || false, kind.NoFile) ∷ (f, kind.Order) ∷ [])
stop_by c f o None = refl
stop_by c f o (Some n) = stop_small (ltb 4294967295 n) c f o n

stop_told : (so : SoFar) (last : LineWord) (name n : List ℕ)
    → Told so last (word.Command verb.Convert) (name ∷ codes "stop" ∷ n ∷ [])
stop_told so last name n =
    stop_by (leb 1024 so.commands) (not (may_follow last (word.Command verb.Convert)))
    (file_number (names_in so.script.files) name) (decimal_of n)

-- a conversion of three words, where the second of them is `stop` or isn't
abbrev Third : SoFar → Bool → List ℕ → List ℕ → List ℕ → Bool → Type 0
Third so f name w n stops =
    fault_of ((convert_in so (if stops then Some (name, n) else None) (name ∷ w ∷ n ∷ [])
    >>= λ act. Ok (says.Command act)) >>= closed f)
    ≡ first_kind ((not (stops || bytes_eq w (codes "without")), kind.Arity)
    ∷ list_rows so f (file_number (names_in so.script.files) name) (bytes_eq w (codes "without")) (n ∷ []))

convert_told : (so : SoFar) (last : LineWord) (ws : List (List ℕ)) → Told so last (word.Command verb.Convert) ws
convert_told so last [] = refl
convert_told so last (name ∷ []) =
    list_by so converting (not (may_follow last (word.Command verb.Convert))) true name []
convert_told so last (name ∷ w ∷ []) = refl
convert_told so last (name ∷ w ∷ n ∷ []) =
    elim (cases_Bool (bytes_eq w (codes "stop"))) [
      | inl stops ↦ subst (λ w. Told so last (word.Command verb.Convert) (name ∷ w ∷ n ∷ []))
          (sym ((bytes_eq-Decides w (codes "stop")).0 stops)) (stop_told so last name n)
      | inr other ↦
          let f : Bool = not (may_follow last (word.Command verb.Convert)) in
          subst (Third so f name w n) (sym other)
          (list_by so converting f (bytes_eq w (codes "without")) name (n ∷ []))
    ]
convert_told so last (name ∷ w ∷ n ∷ m ∷ ws) =
    list_by so converting (not (may_follow last (word.Command verb.Convert))) (bytes_eq w (codes "without")) name
    (n ∷ m ∷ ws)

-- ---- any line

command_told : (so : SoFar) (last : LineWord) (v : Verb) (ws : List (List ℕ)) → Told so last (word.Command v) ws
command_told so last verb.Create ws =
    on_file_told so (not (may_follow last (word.Command verb.Create))) act.Create ws
command_told so last verb.Read ws =
    on_list_told so (not (may_follow last (word.Command verb.Read))) act.Read ws
command_told so last verb.Hold ws =
    on_file_told so (not (may_follow last (word.Command verb.Hold))) act.Hold ws
command_told so last verb.Release ws =
    on_file_told so (not (may_follow last (word.Command verb.Release))) act.Release ws
command_told so last verb.Repair ws =
    on_list_told so (not (may_follow last (word.Command verb.Repair))) act.Repair ws
command_told so last verb.Convert ws = convert_told so last ws
command_told so last verb.Reclaim ws =
    on_file_told so (not (may_follow last (word.Command verb.Reclaim))) act.Reclaim ws
command_told so last verb.Remove ws =
    on_file_told so (not (may_follow last (word.Command verb.Remove))) act.Remove ws
command_told so last verb.Lose ws = lose_told so last ws
command_told so last verb.Sweep ws = sweep_told so last ws

told : (so : SoFar) (last first : LineWord) (ws : List (List ℕ)) → Told so last first ws
told so last word.Morph ws = morph_told so last ws
told so last word.Servers ws = servers_told so last ws
told so last word.Chunk ws = chunk_told so last ws
told so last word.Points ws = points_told so last ws
told so last word.Stage ws = stage_told so last ws
told so last word.Policy ws = policy_told so last ws
told so last word.File ws = file_told so last ws
told so last word.Tick ws = tick_told so last ws
told so last word.Phase ws = phase_told so last ws
told so last word.Client ws = client_told so last ws
told so last (word.Command v) ws = command_told so last v ws
told so last word.Dump ws = dump_told so last ws
told so last word.End ws = end_told so last ws

known_told : (so : SoFar) (last : LineWord) (o : Option LineWord) (ws : List (List ℕ))
    → fault_of (ok_or o kind.Unknown >>= λ first. form_in so first ws >>= closed (not (may_follow last first)))
    ≡ first_kind (known_rows so (Some last) o ws)
known_told so last None ws = refl
known_told so last (Some first) ws = told so last first ws

later_told : (so : SoFar) (last : LineWord) (ws : List (List ℕ))
    → fault_of (later_form so last ws) ≡ first_kind (words_rows so (Some last) ws)
later_told so last [] = refl
later_told so last (first ∷ ws) = known_told so last (word_of first) ws

-- the first line that has a form
header_told : (so : SoFar) → first_kind (words_rows so None (words_of (codes "morph 1"))) ≡ None
unfolding words_of word_of
header_told so = refl

placed_told : (so : SoFar) (last : Option LineWord) (line : List ℕ)
    → fault_of (placed last so line)
    ≡ first_kind ((is_header last line, kind.Header) ∷ words_rows so last (words_of line))
placed_told so None line =
    elim (cases_Bool (bytes_eq line (codes "morph 1"))) [
      | inl is ↦ ap fault_of (cond-true _ _ _ is)
          ∙ sym (header_told so) ∙ ap (λ l. first_kind (words_rows so None (words_of l)))
          (sym ((bytes_eq-Decides line (codes "morph 1")).0 is))
          ∙ sym (cond-false _ _ _ (ap not is))
      | inr other ↦ ap fault_of (cond-false _ _ _ other) ∙ sym (cond-true _ _ _ (ap not other))
    ]
placed_told so (Some last) line = later_told so last (words_of line)

-- a line's fault is the first of its table that comes
pub in_order : (so : SoFar) (line : List ℕ) → fault_of (form_at so line) ≡ first_kind (line_rows so so.last line)
unfolding form_at
in_order so line = go (is_clean line)
  where
    go : (clean : Bool)
        → fault_of (if clean then placed so.last so line else Err kind.Text)
        ≡ first_kind ((not clean, kind.Text) ∷ (is_header so.last line, kind.Header)
        ∷ words_rows so so.last (words_of line))
    go true = placed_told so so.last line
    go false = refl
