-- The words of a line: its first word and the words after it, words that are joined by spaces, and where words lie.
use Rattle.std.proofs.Common.{◌≡◌, ℕ, ◌+◌, ◌-◌, ◌<◌, ◌≤◌, Bool, true, false, not, eqb, List, [], ◌∷◌, ◌++◌, length}
use Rattle.std.proofs.Common.{take, drop, map, All, Some, None, refl, sym, ap, ◌∙◌, inl, inr, arith}
use Rattle.std.specs.List.{slice_split, onto_first, list_all, position, join_with_byte, AllByRecursion}
use Rattle.std.proofs.lemmas.Bool.{cases_Bool, and_parts, and_from, not-true, not_from_false}
use Rattle.std.proofs.lemmas.List.{drop-drop, length-drop, length-take-le, append_assoc, append-nil, map_push}
use Rattle.std.proofs.lemmas.List.{take_rest}
use Rattle.std.proofs.lemmas.List.Elements.{All-from_recursion, All-nil, All-push}
use Rattle.std.proofs.lemmas.List.Splits.{slice_split_none, slice_split_at, join_with_byte-slice_split}
use Rattle.mf_text.specs.declared.lines.Span.{Span}
use Rattle.mf_text.specs.Lines.{span_at, piece, IsWithin}
use Rattle.mf_text.specs.Words.{words_of, word_spans_from, word_spans}
use Rattle.mf_text.proofs.LineLemmas.{position_some, slice_split_some, slice_split_whole, slice_split_cons}

abbrev is_space : ℕ → Bool
is_space b = eqb b 32

words_of-at : (line : List ℕ) (k : ℕ) → position is_space line ≡ Some k
    → words_of line ≡ take k line ∷ words_of (drop (k + 1) line)
unfolding words_of
words_of-at line k e = slice_split_some is_space line k e

words_of-whole : (line : List ℕ) → position is_space line ≡ None → words_of line ≡ line ∷ []
unfolding words_of
words_of-whole line e = slice_split_whole is_space line e

span_at-is : (at : ℕ) (bytes : List ℕ) (n : ℕ) → at + length bytes ≡ n
    → span_at at bytes ≡ record { start = at; end = n }
unfolding span_at
span_at-is at bytes n e = ap (λ m. let s : Span = record { start = at; end = m } in s) e

word_spans_from-cons : (at : ℕ) (word : List ℕ) (words : List (List ℕ)) (n : ℕ) → at + length word ≡ n
    → word_spans_from at (word ∷ words) ≡ record { start = at; end = n } ∷ word_spans_from (n + 1) words
unfolding word_spans_from
word_spans_from-cons at word words n e = ap (λ s. s ∷ word_spans_from (at + length word + 1) words)
    (span_at-is at word n e)
    ∙ ap (λ m. let s : Span = record { start = at; end = n } in s ∷ word_spans_from (m + 1) words) e

-- ---- the loop of `split_words`: the spans so far, and the rest of the line from start on

pub record Words (line : List ℕ) (spans : List Span) (start : ℕ) : Type 0 where
  pub places : word_spans line ≡ spans ++ word_spans_from start (words_of (drop start line))
  pub words : words_of line ≡ map (piece line) spans ++ words_of (drop start line)
  pub within : All (IsWithin (length line)) spans
  pub bounded : start ≤ length line

pub Words-start : (line : List ℕ) → Words line [] 0
unfolding word_spans
Words-start line = record
    { places = refl; words = refl; within = All-nil (IsWithin (length line)); bounded = omega arith }

-- one more word from start to end, and what comes after it
pub record Takes (line : List ℕ) (start end : ℕ) (rest : List (List ℕ)) : Type 0 where
  pub words : words_of (drop start line) ≡ take (end - start) (drop start line) ∷ rest
  pub ordered : start ≤ end
  pub bounded : end ≤ length line

places-more : (line : List ℕ) (spans : List Span) (start end : ℕ) (rest : List (List ℕ)) → Words line spans start
    → Takes line start end rest
    → word_spans line ≡ (spans ++ record { start = start; end = end } ∷ []) ++ word_spans_from (end + 1) rest
places-more line spans start end rest so next =
    let span : Span = record { start = start; end = end } in
    let le = next.ordered in
    let most = next.bounded in
    let long : start + length (take (end - start) (drop start line))
    ≡ end = omega (arith, length-take-le (end - start) (drop start line) (omega (arith, length-drop start line))) in
    so.places ∙ ap (λ s. spans ++ s)
    (ap (word_spans_from start) next.words
    ∙ word_spans_from-cons start (take (end - start) (drop start line)) rest end long)
    ∙ sym (append_assoc spans (span ∷ []) (word_spans_from (end + 1) rest))

words-more : (line : List ℕ) (spans : List Span) (start end : ℕ) (rest : List (List ℕ)) → Words line spans start
    → Takes line start end rest
    → words_of line ≡ map (piece line) (spans ++ record { start = start; end = end } ∷ []) ++ rest
words-more line spans start end rest so next =
    let span : Span = record { start = start; end = end } in
    so.words ∙ ap (λ l. map (piece line) spans ++ l) next.words
    ∙ sym (append_assoc (map (piece line) spans) (piece line span ∷ []) rest)
    ∙ ap (λ l. l ++ rest) (sym (map_push (piece line) spans span))

within-more : (line : List ℕ) (spans : List Span) (start end : ℕ) (rest : List (List ℕ)) → Words line spans start
    → Takes line start end rest → All (IsWithin (length line)) (spans ++ record { start = start; end = end } ∷ [])
within-more line spans start end rest so next = All-push (IsWithin (length line)) spans
    (record { start = start; end = end }) so.within (record { ordered = next.ordered; bounded = next.bounded })

pub Words-more : (line : List ℕ) (spans : List Span) (start len : ℕ) → Words line spans start
    → position is_space (take (length line - start) (drop start line)) ≡ Some len
    → Words line (spans ++ record { start = start; end = start + len } ∷ []) (start + len + 1)
Words-more line spans start len so at =
    let here : position is_space (drop start line) ≡ Some len = rw take_rest at at in
    let lt : len < length (drop start line) = (position_some is_space (drop start line) len here).0 in
    let left = length-drop start line in
    let word : take (start + len - start) (drop start line)
    ≡ take len (drop start line) = ap (λ n. take n (drop start line)) (omega arith) in
    let after : drop (len + 1) (drop start line) ≡ drop (start + len + 1) line = drop-drop (len + 1) start line
    ∙ ap (λ n. drop n line) (omega arith) in
    let next : Takes line start (start + len) (words_of (drop (start + len + 1) line)) =
    record {
      words = words_of-at (drop start line) len here
          ∙ ap (λ w. w ∷ words_of (drop (len + 1) (drop start line))) (sym word)
          ∙ ap (λ t. take (start + len - start) (drop start line) ∷ words_of t) after;
      ordered = omega arith;
      bounded = omega arith;
    } in
    record {
      places = places-more line spans start (start + len) _ so next;
      words = words-more line spans start (start + len) _ so next;
      within = within-more line spans start (start + len) _ so next;
      bounded = omega arith;
    }

pub record AreWords (line : List ℕ) (spans : List Span) : Type 0 where
  pub places : spans ≡ word_spans line
  pub words : map (piece line) spans ≡ words_of line
  pub within : All (IsWithin (length line)) spans

pub Words-end : (line : List ℕ) (spans : List Span) (start : ℕ) → Words line spans start
    → position is_space (take (length line - start) (drop start line)) ≡ None
    → AreWords line (spans ++ record { start = start; end = length line } ∷ [])
unfolding word_spans_from
Words-end line spans start so none =
    let span : Span = record { start = start; end = length line } in
    let here : position is_space (drop start line) ≡ None = rw take_rest at none in
    let le = so.bounded in
    let next : Takes line start (length line) [] =
    record {
      words = words_of-whole (drop start line) here ∙ ap (λ w. w ∷ []) (sym (take_rest line start));
      ordered = le;
      bounded = omega arith;
    } in
    record {
      places = sym (places-more line spans start (length line) [] so next ∙ append-nil (spans ++ span ∷ []));
      words = sym (words-more line spans start (length line) [] so next
          ∙ append-nil (map (piece line) (spans ++ span ∷ [])));
      within = within-more line spans start (length line) [] so next;
    }

-- ---- words that are joined by spaces

-- a word has no space in it
unfoldable pub is_word : List ℕ → Bool
is_word word = list_all (λ b. not (eqb b 32)) word

word_no_space : (word : List ℕ) → is_word word ≡ true → All (λ b. is_space b ≡ false) word
unfolding is_word
word_no_space word e = All-from_recursion (λ b. is_space b ≡ false) word (go word e)
  where
    go : (bytes : List ℕ) → list_all (λ b. not (eqb b 32)) bytes ≡ true → AllByRecursion (λ b. is_space b ≡ false) bytes
    go [] h = tt
    go (b ∷ bytes) h = let parts = and_parts (not (eqb b 32)) (list_all (λ x. not (eqb x 32)) bytes) h
        in (not-true (eqb b 32) parts.0, go bytes parts.1)

pub is_word-append : (a b : List ℕ) → is_word a ≡ true → is_word b ≡ true → is_word (a ++ b) ≡ true
unfolding is_word
is_word-append [] b p q = q
is_word-append (x ∷ a) b p q =
    let parts = and_parts (not (eqb x 32)) (list_all (λ y. not (eqb y 32)) a) p in
    and_from (not (eqb x 32)) (list_all (λ y. not (eqb y 32)) (a ++ b)) parts.0 (is_word-append a b parts.1 q)

-- a word before a space is the first word
pub words_of-cons : (word line : List ℕ) → is_word word ≡ true → words_of (word ++ 32 ∷ line) ≡ word ∷ words_of line
unfolding words_of
words_of-cons word line e = slice_split_at is_space word 32 line (word_no_space word e) refl

-- a line with no space is one word
pub words_of-one : (word : List ℕ) → is_word word ≡ true → words_of word ≡ word ∷ []
unfolding words_of
words_of-one word e = slice_split_none is_space word (word_no_space word e)

abbrev pub AreWordsAlone : List (List ℕ) → Type 0
AreWordsAlone words = AllByRecursion (λ word. is_word word ≡ true) words

-- words that are joined by spaces are the words of the line that they make
pub words_of-join : (word : List ℕ) (words : List (List ℕ)) → is_word word ≡ true → AreWordsAlone words
    → words_of (join_with_byte 32 (word ∷ words)) ≡ word ∷ words
words_of-join word [] e h = words_of-one word e
words_of-join word (next ∷ words) e h = words_of-cons word (join_with_byte 32 (next ∷ words)) e
    ∙ ap (λ w. word ∷ w) (words_of-join next words h.0 h.1)

-- the words of a line, joined by spaces, are the line
pub join-words_of : (line : List ℕ) → join_with_byte 32 (words_of line) ≡ line
unfolding words_of
join-words_of line = join_with_byte-slice_split 32 line

-- a line has at least one word
pub words_of-some : (line : List ℕ) → (word : List ℕ) × (words : List (List ℕ)) × (words_of line ≡ word ∷ words)
unfolding words_of
words_of-some line = slice_split_cons is_space line

-- each word of a line is one
pub words_of-words : (line : List ℕ) → AreWordsAlone (words_of line)
unfolding words_of is_word
words_of-words [] = (refl, tt)
words_of-words (b ∷ line) =
    elim (cases_Bool (is_space b)) [
      | inl space ↦ rw space (refl, words_of-words line)
      | inr other ↦ rw other (onto b other (slice_split is_space line) (words_of-words line))
    ]
  where
    onto : (c : ℕ) → is_space c ≡ false → (parts : List (List ℕ)) → AreWordsAlone parts
        → AreWordsAlone (onto_first c parts)
    onto c p [] h = (and_from _ _ (not_from_false (eqb c 32) p) refl, tt)
    onto c p (part ∷ parts) h = (and_from _ _ (not_from_false (eqb c 32) p) h.0, h.1)
