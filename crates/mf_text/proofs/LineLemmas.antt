-- The lines of a text: its first line and the lines after it, lines that are joined by LF, and where lines lie.
use Rattle.std.proofs.Common.{◌≡◌, ◌≢◌, ℕ, zero, suc, ◌+◌, ◌-◌, ◌<◌, ◌≤◌, Bool, true, false, not, eqb, leb, List, []}
use Rattle.std.proofs.Common.{◌∷◌, ◌++◌, length, get_or, take, drop, map, All, Some, None, refl, sym, ap, ◌∙◌, subst}
use Rattle.std.proofs.Common.{inl, inr, arith}
use Rattle.std.specs.List.{slice_split, onto_first, list_all, position, position_or_len, join_with_byte, AllByRecursion}
use Rattle.std.specs.Str.Lines.{lines, lines_of_parts, strip_carriage_return}
use Rattle.std.proofs.lemmas.Bool.{lt-ltb, le-ltb, ne_eqb, cond-true, cond-false, cases_Bool, and_parts, and_from}
use Rattle.std.proofs.lemmas.Bool.{cases_lt, leb-true}
use Rattle.std.proofs.lemmas.List.{take_all, take-take, drop_all, drop-drop, length-drop, length-take-le, length_push}
use Rattle.std.proofs.lemmas.List.{get_or-take, get_or_past, get_or_push, take_at, append_assoc, append-nil, map_push}
use Rattle.std.proofs.lemmas.List.{take_rest}
use Rattle.std.proofs.lemmas.List.Elements.{All-from_get_or, All-nil, All-push}
use Rattle.std.proofs.lemmas.List.Sums.{fails_before_first, prefix_len-le-length}
use Rattle.std.proofs.lemmas.List.Splits.{slice_split_none, slice_split_at, slice_split_first}
use Rattle.mf_text.specs.declared.lines.Span.{Span}
use Rattle.mf_text.specs.declared.lines.TextFault.{TextFault}
use Rattle.mf_text.specs.Lines.{lines_of, span_at, piece, IsWithin, line_spans_from, spans_from, line_spans}
use Rattle.mf_text.specs.Lines.{IsFirstLine, is_printable, is_clean, bad_column, fault_from, text_fault}

abbrev is_lf : ℕ → Bool
is_lf b = eqb b 10

-- ---- what `position` answers

pub position_some : {X : Type 0} (p : X → Bool) (xs : List X) (k : ℕ) → position p xs ≡ Some k → (k < length xs)
    × (position_or_len p xs ≡ k)
position_some p xs k e =
    elim (cases_lt (position_or_len p xs) (length xs)) [
      | inl lt ↦
          let at = sym (cond-true _ _ _ (lt-ltb _ _ lt)) ∙ e in
          let same : position_or_len p xs ≡ k = cc in
          (omega arith, same)
      | inr le ↦ let at = sym (cond-false _ _ _ (le-ltb _ _ le)) ∙ e in absurd cc
    ]

pub position_none : {X : Type 0} (p : X → Bool) (xs : List X) → position p xs ≡ None → length xs ≤ position_or_len p xs
position_none p xs e =
    elim (cases_lt (position_or_len p xs) (length xs)) [
      | inl lt ↦ let at = sym (cond-true _ _ _ (lt-ltb _ _ lt)) ∙ e in absurd cc
      | inr le ↦ le
    ]

-- ---- the parts round a byte

-- there is always a first part
pub slice_split_cons : {X : Type 0} (p : X → Bool) (xs : List X) → (x : List X) × (parts : List (List X))
    × (slice_split p xs ≡ x ∷ parts)
slice_split_cons p [] = ([], [], refl)
slice_split_cons p (x ∷ xs) =
    let rest = slice_split_cons p xs in
    elim (cases_Bool (p x)) [
      | inl holds ↦ ([], slice_split p xs, cond-true _ _ _ holds)
      | inr fails ↦ (x ∷ rest.0, rest.1, cond-false _ _ _ fails ∙ ap (onto_first x) rest.2)
    ]

pub slice_split_some : {X : Type 0} (p : X → Bool) (xs : List X) (k : ℕ) → position p xs ≡ Some k
    → slice_split p xs ≡ take k xs ∷ slice_split p (drop (k + 1) xs)
slice_split_some p [] k e = absurd (omega (arith, (position_some p [] k e).0))
slice_split_some p (x ∷ xs) k e =
    let at = position_some p (x ∷ xs) k e in
    let first = slice_split_first p (x ∷ xs) x (omega (arith, at.0, at.1)) in
    first ∙ ap (λ (n : ℕ). take n (x ∷ xs) ∷ slice_split p (drop (n + 1) (x ∷ xs))) at.1

pub slice_split_whole : {X : Type 0} (p : X → Bool) (xs : List X) → position p xs ≡ None → slice_split p xs ≡ xs ∷ []
slice_split_whole p [] e = refl
slice_split_whole p (x ∷ xs) e =
    let far = position_none p (x ∷ xs) e in
    slice_split_none p (x ∷ xs)
    (All-from_get_or (λ y. p y ≡ false) (x ∷ xs) x (λ i lt. fails_before_first p (x ∷ xs) i x (omega arith)))

-- ---- the first line

strip_cr : (text : List ℕ) (k : ℕ) → 0 < k → k ≤ length text → get_or text (k - 1) 0 ≡ 13
    → strip_carriage_return (take k text) ≡ take (k - 1) text
strip_cr text k some le cr =
    let long : length (take k text) ≡ k = length-take-le k text le in
    let end : get_or (take k text) (length (take k text) - 1) 0
    ≡ 13 = rw long (get_or-take k text (k - 1) 0 (omega arith) ∙ cr) in
    cond-true _ _ _ (ap (λ b. eqb b 13) end) ∙ rw long (take-take (k - 1) k text (omega arith))

strip_plain : (text : List ℕ) (k : ℕ) → k ≤ length text → (0 < k → get_or text (k - 1) 0 ≢ 13)
    → strip_carriage_return (take k text) ≡ take k text
strip_plain text k le other =
    let long : length (take k text) ≡ k = length-take-le k text le in
    elim (cases_lt 0 k) [
      | inl some ↦
          let end : get_or (take k text) (length (take k text) - 1) 0
          ≡ get_or text (k - 1) 0 = rw long (get_or-take k text (k - 1) 0 (omega arith)) in
          cond-false _ _ _ (ne_eqb _ _ (λ is. other some (sym end ∙ is)))
      | inr none ↦
          let past : get_or (take k text) (length (take k text) - 1) 0 ≡ 0 = get_or_past (take k text) _ 0 (omega arith)
          in
          cond-false _ _ _ (ne_eqb _ _ (λ (is : get_or (take k text) (length (take k text) - 1) 0 ≡ 13). omega arith))
    ]

-- the lines of the parts behind a first one
lines_of_parts-cons : (part : List ℕ) (text : List ℕ)
    → lines_of_parts (part ∷ slice_split is_lf text) ≡ strip_carriage_return part
    ∷ lines_of_parts (slice_split is_lf text)
lines_of_parts-cons part text =
    let rest = slice_split_cons is_lf text in
    rw rest.2 refl

spans_from-cons : (at : ℕ) (part : List ℕ) (text : List ℕ)
    → line_spans_from at (part ∷ slice_split is_lf text) ≡ span_at at (strip_carriage_return part)
    ∷ line_spans_from (at + length part + 1) (slice_split is_lf text)
unfolding line_spans_from
spans_from-cons at part text =
    let rest = slice_split_cons is_lf text in
    rw rest.2 refl

lines_of-at : (text : List ℕ) (k : ℕ) → position is_lf text ≡ Some k
    → lines_of text ≡ strip_carriage_return (take k text) ∷ lines_of (drop (k + 1) text)
unfolding lines_of
lines_of-at text k e = ap lines_of_parts (slice_split_some is_lf text k e)
    ∙ lines_of_parts-cons (take k text) (drop (k + 1) text)

spans_from-at : (at : ℕ) (text : List ℕ) (k : ℕ) → position is_lf text ≡ Some k
    → spans_from at text ≡ span_at at (strip_carriage_return (take k text))
    ∷ spans_from (at + (k + 1)) (drop (k + 1) text)
unfolding spans_from
spans_from-at at text k e =
    let lt = (position_some is_lf text k e).0 in
    let next : at + length (take k text) + 1 ≡ at + (k + 1) = omega (arith, length-take-le k text (omega arith)) in
    ap (line_spans_from at) (slice_split_some is_lf text k e) ∙ spans_from-cons at (take k text) (drop (k + 1) text)
    ∙ ap (λ n. span_at at (strip_carriage_return (take k text))
    ∷ line_spans_from n (slice_split is_lf (drop (k + 1) text))) next

pub lines_of-nil : lines_of [] ≡ []
unfolding lines_of
lines_of-nil = refl

pub spans_from-nil : (at : ℕ) → spans_from at [] ≡ []
unfolding spans_from line_spans_from
spans_from-nil at = refl

lines_of-whole : (text : List ℕ) → position is_lf text ≡ None → 0 < length text → lines_of text ≡ text ∷ []
unfolding lines_of
lines_of-whole text e some = ap lines_of_parts (slice_split_whole is_lf text e)
    ∙ cond-false _ _ _ (ne_eqb (length text) 0 (omega arith))

spans_from-whole : (at : ℕ) (text : List ℕ) → position is_lf text ≡ None → 0 < length text
    → spans_from at text ≡ span_at at text ∷ []
unfolding spans_from line_spans_from
spans_from-whole at text e some = ap (line_spans_from at) (slice_split_whole is_lf text e)
    ∙ cond-false _ _ _ (ne_eqb (length text) 0 (omega arith))

span_at-is : (at : ℕ) (bytes : List ℕ) (n : ℕ) → length bytes ≡ n
    → span_at at bytes ≡ record { start = at; end = at + n }
unfolding span_at
span_at-is at bytes n e = ap (λ (m : ℕ). let s : Span = record { start = at; end = at + m } in s) e

-- a last line with no end
pub first_line_whole : (text : List ℕ) → position is_lf text ≡ None → 0 < length text
    → IsFirstLine text (length text) (length text)
first_line_whole text e some =
    let whole : take (length text) text ≡ text = take_all (length text) text (omega arith) in
    let rest : drop (length text) text ≡ [] = drop_all (length text) text (omega arith) in
    record {
      line = rw (whole, rest, lines_of-nil) (lines_of-whole text e some);
      span = λ at. rw (rest, spans_from-nil)
          (spans_from-whole at text e some ∙ ap (λ s. s ∷ []) (span_at-is at text (length text) refl));
    }

-- a line before an LF: the bytes before it, less a CR
pub first_line_at : (text : List ℕ) (k len : ℕ) → position is_lf text ≡ Some k → len ≤ length text
    → strip_carriage_return (take k text) ≡ take len text → IsFirstLine text len (k + 1)
first_line_at text k len e le strip =
    record {
      line = lines_of-at text k e ∙ ap (λ l. l ∷ lines_of (drop (k + 1) text)) strip;
      span = λ at.
          spans_from-at at text k e
          ∙ ap (λ s. s ∷ spans_from (at + (k + 1)) (drop (k + 1) text))
          (span_at-is at (strip_carriage_return (take k text)) len (ap length strip ∙ length-take-le len text le));
    }

pub first_line_cr : (text : List ℕ) (k : ℕ) → position is_lf text ≡ Some k → 0 < k → get_or text (k - 1) 0 ≡ 13
    → IsFirstLine text (k - 1) (k + 1)
first_line_cr text k e some cr =
    let lt = (position_some is_lf text k e).0 in
    first_line_at text k (k - 1) e (omega arith) (strip_cr text k some (omega arith) cr)

pub first_line_lf : (text : List ℕ) (k : ℕ) → position is_lf text ≡ Some k → (0 < k → get_or text (k - 1) 0 ≢ 13)
    → IsFirstLine text k (k + 1)
first_line_lf text k e other =
    let lt = (position_some is_lf text k e).0 in
    first_line_at text k k e (omega arith) (strip_plain text k (omega arith) other)

-- ---- a line and the first byte that may not stand there

clean_none : (line : List ℕ) → position_or_len (λ b. not (is_printable b)) line ≡ length line → is_clean line ≡ true
unfolding is_clean
clean_none [] e = refl
clean_none (b ∷ line) e =
    elim (cases_Bool (is_printable b)) [
      | inl holds ↦
          let more : position_or_len (λ b. not (is_printable b)) (b ∷ line)
          ≡ 1 + position_or_len (λ b. not (is_printable b)) line = cond-true _ _ _ (ap (λ t. not (not t)) holds) in
          rw holds (clean_none line (omega arith))
      | inr fails ↦
          let here : position_or_len (λ b. not (is_printable b)) (b ∷ line)
          ≡ 0 = cond-false _ _ _ (ap (λ t. not (not t)) fails) in
          absurd (omega arith)
    ]

clean_some : (line : List ℕ) → position_or_len (λ b. not (is_printable b)) line < length line → is_clean line ≡ false
unfolding is_clean
clean_some [] e = absurd (omega arith)
clean_some (b ∷ line) e =
    elim (cases_Bool (is_printable b)) [
      | inl holds ↦
          let more : position_or_len (λ b. not (is_printable b)) (b ∷ line)
          ≡ 1 + position_or_len (λ b. not (is_printable b)) line = cond-true _ _ _ (ap (λ t. not (not t)) holds) in
          rw holds (clean_some line (omega arith))
      | inr fails ↦ rw fails refl
    ]

pub clean_from_position : (line : List ℕ) → position (λ b. not (is_printable b)) line ≡ None → is_clean line ≡ true
clean_from_position line e = clean_none line
    (omega (
      arith,
      position_none (λ b. not (is_printable b)) line e,
      prefix_len-le-length
          (λ b. not (not (is_printable b))) line,
    ))

pub bad_from_position : (line : List ℕ) (k : ℕ) → position (λ b. not (is_printable b)) line ≡ Some k
    → (is_clean line ≡ false) × (bad_column line ≡ k + 1)
unfolding bad_column
bad_from_position line k e =
    let at = position_some (λ b. not (is_printable b)) line k e in
    (clean_some line (omega arith), ap (λ n. n + 1) at.1)

pub fault_from-clean : (n : ℕ) (line : List ℕ) (rest : List (List ℕ)) → is_clean line ≡ true
    → fault_from n (line ∷ rest) ≡ fault_from (n + 1) rest
unfolding fault_from
fault_from-clean n line rest e = cond-true _ _ _ e

pub fault_from-bad : (n k : ℕ) (line : List ℕ) (rest : List (List ℕ)) → is_clean line ≡ false → bad_column line ≡ k
    → fault_from n (line ∷ rest) ≡ Some (record { line = n; column = k })
unfolding fault_from
fault_from-bad n k line rest e at = cond-false _ _ _ e
    ∙ ap (λ c. let f : TextFault = record { line = n; column = c } in Some f) at

pub fault_from-nil : (n : ℕ) → fault_from n [] ≡ None
unfolding fault_from
fault_from-nil n = refl

-- ---- the loop of `split_lines`: the spans so far, and the rest of the text from start on

pub record Split (text : List ℕ) (spans : List Span) (start : ℕ) : Type 0 where
  pub places : line_spans text ≡ spans ++ spans_from start (drop start text)
  pub lines : lines_of text ≡ map (piece text) spans ++ lines_of (drop start text)
  pub within : All (IsWithin (length text)) spans
  pub fault : text_fault text ≡ fault_from (length spans + 1) (lines_of (drop start text))
  pub count : length spans ≤ start
  pub bounded : start ≤ length text

pub Split-start : (text : List ℕ) → Split text [] 0
unfolding text_fault
Split-start text = record {
  places = refl;
  lines = refl;
  within = All-nil (IsWithin (length text));
  fault = refl;
  count = omega arith;
  bounded = omega arith;
}

piece-is : (text : List ℕ) (start len : ℕ) → take (start + len - start) (drop start text) ≡ take len (drop start text)
piece-is text start len = let e : start + len - start ≡ len = omega arith in ap (λ n. take n (drop start text)) e

pub Split-more : (text : List ℕ) (spans : List Span) (start len whole : ℕ) → Split text spans start
    → IsFirstLine (drop start text) len whole → is_clean (take len (drop start text)) ≡ true → len ≤ whole
    → whole ≤ length (drop start text) → 0 < whole
    → Split text (spans ++ record { start = start; end = start + len } ∷ []) (start + whole)
Split-more text spans start len whole so first clean le fits some =
    let span : Span = record { start = start; end = start + len } in
    let line : List ℕ = take len (drop start text) in
    let rest : drop whole (drop start text) ≡ drop (start + whole) text = drop-drop whole start text in
    let left : whole ≤ length text - start = omega (arith, length-drop start text) in
    let next : lines_of (drop start text) ≡ line ∷ lines_of (drop (start + whole) text) = first.line
    ∙ ap (λ t. line ∷ lines_of t) rest in
    let n : length (spans ++ span ∷ []) ≡ length spans + 1 = length_push spans span in
    record {
      places = so.places ∙ ap (λ s. spans ++ s) (first.span start ∙ ap (λ t. span ∷ spans_from (start + whole) t) rest)
          ∙ sym (append_assoc spans (span ∷ []) (spans_from (start + whole) (drop (start + whole) text)));
      lines = so.lines ∙ ap (λ l. map (piece text) spans ++ l) next
          ∙ sym (append_assoc (map (piece text) spans) (line ∷ []) (lines_of (drop (start + whole) text)))
          ∙ ap (λ l. l ++ lines_of (drop (start + whole) text))
          (ap (λ p. map (piece text) spans ++ p ∷ []) (sym (piece-is text start len))
          ∙ sym (map_push (piece text) spans span));
      within = All-push (IsWithin (length text)) spans span so.within
          (record { ordered = omega arith; bounded = omega arith });
      fault = so.fault ∙ ap (fault_from (length spans + 1)) next
          ∙ fault_from-clean (length spans + 1) line (lines_of (drop (start + whole) text)) clean
          ∙ ap (λ m. fault_from (m + 1) (lines_of (drop (start + whole) text))) (sym n);
      count = omega arith;
      bounded = omega arith;
    }

pub Split-bad : (text : List ℕ) (spans : List Span) (start len whole k : ℕ) → Split text spans start
    → IsFirstLine (drop start text) len whole
    → position (λ b. not (is_printable b)) (take len (drop start text)) ≡ Some k
    → text_fault text ≡ Some (record { line = length spans + 1; column = k + 1 })
Split-bad text spans start len whole k so first at =
    let line : List ℕ = take len (drop start text) in
    let bad = bad_from_position line k at in
    so.fault ∙ ap (fault_from (length spans + 1)) first.line
    ∙ fault_from-bad (length spans + 1) (k + 1) line _ bad.0 bad.1

pub record IsWhole (text : List ℕ) (spans : List Span) : Type 0 where
  pub places : spans ≡ line_spans text
  pub lines : map (piece text) spans ≡ lines_of text
  pub within : All (IsWithin (length text)) spans
  pub clean : text_fault text ≡ None

pub Split-end : (text : List ℕ) (spans : List Span) (start : ℕ) → Split text spans start → length text ≤ start
    → IsWhole text spans
Split-end text spans start so end =
    let rest : drop start text ≡ [] = drop_all start text end in
    let none : lines_of (drop start text) ≡ [] = ap lines_of rest ∙ lines_of-nil in
    record {
      places = sym (so.places ∙ ap (λ s. spans ++ s) (ap (spans_from start) rest ∙ spans_from-nil start)
          ∙ append-nil spans);
      lines = sym (so.lines ∙ ap (λ l. map (piece text) spans ++ l) none ∙ append-nil (map (piece text) spans));
      within = so.within;
      clean = so.fault ∙ ap (fault_from (length spans + 1)) none ∙ fault_from-nil (length spans + 1);
    }

-- the same, of the slices that the code takes

module _ (text : List ℕ) (spans : List Span) (start len whole : ℕ) (so : Split text spans start)
    (first : IsFirstLine (take (length text - start) (drop start text)) len whole) where
  first_is : IsFirstLine (drop start text) len whole
  first_is = subst (λ t. IsFirstLine t len whole) (take_rest text start) first

  pub Split-next : position (λ b. not (is_printable b)) (take (start + len - start) (drop start text)) ≡ None
      → len ≤ whole → whole ≤ length (take (length text - start) (drop start text)) → 0 < whole
      → Split text (spans ++ record { start = start; end = start + len } ∷ []) (start + whole)
  Split-next none le fits some =
      let fits' : whole ≤ length (drop start text) = rw take_rest at fits in
      Split-more text spans start len whole so first_is
      (clean_from_position _ (rw (sym (piece-is text start len)) none)) le fits' some

  pub Split-refused : (k : ℕ)
      → position (λ b. not (is_printable b)) (take (start + len - start) (drop start text)) ≡ Some k
      → text_fault text ≡ Some (record { line = length spans + 1; column = k + 1 })
  Split-refused k at = Split-bad text spans start len whole k so first_is (rw (sym (piece-is text start len)) at)

-- ---- lines that are joined by LF

-- a clean line has no LF, and no CR at its end

clean_cons : (b : ℕ) (line : List ℕ) → is_clean (b ∷ line) ≡ true → (is_printable b ≡ true) × (is_clean line ≡ true)
unfolding is_clean
clean_cons b line e = and_parts (is_printable b) (list_all is_printable line) e

clean_at : (line : List ℕ) → is_clean line ≡ true → (i : ℕ) → i < length line → is_printable (get_or line i 0) ≡ true
clean_at [] e i lt = absurd (omega arith)
clean_at (b ∷ line) e zero lt = (clean_cons b line e).0
clean_at (b ∷ line) e (suc i) lt = clean_at line (clean_cons b line e).1 i (omega arith)

clean_no_lf : (line : List ℕ) → is_clean line ≡ true → All (λ b. is_lf b ≡ false) line
clean_no_lf line e = All-from_get_or (λ b. is_lf b ≡ false) line 0
    (λ i lt. not_lf (get_or line i 0) (clean_at line e i lt))
  where
    not_lf : (b : ℕ) → is_printable b ≡ true → is_lf b ≡ false
    not_lf b p = let low = leb-true 32 b (and_parts (leb 32 b) (leb b 126) p).0 in ne_eqb b 10 (omega arith)

strip_clean : (line : List ℕ) → is_clean line ≡ true → strip_carriage_return line ≡ line
strip_clean line e = cond-false _ _ _ (ne_eqb _ _ other)
  where
    low : (b : ℕ) → is_printable b ≡ true → 32 ≤ b
    low b p = leb-true 32 b (and_parts (leb 32 b) (leb b 126) p).0

    other : get_or line (length line - 1) 0 ≡ 13 → ⊥
    other is =
        elim (cases_lt 0 (length line)) [
          | inl some ↦ let l = low (get_or line (length line - 1) 0) (clean_at line e (length line - 1) (omega arith))
              in omega arith
          | inr none ↦ let past = get_or_past line (length line - 1) 0 (omega arith) in omega arith
        ]

-- a clean line before an LF is the first line
pub lines_of-cons : (line text : List ℕ) → is_clean line ≡ true → lines_of (line ++ 10 ∷ text) ≡ line ∷ lines_of text
unfolding lines_of
lines_of-cons line text e = ap lines_of_parts (slice_split_at is_lf line 10 text (clean_no_lf line e) refl)
    ∙ lines_of_parts-cons line text ∙ ap (λ l. l ∷ lines text) (strip_clean line e)

-- the same before CR LF
pub lines_of-cons_cr : (line text : List ℕ) → is_clean line ≡ true
    → lines_of (line ++ 13 ∷ 10 ∷ text) ≡ line ∷ lines_of text
unfolding lines_of
lines_of-cons_cr line text e =
    let all : All (λ b. is_lf b ≡ false) (line ++ 13 ∷ []) = All-push (λ b. is_lf b ≡ false) line 13
    (clean_no_lf line e) refl in
    let long = length_push line 13 in
    let last : length (line ++ 13 ∷ []) - 1 ≡ length line = omega arith in
    let strip : strip_carriage_return (line ++ 13 ∷ []) ≡ line =
    cond-true _ _ _
    (ap (λ b. eqb b 13) (ap (λ n. get_or (line ++ 13 ∷ []) n 0) last ∙ get_or_push line 13 0 (length line) refl))
    ∙ ap (λ n. take n (line ++ 13 ∷ [])) last ∙ take_at line (13 ∷ []) (length line) refl in
    ap lines (sym (append_assoc line (13 ∷ []) (10 ∷ text)))
    ∙ ap lines_of_parts (slice_split_at is_lf (line ++ 13 ∷ []) 10 text all refl)
    ∙ lines_of_parts-cons (line ++ 13 ∷ []) text ∙ ap (λ l. l ∷ lines text) strip

-- a clean line with no end is the only line, where it isn't empty
pub lines_of-last : (line : List ℕ) → is_clean line ≡ true → 0 < length line → lines_of line ≡ line ∷ []
unfolding lines_of
lines_of-last line e some = ap lines_of_parts (slice_split_none is_lf line (clean_no_lf line e))
    ∙ cond-false _ _ _ (ne_eqb (length line) 0 (omega arith))

-- lines that a text may have: clean ones, of which the last isn't empty
abbrev pub AreLines : List (List ℕ) → Type 0
AreLines [] = Unit {0}
AreLines (line ∷ []) = (is_clean line ≡ true) × (0 < length line)
AreLines (line ∷ next ∷ rest) = (is_clean line ≡ true) × AreLines (next ∷ rest)

-- such lines, joined by LF, are the lines of the text that they make
pub lines_of-join : (ls : List (List ℕ)) → AreLines ls → lines_of (join_with_byte 10 ls) ≡ ls
lines_of-join [] h = lines_of-nil
lines_of-join (line ∷ []) h = lines_of-last line h.0 h.1
lines_of-join (line ∷ next ∷ rest) h = lines_of-cons line (join_with_byte 10 (next ∷ rest)) h.0
    ∙ ap (λ l. line ∷ l) (lines_of-join (next ∷ rest) h.1)

-- clean parts make a clean line
pub is_clean-append : (a b : List ℕ) → is_clean a ≡ true → is_clean b ≡ true → is_clean (a ++ b) ≡ true
unfolding is_clean
is_clean-append [] b p q = q
is_clean-append (x ∷ a) b p q =
    let parts = and_parts (is_printable x) (list_all is_printable a) p in
    and_from (is_printable x) (list_all is_printable (a ++ b)) parts.0 (is_clean-append a b parts.1 q)

-- where all lines are clean, the text has no fault
pub fault_from-none : (n : ℕ) (ls : List (List ℕ)) → AllByRecursion (λ line. is_clean line ≡ true) ls
    → fault_from n ls ≡ None
fault_from-none n [] h = fault_from-nil n
fault_from-none n (line ∷ ls) h = fault_from-clean n line ls h.0 ∙ fault_from-none (n + 1) ls h.1

-- where there is no fault, all lines are clean
pub clean_from_fault : (n : ℕ) (ls : List (List ℕ)) → fault_from n ls ≡ None
    → AllByRecursion (λ line. is_clean line ≡ true) ls
unfolding fault_from
clean_from_fault n [] e = tt
clean_from_fault n (line ∷ ls) e =
    elim (cases_Bool (is_clean line)) [
      | inl holds ↦ (holds, clean_from_fault (n + 1) ls (sym (cond-true _ _ _ holds) ∙ e))
      | inr fails ↦ let at = sym (cond-false _ _ _ fails) ∙ e in absurd cc
    ]
