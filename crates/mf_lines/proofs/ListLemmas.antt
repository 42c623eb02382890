-- Lists: tests on the elements of a mapped list, the last element, the words of a line.
use Rattle.std.proofs.Common.{◌≡◌, ℕ, zero, suc, ◌+◌, ◌-◌, ◌<◌, ◌≤◌, Bool, true, false, ◌||◌, not, cond, eqb, ltb}
use Rattle.std.proofs.Common.{List, [], ◌∷◌, ◌++◌, length, take, drop, map, get_or, Option, Some, None, Result}
use Rattle.std.proofs.Common.{Ok, Err, Bor, refl, sym, ap, ◌∙◌, arith}
use Rattle.std.specs.List.{list_any, find, flat_map, position, position_or_len, join_with_byte}
use Rattle.std.proofs.lemmas.Bool.{cond-true, cond-false, eq-eqb, ne_eqb, or_parts, ltb-false}
use Rattle.std.specs.Prelude.{codes, option_to_list, is_some}
use Rattle.std.specs.Str.{bytes_eq}
use Rattle.std.proofs.lemmas.List.{append_assoc, append-nil, nil_from_length, length-map, take_rest}
use Rattle.mf_text.specs.Words.{words_of}
use Rattle.mf_text.proofs.LineLemmas.{slice_split_some, slice_split_whole}
use Rattle.mf_text.proofs.WordLemmas.{join-words_of, words_of-some}
use Rattle.mf_lines.specs.declared.parts.Content.TheVariants as given
use Rattle.mf_lines.specs.declared.parts.Kind.{Kind}
use Rattle.mf_lines.specs.declared.parts.Kind.TheVariants as kind
use Rattle.mf_lines.specs.Meaning.{on_last}
use Rattle.mf_lines.specs.LineTexts.{spaced}
use Rattle.mf_lines.specs.Words.{◌>>=◌, behind, no_words, three_words, spelled}
use Rattle.mf_lines.specs.Lines.{is_above, numbers_in, points_in, points_form, text_in, away_words, stop_words}

-- ---- tests on a mapped list

pub list_any-map : {X Y : Type 0} (p : Y → Bool) (f : X → Y) (xs : List X)
    → list_any p (map f xs) ≡ list_any (λ x. p (f x)) xs
list_any-map p f [] = refl
list_any-map p f (x ∷ xs) = ap (λ b. p (f x) || b) (list_any-map p f xs)

position_or_len-map : {X Y : Type 0} (p : Y → Bool) (f : X → Y) (xs : List X)
    → position_or_len p (map f xs) ≡ position_or_len (λ x. p (f x)) xs
position_or_len-map p f [] = refl
position_or_len-map p f (x ∷ xs) = ap (λ n. cond (not (p (f x))) (1 + n) 0) (position_or_len-map p f xs)

pub position-map : {X Y : Type 0} (p : Y → Bool) (f : X → Y) (xs : List X)
    → position p (map f xs) ≡ position (λ x. p (f x)) xs
position-map p f xs =
    (λ i. cond (ltb (position_or_len-map p f xs i) (length-map xs f i)) (Some (position_or_len-map p f xs i)) None)

-- ---- what is found along a list

find_next : {X : Type 0} (p : X → Bool) (xs : List X) (i : ℕ) (d : X) → i < length xs → p (get_or xs i d) ≡ false
    → find p (drop i xs) ≡ find p (drop (suc i) xs)
find_next p [] i d lt fails = absurd (omega arith)
find_next p (x ∷ xs) zero d lt fails = cond-false _ _ _ fails
find_next p (x ∷ xs) (suc i) d lt fails = find_next p xs i d (omega arith) fails

pub find_step : {X : Type 0} (p : X → Bool) (xs : List X) (i : ℕ) (d : X) → i < length xs → p (get_or xs i d) ≡ false
    → find p (drop i xs) ≡ find p (drop (i + 1) xs)
find_step p xs i d lt fails =
    let next : suc i ≡ i + 1 = omega arith in
    find_next p xs i d lt fails ∙ ap (λ n. find p (drop n xs)) next

-- ---- numbers of which none is above the greatest

pub none_above : (most : ℕ) (ns : List ℕ) (i d : ℕ) → list_any (is_above most) ns ≡ false → i < length ns
    → get_or ns i d ≤ most
none_above most [] i d e lt = absurd (omega arith)
none_above most (n ∷ ns) zero d e lt = ltb-false most n (or_parts (is_above most n) (list_any (is_above most) ns) e).0
none_above most (n ∷ ns) (suc i) d e lt =
    none_above most ns i d (or_parts (is_above most n) (list_any (is_above most) ns) e).1 (omega arith)

-- ---- the last element

pub on_last-push : {X : Type 0} (change : X → X) (xs : List X) (x : X)
    → on_last change (xs ++ x ∷ []) ≡ xs ++ change x ∷ []
on_last-push change [] x = refl
on_last-push change (y ∷ []) x = refl
on_last-push change (y ∷ z ∷ xs) x = ap (λ r. y ∷ r) (on_last-push change (z ∷ xs) x)

-- there was none
pub left_out : {X : Type 0} (change : X → X) (old rest : List X) (r : Option X) → old ≡ rest ++ option_to_list r
    → r ≡ None → rest ≡ [] → rest ≡ on_last change old
left_out change old rest r was is none = none ∙ ap (on_last change) (sym (was ∙ (λ i. none i ++ option_to_list (is i))))

-- the last element is taken away and put back changed
pub put_back : {X : Type 0} (change : X → X) (old rest new : List X) (r : Option X) (x : X)
    → old ≡ rest ++ option_to_list r → r ≡ Some x → new ≡ rest ++ change x ∷ [] → new ≡ on_last change old
put_back change old rest new r x was is e =
    e ∙ sym (on_last-push change rest x) ∙ ap (on_last change) (sym (was ∙ ap (λ o. rest ++ option_to_list o) is))

-- ---- the words of a line

abbrev is_space : ℕ → Bool
is_space b = eqb b 32

pub words_of-at : (line : List ℕ) (k : ℕ) → position is_space line ≡ Some k
    → words_of line ≡ take k line ∷ words_of (take (length line - (k + 1)) (drop (k + 1) line))
unfolding words_of
words_of-at line k e =
    slice_split_some is_space line k e ∙ ap (λ rest. take k line ∷ words_of rest) (sym (take_rest line (k + 1)))

pub words_of-whole : (line : List ℕ) → position is_space line ≡ None → words_of line ≡ line ∷ []
unfolding words_of
words_of-whole line e = slice_split_whole is_space line e

pub no_words-some : (line : List ℕ) → no_words (words_of line) ≡ Err kind.Arity
no_words-some line = let some = words_of-some line in ap no_words some.2

pub text_none : (bytes : List ℕ) → length bytes ≡ 0 → text_in (words_of bytes) ≡ Err kind.Arity
unfolding words_of
text_none bytes none = ap (λ b. text_in (words_of b)) (nil_from_length bytes none)

pub text_some : (bytes : List ℕ) → eqb (length bytes) 0 ≡ false → text_in (words_of bytes) ≡ Ok (given.Text bytes)
text_some bytes e = go (words_of bytes) (join-words_of bytes) (go_some (length bytes) e)
  where
    go_some : (n : ℕ) → eqb n 0 ≡ false → 0 < n
    go_some zero e = absurd cc
    go_some (suc n) e = omega arith

    go : (ws : List (List ℕ)) → join_with_byte 32 ws ≡ bytes → 0 < length bytes → text_in ws ≡ Ok (given.Text bytes)
    go [] e some = absurd (omega (arith, ap length e))
    go ([] ∷ []) e some = absurd (omega (arith, ap length e))
    go ((x ∷ w) ∷ []) e some = ap (λ b. Ok (given.Text b)) e
    go ([] ∷ v ∷ ws) e some = ap (λ b. Ok (given.Text b)) e
    go ((x ∷ w) ∷ v ∷ ws) e some = ap (λ b. Ok (given.Text b)) e

-- ---- the numbers of words, one by one

-- these numbers, and behind them those
abbrev pub numbers_with : List ℕ → Result (List ℕ) Kind → Result (List ℕ) Kind
numbers_with front (Ok more) = Ok (front ++ more)
numbers_with front (Err k) = Err k

pub numbers_more : (front : List ℕ) (words : List (List ℕ)) (w : List ℕ) (rest : List (List ℕ)) (n : ℕ)
    → words ≡ w ∷ rest → spelled w ≡ Ok n
    → numbers_with front (numbers_in words) ≡ numbers_with (front ++ n ∷ []) (numbers_in rest)
numbers_more front words w rest n is e =
    ap (λ ws. numbers_with front (numbers_in ws)) is
    ∙ ap (λ r. numbers_with front (r >>= λ m. numbers_in rest >>= λ more. Ok (m ∷ more))) e
    ∙ go (numbers_in rest)
  where
    go : (r : Result (List ℕ) Kind)
        → numbers_with front (r >>= λ more. Ok (n ∷ more)) ≡ numbers_with (front ++ n ∷ []) r
    go (Ok more) = ap Ok (sym (append_assoc front (n ∷ []) more))
    go (Err k) = refl

pub numbers_refused : (front : List ℕ) (words : List (List ℕ)) (w : List ℕ) (rest : List (List ℕ)) (k : Kind)
    → words ≡ w ∷ rest → spelled w ≡ Err k → numbers_with front (numbers_in words) ≡ Err k
numbers_refused front words w rest k is e =
    ap (λ ws. numbers_with front (numbers_in ws)) is
    ∙ ap (λ r. numbers_with front (r >>= λ m. numbers_in rest >>= λ more. Ok (m ∷ more))) e

pub numbers_start : (words : List (List ℕ)) → numbers_in words ≡ numbers_with [] (numbers_in words)
numbers_start words = go (numbers_in words)
  where
    go : (r : Result (List ℕ) Kind) → r ≡ numbers_with [] r
    go (Ok more) = refl
    go (Err k) = refl

-- ---- points

pub behind_some : (rest : Option (Bor (List ℕ))) → is_some rest ≡ true → behind rest ≡ [] → ⊥
behind_some None some e = absurd cc
behind_some (Some line) some e = let words = words_of-some line.now in let no = sym words.2 ∙ e in absurd cc

-- whether no word is left behind the first so many
pub are_so_many : (rest : Option (Bor (List ℕ))) (b : Bool) (all many : ℕ) → is_some rest ≡ not b
    → all ≡ many + length (behind rest) → b ≡ eqb all many
are_so_many None true all many some e = sym (eq-eqb all many (omega (arith, e)))
are_so_many None false all many some e = absurd cc
are_so_many (Some line) true all many some e = absurd cc
are_so_many (Some line) false all many some e =
    let words = words_of-some line.now in
    sym (ne_eqb all many (λ same. omega (arith, e, same, ap length words.2)))

pub points_are : (words : List (List ℕ)) (ns : List ℕ) → (words ≡ [] → ⊥) → numbers_in words ≡ Ok ns
    → points_in ns ≡ points_form words
points_are [] ns some e = absurd (some refl)
points_are (w ∷ ws) ns some e = sym (ap (λ r. r >>= points_in) e)

-- ---- a name, and a list behind `without`

pub away_alone : (ws : List (List ℕ)) (name w : List ℕ) → ws ≡ name ∷ w ∷ [] → away_words ws ≡ Err kind.Arity
away_alone ws name w is = ap away_words is

pub away_other : (ws : List (List ℕ)) (name w : List ℕ) (servers : List (List ℕ)) → ws ≡ name ∷ w ∷ servers
    → bytes_eq w (codes "without") ≡ false → away_words ws ≡ Err kind.Arity
away_other ws name w [] is other = ap away_words is
away_other ws name w (s ∷ servers) is other =
    ap away_words is
    ∙ ap (λ r. r >>= λ _. Ok (name, s ∷ servers)) (cond-true _ _ _ (ap not other))

pub away_listed : (ws : List (List ℕ)) (name w : List ℕ) (servers : List (List ℕ)) → ws ≡ name ∷ w ∷ servers
    → bytes_eq w (codes "without") ≡ true → (servers ≡ [] → ⊥) → away_words ws ≡ Ok (name, servers)
away_listed ws name w [] is without some = absurd (some refl)
away_listed ws name w (s ∷ servers) is without some =
    ap away_words is
    ∙ ap (λ r. r >>= λ _. Ok (name, s ∷ servers)) (cond-false _ _ _ (ap not without))

-- ---- a name and a number with `stop` between them

pub stop_three : (ws : List (List ℕ)) (name w n : List ℕ) → three_words ws ≡ Ok (name, w, n)
    → stop_words ws ≡ cond (bytes_eq w (codes "stop")) (Some (name, n)) None
stop_three [] name w n e = absurd cc
stop_three (a ∷ []) name w n e = absurd cc
stop_three (a ∷ b ∷ []) name w n e = absurd cc
stop_three (a ∷ b ∷ c ∷ []) name w n e =
    let same : (a, b, c) ≡ (name, w, n) = cc in
    ap (λ (t : List ℕ × List ℕ × List ℕ). cond (bytes_eq t.1 (codes "stop")) (Some (t.0, t.2)) None) same
stop_three (a ∷ b ∷ c ∷ d ∷ ws) name w n e = absurd cc

pub stop_not : (ws : List (List ℕ)) (k : Kind) → three_words ws ≡ Err k → stop_words ws ≡ None
stop_not [] k e = refl
stop_not (a ∷ []) k e = refl
stop_not (a ∷ b ∷ []) k e = refl
stop_not (a ∷ b ∷ c ∷ []) k e = absurd cc
stop_not (a ∷ b ∷ c ∷ d ∷ ws) k e = refl

-- ---- words behind spaces

pub spaced_join : (w : List ℕ) (ws : List (List ℕ)) → join_with_byte 32 (w ∷ ws) ≡ w ++ flat_map spaced ws
spaced_join w [] = sym (append-nil w)
spaced_join w (v ∷ ws) = ap (λ r. w ++ 32 ∷ r) (spaced_join v ws)
