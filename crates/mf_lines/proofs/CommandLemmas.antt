-- What is read of a command; a list of servers is printed in their order and read again.
use Rattle.std.proofs.Common.{◌≡◌, ℕ, ◌^◌, ◌<◌, ◌≤◌, Bool, true, false, not, ◌&&◌, ltb, leb, List}
use Rattle.std.proofs.Common.{[], ◌∷◌, ◌++◌, length, map, Option, Some, None, Result, Ok, refl, sym, ap, ◌∙◌, subst}
use Rattle.std.proofs.Common.{arith, lit<, inl, inr}
use Rattle.std.specs.Prelude.{codes, ok_or, IfSome}
use Rattle.std.specs.List.{list_all, list_any, join_with_byte, AllByRecursion}
use Rattle.std.specs.List.Sorted.{IsPermutation}
use Rattle.std.specs.Str.{bytes_eq}
use Rattle.std.proofs.lemmas.Bool.{cond-false, not-false, and_parts, and_from, or_parts, or_from}
use Rattle.std.proofs.lemmas.Bool.{ltb-false, leb-false, lt-leb}
use Rattle.std.proofs.lemmas.List.Sorted.{IsPermutation-map, length_permutation}
use Rattle.std.proofs.lemmas.Slice.Eq.{bytes_eq-Decides}
use Rattle.mf_text.specs.Decimal.{decimal_text}
use Rattle.mf_text.specs.Lines.{is_printable, is_clean}
use Rattle.mf_text.proofs.DecimalLemmas.{decimal_of-decimal_text, is_word-decimal_text}
use Rattle.mf_text.proofs.DecimalLemmas.{is_clean-decimal_text}
use Rattle.mf_text.proofs.LineLemmas.{is_clean-append}
use Rattle.mf_text.proofs.WordLemmas.{is_word, AreWordsAlone}
use Rattle.mf_places.specs.declared.servers.Servers.{Servers}
use Rattle.mf_places.specs.Servers.{no_servers, set_of, servers_of}
use Rattle.mf_places.proofs.Sets.{set_of-lt, set_of-servers_of}
use Rattle.mf_lines.specs.declared.parts.Kind.{Kind}
use Rattle.mf_lines.specs.declared.parts.Kind.TheVariants as kind
use Rattle.mf_lines.specs.declared.parts.LimitName.{LimitName}
use Rattle.mf_lines.specs.declared.parts.LimitName.TheVariants as limit
use Rattle.mf_lines.specs.declared.parts.Act.{Act}
use Rattle.mf_lines.specs.declared.parts.Act.TheVariants as act
use Rattle.mf_lines.specs.declared.words.Verb.{Verb}
use Rattle.mf_lines.specs.declared.words.Verb.TheVariants as verb
use Rattle.mf_lines.specs.declared.words.LineWord.{LineWord}
use Rattle.mf_lines.specs.declared.words.LineWord.TheVariants as word
use Rattle.mf_lines.specs.declared.forms.Form.{Form}
use Rattle.mf_lines.specs.declared.forms.Form.TheVariants as says
use Rattle.mf_lines.specs.Words.{◌>>=◌, refuse, verb_text, word_text}
use Rattle.mf_lines.specs.Words.{spelled, number_in, no_words}
use Rattle.mf_lines.specs.Meaning.{SoFar, names_in, verb_of, file_in}
use Rattle.mf_lines.specs.Lines.{within, is_above, numbers_in}
use Rattle.mf_lines.specs.Lines.{file_number, command_fits, stop_words, stop_operands, convert_in}
use Rattle.mf_lines.specs.Lines.{file_operand, form_in}
use Rattle.mf_lines.specs.Lines.{knows_servers, lacks_server, server_operand, sweep_operand}
use Rattle.mf_lines.specs.Lines.{has_twice, away_words, servers_in, away_operands}
use Rattle.mf_lines.specs.LineTexts.{name_at, listed, behind_verb}
use Rattle.mf_lines.specs.LineTexts.{Alike}
use Rattle.mf_lines.proofs.ServerLemmas.{has, none_of, any_passing, twice_passing, servers_are, reordered}
use Rattle.mf_lines.proofs.LineWordLemmas.{bound, some_is, not_refused, numbers_are, file_is, IsSaid, operand_read}
use Rattle.mf_lines.proofs.LineWordLemmas.{server_read, bare_read, number_is, stop_is}

-- ---- what follows

pub then : {A B : Type 0} (r : Result A Kind) (f : A → Result B Kind) (a : A) (x : B) → r ≡ Ok a → f a ≡ Ok x
    → (r >>= f) ≡ Ok x
then r f a x e h = ap (λ q. q >>= f) e ∙ h

-- none of two limits is passed
pub within_two : (p q : Bool) (l m : LimitName) (u : Unit {0}) → within ((p, l) ∷ (q, m) ∷ []) ≡ Ok u
    → (p ≡ false) × (q ≡ false)
within_two true q l m u e = absurd cc
within_two false true l m u e = absurd cc
within_two false false l m u e = (refl, refl)

-- ---- commands with a list of servers

-- the operands: a file, and a list of different servers that are there
pub record HasList (so : SoFar) (ws : List (List ℕ)) (file : ℕ) (away : Servers) : Type 0 where
  pub name : List ℕ
  pub list : List ℕ
  pub words : ws ≡ name ∷ listed list
  pub found : file_number (names_in so.script.files) name ≡ Some file
  pub room : leb 1024 so.commands ≡ false
  pub small : list_any (is_above 4294967295) list ≡ false
  pub apart : has_twice list ≡ false
  pub there : list_any (lacks_server so) list ≡ false
  pub away_is : set_of list ≡ away

pub named_words : (ws : List (List ℕ)) (named : List ℕ × List (List ℕ)) (list : List ℕ) → away_words ws ≡ Ok named
    → named.1 ≡ map decimal_text list → ws ≡ named.0 ∷ listed list
named_words [] named list e h = absurd cc
named_words (name ∷ []) named [] e h =
    let same : (name, []) ≡ named = cc in ap (λ (n : List ℕ × List (List ℕ)). n.0 ∷ []) same
named_words (name ∷ []) named (n ∷ list) e h =
    let same : (name, []) ≡ named = cc in
    let none : [] ≡ map decimal_text (n ∷ list) = ap (λ (n : List ℕ × List (List ℕ)). n.1) same ∙ h in
    absurd cc
named_words (name ∷ w ∷ []) named list e h = absurd cc
named_words (name ∷ w ∷ server ∷ servers) named list e h =
    let a = bound (refuse (not (bytes_eq w (codes "without"))) kind.Arity) (λ _. Ok (name, server ∷ servers)) named e in
    let same : (name, server ∷ servers) ≡ named = let x = a.next in cc in
    let without = (bytes_eq-Decides w (codes "without")).0
    (not-false (bytes_eq w (codes "without"))
    (not_refused (not (bytes_eq w (codes "without"))) kind.Arity a.value a.is)) in
    let numbers : server ∷ servers ≡ map decimal_text list = ap (λ (n : List ℕ × List (List ℕ)). n.1) same ∙ h in
    behind list numbers without (ap (λ (n : List ℕ × List (List ℕ)). n.0) same)
  where
    behind : (ns : List ℕ) → server ∷ servers ≡ map decimal_text ns → w ≡ codes "without" → name ≡ named.0
        → name ∷ w ∷ server ∷ servers ≡ named.0 ∷ listed ns
    behind [] is without first = absurd cc
    behind (n ∷ ns) is without first = (λ i. first i ∷ without i ∷ is i)

pub list_read : (so : SoFar) (ws : List (List ℕ)) (two : ℕ × Servers) → away_operands so ws ≡ Ok two
    → HasList so ws two.0 two.1
list_read so ws two e =
    let names : List (List ℕ) = names_in so.script.files in
    let a = bound (away_words ws) _ two e in
    let b = bound (servers_in so a.value.1) _ two a.next in
    let c = bound (ok_or (file_number names a.value.0) kind.NoFile) _ two b.next in
    let d = bound (refuse (list_any (lacks_server so) b.value) kind.NoServer)
    (λ _. Ok (c.value, set_of b.value)) two c.next in
    let is : (c.value, set_of b.value) ≡ two = let x = d.next in cc in
    let n = bound (numbers_in a.value.1) _ b.value b.is in
    let w = bound (within ((list_any (is_above 4294967295) n.value, limit.Number)
    ∷ (leb 1024 so.commands, limit.Commands) ∷ [])) _ b.value n.next in
    let t = bound (refuse (has_twice n.value) kind.Twice) (λ _. Ok n.value) b.value w.next in
    let list : n.value ≡ b.value = let x = t.next in cc in
    let fits = within_two (list_any (is_above 4294967295) n.value) (leb 1024 so.commands) limit.Number limit.Commands
    w.value w.is in
    subst (λ (x : ℕ × Servers). HasList so ws x.0 x.1) is (record {
      name = a.value.0;
      list = b.value;
      words = named_words ws a.value b.value a.is (numbers_are a.value.1 n.value n.is ∙ ap (map decimal_text) list);
      found = some_is (file_number names a.value.0) kind.NoFile c.value c.is;
      room = fits.1;
      small = ap (list_any (is_above 4294967295)) (sym list) ∙ fits.0;
      apart = ap has_twice (sym list) ∙ not_refused (has_twice n.value) kind.Twice t.value t.is;
      there = not_refused (list_any (lacks_server so) b.value) kind.NoServer d.value d.is;
      away_is = refl;
    })

-- where the script has at most 128 servers, all of the list are below that
pub below_128 : (so : SoFar) (list : List ℕ) → so.script.servers ≤ 128 → knows_servers so.last ≡ true
    → list_any (lacks_server so) list ≡ false → list_any (leb 128) list ≡ false
below_128 so [] few knows there = refl
below_128 so (s ∷ list) few knows there =
    let parts = or_parts (lacks_server so s) (list_any (lacks_server so) list) there in
    let below : s < so.script.servers =
    leb-false so.script.servers s (ap (λ b. b && leb so.script.servers s) (sym knows) ∙ parts.0) in
    or_from (leb 128 s) (list_any (leb 128) list) (lt-leb 128 s (omega arith)) (below_128 so list few knows parts.1)

pub numbers_again : (ns : List ℕ) → list_any (is_above 4294967295) ns ≡ false → numbers_in (map decimal_text ns) ≡ Ok ns
numbers_again [] h = refl
numbers_again (n ∷ ns) h =
    let parts = or_parts (ltb 4294967295 n) (list_any (is_above 4294967295) ns) h in
    let le : n ≤ 4294967295 = ltb-false 4294967295 n parts.0 in
    let big : 4294967295 < 2 ^ 64 = lit< tt in
    then (spelled (decimal_text n)) _ n (n ∷ ns)
    (ap (λ o. ok_or o kind.Number) (decimal_of-decimal_text n (omega arith)))
    (then (numbers_in (map decimal_text ns)) (λ more. Ok (n ∷ more)) ns (n ∷ ns) (numbers_again ns parts.1) refl)

pub words_again : (name : List ℕ) (ns : List ℕ) → away_words (name ∷ listed ns) ≡ Ok (name, map decimal_text ns)
words_again name [] = refl
words_again name (n ∷ ns) = refl

-- what is known of a list's servers is known of the ascending list of their set
module _ (so : SoFar) (ws : List (List ℕ)) (file : ℕ) (away : Servers) (h : HasList so ws file away) where
  sorted : List ℕ
  sorted = servers_of (set_of h.list)

  as_sorted : (p : ℕ → Bool) → list_any p h.list ≡ false → list_any p sorted ≡ false
  unfolding sorted
  as_sorted p none =
      ap (list_any p) (servers_are h.list) ∙ any_passing p (has h.list) 128 (λ s there. none_of p h.list s none there)

  sorted_apart : has_twice sorted ≡ false
  unfolding sorted
  sorted_apart = ap has_twice (servers_are h.list) ∙ twice_passing (has h.list) 128

  sorted_is : sorted ≡ servers_of away
  unfolding sorted
  sorted_is = ap servers_of h.away_is

  sorted_set : set_of sorted ≡ away
  unfolding sorted
  sorted_set = set_of-servers_of (set_of h.list) (set_of-lt h.list) ∙ h.away_is

  sorted_in : servers_in so (map decimal_text sorted) ≡ Ok sorted
  sorted_in =
      let small = as_sorted (is_above 4294967295) h.small in
      then (numbers_in (map decimal_text sorted)) _ sorted sorted (numbers_again sorted small)
      (then (within ((list_any (is_above 4294967295) sorted, limit.Number)
      ∷ (leb 1024 so.commands, limit.Commands) ∷ []))
      _ tt sorted
      (cond-false _ _ _ small ∙ cond-false _ _ _ h.room)
      (then (refuse (has_twice sorted) kind.Twice) (λ _. Ok sorted) tt sorted (cond-false _ _ _ sorted_apart) refl))

  operands_again : away_operands so (h.name ∷ listed (servers_of away)) ≡ Ok (file, away)
  operands_again =
      ap (λ ns. away_operands so (h.name ∷ listed ns)) (sym sorted_is)
      ∙ then (away_words (h.name ∷ listed sorted)) _ (h.name, map decimal_text sorted) (file, away)
      (words_again h.name sorted)
      (then (servers_in so (map decimal_text sorted)) _ sorted (file, away) sorted_in
      (then (ok_or (file_number (names_in so.script.files) h.name) kind.NoFile) _ file (file, away)
      (ap (λ o. ok_or o kind.NoFile) h.found)
      (then (refuse (list_any (lacks_server so) sorted) kind.NoServer) (λ _. Ok (file, set_of sorted)) tt (file, away)
      (cond-false _ _ _ (as_sorted (lacks_server so) h.there))
      (ap (λ set. Ok (file, set)) sorted_set))))

  -- the words as they are printed, and as they were read
  list_alike : (v : Verb) → so.script.servers ≤ 128 → knows_servers so.last ≡ true
      → Alike (join_with_byte 32 (verb_text v ∷ ws))
      (join_with_byte 32 (verb_text v ∷ h.name ∷ listed (servers_of away)))
  list_alike v few knows =
      let perm = reordered h.list h.apart (below_128 so h.list few knows h.there) in
      subst (λ (x : List (List ℕ)). Alike (join_with_byte 32 (verb_text v ∷ x))
      (join_with_byte 32 (verb_text v ∷ h.name ∷ listed (servers_of away)))) (sym h.words)
      (go h.list (servers_of away) (subst (λ ns. IsPermutation h.list ns) (ap servers_of h.away_is) perm))
    where
      go : (ns ms : List ℕ) → IsPermutation ns ms
          → Alike (join_with_byte 32 (verb_text v ∷ h.name ∷ listed ns))
          (join_with_byte 32 (verb_text v ∷ h.name ∷ listed ms))
      go [] [] perm = inl refl
      go [] (m ∷ ms) perm = absurd (omega (arith, length_permutation [] (m ∷ ms) perm))
      go (n ∷ ns) [] perm = absurd (omega (arith, length_permutation (n ∷ ns) [] perm))
      go (n ∷ ns) (m ∷ ms) perm = inr (record {
        verb = v;
        name = h.name;
        servers = map decimal_text (n ∷ ns);
        others = map decimal_text (m ∷ ms);
        is = refl;
        other_is = refl;
        same = IsPermutation-map decimal_text (n ∷ ns) (m ∷ ms) perm;
      })

-- ---- words that have neither spaces nor bytes that may not stand in a line

abbrev pub AreFit : List (List ℕ) → Type 0
AreFit words = AllByRecursion (λ word. (is_word word ≡ true) × (is_clean word ≡ true)) words

pub fit_numbers : (ns : List ℕ) → list_any (is_above 4294967295) ns ≡ false → AreFit (map decimal_text ns)
fit_numbers [] h = tt
fit_numbers (n ∷ ns) h =
    let parts = or_parts (ltb 4294967295 n) (list_any (is_above 4294967295) ns) h in
    let le : n ≤ 4294967295 = ltb-false 4294967295 n parts.0 in
    let big : 4294967295 < 2 ^ 64 = lit< tt in
    let small : n < 2 ^ 64 = omega arith in
    ((is_word-decimal_text n small, is_clean-decimal_text n small), fit_numbers ns parts.1)

pub fit_listed : (ns : List ℕ) → list_any (is_above 4294967295) ns ≡ false → AreFit (listed ns)
unfolding is_word is_clean
fit_listed [] h = tt
fit_listed (n ∷ ns) h = ((refl, refl), fit_numbers (n ∷ ns) h)

pub clean_front : (a b : List ℕ) → is_clean (a ++ b) ≡ true → (is_clean a ≡ true) × (is_clean b ≡ true)
unfolding is_clean
clean_front [] b e = (refl, e)
clean_front (x ∷ a) b e =
    let parts = and_parts (is_printable x) (list_all is_printable (a ++ b)) e in
    let rest = clean_front a b parts.1 in
    (and_from (is_printable x) (list_all is_printable a) parts.0 rest.0, rest.1)

pub clean_tail : (x : ℕ) (b : List ℕ) → is_clean (x ∷ b) ≡ true → is_clean b ≡ true
unfolding is_clean
clean_tail x b e = (and_parts (is_printable x) (list_all is_printable b) e).1

pub clean_space : (b : List ℕ) → is_clean b ≡ true → is_clean (32 ∷ b) ≡ true
unfolding is_clean
clean_space b e = e

pub fit_words : (w : List ℕ) (ws : List (List ℕ)) → is_clean (join_with_byte 32 (w ∷ ws)) ≡ true
    → AreWordsAlone (w ∷ ws)
    → AreFit (w ∷ ws)
fit_words w [] clean words = ((words.0, clean), tt)
fit_words w (v ∷ ws) clean words =
    let parts = clean_front w (32 ∷ join_with_byte 32 (v ∷ ws)) clean in
    ((words.0, parts.0), fit_words v ws (clean_tail 32 (join_with_byte 32 (v ∷ ws)) parts.1) words.1)

pub clean_joined : (w : List ℕ) (ws : List (List ℕ)) → AreFit (w ∷ ws) → is_clean (join_with_byte 32 (w ∷ ws)) ≡ true
clean_joined w [] fit = fit.0.1
clean_joined w (v ∷ ws) fit =
    is_clean-append w (32 ∷ join_with_byte 32 (v ∷ ws)) fit.0.1
    (clean_space (join_with_byte 32 (v ∷ ws)) (clean_joined v ws fit.1))

pub words_alone : (ws : List (List ℕ)) → AreFit ws → AreWordsAlone ws
words_alone [] fit = tt
words_alone (w ∷ ws) fit = (fit.0.0, words_alone ws fit.1)

-- ---- commands

-- What is read of a line behind its first word, and how it is printed: the same words, or the servers of a list in
-- another order; what is printed is read again.
pub record IsRead (so : SoFar) (first : LineWord) (ws : List (List ℕ)) (form : Form) : Type 0 where
  pub printed : List (List ℕ)
  pub says : IsSaid (names_in so.script.files) first printed form
  pub again : form_in so first printed ≡ Ok form
  pub fit : AreFit ws → AreFit printed
  pub alike : so.script.servers ≤ 128
      → Alike (join_with_byte 32 (word_text first ∷ ws)) (join_with_byte 32 (word_text first ∷ printed))

pub as_it_is : (so : SoFar) (first : LineWord) (ws : List (List ℕ)) (form : Form) → form_in so first ws ≡ Ok form
    → IsSaid (names_in so.script.files) first ws form → IsRead so first ws form
as_it_is so first ws form e is = record {
  printed = ws;
  says = is;
  again = e;
  fit = λ fit. fit;
  alike = λ few. inl refl;
}

-- a command whose one operand is a file
pub on_file : (so : SoFar) (v : Verb) (ws : List (List ℕ)) (make : ℕ → Act) (form : Form)
    → ((n : ℕ) → verb_of (make n) ≡ v)
    → ((n : ℕ) → behind_verb (names_in so.script.files) (make n) ≡ name_at (names_in so.script.files) n ∷ [])
    → ((n : ℕ) → file_in (make n) ≡ Some n)
    → ((file_operand so ws >>= λ file. Ok (make file)) >>= λ act. Ok (says.Command act)) ≡ Ok form
    → IsSaid (names_in so.script.files) (word.Command v) ws form
on_file so v ws make form verb words file e =
    let names : List (List ℕ) = names_in so.script.files in
    let b = bound (file_operand so ws >>= λ file. Ok (make file)) (λ act. Ok (says.Command act)) form e in
    let a = bound (file_operand so ws) (λ file. Ok (make file)) b.value b.is in
    let act : make a.value ≡ b.value = let n = a.next in cc in
    let is : says.Command (make a.value) ≡ form = ap says.Command act ∙ let n = b.next in cc in
    let of = operand_read so ws a.value a.is in
    subst (IsSaid names (word.Command v) ws) is (record {
      word = ap word.Command (verb a.value);
      text = (λ i. join_with_byte 32 (verb_text (sym (verb a.value) i) ∷ (of.0 ∙ sym (words a.value)) i));
      new = tt;
      known = subst (λ o. IfSome o (λ n. n < length names)) (sym (file a.value)) of.1;
    })

-- a command on a file, with a list of servers
pub with_list : (so : SoFar) (v : Verb) (ws : List (List ℕ)) (make : ℕ → Servers → Act) (form : Form)
    → ((n : ℕ) (away : Servers) → verb_of (make n away) ≡ v)
    → ((n : ℕ) (away : Servers)
    → behind_verb (names_in so.script.files) (make n away)
    ≡ name_at (names_in so.script.files) n ∷ listed (servers_of away))
    → ((n : ℕ) (away : Servers) → file_in (make n away) ≡ Some n)
    → form_in so (word.Command v) ws
    ≡ ((away_operands so ws >>= λ two. Ok (make two.0 two.1)) >>= λ act. Ok (says.Command act))
    → ((name : List ℕ) (list : List ℕ) → form_in so (word.Command v) (name ∷ listed list)
    ≡ ((away_operands so (name ∷ listed list) >>= λ two. Ok (make two.0 two.1)) >>= λ act. Ok (says.Command act)))
    → knows_servers so.last ≡ true → form_in so (word.Command v) ws ≡ Ok form
    → IsRead so (word.Command v) ws form
with_list so v ws make form verb words file reads prints knows e =
    let names : List (List ℕ) = names_in so.script.files in
    let b = bound (away_operands so ws >>= λ two. Ok (make two.0 two.1)) (λ act. Ok (says.Command act)) form
    (sym reads ∙ e) in
    let a = bound (away_operands so ws) (λ two. Ok (make two.0 two.1)) b.value b.is in
    let n : ℕ = a.value.0 in
    let away : Servers = a.value.1 in
    let act : make n away ≡ b.value = let x = a.next in cc in
    let is : says.Command (make n away) ≡ form = ap says.Command act ∙ let x = b.next in cc in
    let h = list_read so ws a.value a.is in
    let found = file_is names h.name n h.found in
    let printed : List (List ℕ) = h.name ∷ listed (servers_of away) in
    subst (IsRead so (word.Command v) ws) is (record {
      printed = printed;
      says = record {
        word = ap word.Command (verb n away);
        text = (λ i. join_with_byte 32 (verb_text (sym (verb n away) i)
            ∷ (ap (λ w. w ∷ listed (servers_of away)) (sym found.0) ∙ sym (words n away)) i));
        new = tt;
        known = subst (λ o. IfSome o (λ m. m < length names)) (sym (file n away)) found.1;
      };
      again = prints h.name (servers_of away)
          ∙ then (away_operands so printed >>= λ two. Ok (make two.0 two.1)) (λ x. Ok (says.Command x)) (make n away)
          (says.Command (make n away))
          (then (away_operands so printed) (λ two. Ok (make two.0 two.1)) (n, away) (make n away)
          (operands_again so ws n away h) refl) refl;
      fit = λ fit. (
        (subst AreFit h.words fit).0,
        fit_listed (servers_of away) (subst (λ ns. list_any (is_above 4294967295) ns ≡ false) (sorted_is so ws n away h)
            (as_sorted so ws n away h (is_above 4294967295) h.small)),
      );
      alike = λ few. list_alike so ws n away h v few knows;
    })

-- a conversion that stops
abbrev stopping : ℕ × ℕ → Act
stopping two = act.Convert two.0 no_servers (Some two.1)

stop_read : (so : SoFar) (ws : List (List ℕ)) (two : List ℕ × List ℕ) (form : Form) → stop_words ws ≡ Some two
    → ((stop_operands so two >>= λ r. Ok (stopping r)) >>= λ act. Ok (says.Command act)) ≡ Ok form
    → IsSaid (names_in so.script.files) (word.Command verb.Convert) ws form
stop_read so ws two form words e =
    let names : List (List ℕ) = names_in so.script.files in
    let a = bound (stop_operands so two >>= λ r. Ok (stopping r)) (λ act. Ok (says.Command act)) form e in
    let b = bound (stop_operands so two) (λ r. Ok (stopping r)) a.value a.is in
    let n = bound (number_in two.1) _ b.value b.is in
    let f = bound (command_fits so) _ b.value n.next in
    let k = bound (ok_or (file_number names two.0) kind.NoFile) (λ file. Ok (file, n.value)) b.value f.next in
    let same : (k.value, n.value) ≡ b.value = let x = k.next in cc in
    let act : stopping b.value ≡ a.value = let x = b.next in cc in
    let is : says.Command (stopping (k.value, n.value)) ≡ form =
    ap (λ r. says.Command (stopping r)) same ∙ ap says.Command act ∙ let x = a.next in cc in
    let found = file_is names two.0 k.value (some_is (file_number names two.0) kind.NoFile k.value k.is) in
    let numbers = number_is two.1 n.value n.is in
    subst (IsSaid names (word.Command verb.Convert) ws) is (record {
      word = refl;
      text = ap (λ x. join_with_byte 32 (codes "convert" ∷ x))
          (stop_is ws two words ∙ (λ i. sym found.0 i ∷ codes "stop" ∷ numbers i ∷ []));
      new = tt;
      known = found.1;
    })

-- the words of a list aren't those of a conversion that stops
none_stops : (name : List ℕ) (list : List ℕ) → stop_words (name ∷ listed list) ≡ None
none_stops name [] = refl
none_stops name (n ∷ []) = refl
none_stops name (n ∷ m ∷ list) = refl

convert_read : (so : SoFar) (ws : List (List ℕ)) (form : Form) → knows_servers so.last ≡ true
    → (o : Option (List ℕ × List ℕ)) → stop_words ws ≡ o → form_in so (word.Command verb.Convert) ws ≡ Ok form
    → IsRead so (word.Command verb.Convert) ws form
convert_read so ws form knows (Some two) words e =
    as_it_is so (word.Command verb.Convert) ws form e
    (stop_read so ws two form words
    (sym (ap (λ o. convert_in so o ws >>= λ act. Ok (says.Command act)) words) ∙ e))
convert_read so ws form knows None words e =
    with_list so verb.Convert ws (λ n a. act.Convert n a None) form (λ n a. refl) (λ n a. refl) (λ n a. refl)
    (ap (λ o. convert_in so o ws >>= λ act. Ok (says.Command act)) words)
    (λ name list. ap (λ o. convert_in so o (name ∷ listed list) >>= λ act. Ok (says.Command act))
    (none_stops name list))
    knows e

pub command_read : (so : SoFar) (v : Verb) (ws : List (List ℕ)) (form : Form) → knows_servers so.last ≡ true
    → form_in so (word.Command v) ws ≡ Ok form → IsRead so (word.Command v) ws form
command_read so verb.Create ws form knows e =
    as_it_is so (word.Command verb.Create) ws form e
    (on_file so verb.Create ws act.Create form (λ n. refl) (λ n. refl) (λ n. refl) e)
command_read so verb.Read ws form knows e =
    with_list so verb.Read ws act.Read form (λ n a. refl) (λ n a. refl) (λ n a. refl) refl (λ n l. refl) knows e
command_read so verb.Hold ws form knows e =
    as_it_is so (word.Command verb.Hold) ws form e
    (on_file so verb.Hold ws act.Hold form (λ n. refl) (λ n. refl) (λ n. refl) e)
command_read so verb.Release ws form knows e =
    as_it_is so (word.Command verb.Release) ws form e
    (on_file so verb.Release ws act.Release form (λ n. refl) (λ n. refl) (λ n. refl) e)
command_read so verb.Repair ws form knows e =
    with_list so verb.Repair ws act.Repair form (λ n a. refl) (λ n a. refl) (λ n a. refl) refl (λ n l. refl) knows e
command_read so verb.Convert ws form knows e = convert_read so ws form knows (stop_words ws) refl e
command_read so verb.Reclaim ws form knows e =
    as_it_is so (word.Command verb.Reclaim) ws form e
    (on_file so verb.Reclaim ws act.Reclaim form (λ n. refl) (λ n. refl) (λ n. refl) e)
command_read so verb.Remove ws form knows e =
    as_it_is so (word.Command verb.Remove) ws form e
    (on_file so verb.Remove ws act.Remove form (λ n. refl) (λ n. refl) (λ n. refl) e)
command_read so verb.Lose ws form knows e =
    let b = bound (server_operand so ws >>= λ server. Ok (act.Lose server)) (λ act. Ok (says.Command act)) form e in
    let a = bound (server_operand so ws) (λ server. Ok (act.Lose server)) b.value b.is in
    let same : act.Lose a.value ≡ b.value = let n = a.next in cc in
    let is : says.Command (act.Lose a.value) ≡ form = ap says.Command same ∙ let n = b.next in cc in
    as_it_is so (word.Command verb.Lose) ws form e
    (subst (IsSaid (names_in so.script.files) (word.Command verb.Lose) ws) is (record {
      word = refl;
      text = ap (λ x. join_with_byte 32 (codes "lose" ∷ x)) (server_read so ws a.value a.is);
      new = tt;
      known = tt;
    }))
command_read so verb.Sweep ws form knows e =
    let b = bound (sweep_operand so ws >>= λ _. Ok act.Sweep) (λ act. Ok (says.Command act)) form e in
    let a = bound (sweep_operand so ws) (λ _. Ok act.Sweep) b.value b.is in
    let n = bound (no_words ws) _ a.value a.is in
    let same : act.Sweep ≡ b.value = let n = a.next in cc in
    let is : says.Command act.Sweep ≡ form = ap says.Command same ∙ let n = b.next in cc in
    as_it_is so (word.Command verb.Sweep) ws form e
    (bare_read (names_in so.script.files) (word.Command verb.Sweep) ws n.value (says.Command act.Sweep) form n.is is
    refl
    refl tt tt)
