-- What is read of the words of a line, of a file line and of a dump line.
use Rattle.std.proofs.Common.{◌≡◌, ℕ, suc, ◌+◌, ◌<◌, Bool, true, false, not, ◌||◌, eqb, ltb, List}
use Rattle.std.proofs.Common.{[], ◌∷◌, ◌++◌, length, map, Option, Some, None, Result, Ok, Err, refl, sym, ap, ◌∙◌}
use Rattle.std.proofs.Common.{subst}
use Rattle.std.proofs.Common.{arith, inl, inr}
use Rattle.std.specs.Prelude.{codes, ok_or, IfSome}
use Rattle.std.specs.List.{find, position_or_len, list_any, join_with_byte}
use Rattle.std.specs.Str.{bytes_eq}
use Rattle.std.proofs.lemmas.Bool.{cases_Bool, cond-true, cond-false}
use Rattle.std.proofs.lemmas.Slice.Eq.{bytes_eq-Decides}
use Rattle.mf_text.specs.Decimal.{decimal_text, decimal_of}
use Rattle.mf_text.specs.Hex.{hex_of}
use Rattle.mf_text.proofs.DecimalLemmas.{decimal_text-from}
use Rattle.mf_text.proofs.HexLemmas.{hex_text-from}
use Rattle.mf_text.proofs.LineLemmas.{position_some}
use Rattle.mf_lines.specs.declared.parts.Kind.{Kind}
use Rattle.mf_lines.specs.declared.parts.Kind.TheVariants as kind
use Rattle.mf_lines.specs.declared.parts.LimitName.TheVariants as limit
use Rattle.mf_lines.specs.declared.parts.Content.{Content}
use Rattle.mf_lines.specs.declared.parts.Content.TheVariants as given
use Rattle.mf_lines.specs.declared.words.LineWord.{LineWord}
use Rattle.mf_lines.specs.declared.words.LineWord.TheVariants as word
use Rattle.mf_lines.specs.declared.words.ContentWord.{ContentWord}
use Rattle.mf_lines.specs.declared.words.ContentWord.TheVariants as content
use Rattle.mf_lines.specs.declared.forms.Form.{Form}
use Rattle.mf_lines.specs.declared.forms.Form.TheVariants as says
use Rattle.mf_lines.specs.Words.{◌>>=◌, refuse, word_text, line_words, word_of, content_text}
use Rattle.mf_lines.specs.Words.{content_words, content_word_of, no_words, one_word, two_words, three_words, spelled}
use Rattle.mf_lines.specs.Words.{small, number_in}
use Rattle.mf_lines.specs.Meaning.{SoFar, names_in, main_of, file_in, first_word}
use Rattle.mf_lines.specs.Lines.{within, servers_form, chunk_form, is_above, numbers_in, points_in, points_form}
use Rattle.mf_lines.specs.Lines.{are_thresholds, policy_form, tick_form}
use Rattle.mf_lines.specs.Lines.{stage_form, has_name, file_number, text_in, hex_in, pattern_in, content_in}
use Rattle.mf_lines.specs.Lines.{file_limits, file_form, file_operand, dump_form}
use Rattle.mf_lines.specs.Lines.{command_fits, lacks_server, server_operand, stop_words}
use Rattle.mf_lines.specs.LineTexts.{content_word, behind_content, name_at, behind_word}

-- ---- what was had on the way to what is had

pub record Bound {A B : Type 0} (r : Result A Kind) (f : A → Result B Kind) (x : B) : Type 0 where
  pub value : A
  pub is : r ≡ Ok value
  pub next : f value ≡ Ok x

pub bound : {A B : Type 0} (r : Result A Kind) (f : A → Result B Kind) (x : B) → (r >>= f) ≡ Ok x → Bound r f x
bound (Ok a) f x e = record { value = a; is = refl; next = e }
bound (Err k) f x e = absurd cc

pub some_is : {A : Type 0} (o : Option A) (k : Kind) (x : A) → ok_or o k ≡ Ok x → o ≡ Some x
some_is (Some y) k x e = let same : y ≡ x = cc in ap Some same
some_is None k x e = absurd cc

pub not_refused : (b : Bool) (k : Kind) (u : Unit {0}) → refuse b k ≡ Ok u → b ≡ false
not_refused true k u e = absurd cc
not_refused false k u e = refl

-- ---- words

pub none_is : (ws : List (List ℕ)) (u : Unit {0}) → no_words ws ≡ Ok u → ws ≡ []
none_is [] u e = refl
none_is (w ∷ ws) u e = absurd cc

pub one_is : (ws : List (List ℕ)) (w : List ℕ) → one_word ws ≡ Ok w → ws ≡ w ∷ []
one_is [] w e = absurd cc
one_is (a ∷ []) w e = let same : a ≡ w = cc in ap (λ x. x ∷ []) same
one_is (a ∷ b ∷ ws) w e = absurd cc

pub two_is : (ws : List (List ℕ)) (two : List ℕ × List ℕ) → two_words ws ≡ Ok two → ws ≡ two.0 ∷ two.1 ∷ []
two_is [] two e = absurd cc
two_is (a ∷ []) two e = absurd cc
two_is (a ∷ b ∷ []) two e = let same : (a, b) ≡ two = cc in ap (λ (t : List ℕ × List ℕ). t.0 ∷ t.1 ∷ []) same
two_is (a ∷ b ∷ c ∷ ws) two e = absurd cc

pub three_is : (ws : List (List ℕ)) (three : List ℕ × List ℕ × List ℕ) → three_words ws ≡ Ok three
    → ws ≡ three.0 ∷ three.1 ∷ three.2 ∷ []
three_is [] three e = absurd cc
three_is (a ∷ []) three e = absurd cc
three_is (a ∷ b ∷ []) three e = absurd cc
three_is (a ∷ b ∷ c ∷ []) three e =
    let same : (a, b, c) ≡ three = cc in ap (λ (t : List ℕ × List ℕ × List ℕ). t.0 ∷ t.1 ∷ t.2 ∷ []) same
three_is (a ∷ b ∷ c ∷ d ∷ ws) three e = absurd cc

-- a name and a number with `stop` between them
pub stop_is : (ws : List (List ℕ)) (two : List ℕ × List ℕ) → stop_words ws ≡ Some two
    → ws ≡ two.0 ∷ codes "stop" ∷ two.1 ∷ []
stop_is [] two e = absurd cc
stop_is (a ∷ []) two e = absurd cc
stop_is (a ∷ b ∷ []) two e = absurd cc
stop_is (a ∷ b ∷ c ∷ []) two e =
    elim (cases_Bool (bytes_eq b (codes "stop"))) [
      | inl holds ↦
          let at = sym (cond-true _ _ _ holds) ∙ e in
          let same : (a, c) ≡ two = cc in
          (λ i. a ∷ (bytes_eq-Decides b (codes "stop")).0 holds i ∷ c ∷ [])
          ∙ ap (λ (t : List ℕ × List ℕ). t.0 ∷ codes "stop" ∷ t.1 ∷ []) same
      | inr fails ↦ let at = sym (cond-false _ _ _ fails) ∙ e in absurd cc
    ]
stop_is (a ∷ b ∷ c ∷ d ∷ ws) two e = absurd cc

-- what is found passes
pub find_passes : {X : Type 0} (p : X → Bool) (xs : List X) (x : X) → find p xs ≡ Some x → p x ≡ true
find_passes p [] x e = absurd cc
find_passes p (y ∷ ys) x e =
    elim (cases_Bool (p y)) [
      | inl holds ↦
          let at = sym (cond-true _ _ _ holds) ∙ e in
          let is : y ≡ x = cc in
          subst (λ z. p z ≡ true) is holds
      | inr fails ↦ find_passes p ys x (sym (cond-false _ _ _ fails) ∙ e)
    ]

pub word_is : (bytes : List ℕ) (x : LineWord) → word_of bytes ≡ Some x → bytes ≡ word_text x
unfolding word_of
word_is bytes x e =
    (bytes_eq-Decides bytes (word_text x)).0 (find_passes (λ w. bytes_eq bytes (word_text w)) line_words x e)

pub content_is : (bytes : List ℕ) (x : ContentWord) → content_word_of bytes ≡ Some x → bytes ≡ content_text x
unfolding content_word_of
content_is bytes x e =
    (bytes_eq-Decides bytes (content_text x)).0 (find_passes (λ w. bytes_eq bytes (content_text w)) content_words x e)

-- ---- numbers

pub spelled_is : (w : List ℕ) (n : ℕ) → spelled w ≡ Ok n → w ≡ decimal_text n
spelled_is w n e = (decimal_text-from w n (some_is (decimal_of w) kind.Number n e)).0

pub small_is : (m n : ℕ) → small m ≡ Ok n → m ≡ n
small_is m n e =
    elim (cases_Bool (ltb 4294967295 m)) [
      | inl holds ↦ let at = sym (cond-true _ _ _ holds) ∙ e in absurd cc
      | inr fails ↦ let at = sym (cond-false _ _ _ fails) ∙ e in cc
    ]

pub number_is : (w : List ℕ) (n : ℕ) → number_in w ≡ Ok n → w ≡ decimal_text n
number_is w n e =
    let b = bound (spelled w) small n e in
    spelled_is w b.value b.is ∙ ap decimal_text (small_is b.value n b.next)

pub numbers_are : (ws : List (List ℕ)) (ns : List ℕ) → numbers_in ws ≡ Ok ns → ws ≡ map decimal_text ns
numbers_are [] ns e = let same : [] ≡ ns = cc in ap (map decimal_text) same
numbers_are (w ∷ ws) ns e =
    let a = bound (spelled w) (λ n. numbers_in ws >>= λ more. Ok (n ∷ more)) ns e in
    let b = bound (numbers_in ws) (λ more. Ok (a.value ∷ more)) ns a.next in
    let same : a.value ∷ b.value ≡ ns = let n = b.next in cc in
    (λ i. spelled_is w a.value a.is i ∷ numbers_are ws b.value b.is i) ∙ ap (map decimal_text) same

-- ---- names

-- a file's number is that of its name
pub found_is : (names : List (List ℕ)) (w : List ℕ) → position_or_len (bytes_eq w) names < length names
    → name_at names (position_or_len (bytes_eq w) names) ≡ w
found_is [] w lt = absurd (omega arith)
found_is (name ∷ names) w lt =
    elim (cases_Bool (bytes_eq w name)) [
      | inl holds ↦
          let at : position_or_len (bytes_eq w) (name ∷ names) ≡ 0 = cond-false _ _ _ (ap not holds) in
          ap (name_at (name ∷ names)) at ∙ sym ((bytes_eq-Decides w name).0 holds)
      | inr fails ↦
          let at : position_or_len (bytes_eq w) (name ∷ names) ≡ 1 + position_or_len (bytes_eq w) names =
          cond-true _ _ _ (ap not fails) in
          let next : 1 + position_or_len (bytes_eq w) names ≡ suc (position_or_len (bytes_eq w) names) = omega arith in
          ap (name_at (name ∷ names)) (at ∙ next) ∙ found_is names w (omega arith)
    ]

pub file_is : (names : List (List ℕ)) (w : List ℕ) (n : ℕ) → file_number names w ≡ Some n
    → (name_at names n ≡ w) × (n < length names)
file_is names w n e =
    let at = position_some (bytes_eq w) names n e in
    let same = at.1 in
    (ap (name_at names) (sym at.1) ∙ found_is names w (omega (arith, at.0)), at.0)

-- ---- what is read of a line behind its first word

-- a file line has a name that no earlier one has
abbrev pub NewName : List (List ℕ) → Form → Type 0
NewName names (says.File file) = has_name names file.name ≡ false
NewName names form = Unit {0}

-- a command is on a file that stands before it, or on none
abbrev pub KnowsFile : List (List ℕ) → Form → Type 0
KnowsFile names (says.Command act) = IfSome (file_in act) (λ file. file < length names)
KnowsFile names (says.Dump file) = file < length names
KnowsFile names form = Unit {0}

pub record IsSaid (names : List (List ℕ)) (first : LineWord) (ws : List (List ℕ)) (form : Form) : Type 0 where
  pub word : first_word form ≡ first
  pub text : join_with_byte 32 (word_text first ∷ ws) ≡ join_with_byte 32
      (word_text (first_word form) ∷ behind_word names form)
  pub new : NewName names form
  pub known : KnowsFile names form

-- a line of no words but the first
pub bare_read : (names : List (List ℕ)) (first : LineWord) (ws : List (List ℕ)) (u : Unit {0}) (plain form : Form)
    → no_words ws ≡ Ok u → plain ≡ form → first_word plain ≡ first → behind_word names plain ≡ []
    → NewName names plain → KnowsFile names plain → IsSaid names first ws form
bare_read names first ws u plain form e is word none new known =
    subst (IsSaid names first ws) is (record {
      word = word;
      text = (λ i. join_with_byte 32 (word_text (sym word i) ∷ (none_is ws u e ∙ sym none) i));
      new = new;
      known = known;
    })

pub servers_read : (names : List (List ℕ)) (ws : List (List ℕ)) (form : Form) → servers_form ws ≡ Ok form
    → IsSaid names word.Servers ws form
servers_read names ws form e =
    let a = bound (one_word ws) (λ w. number_in w >>= λ n. Ok (says.Servers n)) form e in
    let b = bound (number_in a.value) (λ n. Ok (says.Servers n)) form a.next in
    let is : says.Servers b.value ≡ form = let n = b.next in cc in
    let words = one_is ws a.value a.is ∙ ap (λ w. w ∷ []) (number_is a.value b.value b.is) in
    subst (IsSaid names word.Servers ws) is (record {
      word = refl;
      text = ap (λ x. join_with_byte 32 (codes "servers" ∷ x)) words;
      new = tt;
      known = tt;
    })

pub chunk_read : (names : List (List ℕ)) (ws : List (List ℕ)) (form : Form) → chunk_form ws ≡ Ok form
    → IsSaid names word.Chunk ws form
chunk_read names ws form e =
    let a = bound (one_word ws) _ form e in
    let b = bound (number_in a.value) _ form a.next in
    let c = bound (within ((eqb b.value 0 || ltb 65536 b.value, limit.Chunk) ∷ []))
    (λ _. Ok (says.Chunk b.value)) form b.next in
    let is : says.Chunk b.value ≡ form = let n = c.next in cc in
    let words = one_is ws a.value a.is ∙ ap (λ w. w ∷ []) (number_is a.value b.value b.is) in
    subst (IsSaid names word.Chunk ws) is (record {
      word = refl;
      text = ap (λ x. join_with_byte 32 (codes "chunk" ∷ x)) words;
      new = tt;
      known = tt;
    })

pub points_read : (names : List (List ℕ)) (ws : List (List ℕ)) (form : Form) → points_form ws ≡ Ok form
    → IsSaid names word.Points ws form
points_read names [] form e = absurd cc
points_read names (w ∷ ws) form e =
    let a = bound (numbers_in (w ∷ ws)) points_in form e in
    let b = bound
    (within ((list_any (is_above 4294967295) a.value, limit.Number) ∷
    (list_any (is_above 255) a.value, limit.Point) ∷ (ltb 4 (length a.value), limit.Points) ∷ []))
    (λ _. Ok (says.Points a.value)) form a.next in
    let is : says.Points a.value ≡ form = let n = b.next in cc in
    subst (IsSaid names word.Points (w ∷ ws)) is (record {
      word = refl;
      text =
          ap (λ x. join_with_byte 32 (codes "points" ∷ x)) (numbers_are (w ∷ ws) a.value a.is);
      new = tt;
      known = tt;
    })

pub stage_read : (names : List (List ℕ)) (ws : List (List ℕ)) (form : Form) → stage_form ws ≡ Ok form
    → IsSaid names word.Stage ws form
stage_read names ws form e =
    let t = bound (three_words ws) _ form e in
    let k = bound (spelled t.value.0) _ form t.next in
    let r = bound (spelled t.value.1) _ form k.next in
    let c = bound (spelled t.value.2) _ form r.next in
    let small_k = bound (small k.value) _ form c.next in
    let small_r = bound (small r.value) _ form small_k.next in
    let small_c =
    bound (small c.value)
    (λ x. Ok (says.Stage (record { width = small_k.value; parities = small_r.value; copies = x }))) form
    small_r.next in
    let is : says.Stage (record {
      width =
          small_k.value;
      parities = small_r.value;
      copies = small_c.value;
    }) ≡ form = let n = small_c.next in cc in
    let words : ws ≡ decimal_text small_k.value ∷ decimal_text small_r.value ∷ decimal_text small_c.value ∷ [] =
    three_is ws t.value t.is
    ∙ (λ i. spelled_is t.value.0 k.value k.is i ∷ spelled_is t.value.1 r.value r.is i
    ∷ spelled_is t.value.2 c.value c.is i ∷ [])
    ∙ (λ i. decimal_text (small_is k.value small_k.value small_k.is i) ∷ decimal_text
    (small_is r.value small_r.value small_r.is i) ∷ decimal_text
    (small_is c.value small_c.value small_c.is i) ∷ []) in
    subst (IsSaid names word.Stage ws) is (record {
      word = refl;
      text = ap (λ x. join_with_byte 32 (codes "stage" ∷ x)) words;
      new = tt;
      known = tt;
    })

pub policy_read : (so : SoFar) (ws : List (List ℕ)) (form : Form) → policy_form so ws ≡ Ok form
    → IsSaid (names_in so.script.files) word.Policy ws form
policy_read so ws form e =
    let many : ℕ = length (main_of so.script).stages in
    let some = bound (refuse (eqb many 0) kind.Arity) _ form e in
    let same = bound (refuse (not (eqb (length ws) many)) kind.Arity) _ form some.next in
    let a = bound (numbers_in ws) _ form same.next in
    let b = bound (within ((list_any (is_above 1000000000) a.value, limit.Tick) ∷ [])) _ form a.next in
    let c = bound (refuse (not (are_thresholds a.value)) kind.Order) (λ _. Ok (says.Policy a.value)) form b.next in
    let is : says.Policy a.value ≡ form = let n = c.next in cc in
    subst (IsSaid (names_in so.script.files) word.Policy ws) is (record {
      word = refl;
      text = ap (λ x. join_with_byte 32 (codes "policy" ∷ x)) (numbers_are ws a.value a.is);
      new = tt;
      known = tt;
    })

pub tick_read : (names : List (List ℕ)) (ws : List (List ℕ)) (form : Form) → tick_form ws ≡ Ok form
    → IsSaid names word.Tick ws form
tick_read names ws form e =
    let a = bound (one_word ws) _ form e in
    let b = bound (spelled a.value) _ form a.next in
    let c = bound (within ((ltb 1000000000 b.value, limit.Tick) ∷ [])) (λ _. Ok (says.Tick b.value)) form b.next in
    let is : says.Tick b.value ≡ form = let n = c.next in cc in
    let words = one_is ws a.value a.is ∙ ap (λ w. w ∷ []) (spelled_is a.value b.value b.is) in
    subst (IsSaid names word.Tick ws) is (record {
      word = refl;
      text = ap (λ x. join_with_byte 32 (codes "tick" ∷ x)) words;
      new = tt;
      known = tt;
    })

-- the content's word and what stands behind it
pub record IsGiven (first : ContentWord) (ws : List (List ℕ)) (given : Content) : Type 0 where
  pub word : content_word given ≡ first
  pub text : join_with_byte 32 (content_text first ∷ ws) ≡ join_with_byte 32
      (content_text (content_word given) ∷ behind_content given)

pub text_read : (ws : List (List ℕ)) (read : Content) → text_in ws ≡ Ok read → IsGiven content.Text ws read
text_read [] read e = absurd cc
text_read ([] ∷ []) read e = absurd cc
text_read ((x ∷ w) ∷ []) read e =
    let is : given.Text (x ∷ w) ≡ read =
    cc in subst (IsGiven content.Text ((x ∷ w) ∷ [])) is (record { word = refl; text = refl })
text_read ([] ∷ v ∷ ws) read e =
    let is : given.Text (join_with_byte 32 ([] ∷ v ∷ ws)) ≡ read =
    cc in subst (IsGiven content.Text ([] ∷ v ∷ ws)) is (record { word = refl; text = refl })
text_read ((x ∷ w) ∷ v ∷ ws) read e =
    let is : given.Text (join_with_byte 32 ((x ∷ w) ∷ v ∷ ws)) ≡ read =
    cc in subst (IsGiven content.Text ((x ∷ w) ∷ v ∷ ws)) is (record { word = refl; text = refl })

pub hex_read : (ws : List (List ℕ)) (read : Content) → hex_in ws ≡ Ok read → IsGiven content.Hex ws read
hex_read ws read e =
    let a = bound (one_word ws) _ read e in
    let b = bound (ok_or (hex_of a.value) kind.Number) (λ bytes. Ok (given.Hex bytes)) read a.next in
    let is : given.Hex b.value ≡ read = let n = b.next in cc in
    let words =
    one_is ws a.value a.is
    ∙ ap (λ w. w ∷ []) (hex_text-from a.value b.value (some_is (hex_of a.value) kind.Number b.value b.is)) in
    subst (IsGiven content.Hex ws) is (record {
      word = refl;
      text = ap (λ x. join_with_byte 32 (codes "hex" ∷ x)) words;
    })

pub pattern_read : (ws : List (List ℕ)) (read : Content) → pattern_in ws ≡ Ok read → IsGiven content.Pattern ws read
pattern_read ws read e =
    let t = bound (two_words ws) _ read e in
    let n = bound (spelled t.value.0) _ read t.next in
    let s = bound (spelled t.value.1) _ read n.next in
    let small_n = bound (small n.value) _ read s.next in
    let small_s = bound (small s.value) (λ x. Ok (given.Pattern small_n.value x)) read small_n.next in
    let is : given.Pattern small_n.value small_s.value ≡ read = let x = small_s.next in cc in
    let words : ws ≡ decimal_text small_n.value ∷ decimal_text small_s.value ∷ [] =
    two_is ws t.value t.is
    ∙ (λ i. spelled_is t.value.0 n.value n.is i ∷ spelled_is t.value.1 s.value s.is i ∷ [])
    ∙ (λ i. decimal_text (small_is n.value small_n.value small_n.is i) ∷ decimal_text
    (small_is s.value small_s.value small_s.is i) ∷ []) in
    subst (IsGiven content.Pattern ws) is (record {
      word = refl;
      text = ap (λ x. join_with_byte 32 (codes "pattern" ∷ x)) words;
    })

pub content_read : (first : ContentWord) (ws : List (List ℕ)) (read : Content) → content_in first ws ≡ Ok read
    → IsGiven first ws read
content_read content.Empty ws read e =
    let a = bound (no_words ws) (λ _. Ok given.Empty) read e in
    let is : given.Empty ≡ read = let n = a.next in cc in
    subst (IsGiven content.Empty ws) is (record {
      word = refl;
      text = ap (λ x. join_with_byte 32 (codes "empty" ∷ x)) (none_is ws a.value a.is);
    })
content_read content.Text ws read e = text_read ws read e
content_read content.Hex ws read e = hex_read ws read e
content_read content.Pattern ws read e = pattern_read ws read e

pub file_read : (so : SoFar) (ws : List (List ℕ)) (form : Form) → file_form so ws ≡ Ok form
    → IsSaid (names_in so.script.files) word.File ws form
file_read so [] form e = absurd cc
file_read so (name ∷ []) form e = absurd cc
file_read so (name ∷ w ∷ ws) form e =
    let a = bound (ok_or (content_word_of w) kind.Unknown) _ form e in
    let b = bound (content_in a.value ws) _ form a.next in
    let c = bound (within (file_limits so name b.value)) _ form b.next in
    let d = bound (refuse (has_name (names_in so.script.files) name) kind.Twice)
    (λ _. Ok (says.File (record { name = name; content = b.value }))) form c.next in
    let is : says.File (record { name = name; content = b.value }) ≡ form = let n = d.next in cc in
    let spelling = content_is w a.value (some_is (content_word_of w) kind.Unknown a.value a.is) in
    let read = content_read a.value ws b.value b.is in
    subst (IsSaid (names_in so.script.files) word.File (name ∷ w ∷ ws)) is (record {
      word = refl;
      text = ap (λ x. codes "file" ++ 32 ∷ (name ++ 32 ∷ x)) (ap (λ x. join_with_byte 32 (x ∷ ws)) spelling
          ∙ read.text);
      new = not_refused (has_name (names_in so.script.files) name) kind.Twice d.value d.is;
      known = tt;
    })

-- ---- commands

pub operand_read : (so : SoFar) (ws : List (List ℕ)) (n : ℕ) → file_operand so ws ≡ Ok n
    → (ws ≡ name_at (names_in so.script.files) n ∷ []) × (n < length (names_in so.script.files))
operand_read so ws n e =
    let a = bound (one_word ws) _ n e in
    let b = bound (command_fits so)
    (λ _. ok_or (file_number (names_in so.script.files) a.value) kind.NoFile) n a.next in
    let found =
    file_is (names_in so.script.files) a.value n
    (some_is (file_number (names_in so.script.files) a.value) kind.NoFile n b.next) in
    (one_is ws a.value a.is ∙ ap (λ w. w ∷ []) (sym found.0), found.1)

pub server_read : (so : SoFar) (ws : List (List ℕ)) (n : ℕ) → server_operand so ws ≡ Ok n → ws ≡ decimal_text n ∷ []
server_read so ws n e =
    let a = bound (one_word ws) _ n e in
    let b = bound (number_in a.value) _ n a.next in
    let c = bound (command_fits so) _ n b.next in
    let d = bound (refuse (lacks_server so b.value) kind.NoServer) (λ _. Ok b.value) n c.next in
    let is : b.value ≡ n = let x = d.next in cc in
    one_is ws a.value a.is ∙ ap (λ w. w ∷ []) (number_is a.value b.value b.is ∙ ap decimal_text is)

-- ---- dumps

pub dump_read : (so : SoFar) (ws : List (List ℕ)) (form : Form) → dump_form so ws ≡ Ok form
    → IsSaid (names_in so.script.files) word.Dump ws form
dump_read so ws form e =
    let names : List (List ℕ) = names_in so.script.files in
    let a = bound (one_word ws) _ form e in
    let b = bound (ok_or (file_number names a.value) kind.NoFile) _ form a.next in
    let c = bound (refuse (list_any (λ other. eqb b.value other) so.script.dumps) kind.Twice)
    (λ _. Ok (says.Dump b.value)) form b.next in
    let is : says.Dump b.value ≡ form = let n = c.next in cc in
    let found = file_is names a.value b.value (some_is (file_number names a.value) kind.NoFile b.value b.is) in
    subst (IsSaid names word.Dump ws) is (record {
      word = refl;
      text = ap (λ x. join_with_byte 32 (codes "dump" ∷ x)) (one_is ws a.value a.is ∙ ap (λ w. w ∷ []) (sym found.0));
      new = tt;
      known = found.1;
    })
