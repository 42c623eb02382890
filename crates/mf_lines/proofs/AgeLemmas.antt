-- Thresholds and ticks, as lines give them, clients and sweeps.
use Rattle.std.proofs.Common.{◌≡◌, ℕ, zero, suc, ◌+◌, ◌<◌, ◌≤◌, Bool, true, false, not, eqb, ltb, leb, List, [], ◌∷◌}
use Rattle.std.proofs.Common.{length, refl, sym, ap, ◌∙◌, subst, arith, Ok}
use Rattle.std.specs.Prelude.{slice_index, is_some}
use Rattle.std.specs.List.{list_any}
use Rattle.std.proofs.lemmas.Bool.{and_parts, ltb-true, ltb-false, leb-false, eqb-true, not-false}
use Rattle.std.proofs.lemmas.List.{length-map}
use Rattle.mf_text.specs.Decimal.{decimal_text}
use Rattle.mf_policy.specs.Policies.{IsPolicy}
use Rattle.mf_lines.specs.declared.parts.Act.TheVariants as act
use Rattle.mf_lines.specs.declared.parts.Kind.TheVariants as kind
use Rattle.mf_lines.specs.declared.parts.LimitName.{LimitName}
use Rattle.mf_lines.specs.declared.parts.LimitName.TheVariants as limit
use Rattle.mf_lines.specs.declared.words.Verb.TheVariants as verb
use Rattle.mf_lines.specs.declared.words.LineWord.{LineWord}
use Rattle.mf_lines.specs.declared.words.LineWord.TheVariants as word
use Rattle.mf_lines.specs.declared.forms.Form.{Form}
use Rattle.mf_lines.specs.declared.forms.Form.TheVariants as says
use Rattle.mf_lines.specs.Words.{◌>>=◌, refuse, no_words, one_word, spelled}
use Rattle.mf_lines.specs.Meaning.{SoFar, main_of, first_word}
use Rattle.mf_lines.specs.Lines.{within, is_above, command_fits, numbers_in, rises_behind, are_thresholds, policy_form}
use Rattle.mf_lines.specs.Lines.{tick_form, client_form, sweep_operand, form_in}
use Rattle.mf_lines.proofs.LineWordLemmas.{bound, not_refused, numbers_are}

rises : (last : ℕ) (ns : List ℕ) (k : ℕ) → rises_behind last ns ≡ true → suc k < length (last ∷ ns)
    → slice_index (last ∷ ns) k < slice_index (last ∷ ns) (suc k)
rises last [] k e low = absurd (omega arith)
rises last (n ∷ ns) zero e low = ltb-true last n (and_parts (ltb last n) (rises_behind n ns) e).0
rises last (n ∷ ns) (suc k) e low = rises n ns k (and_parts (ltb last n) (rises_behind n ns) e).1 (omega arith)

pub is_policy : (ns : List ℕ) → are_thresholds ns ≡ true → length ns ≤ 4294967295 → IsPolicy ns
is_policy [] e few = absurd cc
is_policy (n ∷ ns) e few =
    let parts = and_parts (eqb n 0) (rises_behind n ns) e in
    record {
      some = omega arith;
      first = eqb-true n 0 parts.0;
      rise = λ k low. subst (λ next. slice_index (n ∷ ns) k < slice_index (n ∷ ns) next)
          (let next : suc k ≡ k + 1 = omega
          arith in next) (rises n ns k parts.1 (omega arith));
      few = few;
    }

-- as many numbers as words
pub many_numbers : (words : List (List ℕ)) (ns : List ℕ) → numbers_in words ≡ Ok ns → length ns ≡ length words
many_numbers words ns e = sym (ap length (numbers_are words ns e) ∙ length-map ns decimal_text)

-- ---- ticks, clients and sweeps

pub within_one : (p : Bool) (l : LimitName) (u : Unit {0}) → within ((p, l) ∷ []) ≡ Ok u → p ≡ false
within_one true l u e = absurd cc
within_one false l u e = refl

pub tick_small : (ws : List (List ℕ)) (ticks : ℕ) → tick_form ws ≡ Ok (says.Tick ticks) → ticks ≤ 1000000000
tick_small ws ticks e =
    let a = bound (one_word ws) _ (says.Tick ticks) e in
    let b = bound (spelled a.value) _ (says.Tick ticks) a.next in
    let c = bound (within ((ltb 1000000000 b.value, limit.Tick) ∷ [])) (λ _. Ok (says.Tick b.value)) (says.Tick ticks)
    b.next in
    let form : says.Tick b.value ≡ says.Tick ticks = let n = c.next in cc in
    let same : b.value ≡ ticks = cc in
    let low = ltb-false 1000000000 b.value (within_one (ltb 1000000000 b.value) limit.Tick c.value c.is) in
    omega (arith, same, low)

pub client_room : (so : SoFar) (ws : List (List ℕ)) (form : Form) → client_form so ws ≡ Ok form → so.clients < 8
client_room so ws form e =
    let a = bound (no_words ws) _ form e in
    let b = bound (within ((leb 8 so.clients, limit.Clients) ∷ [])) (λ _. Ok says.Client) form a.next in
    leb-false 8 so.clients (within_one (leb 8 so.clients) limit.Clients b.value b.is)

pub sweep_known : (so : SoFar) (ws : List (List ℕ)) (form : Form) → form_in so (word.Command verb.Sweep) ws ≡ Ok form
    → is_some so.script.policy ≡ true
sweep_known so ws form e =
    let b = bound (sweep_operand so ws >>= λ _. Ok act.Sweep) (λ act. Ok (says.Command act)) form e in
    let a = bound (sweep_operand so ws) (λ _. Ok act.Sweep) b.value b.is in
    let n = bound (no_words ws) _ a.value a.is in
    let f = bound (command_fits so) _ a.value n.next in
    not-false (is_some so.script.policy)
    (not_refused (not (is_some so.script.policy)) kind.Order a.value f.next)

pub policy_many : (so : SoFar) (ws : List (List ℕ)) (thresholds : List ℕ)
    → policy_form so ws ≡ Ok (says.Policy thresholds) → length thresholds ≡ length (main_of so.script).stages
policy_many so ws thresholds e =
    let many : ℕ = length (main_of so.script).stages in
    let some = bound (refuse (eqb many 0) kind.Arity) _ (says.Policy thresholds) e in
    let same = bound (refuse (not (eqb (length ws) many)) kind.Arity) _ (says.Policy thresholds) some.next in
    let a = bound (numbers_in ws) _ (says.Policy thresholds) same.next in
    let b = bound (within ((list_any (is_above 1000000000) a.value, limit.Tick) ∷ [])) _ (says.Policy thresholds)
    a.next in
    let c = bound (refuse (not (are_thresholds a.value)) kind.Order) (λ _. Ok (says.Policy a.value))
    (says.Policy thresholds) b.next in
    let form : says.Policy a.value ≡ says.Policy thresholds = let n = c.next in cc in
    let is : a.value ≡ thresholds = cc in
    ap length (sym is) ∙ many_numbers ws a.value a.is
    ∙ eqb-true (length ws) many
    (not-false (eqb (length ws) many) (not_refused (not (eqb (length ws) many)) kind.Arity same.value same.is))
