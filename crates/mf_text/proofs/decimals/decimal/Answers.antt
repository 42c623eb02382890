use Rattle.std.proofs.Common.{◌≡◌, ◌∙◌, subst, List, ℕ}
use Rattle.std.specs.Str.{IsUtf8, IsValidUpTo, valid_up_to}
use Rattle.std.specs.Str.Parse.{ParsesUnsigned}
use Rattle.std.proofs.lemmas.Bool.{both_ways}
use Rattle.mf_text.proofs.DecimalLemmas.{decimal_of-other, decimal_of-not_text, decimal_of-parse, decimal_some}
use Rattle.mf_text.proofs.DecimalLemmas.{decimal_none, decimal_back, from_none, from_some}
use Rattle.mf_text.proofs.decimals.decimal.Goals as goal

pub returns-then-not-leads : goal.returns-then-not-leads
returns-then-not-leads c =
    let e = decimal_of-other c.args.word.now
    (λ leads. both_ways c.leads.result c.if-not-leads.true (c.leads.ensures.1 leads)) in
    record {
      value = e;
      some = tt;
      none = decimal_none _ c.args.word.now e;
      reads_back = decimal_back _ c.args.word.now
          e;
    }

pub returns-in_err-ok : goal.returns-in_err-ok
returns-in_err-ok c =
    let other = from_none c.from_utf8.result (λ s. (s.now ≡ c.args.word.now) × IsUtf8 c.args.word.now)
    (¬ (IsUtf8 c.args.word.now)) (λ e. IsValidUpTo c.args.word.now (valid_up_to e)) c.in_err-ok.ensures.variant
    c.from_utf8.ensures.cases in
    let e = c.from_residual.ensures ∙ decimal_of-not_text c.args.word.now other in
    record {
      value = e;
      some = decimal_some _ c.args.word.now e;
      none = decimal_none _ c.args.word.now e;
      reads_back =
          decimal_back _ c.args.word.now e;
    }

pub returns : goal.returns
returns c =
    let text = from_some c.from_utf8.result (λ s. (s.now ≡ c.args.word.now) × IsUtf8 c.args.word.now)
    (λ e. ¬ (IsUtf8 c.args.word.now) × IsValidUpTo c.args.word.now (valid_up_to e)) c.in_ok-ok.field-0
    c.in_ok-ok.ensures.value c.from_utf8.ensures.cases in
    let leads = c.leads.ensures.0 c.if-not-leads.false in
    let e = c.ok-2.ensures.value
    ∙ decimal_of-parse c.args.word.now c.parse.result leads
    (subst (λ (t : List ℕ). ParsesUnsigned 64 10 t c.parse.result) text.0 c.parse.ensures.value.0) in
    record {
      value = e;
      some = decimal_some _ c.args.word.now e;
      none = decimal_none _ c.args.word.now e;
      reads_back =
          decimal_back _ c.args.word.now e;
    }
