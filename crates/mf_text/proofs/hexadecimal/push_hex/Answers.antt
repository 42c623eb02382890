use Rattle.std.proofs.Common.{◌∙◌, sym, rules}
use Rattle.std.proofs.lemmas.Bool.{cond-true}
use Rattle.std.proofs.lemmas.List.{append-nil}
use Rattle.mf_text.specs.Hex.{hex_text}
use Rattle.mf_text.proofs.HexLemmas.{hex_text_more}
use Rattle.mf_text.proofs.hexadecimal.push_hex.Goals as goal

pub loop-byte-init : goal.loop-byte-init
unfolding hex_text
loop-byte-init c = (search rules, sym (append-nil c.args.out.now.items))

pub loop-byte-preserved : goal.loop-byte-preserved
loop-byte-preserved c = (
  c.loop-byte.invariant.0,
  c.extend_from_slice.ensures.items ∙ cond-true _ _ _ c.if-is_err.ensures.negation
      ∙ rw (c.digit_of.ensures, c.digit_of-in-loop-byte.ensures, c.loop-byte.invariant.1)
      (hex_text_more c.args.out.now.items c.args.bytes.now c.loop-byte.byte-index c.loop-byte-test.true),
)
