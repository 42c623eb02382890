use Rattle.std.proofs.Common.{arith, rules}
use Rattle.std.proofs.Output.{has_written_append, has_written_of_eq}
use Rattle.mf_text.specs.Hex.{hex_text}
use Rattle.mf_text.proofs.HexLemmas.{hex_shown}
use Rattle.mf_text.proofs.hexadecimal.HexDisplay.fmt.Goals as goal

pub loop-byte-init : goal.loop-byte-init
unfolding hex_text
loop-byte-init g c = search rules

pub loop-byte-preserved : goal.loop-byte-preserved
loop-byte-preserved g c = λ plain.
    has_written_of_eq _ _ _ _ _ (hex_shown c.args.self.now.bytes.now c.loop-byte.byte-index c.loop-byte-test.true (omega arith))
    (has_written_append _ _ _ _ _ _ (c.loop-byte.invariant plain) (search rules))
