use Rattle.std.proofs.Common.{◌≡◌, ◌++◌, take, length}
use Rattle.mf_text.specs.Hex.{hex_text}
use Rattle.mf_text.proofs.hexadecimal.push_hex.Given as goal

abbrev pub invariant-loop-byte : goal.invariant-loop-byte
invariant-loop-byte l = (l.len ≡ length l.fn.out.items)
    × (l.out.items ≡ l.fn.out.items ++ hex_text (take l.byte-index l.bytes))
