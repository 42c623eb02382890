use Rattle.std.proofs.Common.{◌≡◌, ◌*◌}
use Rattle.mf_script.specs.Contents.{pattern_bytes}
use Rattle.mf_script.proofs.contents.pattern.Given as goal

abbrev pub invariant-loop-k : goal.invariant-loop-k
invariant-loop-k l = l.bytes.items ≡ pattern_bytes (l._k * 251) l.start
