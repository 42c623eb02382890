use Rattle.std.proofs.Common.{◌≡◌}
use Rattle.mf_script.specs.Contents.{pattern_bytes}
use Rattle.mf_script.proofs.contents.period.Given as goal

abbrev pub invariant-loop-x : goal.invariant-loop-x
invariant-loop-x l = l.bytes.items ≡ pattern_bytes l.x l.start
