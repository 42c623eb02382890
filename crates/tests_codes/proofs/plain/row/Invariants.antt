use Rattle.std.proofs.Common.{◌≡◌, vec_len}
use Rattle.tests_codes.proofs.plain.row.Given as goal

abbrev pub invariant-loop : goal.invariant-loop
invariant-loop l = vec_len l.bytes ≡ l.counter
