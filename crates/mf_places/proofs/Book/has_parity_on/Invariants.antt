use Rattle.mf_places.specs.Rows.{HasNoneOn}
use Rattle.mf_places.proofs.Book.has_parity_on.Given as goal

abbrev pub invariant-loop-p : goal.invariant-loop-p
invariant-loop-p l = HasNoneOn l.self l.server l.p
