use Rattle.std.proofs.Common.{◌≡◌, ◌≤◌, ◌-◌, vec_len}
use Rattle.std.specs.Io.KnownBytes.{Consumes}
use Rattle.mf_io.proofs.whole.read_all.Given as goal

-- what was read so far is within the limit, and no read failed
abbrev pub invariant-loop-text : goal.invariant-loop-text
invariant-loop-text g l =
    (vec_len l.text ≤ l.limit)
    × Consumes (g.S.Source.left l.fn.source) (g.S.Source.left l.source) l.text.items
    × (g.S.Source.faults l.source ≡ g.S.Source.faults l.fn.source)

abbrev pub decreases-loop-text : goal.decreases-loop-text
decreases-loop-text g l = l.limit - vec_len l.text
