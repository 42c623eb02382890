use Rattle.std.proofs.Common.{◌++◌, take, flat_map}
use Rattle.std.specs.Prelude.{codes}
use Rattle.std.specs.Fmt.{HasWritten, IsPlainFormatter}
use Rattle.mf_reclaim.specs.Texts.{pin_text}
use Rattle.mf_reclaim.proofs.outcome.PinCountsDisplay.fmt.Given as goal

abbrev pub invariant-loop-g : goal.invariant-loop-g
invariant-loop-g g l = IsPlainFormatter l.initial.f
    → HasWritten g.W.Write.write_str_gives l.initial.f
    (flat_map (λ other. codes "," ++ pin_text other) (take l.g-index l.more)) l.f
