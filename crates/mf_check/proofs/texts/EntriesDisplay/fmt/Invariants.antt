use Rattle.std.proofs.Common.{take}
use Rattle.std.specs.Fmt.{HasWritten, IsPlainFormatter}
use Rattle.mf_check.specs.Texts.{numbers_text}
use Rattle.mf_check.proofs.texts.EntriesDisplay.fmt.Given as goal

abbrev pub invariant-loop-entry : goal.invariant-loop-entry
invariant-loop-entry g l = IsPlainFormatter l.initial.f
    → HasWritten g.W.Write.write_str_gives l.initial.f (numbers_text (take l.entry-index l.entry-items)) l.f
