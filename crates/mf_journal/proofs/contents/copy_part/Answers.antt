use Rattle.std.proofs.Common.{ap, ◌∙◌, arith}
use Rattle.std.specs.List.{between}
use Rattle.mf_journal.specs.Memory.{spliced}
use Rattle.mf_journal.proofs.Parts.{same_copied, same_whole}
use Rattle.mf_journal.proofs.contents.copy_part.Goals as goal

pub returns-then-low-high : goal.returns-then-low-high
returns-then-low-high c =
    let low = c.args.low in
    let high = c.args.high in
    c.splice.ensures
    ∙ ap (λ l. spliced low (between low high l) c.args.to.now.items) c.deref.ensures.value
    ∙ same_copied _ _ _ _ c.requires (omega (arith, c.if-low-high.true))

pub returns-else-low-high : goal.returns-else-low-high
returns-else-low-high c = same_whole _ _ _ _ c.requires (omega (arith, c.if-low-high.false))
