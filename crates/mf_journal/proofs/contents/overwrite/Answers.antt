use Rattle.std.proofs.Common.{◌≡◌, ◌+◌, length, ap, ◌∙◌, arith}
use Rattle.mf_journal.specs.Images.{length-shredded}
use Rattle.mf_journal.specs.Memory.{shredded, spliced, widened}
use Rattle.mf_journal.proofs.contents.overwrite.Goals as goal

pub returns-clause-crashed : goal.returns-clause-crashed
returns-clause-crashed c =
    let xs = shredded 0 c.args.bytes.now in
    let end : c.in-Some.end ≡ c.args.at + length xs =
    omega (arith, c.in-Some.ensures, length-shredded 0 c.args.bytes.now) in
    c.shred.ensures
    ∙ ap (spliced c.args.at xs) c.in_ok-widen.ensures.crashed
    ∙ ap (λ n. spliced c.args.at xs (widened n c.args.crashed.now.items)) end
