use Rattle.mf_journal.specs.Images.{length-shredded}
use Rattle.mf_journal.specs.Memory.{shredded}
use Rattle.mf_journal.proofs.Parts.{same_now}
use Rattle.mf_journal.proofs.contents.Contents.write.Goals as goal

pub invariant_of-self-2 : goal.invariant_of-self-2
invariant_of-self-2 c =
    let xs = c.args.bytes.now in
    let done = c.in_ok-end.ensures in
    record {
      same = same_now _ _ _ _ c.args.self.now.same c.args.at xs (shredded 0 xs) _ _ _ _ _
          c.min-self.ensures c.max-self.ensures done.end done.list done.crashed
          (length-shredded 0 xs);
    }
