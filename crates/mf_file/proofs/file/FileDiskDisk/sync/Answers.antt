use Rattle.std.proofs.Common.{refl, sym, subst}
use Rattle.mf_journal.specs.Images.{read_is_image}
use Rattle.mf_journal.specs.Memory.{IsImage}
use Rattle.mf_journal.proofs.Time.{goes, one_of}
use Rattle.mf_file.proofs.Standing.{chosen, only, synced_at}
use Rattle.mf_file.proofs.file.FileDiskDisk.sync.Goals as goal

pub returns-then-fails-clause-time : goal.returns-then-fails-clause-time
returns-then-fails-clause-time g c = goes _ _ (one_of _ _ _ _ refl refl) _ c.pick-history.ensures

pub invariant_of-self-2 : goal.invariant_of-self-2
invariant_of-self-2 g c =
    let is = chosen _ _ _ _ _ c.pick-history.ensures c.if-fails.false in
    record {
      stands = synced_at _ _ _ _ _ _ c.args.self.now.stands
          (c.sync_fails-fails.ensures.asked c.if-fails.false) is;
    }

pub returns-clause-lasting : goal.returns-clause-lasting
returns-clause-lasting g c =
    let d = c.args.self.now in
    let is = chosen _ _ _ _ _ c.pick-history.ensures c.if-fails.false in
    λ image left. only d.history.value _ d.bytes.items image is d.stands.read left

pub returns-clause-leaves : goal.returns-clause-leaves
returns-clause-leaves g c =
    let d = c.args.self.now in
    let k = d.history.value in
    let is = chosen _ _ _ _ _ c.pick-history.ensures c.if-fails.false in
    λ image left. subst (IsImage k.origin.first k.log.writes)
    (sym (only k _ d.bytes.items image is d.stands.read left))
    (read_is_image k d.bytes.items d.stands.read)

pub returns-clause-time : goal.returns-clause-time
returns-clause-time g c = goes _ _ (one_of _ _ _ _ refl refl) _ c.pick-history.ensures
