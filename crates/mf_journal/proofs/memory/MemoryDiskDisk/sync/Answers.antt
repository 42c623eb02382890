use Rattle.std.proofs.Common.{◌≡◌, Bool, false, List, ℕ, if◌then◌else◌, refl, sym, ap, subst, ◌∙◌}
use Rattle.mf_journal.specs.Calls.{after}
use Rattle.mf_journal.specs.Calls as call
use Rattle.mf_journal.specs.Images.{only_settled, read_is_image}
use Rattle.mf_journal.specs.Memory.{IsImage, IsStored, next, played}
use Rattle.mf_journal.specs.declared.history.History.{History}
use Rattle.mf_journal.specs.declared.log.Log.{Log}
use Rattle.mf_journal.proofs.Standing.{synced}
use Rattle.mf_journal.proofs.Time.{goes, one_of}
use Rattle.mf_journal.proofs.memory.MemoryDiskDisk.sync.Goals as goal

-- the note that was picked where the call wasn't to fail
chosen : (fails : Bool) (a b : Log) (k now : History) → now ≡ next (if fails then a else b) k
    → fails ≡ false → now ≡ next b k
chosen fails a b k now picked runs = picked ∙ ap (λ f. next (if f then a else b) k) runs

only : (k now : History) (bytes c : List ℕ) → now ≡ next (after call.sync k.log) k
    → bytes ≡ played k.origin.first k.log.writes
    → IsImage now.origin.first now.log.writes c → c ≡ bytes
only k now bytes c is read left =
    only_settled k.origin.first _ k.log.writes c
    (subst (λ n. IsImage n.origin.first n.log.writes c) is left)
    ∙ sym read

pub returns-then-fails-clause-time : goal.returns-then-fails-clause-time
returns-then-fails-clause-time c = goes _ _ (one_of _ _ _ _ refl refl) _ c.pick-history.ensures

pub invariant_of-self-2 : goal.invariant_of-self-2
invariant_of-self-2 c =
    let is = chosen _ _ _ _ _ c.pick-history.ensures c.if-fails.false in
    record {
      stands = subst (IsStored _ _ _ _ _) (sym is) (synced _ _ _ _ _ _ c.args.self.now.stands _
          c.saturating_add-self.ensures _ _ c.settle.ensures.bytes c.settle.ensures.crashed
          c.if-fails.ensures.1);
    }

pub returns-clause-lasting : goal.returns-clause-lasting
returns-clause-lasting c =
    let d = c.args.self.now in
    let is = chosen _ _ _ _ _ c.pick-history.ensures c.if-fails.false in
    λ image left. only d.history.value _ d.contents.bytes.items image is d.stands.read left

pub returns-clause-leaves : goal.returns-clause-leaves
returns-clause-leaves c =
    let d = c.args.self.now in
    let k = d.history.value in
    let is = chosen _ _ _ _ _ c.pick-history.ensures c.if-fails.false in
    λ image left. subst (IsImage k.origin.first k.log.writes)
    (sym (only k _ d.contents.bytes.items image is d.stands.read left))
    (read_is_image k d.contents.bytes.items d.stands.read)

pub returns-clause-time : goal.returns-clause-time
returns-clause-time c = goes _ _ (one_of _ _ _ _ refl refl) _ c.pick-history.ensures
