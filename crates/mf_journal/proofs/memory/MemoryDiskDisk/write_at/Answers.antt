use Rattle.std.proofs.Common.{◌≡◌, Bool, false, if◌then◌else◌, sym, ap, subst, ◌∙◌}
use Rattle.mf_journal.specs.Memory.{IsStored, next}
use Rattle.mf_journal.specs.declared.history.History.{History}
use Rattle.mf_journal.specs.declared.log.Log.{Log}
use Rattle.mf_journal.proofs.Results.{not_err}
use Rattle.mf_journal.proofs.Standing.{written}
use Rattle.mf_journal.proofs.Time.{goes_by_write}
use Rattle.mf_journal.proofs.memory.MemoryDiskDisk.write_at.Goals as goal

-- the note that was picked where there was memory
chosen : (full : Bool) (a b : Log) (k now : History) → now ≡ next (if full then a else b) k
    → full ≡ false → now ≡ next b k
chosen full a b k now picked fits = picked ∙ ap (λ f. next (if f then a else b) k) fits

pub returns-then-full-clause-time : goal.returns-then-full-clause-time
returns-then-full-clause-time c =
    goes_by_write c.is_err-full.result c.is_stopped-fails.result c.args.at c.args.bytes.now _ _
    c.pick-history.ensures

pub invariant_of-self-2 : goal.invariant_of-self-2
invariant_of-self-2 c =
    let is = chosen _ _ _ _ _ c.pick-history.ensures c.if-full.false in
    let list = not_err _ _ c.is_err-full.ensures.value c.if-full.false c.write.ensures.read in
    let crashed = not_err _ _ c.is_err-full.ensures.value c.if-full.false
    c.write.ensures.crashed in
    record {
      stands = subst (IsStored _ _ _ _ _) (sym is) (written _ _ _ _ _ _ c.args.self.now.stands _
          c.saturating_add-self.ensures _ _ _ _ list crashed _ c.is_stopped-fails.ensures);
    }

pub returns-then-fails-clause-time : goal.returns-then-fails-clause-time
returns-then-fails-clause-time c =
    goes_by_write c.is_err-full.result c.is_stopped-fails.result c.args.at c.args.bytes.now _ _
    c.pick-history.ensures

pub returns-clause-time : goal.returns-clause-time
returns-clause-time c =
    goes_by_write c.is_err-full.result c.is_stopped-fails.result c.args.at c.args.bytes.now _ _
    c.pick-history.ensures
