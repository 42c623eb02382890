-- What a disk over a file stores, by its history.
use Rattle.std.specs.Prelude.{◌≡◌, ℕ, Bool, false, List}
use Rattle.mf_journal.specs.Memory.{played}
use Rattle.mf_journal.specs.declared.history.History.{History}
use Rattle.mf_file.specs.Calls.{made, pieces}
use Rattle.mf_file.specs.declared.raw.Asked.{Asked}

-- What is in memory is what the history says. The disk isn't dead only where no call has failed.
-- The writes and syncs of the history are those that the file was asked for.
pub record IsStored (bytes : List ℕ) (dead : Bool) (k : History) (calls : List Asked) : Type 0 where
  pub read : bytes ≡ played k.origin.first k.log.writes
  pub fine : dead ≡ false → k.log.faults ≡ 0
  pub asked : pieces k.log.writes ≡ made calls
