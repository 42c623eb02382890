-- What a disk over a file tells.
use Rattle.std.specs.Prelude.{ℕ, Bool, List}
use Rattle.mf_journal.specs.declared.history.History.{History}
use Rattle.mf_file.specs.declared.file.FileDisk.{FileDisk}
use Rattle.mf_file.specs.declared.raw.RawFile as raw

module _ {F : Type 0} {g : raw.Ghosts F} where
  -- what a read gives
  abbrev pub bytes_of : FileDisk F g → List ℕ
  bytes_of d = d.bytes.items

  abbrev pub history_of : FileDisk F g → History
  history_of d = d.history.value

  abbrev pub is_dead : FileDisk F g → Bool
  is_dead d = d.dead

  abbrev pub file_of : FileDisk F g → F
  file_of d = d.file
