-- What a disk in memory tells.
use Rattle.std.specs.Prelude.{ℕ, List}
use Rattle.mf_journal.specs.declared.history.History.{History}
use Rattle.mf_journal.specs.declared.memory.MemoryDisk.{MemoryDisk}

-- what a read gives
abbrev pub bytes_of : MemoryDisk → List ℕ
bytes_of d = d.contents.bytes.items

abbrev pub history_of : MemoryDisk → History
history_of d = d.history.value
