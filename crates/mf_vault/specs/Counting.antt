-- What the entries of a ledger count as.
use Rattle.std.specs.Prelude.{◌+◌, ◌^◌, ◌<◌, List, [], ◌∷◌}
use Rattle.mf_places.specs.declared.Name.{Name}
use Rattle.mf_places.specs.declared.Name.TheVariants as name
use Rattle.mf_vault.specs.declared.answers.Answer.{Answer}
use Rattle.mf_vault.specs.declared.answers.Answer.TheVariants as answer
use Rattle.mf_vault.specs.declared.answers.Entry.{Entry}
use Rattle.mf_vault.specs.declared.answers.Entry.TheVariants as entry
use Rattle.mf_vault.specs.declared.answers.Op.TheVariants as op
use Rattle.mf_vault.specs.declared.io.Io.{Io}

-- no operation
abbrev pub no_io : Io
no_io = record { pieces = 0; copies = 0; parities = 0; misses = 0; writes = 0; probes = 0; drops = 0 }

-- the operations of both, kind by kind
abbrev pub add_io : Io → Io → Io
add_io a b = record {
  pieces = a.pieces + b.pieces;
  copies = a.copies + b.copies;
  parities = a.parities + b.parities;
  misses = a.misses + b.misses;
  writes = a.writes + b.writes;
  probes = a.probes + b.probes;
  drops = a.drops + b.drops;
}

-- a chunk that was got is a read of its name's kind
abbrev pub read : Name → Io
read (name.Data i) = record no_io { pieces = 1 }
read (name.Copy c i) = record no_io { copies = 1 }
read (name.Parity width j p) = record no_io { parities = 1 }

-- any other answer of a get is a miss
abbrev pub get_counts : Name → Answer → Io
get_counts x answer.Here = read x
get_counts x (answer.Lost l) = record no_io { misses = 1 }
get_counts x (answer.Away s) = record no_io { misses = 1 }
get_counts x answer.Unborn = record no_io { misses = 1 }
get_counts x answer.Done = record no_io { misses = 1 }
get_counts x answer.Nothing = record no_io { misses = 1 }

-- a discard counts where it changed the name
abbrev pub discard_counts : Answer → Io
discard_counts answer.Here = no_io
discard_counts (answer.Lost l) = no_io
discard_counts (answer.Away s) = no_io
discard_counts answer.Unborn = no_io
discard_counts answer.Done = record no_io { drops = 1 }
discard_counts answer.Nothing = no_io

-- what one entry counts as
abbrev pub counts : Entry → Io
counts (entry.Chunk op.Get x a) = get_counts x a
counts (entry.Chunk op.Probe x a) = record no_io { probes = 1 }
counts (entry.Chunk op.Put x a) = record no_io { writes = 1 }
counts (entry.Chunk op.Restore x a) = record no_io { writes = 1 }
counts (entry.Chunk op.Discard x a) = discard_counts a
counts (entry.Chunk op.Lose x a) = no_io
counts (entry.Close g c) = no_io

-- and all of them together
abbrev pub io_of : List Entry → Io
io_of [] = no_io
io_of (e ∷ es) = add_io (counts e) (io_of es)

-- each number of both fits in 64 bits
pub record SumFits (a b : Io) : Type 0 where
  pub pieces : a.pieces + b.pieces < 2 ^ 64
  pub copies : a.copies + b.copies < 2 ^ 64
  pub parities : a.parities + b.parities < 2 ^ 64
  pub misses : a.misses + b.misses < 2 ^ 64
  pub writes : a.writes + b.writes < 2 ^ 64
  pub probes : a.probes + b.probes < 2 ^ 64
  pub drops : a.drops + b.drops < 2 ^ 64
