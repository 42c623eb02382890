-- The sums of counts of chunk operations.
use Rattle.std.specs.Prelude.{◌^◌, ◌<◌, List}
use Rattle.std.specs.List.{sum_by}
use Rattle.mf_vault.specs.declared.io.Io.{Io}

-- the sums, kind by kind
abbrev pub total_io : List Io → Io
total_io ios = record {
  pieces = sum_by (λ (io : Io). io.pieces) ios;
  copies = sum_by (λ (io : Io). io.copies) ios;
  parities = sum_by (λ (io : Io). io.parities) ios;
  misses = sum_by (λ (io : Io). io.misses) ios;
  writes = sum_by (λ (io : Io). io.writes) ios;
  probes = sum_by (λ (io : Io). io.probes) ios;
  drops = sum_by (λ (io : Io). io.drops) ios;
}

-- the sums of each kind fit in 64 bits
pub record SumsFit (ios : List Io) : Type 0 where
  pub pieces : (total_io ios).pieces < 2 ^ 64
  pub copies : (total_io ios).copies < 2 ^ 64
  pub parities : (total_io ios).parities < 2 ^ 64
  pub misses : (total_io ios).misses < 2 ^ 64
  pub writes : (total_io ios).writes < 2 ^ 64
  pub probes : (total_io ios).probes < 2 ^ 64
  pub drops : (total_io ios).drops < 2 ^ 64
