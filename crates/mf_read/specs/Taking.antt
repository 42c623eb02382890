-- A read that hands its bytes on.
use Rattle.std.specs.Prelude.{◌≡◌, ℕ, ◌*◌, List, [], ◌++◌, length, take, Result, Ok, Err}
use Rattle.std.specs.declared.alloc.AllocError.{AllocError}
use Rattle.std.specs.declared.alloc.Global.{Global}
use Rattle.std.specs.declared.vec.Vec.{Vec}
use Rattle.mf_shape.specs.Stages.{width_at}
use Rattle.mf_vault.specs.Facts.{Facts}
use Rattle.mf_vault.specs.Actor.{Actor}
use Rattle.mf_read.specs.declared.outcome.ReadOutcome.{ReadOutcome}
use Rattle.mf_read.specs.declared.outcome.ReadOutcome.TheVariants as read
use Rattle.mf_read.specs.declared.outcome.IntoOutcome.{IntoOutcome}
use Rattle.mf_read.specs.declared.outcome.IntoOutcome.TheVariants.{Bytes, Absent, Removed, DataLost, Unreachable}
use Rattle.mf_read.specs.declared.outcome.IntoOutcome.TheVariants.{Memory}
use Rattle.mf_read.specs.Reading.{Reads}

-- the bytes that were taken, with one piece more; want of memory leaves them
abbrev pub taken_after : Result Unit AllocError → (piece taken : List ℕ) → List ℕ
taken_after (Ok x) piece taken = taken ++ piece
taken_after (Err e) piece taken = taken

-- the bytes of the stripes of generation g before stripe j
abbrev pub bytes_before : Facts → (g j : ℕ) → List ℕ
bytes_before f g j = take (j * width_at f.book.shape.stages g * f.book.chunk) f.bytes

-- the bytes that a read with this outcome handed on: all of the file, those of the stripes before the one that couldn't
-- be had, a front of them where memory ran out, or none
abbrev pub AreTaken : Facts → IntoOutcome → List ℕ → Type 0
AreTaken f (Bytes g count from) taken = (taken ≡ f.bytes) × (count ≡ length f.bytes)
AreTaken f (DataLost g j lost) taken = taken ≡ bytes_before f g j
AreTaken f (Unreachable g j x server) taken = taken ≡ bytes_before f g j
AreTaken f Memory taken = (rest : List ℕ) × (f.bytes ≡ taken ++ rest)
AreTaken f Absent taken = taken ≡ []
AreTaken f Removed taken = taken ≡ []

-- the same outcome of a read that gave these bytes
abbrev pub with_bytes : IntoOutcome → Vec ℕ Global → ReadOutcome
with_bytes (Bytes g count from) bytes = read.Bytes g bytes from
with_bytes (DataLost g j lost) bytes = read.DataLost g j lost
with_bytes (Unreachable g j x server) bytes = read.Unreachable g j x server
with_bytes Memory bytes = read.Memory
with_bytes Absent bytes = read.Absent
with_bytes Removed bytes = read.Removed

-- a read that handed its bytes on led from one actor to the other: it did what a read does that gives them, and they
-- were taken behind those before
pub record ReadsInto (o : IntoOutcome) (before after : List ℕ) (a b : Actor) : Type 0 where
  pub bytes : Vec ℕ Global
  pub reads : Reads (with_bytes o bytes) a b
  pub taken : List ℕ
  pub told : after ≡ before ++ taken
  pub are : AreTaken a.facts o taken
