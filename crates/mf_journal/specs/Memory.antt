-- A disk in memory: its bytes, its images and what its crash leaves, by its first bytes and its
-- log.
use Rattle.std.specs.Prelude.{◌≡◌, ◌⊎◌, ℕ, ◌+◌, ◌-◌, ◌%◌, ◌^◌, ◌<◌, ◌≤◌, ◌==◌, if◌then◌else◌, min}
use Rattle.std.specs.Prelude.{Bool, false, List, [], ◌∷◌, ◌++◌, length, take, drop, replicate}
use Rattle.std.specs.Prelude.{Option, Some, None}
use Rattle.mf_journal.specs.Crash.{TornAt}
use Rattle.mf_journal.specs.declared.log.Log.{Log}
use Rattle.mf_journal.specs.declared.log.Write.{Write}
use Rattle.mf_journal.specs.declared.history.History.{History}

-- at least n bytes, filled up with zeros
abbrev pub widened : ℕ → List ℕ → List ℕ
widened n bytes = bytes ++ replicate (n - length bytes) 0

-- the list with these bytes from this place on
abbrev pub spliced : ℕ → List ℕ → List ℕ → List ℕ
spliced at bytes old = take at old ++ bytes ++ drop (at + length bytes) old

-- the same, past the end too
abbrev pub over : ℕ → List ℕ → List ℕ → List ℕ
over at bytes old = spliced at bytes (widened (at + length bytes) old)

-- the byte at an even offset, and 0xEE at another
abbrev pub shredded_byte : ℕ → ℕ → ℕ
shredded_byte i x = if i % 2 == 0 then x else 238

-- what a crash leaves of bytes whose first has offset i
abbrev pub shredded : ℕ → List ℕ → List ℕ
shredded i [] = []
shredded i (x ∷ xs) = shredded_byte i x ∷ shredded (i + 1) xs

-- what a read gives
abbrev pub played : List ℕ → List Write → List ℕ
played start [] = start
played start (w ∷ ws) = over w.at w.bytes (played start ws)

-- what is there of a write after a crash
abbrev pub kept : Option ℕ → List ℕ → List ℕ
kept (Some n) bytes = bytes
kept None bytes = shredded 0 bytes

-- what the crash leaves
abbrev pub left_by : List ℕ → List Write → List ℕ
left_by start [] = start
left_by start (w ∷ ws) = over w.at (kept w.sync w.bytes) (left_by start ws)

-- what a crash may do to a write
abbrev pub MayStep : Option ℕ → ℕ → List ℕ → List ℕ → List ℕ → Type 0
MayStep (Some n) at bytes old new = new ≡ over at bytes old
MayStep None at bytes old new = TornAt at (length bytes) old new

-- what a crash may leave
abbrev pub IsImage : List ℕ → List Write → List ℕ → Type 0
IsImage start [] c = c ≡ start
IsImage start (w ∷ ws) c = (d : List ℕ) × IsImage start ws d × MayStep w.sync w.at w.bytes d c

-- what a crash after one of these logs may leave
abbrev pub LeftIn : List ℕ → List Log → List ℕ → Type 0
LeftIn start [] c = ⊥
LeftIn start (l ∷ ls) c = IsImage start l.writes c ⊎ LeftIn start ls c

-- what a crash at some moment since t might have left
abbrev pub LeftSince : History → ℕ → List ℕ → Type 0
LeftSince k t c =
    IsImage k.origin.first k.log.writes c
    ⊎ LeftIn k.origin.first (take (k.log.calls - t) k.before) c

-- before the first call
abbrev pub fresh : List ℕ → ℕ → History
fresh first stop = record {
  origin = record { first = first; stop = stop };
  log = record { calls = 0; faults = 0; writes = []; lacks = false };
  before = [];
}

-- after a call, by the log that it leaves
abbrev pub next : Log → History → History
next l k = record { origin = k.origin; log = l; before = k.log ∷ k.before }

-- the call of this number is one that fails
abbrev pub IsStopped : ℕ → ℕ → Type 0
IsStopped stop n = (0 < stop) × (stop ≤ n)

-- Where no write had no memory, just those calls failed that were to.
pub record IsExact (k : History) : Type 0 where
  pub never : k.log.lacks ≡ false → k.origin.stop ≡ 0 → k.log.faults ≡ 0
  pub since : k.log.lacks ≡ false → 0 < k.origin.stop
      → k.log.faults ≡ k.log.calls + 1 - k.origin.stop

-- what is stored is what the log says
pub record IsStored (bytes crashed : List ℕ) (stop calls : ℕ) (starved : Bool) (k : History)
    : Type 0 where
  pub same_length : length crashed ≡ length bytes
  pub read : bytes ≡ played k.origin.first k.log.writes
  pub left : crashed ≡ left_by k.origin.first k.log.writes
  pub stops : stop ≡ k.origin.stop
  pub small : stop < 2 ^ 32
  pub count : calls ≡ min k.log.calls (2 ^ 32 - 1)
  pub lacks : k.log.lacks ≡ starved
  pub faults : IsExact k
