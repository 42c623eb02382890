-- The calls of a disk that change what a crash leaves, and the log of all calls.
use Rattle.std.specs.Prelude.{◌≡◌, ◌⊎◌, ℕ, ◌+◌, Bool, true, false, List, [], ◌∷◌, Option, Some}
use Rattle.std.specs.Prelude.{None}
use Rattle.mf_journal.specs.declared.log.Log.{Log}
use Rattle.mf_journal.specs.declared.log.Write.{Write}

pub data Call : Type 0 where
  write : ℕ → List ℕ → Call
  sync : Call

-- the number that stands, or else this one
abbrev pub first_sync : Option ℕ → ℕ → Option ℕ
first_sync (Some k) n = Some k
first_sync None n = Some n

-- a write after the sync of this number
abbrev pub settle : ℕ → Write → Write
settle n w = record w { sync = first_sync w.sync n }

abbrev pub settled : ℕ → List Write → List Write
settled n [] = []
settled n (w ∷ ws) = settle n w ∷ settled n ws

-- one call more, which succeeded and wrote nothing
abbrev pub counted : Log → Log
counted l = record l { calls = l.calls + 1 }

-- one call more, which failed
abbrev pub failed : Log → Log
failed l = record l { calls = l.calls + 1; faults = l.faults + 1 }

-- one call more, a write that failed and isn't in the list
abbrev pub lost : Log → Log
lost l = record l { calls = l.calls + 1; faults = l.faults + 1; lacks = true }

-- after a call that succeeded
abbrev pub after : Call → Log → Log
after (write at bytes) l = record l {
  calls = l.calls + 1;
  writes = record { call = l.calls + 1; at = at; bytes = bytes; sync = None } ∷ l.writes;
}
after sync l = record l { calls = l.calls + 1; writes = settled (l.calls + 1) l.writes }

-- one call more, a write that failed and is in the list
abbrev pub tried : ℕ → List ℕ → Log → Log
tried at bytes l = record (after (write at bytes) l) { faults = l.faults + 1 }

-- a call that failed: a write is in the list, or the list lacks it
abbrev pub Fails : Call → Log → Log → Type 0
Fails (write at bytes) a b = (b ≡ tried at bytes a) ⊎ (b ≡ lost a)
Fails sync a b = b ≡ failed a

-- These calls were made in order, up to the last or to the first that failed; whether all
-- succeeded.
abbrev pub Ran : List Call → Log → Log → Bool → Type 0
Ran [] a b all = (b ≡ a) × (all ≡ true)
Ran (c ∷ cs) a b all = (Fails c a b × (all ≡ false)) ⊎ Ran cs (after c a) b all
