use Rattle.std.proofs.Common.{◌≡◌, ◌+◌, ◌++◌, take, drop}
use Rattle.mf_journal.specs.Memory.{shredded}
use Rattle.mf_journal.proofs.contents.shred.Given as goal

-- the front is written
abbrev pub invariant-loop-i : goal.invariant-loop-i
invariant-loop-i l =
    let old = l.initial.list.items in
    l.list.items ≡ take l.at old ++ shredded 0 (take l.i l.bytes) ++ drop (l.at + l.i) old
