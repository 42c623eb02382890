use Rattle.std.proofs.Common.{◌≡◌, ◌++◌, length}
use Rattle.std.specs.List.{All}
use Rattle.mf_journal.specs.Frames.{front, IsShort}
use Rattle.mf_journal.specs.Opening.{lists}
use Rattle.mf_journal.proofs.opening.parse.Given as goal

-- the records so far, and what is left
abbrev pub invariant-loop-rest : goal.invariant-loop-rest
invariant-loop-rest l = record {
  read : l.bytes ≡ front (lists l.records.items) ++ l.rest;
  short : All IsShort (lists l.records.items);
}

abbrev pub decreases-loop-rest : goal.decreases-loop-rest
decreases-loop-rest l = length l.rest
