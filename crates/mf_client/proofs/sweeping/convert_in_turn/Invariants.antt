use Rattle.std.proofs.Common.{◌≤◌, ◌+◌, length, vec_capacity}
use Rattle.mf_client.specs.Steps.{Converting}
use Rattle.mf_client.proofs.sweeping.convert_in_turn.Given as goal

abbrev pub invariant-loop-turn : goal.invariant-loop-turn
invariant-loop-turn g l = record {
  converting : Converting l.file l.due l._turn (g.A.Access.actor l.fn.access) (g.A.Access.actor l.access)
      l.fn.parts.items l.parts.items;
  room : length l.parts.items ≤ length l.fn.parts.items + l._turn;
  capacity : vec_capacity l.fn.parts ≤ vec_capacity l.parts;
}
