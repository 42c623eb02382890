use Rattle.std.proofs.Common.{◌≡◌, [], get_or, drop}
use Rattle.mf_lines.specs.Meaning.{phases_in}
use Rattle.mf_script.proofs.phases.clients_at.Given as goal

abbrev pub invariant-loop-item : goal.invariant-loop-item
invariant-loop-item l =
    get_or (phases_in (drop l.item-index l.items)) l.left [] ≡ get_or (phases_in l.items) l.fn.others []
