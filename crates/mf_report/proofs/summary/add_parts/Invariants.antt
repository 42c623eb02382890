use Rattle.std.proofs.Common.{◌≡◌, ◌++◌, map, take}
use Rattle.mf_client.specs.declared.done.Part.{Part}
use Rattle.mf_report.proofs.summary.add_parts.Given as goal

abbrev pub invariant-loop-part : goal.invariant-loop-part
invariant-loop-part l =
    l.changes.items ≡ l.fn.changes.items ++ map (λ (part : Part). part.change) (take l.part-index l.parts)
