use Rattle.std.proofs.Common.{◌≡◌, ℕ, ◌<◌, ◌≤◌, ◌↔◌, false, IsTrue, length, get_or, take}
use Rattle.mf_code.specs.Decodable.{IsDecodable}
use Rattle.mf_route.specs.Plans.{nobody}
use Rattle.mf_route.specs.declared.Candidate.{Candidate}
use Rattle.mf_route.proofs.terms.Terms.new.Given as goal

-- the first candidates are checked
abbrev pub invariant-loop-i : goal.invariant-loop-i
invariant-loop-i l = record {
  size : length l.usable.items ≡ l.i;
  each : (k : ℕ) → k < l.i → IsTrue (get_or l.usable.items k false)
      ↔ (((get_or l.candidates k nobody).from ≤ l.horizon)
      × IsDecodable (take (get_or l.candidates k nobody).parities l.points)
      (get_or l.candidates k nobody).width);
}
