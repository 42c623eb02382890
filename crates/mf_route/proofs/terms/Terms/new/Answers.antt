use Rattle.std.proofs.Common.{◌≡◌, ℕ, ◌+◌, ◌≤◌, length, get_or, take, rules}
use Rattle.mf_code.specs.Decodable.{IsDecodable}
use Rattle.mf_route.specs.Plans.{nobody}
use Rattle.mf_route.proofs.Checks.{checked_more}
use Rattle.mf_route.proofs.terms.Terms.new.Goals as goal

pub loop-i-preserved : goal.loop-i-preserved
loop-i-preserved c =
    let at = λ (k : ℕ). get_or c.args.candidates.now k nobody in
    let P = λ (k : ℕ). ((at k).from ≤ c.args.horizon)
    × IsDecodable (take (at k).parities c.args.points.now) (at k).width in
    let size : length c.push.new.self.items ≡ c.loop-i.i + 1 = search rules in
    record {
      size = size;
      each = checked_more P c.loop-i.usable.items c.push.new.self.items c.in_ok-yes.yes c.loop-i.i
          c.loop-i.invariant.size c.in_ok-push.ensures.items c.loop-i.invariant.each
          c.in_ok-yes.ensures;
    }
