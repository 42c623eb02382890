use Rattle.std.proofs.Common.{rules, ◌≡◌, ◌↔◌, ◌+◌, ◌≤◌, true, false, leb, get_or}
use Rattle.std.specs.Mem.Slots.{slots_items}
use Rattle.mf_machine.proofs.Lists.{read_at}
use Rattle.mf_gate.proofs.Leaving.{set_on, is_shut}
use Rattle.mf_gate.proofs.ending.close_from.Goals as goal

pub loop-g-preserved : goal.loop-g-preserved
loop-g-preserved c = let ws = slots_items c.args.ended.now.words in let g = c.loop-g.g in
    let is = read_at ws (g + 2) c.word.result 0 c.word.ensures in record {
      so_long = search rules;
      below = set_on c.loop-g.closed.items g (leb 9223372036854775808 c.word.result) false
          (λ h b. (b ≡ true) ↔ (9223372036854775808 ≤ get_or ws (h + 2) 0)) (search rules)
          (is_shut c.word.result (get_or ws (g + 2) 0) is) c.loop-g.invariant.below;
    }
