use Rattle.std.proofs.Common.{◌∙◌, arith}
use Rattle.mf_vault.proofs.Doing.{facts_kept}
use Rattle.bench.proofs.Getting.{may_again}
use Rattle.bench.proofs.gets.get_all.Goals as goal

pub loop-preserved : goal.loop-preserved
loop-preserved g c = let t = c.loop.invariant in record {
  may = may_again c.get.ensures.goes t.may;
  facts = facts_kept c.get.ensures.goes ∙ t.facts;
  room = omega (arith, c.get.ensures.spare, t.room);
}
