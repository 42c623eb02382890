use Rattle.std.proofs.Common.{◌≡◌, ◌-◌, true, sym, subst, arith, rules}
use Rattle.mf_places.specs.declared.Name.TheVariants as name
use Rattle.mf_places.specs.Generations.{holds}
use Rattle.mf_vault.specs.Facts.{Facts}
use Rattle.mf_vault.proofs.Doing.{facts_stay}
use Rattle.mf_convert.specs.Converting.{row_of}
use Rattle.mf_convert.proofs.Courses.{handed_on, no_memory}
use Rattle.mf_convert.proofs.Steady.{converter_stays, gets_ops}
use Rattle.mf_convert.proofs.Fetching.{fetched, cells_more, fetch_cut, fetch_memory}
use Rattle.mf_convert.proofs.merging.fetch_all.Goals as goal

pub returns-in_default-clause-cuts : goal.returns-in_default-clause-cuts
returns-in_default-clause-cuts g c = no_memory _ c.requires.time

pub fetch-requires-clause-converter : goal.fetch-requires-clause-converter
fetch-requires-clause-converter g c = converter_stays c.loop-i.invariant.completes.does
    (gets_ops (g.A.Access.actor c.args.access.now).facts
    (row_of c.args.width c.args.p c.args.first (c.loop-i.i - c.args.first))) c.requires.converter

pub fetch-requires-clause-held : goal.fetch-requires-clause-held
fetch-requires-clause-held g c = subst (λ (f : Facts). holds f.book c.args.course.now.from
    (name.Parity c.args.width c.loop-i.i c.args.p) ≡ true)
    (sym (facts_stay c.loop-i.invariant.completes.does)) (c.requires.held c.loop-i.i c.loop-i-test.true)

pub returns-in_err-parity-clause-cuts : goal.returns-in_err-parity-clause-cuts
returns-in_err-parity-clause-cuts g c = handed_on c.from_residual.result _ _ c.from_residual.ensures.1
    (fetch_cut c.args.width c.args.p c.args.first c.loop-i.i c.args.end c.loop-i.invariant.low c.loop-i-test.true
    c.loop-i.invariant.completes c.in_err-parity.ensures.cuts)

pub returns-then-is_err-clause-cuts : goal.returns-then-is_err-clause-cuts
returns-then-is_err-clause-cuts g c =
    fetch_memory c.args.width c.args.p c.args.first c.loop-i.i c.args.end c.loop-i.invariant.low c.loop-i-test.true
    c.loop-i.invariant.completes c.in_ok-parity.ensures.completes

pub loop-i-preserved : goal.loop-i-preserved
loop-i-preserved g c = let v = c.loop-i.invariant in let low = v.low in let room = v.room in
    let spare = c.fetch.ensures.room in record {
      low = omega arith;
      cells = cells_more c.args.width c.args.p c.args.first c.loop-i.i (g.A.Access.actor c.args.access.now).facts
          (g.A.Access.actor c.loop-i.access)
          c.loop-i.parities.items c.push.new.self.items c.in_ok-parity.parity low (facts_stay v.completes.does) v.cells
          c.in_ok-parity.ensures.cell (search rules);
      completes = fetched c.args.width c.args.p c.args.first c.loop-i.i low v.completes
          c.in_ok-parity.ensures.completes;
      room = omega arith;
    }
