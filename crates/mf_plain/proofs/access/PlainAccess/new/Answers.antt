use Rattle.mf_plain.specs.Kept.{resting_of}
use Rattle.mf_plain.proofs.Begins.{new_stands, new_actor}
use Rattle.mf_plain.proofs.access.PlainAccess.new.Goals as goal

pub invariant_of-result : goal.invariant_of-result
invariant_of-result c = record {
  stands =
      new_stands (resting_of c.plain.inside) c.args.plain c.args.now c.birth-born.result c.args.losses.now
      c.pick-known.result.value c.new.result.items
      c.none.result c.plain.view_is c.plain.invariant c.requires.since c.requires.lines c.pick-known.ensures
      c.birth-born.ensures c.new.ensures.items c.none.ensures;
}

pub returns : goal.returns
returns c =
    new_actor (resting_of c.plain.inside) c.args.plain c.args.now c.birth-born.result c.args.losses.now
    c.pick-known.result.value c.new.result.items
    c.none.result c.plain.view_is c.pick-known.ensures c.birth-born.ensures c.new.ensures.items c.none.ensures
