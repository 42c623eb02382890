use Rattle.std.proofs.Common.{refl}
use Rattle.mf_plain.proofs.Going.{stands_after, goes_after}
use Rattle.mf_plain.proofs.Coding as code
use Rattle.mf_plain.proofs.Named as named
use Rattle.mf_plain.proofs.fetch.PlainAccessFetch.get.Goals as goal

pub got-got-requires-clause-there : goal.got-got-requires-clause-there
got-got-requires-clause-there c = code.there c.args.self.now c.args.name c.requires.may

pub invariant_of-self : goal.invariant_of-self
invariant_of-self c = let s = c.args.self.now in record {
  stands =
      stands_after s.stands (named.gets s.stands c.args.name c.got-got.result c.requires.may
      (code.got_as s c.args.name c.got-got.result c.got-got.ensures)) c.pick-note.ensures c.enter_get.ensures.items
      refl;
}

pub returns-clause-goes : goal.returns-clause-goes
returns-clause-goes c = let s = c.args.self.now in
    goes_after s.stands (named.gets s.stands c.args.name c.got-got.result c.requires.may
    (code.got_as s c.args.name c.got-got.result c.got-got.ensures)) c.pick-note.ensures c.enter_get.ensures.items
    refl
