use Rattle.mf_places.proofs.Names.{found-some, found-had, found-only}
use Rattle.mf_places.proofs.Book.number.Goals as goal

pub returns-clause-some : goal.returns-clause-some
returns-clause-some c = found-some c.args.self.now c.args.name c.find.result c.find.ensures.some

pub returns-clause-only : goal.returns-clause-only
returns-clause-only c = found-only c.args.self.now c.args.name c.find.result c.find.ensures.none c.find.ensures.some

pub returns-clause-had : goal.returns-clause-had
returns-clause-had c = found-had c.args.self.now c.args.name c.find.result c.find.ensures.some
