use Rattle.mf_places.proofs.Names.{IsNumber-at}
use Rattle.mf_plain.proofs.answering.place_of.Goals as goal

pub returns-clause-value : goal.returns-clause-value
returns-clause-value c = let e = c.in-Some.ensures.some in
    (IsNumber-at c.args.book.now c.args.name c.in-Some.n e.0 e.1).number
