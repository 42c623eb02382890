use Rattle.mf_convert.proofs.Marks.{may_put, may_restore}
use Rattle.mf_convert.proofs.converting.bring.Goals as goal

pub put-requires-clause-may : goal.put-requires-clause-may
put-requires-clause-may g c = may_put c.args.name c.requires.converter (g.met.A.Access.kept c.args.access.now).file
    c.requires.held c.in-Unborn.is c.requires.found

pub restore-requires-clause-may : goal.restore-requires-clause-may
restore-requires-clause-may g c = may_restore c.args.name _ c.requires.converter
    (g.met.A.Access.kept c.args.access.now).file c.requires.held c.in-Lost.is c.requires.found
