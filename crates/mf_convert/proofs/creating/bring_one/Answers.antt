use Rattle.mf_convert.proofs.Building.{may_put_first, may_restore_first}
use Rattle.mf_convert.proofs.creating.bring_one.Goals as goal

pub put-requires-clause-may : goal.put-requires-clause-may
put-requires-clause-may g c = may_put_first c.args.name c.requires.builder (g.met.A.Access.kept c.args.access.now).file
    c.requires.held c.in-Unborn.is c.requires.marked

pub restore-requires-clause-may : goal.restore-requires-clause-may
restore-requires-clause-may g c = may_restore_first c.args.name _ c.requires.builder
    (g.met.A.Access.kept c.args.access.now).file c.requires.held c.in-Lost.is c.requires.marked
