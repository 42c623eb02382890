use Rattle.mf_field.proofs.FieldLaws.{times_add, add_times}
use Rattle.mf_field.proofs.laws.mul_distributes.Goals as goal

pub returns-clause-right : goal.returns-clause-right
returns-clause-right c = times_add c.args.a c.args.b c.args.c

pub returns-clause-left : goal.returns-clause-left
returns-clause-left c = add_times c.args.b c.args.c c.args.a
