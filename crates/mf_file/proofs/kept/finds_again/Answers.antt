use Rattle.mf_file.specs.Law.{finds_again}
use Rattle.mf_file.proofs.kept.finds_again.Goals as goal

pub returns : goal.returns
returns g c = finds_again c.args.before.now c.args.behind.now c.args.next.now
