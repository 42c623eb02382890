use Rattle.mf_file.specs.Law.{is_honest}
use Rattle.mf_file.proofs.kept.is_honest.Goals as goal

pub returns : goal.returns
returns g c = λ t honest. is_honest c.args.disk.now c.args.next.now t c.tells.ensures.asked honest
