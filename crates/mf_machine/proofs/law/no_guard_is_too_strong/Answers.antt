use Rattle.mf_machine.proofs.Exhibits as exhibits
use Rattle.mf_machine.proofs.law.no_guard_is_too_strong.Goals as goal

pub returns : goal.returns
returns c = exhibits.some_run
