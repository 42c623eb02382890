use Rattle.mf_machine.proofs.Tells as fits
use Rattle.mf_machine.proofs.law.answers_fit.Goals as goal

pub returns : goal.returns
returns c = fits.answers_fit
