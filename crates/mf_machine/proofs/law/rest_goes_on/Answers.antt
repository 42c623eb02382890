use Rattle.mf_machine.proofs.Tells as fits
use Rattle.mf_machine.proofs.law.rest_goes_on.Goals as goal

pub returns : goal.returns
returns c = fits.rest_goes_on
