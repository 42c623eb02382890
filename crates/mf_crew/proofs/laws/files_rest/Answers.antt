use Rattle.mf_crew.proofs.Lawful as lawful
use Rattle.mf_crew.proofs.laws.files_rest.Goals as goal

pub returns : goal.returns
returns c = lawful.files_rest
