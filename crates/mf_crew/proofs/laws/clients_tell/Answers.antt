use Rattle.mf_crew.proofs.Lawful as lawful
use Rattle.mf_crew.proofs.laws.clients_tell.Goals as goal

pub returns : goal.returns
returns c = lawful.clients_tell
