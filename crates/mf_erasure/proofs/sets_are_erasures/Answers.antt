use Rattle.mf_erasure.proofs.Places.{erasure_of_set, set_of_erasure}
use Rattle.mf_erasure.proofs.sets_are_erasures.Goals as goal

pub returns : goal.returns
returns c = record { of_set = erasure_of_set; of_erasure = set_of_erasure }
