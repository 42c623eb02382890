use Rattle.mf_erasure.proofs.Bridge.{only_zero_from_decodable, decodable_from_only_zero}
use Rattle.mf_erasure.proofs.decodable_by_matrix.Goals as goal

pub returns : goal.returns
returns c = record { only_zero = only_zero_from_decodable; decodable = decodable_from_only_zero }
