use Rattle.mf_script.proofs.Limits.{fit_file}
use Rattle.mf_script.proofs.SoundLemmas.{limits}
use Rattle.mf_script.proofs.laws.scripts_keep_limits.Goals as goal

pub returns : goal.returns
returns c = record {
  limits = limits;
  files = λ text s n line is at.
      let all = limits text s is in
      fit_file s n line all.files all.each at;
}
