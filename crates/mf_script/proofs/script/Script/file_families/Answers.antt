use Rattle.std.proofs.Common.{subst}
use Rattle.mf_script.specs.Families.{FilesBelong}
use Rattle.mf_script.proofs.FamilyLemmas.{files_belong}
use Rattle.mf_script.proofs.script.Script.file_families.Goals as goal

pub returns-clause-kept : goal.returns-clause-kept
returns-clause-kept c =
    subst FilesBelong c.self.view_is (files_belong _ c.self.invariant.sound.one)
