use Rattle.std.proofs.Common.{sym, ap, ◌∙◌, length, arith}
use Rattle.std.proofs.lemmas.List.{length-map}
use Rattle.mf_script.specs.Scripts.{block_of}
use Rattle.mf_script.proofs.FamilyLemmas.{one_family}
use Rattle.mf_script.proofs.script.Script.families.Goals as goal

pub overflow_cast-result : goal.overflow_cast-result
overflow_cast-result c =
    let one = one_family _ c.self.invariant.sound.one in
    let long = length-map c.self.inside.families.items block_of in
    record { fits = omega (arith, one, long, c.len.ensures) }
