use Rattle.std.proofs.Common.{◌*◌, ◌^◌, sym}
use Rattle.mf_code.specs.Field.{times}
use Rattle.mf_field.proofs.FieldLaws.{times-one}
use Rattle.mf_kernel.proofs.Tables.{IsTable_of, lower_linear, upper_linear}
use Rattle.mf_kernel.proofs.factor.Factor.new.Goals as goal

pub invariant_of-result : goal.invariant_of-result
invariant_of-result c =
    let v = c.args.value in (
      IsTable_of (λ n. times v n) (lower_linear v) c.table-low.result _ _ _ _ (sym (times-one v c.ranges.value.fits))
          c.mul.ensures c.mul-2.ensures c.mul-3.ensures
          c.table-low.ensures,
      IsTable_of (λ n. times v (n * 2 ^ 4)) (upper_linear v) c.table-high.result _ _ _ _ c.mul-4.ensures c.mul-5.ensures
          c.mul-6.ensures c.mul-7.ensures
          c.table-high.ensures,
    )
