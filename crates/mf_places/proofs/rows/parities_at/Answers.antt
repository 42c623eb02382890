use Rattle.std.proofs.Common.{◌≤◌, ◌*◌, arith}
use Rattle.mf_places.proofs.Counts.{width-some, parities_in-le}
use Rattle.mf_places.proofs.rows.parities_at.Goals as goal

pub div_ceil-requires : goal.div_ceil-requires
div_ceil-requires c = width-some c.requires.chain c.args.width (omega (arith, c.greatest_parities-parities.ensures))

pub overflow_mul-result : goal.overflow_mul-result
overflow_mul-result c =
    let bound : c.div_ceil.result * c.greatest_parities-parities.result ≤ 4096 =
    rw (
      c.div_ceil.ensures,
      c.greatest_parities-parities.ensures,
    ) (parities_in-le c.requires.chain c.args.chunks c.args.width c.requires.chunks)
    in
    omega arith

pub returns-clause-bound : goal.returns-clause-bound
returns-clause-bound c =
    rw (
      c.div_ceil.ensures,
      c.greatest_parities-parities.ensures,
    ) (parities_in-le c.requires.chain c.args.chunks c.args.width c.requires.chunks)
