use Rattle.std.proofs.Common.{◌≡◌, ◌+◌, ◌++◌, ◌∷◌, [], sym, subst, arith}
use Rattle.mf_places.specs.Numbers.{first_in}
use Rattle.mf_places.specs.Rows.{IsFirsts}
use Rattle.mf_places.proofs.Counts.{first_in-more, first_in-le, IsFirsts-more}
use Rattle.mf_places.proofs.rows.first_numbers.Goals as goal

pub overflow_add-first-in-loop-width : goal.overflow_add-first-in-loop-width
overflow_add-first-in-loop-width c =
    let small = first_in-le c.requires.chain c.args.chunks c.loop-width.width c.requires.chunks (omega (
      arith,
      c.requires.widest,
    )) in
    omega (arith, c.loop-width.invariant.next, c.parities_at-first.ensures.bound)

pub loop-width-preserved : goal.loop-width-preserved
loop-width-preserved c =
    let s = c.args.stages.now in
    let width = c.loop-width.width in
    let first = c.loop-width.first + c.parities_at-first.result in
    let next : first ≡ first_in c.args.chunks s (width + 1) =
    omega (arith, first_in-more c.args.chunks s width, c.loop-width.invariant.next, c.parities_at-first.ensures.value)
    in
    let table = IsFirsts-more c.args.chunks s (width + 1) c.loop-width.firsts.items first c.loop-width.invariant.table
    next in
    let items : c.loop-width.firsts.items ++ first ∷ [] ≡ c.push-in-loop-width.new.self.items =
    sym c.in_ok-push-2.ensures.items in
    record { table = subst (IsFirsts c.args.chunks s (width + 1 + 1)) items table; next = next }
