use Rattle.std.proofs.Common.{rules, arith, ◌≡◌, ap, ◌∙◌}
use Rattle.mf_gate.specs.Passes.{about}
use Rattle.mf_gate.specs.Table.{bare}
use Rattle.mf_gate.proofs.Seats.{joins}
use Rattle.mf_gate.proofs.gate.Gate.join.Goals as goal

pub join_seat-requires : goal.join_seat-requires
join_seat-requires c = let p = c.args.into.now.place in let q = c.args.gone in
    let words = c.args.self.now.words_are in let free = c.requires.may.5 in
    let none : q.place.me.0.view.inside.getting ≡ 0 = omega arith in (
      search rules,
      search rules,
      q.carries ∙ ap bare none,
      omega arith,
      joins (about c.args.self.now) p.id p.me.0 q.place.id q.place.me.0 c.requires.may,
    )
