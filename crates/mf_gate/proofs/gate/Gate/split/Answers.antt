use Rattle.std.proofs.Common.{rules, arith}
use Rattle.mf_gate.specs.Passes.{about}
use Rattle.mf_gate.proofs.Seats.{splits}
use Rattle.mf_gate.proofs.gate.Gate.split.Goals as goal

pub split_seat-place-requires : goal.split_seat-place-requires
split_seat-place-requires c = let p = c.args.pass.now.place in let words = c.args.self.now.words_are in
    (search rules, omega arith, splits (about c.args.self.now) p.id p.me.0 c.requires.may)
