use Rattle.std.proofs.Common.{◌<◌, sym, arith, rules}
use Rattle.std.proofs.Output.{has_written_append, has_written_of_eq}
use Rattle.std.proofs.lemmas.Bool.{eq-eqb, ne_eqb, both_ways}
use Rattle.mf_places.specs.Servers.{is_in}
use Rattle.mf_places.proofs.Passing.{passing-no}
use Rattle.mf_places.proofs.Sets.{set-bit, member_text, all_text}
use Rattle.mf_places.proofs.servers.ServersDisplay.fmt.Goals as goal
use Rattle.mf_places.proofs.servers.ServersDisplay.fmt.Goals.{then-has+in_ok-write, else-has}

pub loop-server-preserved : goal.loop-server-preserved
loop-server-preserved g c = λ plain.
    let set = c.args.self.now in
    let n = c.loop-server.server-counter in
    elim c.if-has.branch [
      | then-has+in_ok-write w ↦
          let test = eq-eqb _ 1 ((set-bit set.bits n).0 (c.has.ensures.0 w.if-has.true).1) in
          has_written_of_eq _ _ _ _ _ (sym (member_text set n test))
          (has_written_append _ _ _ _ _ _ (c.loop-server.invariant plain) (search rules))
      | else-has w ↦
          let low : n < 128 = omega arith in
          let test = ne_eqb _ 1 (λ e. both_ways c.has.result w.if-has.false (c.has.ensures.1 (
            low,
            (set-bit set.bits n).1 e,
          ))) in
          rw (passing-no (is_in set) n test, w.f-is) (c.loop-server.invariant plain)
    ]

pub returns-clause-writes : goal.returns-clause-writes
returns-clause-writes g c = λ plain ok.
    has_written_of_eq _ _ _ _ _ (all_text c.args.self.now c.loop-server.server-counter (omega arith))
    (c.loop-server.invariant plain)
