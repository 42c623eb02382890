use Rattle.std.proofs.Common.{◌<◌, ◌++◌, ◌∷◌, [], ap, sym, subst, ◌∙◌, arith}
use Rattle.std.proofs.lemmas.Bool.{eq-eqb, ne_eqb, both_ways}
use Rattle.std.specs.List.Sorted.{IsStrictlyIncreasing}
use Rattle.mf_places.specs.Servers.{is_in, set_of}
use Rattle.mf_places.proofs.Passing.{passing-yes, passing-no, passing-rises}
use Rattle.mf_places.proofs.Sets.{set-bit, listed, in-from_list, set_of-servers_of, all_listed}
use Rattle.mf_places.proofs.servers.Servers.list.Goals as goal
use Rattle.mf_places.proofs.servers.Servers.list.Goals.{then-has+in_ok-push, else-has}

pub loop-server-preserved : goal.loop-server-preserved
loop-server-preserved c =
    let set = c.args.self in
    let n = c.loop-server.server in
    elim c.if-has.branch [
      | then-has+in_ok-push w ↦
          let test = eq-eqb _ 1 ((set-bit set.bits n).0 (c.has.ensures.0 w.if-has.true).1) in
          rw w.servers-is (w.in_ok-push.ensures.items ∙ ap (λ ys. ys ++ n ∷ []) c.loop-server.invariant
          ∙ sym (passing-yes (is_in set) n test))
      | else-has w ↦
          let low : n < 128 = omega arith in
          let test = ne_eqb _ 1 (λ e. both_ways c.has.result w.if-has.false (c.has.ensures.1 (
            low,
            (set-bit set.bits n).1 e,
          ))) in
          rw w.servers-is (c.loop-server.invariant ∙ sym (passing-no (is_in set) n test))
    ]

pub returns-clause-value : goal.returns-clause-value
returns-clause-value c =
    all_listed c.args.self c.loop-server.server c.loop-server.servers.items c.loop-server.invariant (omega arith)

pub returns-clause-ascending : goal.returns-clause-ascending
returns-clause-ascending c =
    subst (λ ys. IsStrictlyIncreasing ys) (sym c.loop-server.invariant)
    (passing-rises (is_in c.args.self) c.loop-server.server)

pub returns-clause-members : goal.returns-clause-members
returns-clause-members c = λ server. rw (returns-clause-value c) (
  in-from_list c.args.self server,
  listed c.args.self server,
)

pub returns-clause-back : goal.returns-clause-back
returns-clause-back c = ap set_of (returns-clause-value c) ∙ set_of-servers_of c.args.self (omega arith)
