use Rattle.std.proofs.Common.{◌≡◌, true, false, ◌++◌, ◌∷◌, [], ap, sym, ◌∙◌, arith}
use Rattle.mf_places.specs.Generations.{holds}
use Rattle.mf_places.proofs.Names.{filter-keeps, filter-drops, filter-all, All-sublist}
use Rattle.mf_places.proofs.Book.names.Goals as goal
use Rattle.mf_places.proofs.Book.names.Goals.{then-holds+in_ok-push, else-holds}

pub loop-n-preserved : goal.loop-n-preserved
loop-n-preserved c =
    let b = c.args.self.now in
    let p = holds b c.args.g in
    let x = c.name-name.result in
    elim c.if-holds.branch [
      | then-holds+in_ok-push w ↦
          let test : p x ≡ true = sym c.holds.ensures ∙ w.if-holds.true in
          let kept = filter-keeps b p c.loop-n.n x (omega (
            arith,
            c.count-n-end.ensures.value,
          )) c.name-name.ensures.value test in
          rw w.found-is (w.in_ok-push.ensures.items ∙ ap (λ ys. ys ++ x ∷ []) c.loop-n.invariant ∙ sym kept)
      | else-holds w ↦
          let test : p x ≡ false = sym c.holds.ensures ∙ w.if-holds.false in
          let kept = filter-drops b p c.loop-n.n x (omega (
            arith,
            c.count-n-end.ensures.value,
          )) c.name-name.ensures.value test in
          rw w.found-is (c.loop-n.invariant ∙ sym kept)
    ]

pub returns-clause-sublist : goal.returns-clause-sublist
returns-clause-sublist c =
    c.loop-n.invariant ∙ filter-all c.args.self.now (holds c.args.self.now c.args.g) c.loop-n.n (omega (
      arith,
      c.count-n-end.ensures.value,
    ))

pub returns-clause-had : goal.returns-clause-had
returns-clause-had c =
    All-sublist c.args.self.now (holds c.args.self.now c.args.g) c.loop-n.found.items (returns-clause-sublist c)
