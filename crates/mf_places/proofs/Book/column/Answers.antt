use Rattle.std.proofs.Common.{◌≡◌, ◌+◌, ap, subst, arith}
use Rattle.mf_shape.specs.Stages.{max_width}
use Rattle.mf_places.specs.Facts.{BookFacts, IsBook}
use Rattle.mf_places.specs.Placement.{column_of}
use Rattle.mf_places.proofs.Placed.{column_of-le}
use Rattle.mf_places.proofs.Book.column.Goals as goal

pub overflow_add-result-in-Parity : goal.overflow_add-result-in-Parity
overflow_add-result-in-Parity c =
    let b = c.args.self.now in
    let book = subst (λ (v : BookFacts). IsBook v) c.self.view_is c.self.invariant.book in
    let low = column_of-le b book c.args.name c.requires in
    let is : column_of b c.args.name ≡ max_width b.shape.stages + c.in-Parity.p = ap (column_of b) c.in-Parity.is in
    let same : max_width c.self.inside.shape.stages ≡ max_width b.shape.stages =
    ap (λ (v : BookFacts). max_width v.shape.stages) c.self.view_is in
    omega (arith, c.self.invariant.widest)

pub returns-in-Parity-clause-bound : goal.returns-in-Parity-clause-bound
returns-in-Parity-clause-bound c =
    let b = c.args.self.now in
    let book = subst (λ (v : BookFacts). IsBook v) c.self.view_is c.self.invariant.book in
    let low = column_of-le b book c.args.name c.requires in
    let is : column_of b c.args.name ≡ max_width b.shape.stages + c.in-Parity.p = ap (column_of b) c.in-Parity.is in
    let same : max_width c.self.inside.shape.stages ≡ max_width b.shape.stages =
    ap (λ (v : BookFacts). max_width v.shape.stages) c.self.view_is in
    omega (arith, c.self.invariant.widest)
