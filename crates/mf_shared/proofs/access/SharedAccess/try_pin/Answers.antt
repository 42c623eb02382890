use Rattle.std.proofs.Common.{rules, ◌≡◌, ℕ, ◌-◌, ◌≤◌, length, sym, ap, ◌∙◌, arith}
use Rattle.mf_machine.specs.Words.{number_of}
use Rattle.mf_places.specs.Facts.{BookFacts}
use Rattle.mf_gate.specs.Passes.{about}
use Rattle.mf_shared.proofs.Tries.{misses}
use Rattle.mf_shared.proofs.access.SharedAccess.try_pin.Goals as goal

pub returns-then-not-pin-clause-tries : goal.returns-then-not-pin-clause-tries
returns-then-not-pin-clause-tries g c = let s = c.args.self.now in let z = s.shared.now in
    let r : ℕ = c.look-number.result in let none = c.if-number-eq0.false in let few = c.if-number-stages.false in
    let is : r ≡ number_of (r - 1) = omega arith in
    let stages = c.stages-stages.ensures.value ∙ ap (λ (b : BookFacts). length b.shape.stages) z.book_is in
    let top : r ≤ length (about z.gate).book.shape.stages = omega arith in (
      r - 1,
      misses z s.pass c.look-number.new.pass c.pin.new.pass s.ledger.items s.cut c.args.slot (r - 1) r
          c.pin.ensures.row.0 s.at.1 is top c.look-number.ensures.range.0 c.look-number.ensures.beyond
          c.look-number.ensures.row c.pin.ensures.row.1 (sym c.pin.ensures.row.2 ∙ search rules),
    )
