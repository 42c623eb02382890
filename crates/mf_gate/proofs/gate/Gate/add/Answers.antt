use Rattle.std.proofs.Common.{sym, subst, ◌+◌, ◌%◌}
use Rattle.mf_gate.specs.Passes.{about}
use Rattle.mf_gate.specs.Rows.{row_at}
use Rattle.mf_gate.specs.Table.{Takes}
use Rattle.mf_gate.proofs.gate.Gate.add.Goals as goal

pub add_as-requires-clause-may : goal.add_as-requires-clause-may
add_as-requires-clause-may c = let g = c.args.self.now in let me = c.args.place.now.me in
    subst (λ i. Takes (about g) (row_at me c.args.deed) g.board.shared.table_id.slots c.args.place.now.id me i
    (λ x. (x + 1) % 18446744073709551616)) (sym c.word-word.ensures) c.requires.may
