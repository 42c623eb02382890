use Rattle.std.proofs.Common.{ℕ, List, sym, subst}
use Rattle.mf_read.specs.declared.outcome.ReadOutcome.{ReadOutcome}
use Rattle.mf_read.specs.Reading.{Reads}
use Rattle.mf_read.specs.Taking.{ReadsInto}
use Rattle.mf_read.proofs.Leaving.{reads_leaves}
use Rattle.mf_read.proofs.Stripewise.{collected}
use Rattle.mf_read.proofs.reading.read.Goals as goal

pub returns-clause-reads : goal.returns-clause-reads
returns-clause-reads g c =
    let a = g.A.Access.actor c.args.access.now in
    let b = g.A.Access.actor c.read_into-outcome.new.access in
    let into = c.read_into-outcome in
    subst (λ (o : ReadOutcome). Reads o a b) (sym c.with_bytes.ensures)
    (collected into.result into.new.taker
    (subst (λ (l : List ℕ). ReadsInto into.result l into.new.taker.items a b) c.new-bytes.ensures.items into.ensures))

pub returns-clause-leaves : goal.returns-clause-leaves
returns-clause-leaves g c idle = reads_leaves c.with_bytes.result (returns-clause-reads g c) idle
