use Rattle.std.proofs.Common.{length, take, sym, subst, arith, length-take-le}
use Rattle.mf_places.specs.declared.Name.TheVariants.{Data}
use Rattle.mf_vault.specs.declared.answers.Answer.TheVariants.{Here}
use Rattle.mf_vault.specs.declared.answers.Entry.TheVariants.{Chunk}
use Rattle.mf_vault.specs.declared.answers.Op.TheVariants.{Get}
use Rattle.mf_vault.specs.declared.io.Io.{Io}
use Rattle.mf_vault.specs.Counting.{io_of, SumFits}
use Rattle.mf_vault.proofs.Counted.{Below, io_low, io_step, fits}
use Rattle.mf_vault.proofs.io.count_io.Goals as goal

pub plus-io-requires : goal.plus-io-requires
plus-io-requires c = let es = c.args.entries.now in let n = c.loop-entry.entry-index in let low =
    c.loop-entry-test.true in
    let long = length-take-le n es (omega arith) in
    let below : Below c.loop-entry.io n = subst (λ (x : Io). Below x n) (sym c.loop-entry.invariant)
    (subst (λ k. Below (io_of (take n es)) k) long (io_low (take n es))) in
    subst (λ (x : Io). SumFits c.loop-entry.io x) (sym c.count.ensures)
    (fits c.loop-entry.io _ n (length es) below (omega arith) (omega arith))

pub loop-entry-preserved : goal.loop-entry-preserved
loop-entry-preserved c = let low = c.loop-entry-test.true in
    io_step c.args.entries.now c.loop-entry.entry-index (Chunk Get (Data 0) Here) c.loop-entry.io c.count.result
    c.plus-io.result
    (omega arith) c.loop-entry.invariant c.count.ensures c.plus-io.ensures
