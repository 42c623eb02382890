use Rattle.mf_read.specs.Asking.{homes_of}
use Rattle.mf_read.proofs.Asked.{Trying, copies_from}
use Rattle.mf_read.proofs.asking.ask_chunk.Given as goal

abbrev pub invariant-loop-c : goal.invariant-loop-c
invariant-loop-c g l =
    let a = g.A.Access.actor l.fn.access in
    Trying (homes_of a.facts.book l.g l.i) (copies_from l.copies l.i l.c) a (g.A.Access.actor l.access)
