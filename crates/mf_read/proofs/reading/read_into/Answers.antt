use Rattle.std.proofs.Common.{[], ap, sym, ◌∙◌, refl, append-nil, arith}
use Rattle.mf_vault.specs.Facts.{place}
use Rattle.mf_vault.proofs.Doing.{one}
use Rattle.mf_read.proofs.Stripewise.{hold_pinned, work_pinned, frees_pin, into_held, into_pinned, vector}
use Rattle.mf_read.proofs.reading.read_into.Goals as goal

pub read_generation-requires-clause-pinned : goal.read_generation-requires-clause-pinned
read_generation-requires-clause-pinned g c = hold_pinned c.in-Some.g (g.A.Access.actor c.args.access.now)
    (g.met.A.Access.kept c.args.access.now) c.in-Some.ensures

pub returns-in-Some : goal.returns-in-Some
returns-in-Some g c = into_held c.args.alloc c.in-Some.g c.read_generation.result (g.T.Taker.taken c.args.taker.now)
    (g.T.Taker.taken c.read_generation.new.taker) (g.met.A.Access.kept c.args.access.now).file c.in-Some.ensures
    c.read_generation.ensures.reads c.read_generation.ensures.hands

pub read_generation-outcome-requires-clause-pinned : goal.read_generation-outcome-requires-clause-pinned
read_generation-outcome-requires-clause-pinned g c = let (missed, goes) = c.in-At.ensures.goes in
    work_pinned c.in-At.g missed goes

pub unpin-requires : goal.unpin-requires
unpin-requires g c = let (missed, goes) = c.in-At.ensures.goes in
    frees_pin c.args.alloc c.in-At.g c.read_generation-outcome.result missed
    (g.met.A.Access.kept c.args.access.now).file goes c.read_generation-outcome.ensures.reads

pub returns-in-At : goal.returns-in-At
returns-in-At g c =
    let (missed, goes) = c.in-At.ensures.goes in
    into_pinned c.args.alloc c.in-At.g c.read_generation-outcome.result missed (g.T.Taker.taken c.args.taker.now)
    (g.T.Taker.taken c.read_generation-outcome.new.taker) (g.met.A.Access.kept c.args.access.now).file
    (sym (ap place c.in_default.is) ∙ c.pinned.ensures) goes
    c.read_generation-outcome.ensures.reads c.read_generation-outcome.ensures.hands c.unpin.ensures.goes

pub returns-in-Absent : goal.returns-in-Absent
returns-in-Absent g c =
    let (missed, goes) = c.in-Absent.ensures.goes in
    record {
      bytes = vector c.args.alloc [] (omega arith);
      reads = (_, (sym c.pinned.ensures ∙ ap place c.in_default.is, (missed, refl)), one goes);
      taken = [];
      told = sym (append-nil (g.T.Taker.taken c.args.taker.now));
      are = refl;
    }

pub returns-in-Removed : goal.returns-in-Removed
returns-in-Removed g c =
    let (missed, goes) = c.in-Removed.ensures.goes in
    record {
      bytes = vector c.args.alloc [] (omega arith);
      reads = (_, (sym c.pinned.ensures ∙ ap place c.in_default.is, (missed, refl)), one goes);
      taken = [];
      told = sym (append-nil (g.T.Taker.taken c.args.taker.now));
      are = refl;
    }
