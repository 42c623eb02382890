use Rattle.mf_journal.proofs.Commits.{first, second, third, fourth, acknowledged}
use Rattle.mf_journal.proofs.commit.commit.Goals as goal

pub returns-in_err-write_at-clause-any_moment : goal.returns-in_err-write_at-clause-any_moment
returns-in_err-write_at-clause-any_moment g c = λ ps p short is rest.
    first g.D.Disk c.args.gate ps p c.args.body.now short is c.args.disk.now
    c.write_at.new.self c.write_at.new.self c.write_at.new.self c.write_at.new.self rest
    (g.met.D.Disk.only_now c.args.disk.now)
    (c.write_at.ensures.leaves, c.write_at.ensures.time)

pub returns-in_err-sync-clause-any_moment : goal.returns-in_err-sync-clause-any_moment
returns-in_err-sync-clause-any_moment g c = λ ps p short is rest.
    second g.D.Disk c.args.gate ps p c.args.body.now short is c.args.disk.now
    c.write_at.new.self c.sync.new.self c.sync.new.self c.sync.new.self rest
    (g.met.D.Disk.only_now c.args.disk.now)
    (c.write_at.ensures.leaves, c.write_at.ensures.time)
    (c.sync.ensures.leaves, c.sync.ensures.time)

pub returns-in_err-write_at-2-clause-any_moment : goal.returns-in_err-write_at-2-clause-any_moment
returns-in_err-write_at-2-clause-any_moment g c = λ ps p short is rest.
    third g.D.Disk c.args.gate ps p c.args.body.now short is c.args.disk.now
    c.write_at.new.self c.sync.new.self c.write_at-2.new.self c.write_at-2.new.self rest
    (g.met.D.Disk.only_now c.args.disk.now)
    (c.write_at.ensures.leaves, c.write_at.ensures.time) c.in_ok-write_at.ensures.written
    (c.sync.ensures.leaves, c.sync.ensures.time)
    (c.in_ok-sync.ensures.lasting, c.sync.ensures.reads)
    (c.write_at-2.ensures.leaves, c.write_at-2.ensures.time)

pub returns-in_err-sync-2-clause-any_moment : goal.returns-in_err-sync-2-clause-any_moment
returns-in_err-sync-2-clause-any_moment g c = λ ps p short is rest.
    fourth g.D.Disk c.args.gate ps p c.args.body.now short is c.args.disk.now
    c.write_at.new.self c.sync.new.self c.write_at-2.new.self c.sync-2.new.self rest
    (g.met.D.Disk.only_now c.args.disk.now)
    (c.write_at.ensures.leaves, c.write_at.ensures.time) c.in_ok-write_at.ensures.written
    (c.sync.ensures.leaves, c.sync.ensures.time)
    (c.in_ok-sync.ensures.lasting, c.sync.ensures.reads)
    (c.write_at-2.ensures.leaves, c.write_at-2.ensures.time)
    (c.sync-2.ensures.leaves, c.sync-2.ensures.time)

pub returns-clause-any_moment : goal.returns-clause-any_moment
returns-clause-any_moment g c = λ ps p short is rest.
    fourth g.D.Disk c.args.gate ps p c.args.body.now short is c.args.disk.now
    c.write_at.new.self c.sync.new.self c.write_at-2.new.self c.sync-2.new.self rest
    (g.met.D.Disk.only_now c.args.disk.now)
    (c.write_at.ensures.leaves, c.write_at.ensures.time) c.in_ok-write_at.ensures.written
    (c.sync.ensures.leaves, c.sync.ensures.time)
    (c.in_ok-sync.ensures.lasting, c.sync.ensures.reads)
    (c.write_at-2.ensures.leaves, c.write_at-2.ensures.time)
    (c.sync-2.ensures.leaves, c.sync-2.ensures.time)

pub returns-clause-acknowledged : goal.returns-clause-acknowledged
returns-clause-acknowledged g c = λ ps p short is rest.
    acknowledged g.D.Disk c.args.gate ps p c.args.body.now short is c.args.disk.now
    c.write_at.new.self c.sync.new.self c.write_at-2.new.self c.sync-2.new.self rest
    (g.met.D.Disk.only_now c.args.disk.now)
    c.in_ok-write_at.ensures.written
    (c.in_ok-sync.ensures.lasting, c.sync.ensures.reads)
    c.in_ok-write_at-2.ensures.written (c.in_ok-sync-2.ensures.lasting, c.sync-2.ensures.reads)
