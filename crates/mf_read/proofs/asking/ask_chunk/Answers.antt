use Rattle.std.proofs.Common.{◌+◌, List, [], ◌∷◌, ap, sym, subst, ◌<◌, arith, rules}
use Rattle.mf_shape.specs.declared.Stage.{Stage}
use Rattle.mf_shape.specs.Stages.{copies_at}
use Rattle.mf_read.specs.Groups.{Asks}
use Rattle.mf_places.specs.declared.Name.{Name}
use Rattle.mf_places.specs.declared.Name.TheVariants as name
use Rattle.mf_places.specs.Facts.{chunks_of}
use Rattle.mf_vault.specs.Facts.{Facts, cell_of}
use Rattle.mf_vault.proofs.Doing.{facts_stay}
use Rattle.mf_read.specs.Asking.{homes_of}
use Rattle.mf_read.proofs.Readers.{may_ask, reader_stays}
use Rattle.mf_read.proofs.Asked.{Trying, try_first, try_next, try_ends, try_over, copies_from, copies_more}
use Rattle.mf_read.proofs.Asked.{copies_none, copies_all}
use Rattle.mf_read.proofs.asking.ask_chunk.Goals as goal

pub ask-answer-requires : goal.ask-answer-requires
ask-answer-requires g c =
    let a = g.A.Access.actor c.args.access.now in
    may_ask c.args.g c.args.j (name.Data c.args.i) a c.requires.reader
    (g.met.A.Access.kept c.args.access.now) c.requires.chunk

pub returns-then-not-missed : goal.returns-then-not-missed
returns-then-not-missed g c =
    let a = g.A.Access.actor c.args.access.now in
    let homes = homes_of a.facts.book c.args.g c.args.i in
    let missed = c.missed.ensures in
    let tested = c.if-not-missed.true in
    try_ends homes _ (name.Data c.args.i) _ c.ask-answer.result (g.A.Access.actor c.ask-answer.new.access)
    (try_first homes a) c.ask-answer.ensures (search rules)

pub ask-answer-requires-in-loop-c : goal.ask-answer-requires-in-loop-c
ask-answer-requires-in-loop-c g c =
    let t = c.loop-c.invariant in
    let a = g.A.Access.actor c.args.access.now in
    let b = g.A.Access.actor c.loop-c.access in
    let stage = ap (λ (s : Stage). s.copies) c.stage-copies.ensures in
    let low = c.loop-c-test.true in
    let r = reader_stays a.facts t.asks c.args.g c.args.j t.does c.requires.reader in
    may_ask c.args.g c.args.j (name.Copy c.loop-c.c c.args.i) b r (g.met.A.Access.kept c.loop-c.access)
    (subst (λ (f : Facts). (c.loop-c.c < copies_at f.book.shape.stages c.args.g)
    × (c.args.i < chunks_of f.book)) (sym (facts_stay t.does)) ((omega arith), c.requires.chunk))

pub returns-then-not-missed-2 : goal.returns-then-not-missed-2
returns-then-not-missed-2 g c =
    let t = c.loop-c.invariant in
    let a = g.A.Access.actor c.args.access.now in
    let b = g.A.Access.actor c.loop-c.access in
    let d = g.A.Access.actor c.ask-answer-in-loop-c.new.access in
    let homes = homes_of a.facts.book c.args.g c.args.i in
    let x = name.Copy c.loop-c.c c.args.i in
    let missed = c.missed-in-loop-c.ensures in
    let tested = c.if-not-missed-2.true in
    let asked = subst (λ (f : Facts). Asks (x ∷ []) (cell_of f x) c.ask-answer-in-loop-c.result b d)
    (facts_stay t.does) c.ask-answer-in-loop-c.ensures in
    try_ends homes (copies_from c.stage-copies.result.copies c.args.i (c.loop-c.c + 1)) x
    (cell_of a.facts x) c.ask-answer-in-loop-c.result d
    (subst (λ (l : List Name). Trying homes l a b)
    (copies_more c.stage-copies.result.copies c.args.i c.loop-c.c c.loop-c-test.true) t) asked (search rules)

pub loop-c-init : goal.loop-c-init
loop-c-init g c =
    let a = g.A.Access.actor c.args.access.now in
    let homes = homes_of a.facts.book c.args.g c.args.i in
    let missed = c.missed.ensures in
    let tested = c.if-not-missed.false in
    let stage = ap (λ (s : Stage). s.copies) c.stage-copies.ensures in
    subst (λ (l : List Name). Trying homes l a (g.A.Access.actor c.ask-answer.new.access))
    (copies_all c.stage-copies.result.copies c.args.i _ stage)
    (try_next homes _ (name.Data c.args.i) _ c.ask-answer.result (try_first homes a) c.ask-answer.ensures
    (search rules))

pub loop-c-preserved : goal.loop-c-preserved
loop-c-preserved g c =
    let t = c.loop-c.invariant in
    let a = g.A.Access.actor c.args.access.now in
    let b = g.A.Access.actor c.loop-c.access in
    let homes = homes_of a.facts.book c.args.g c.args.i in
    let x = name.Copy c.loop-c.c c.args.i in
    let missed = c.missed-in-loop-c.ensures in
    let tested = c.if-not-missed-2.false in
    try_next homes (copies_from c.stage-copies.result.copies c.args.i
    (c.loop-c.c + 1)) x _ c.ask-answer-in-loop-c.result
    (subst (λ (l : List Name). Trying homes l a b)
    (copies_more c.stage-copies.result.copies c.args.i c.loop-c.c c.loop-c-test.true) t)
    c.ask-answer-in-loop-c.ensures (search rules)

pub returns : goal.returns
returns g c =
    let t = c.loop-c.invariant in
    let a = g.A.Access.actor c.args.access.now in
    let b = g.A.Access.actor c.loop-c.access in
    let homes = homes_of a.facts.book c.args.g c.args.i in
    try_over homes (cell_of a.facts (name.Data c.args.i))
    (subst (λ (l : List Name). Trying homes l a b)
    (copies_none c.stage-copies.result.copies c.args.i c.loop-c.c c.loop-c-test.false) t)
