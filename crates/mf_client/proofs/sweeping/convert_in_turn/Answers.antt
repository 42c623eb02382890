use Rattle.std.proofs.Common.{rules, ◌≡◌, ◌<◌, ◌∷◌, [], true, false, sym, ap, ◌∙◌, subst, arith, length, length-append}
use Rattle.mf_vault.specs.Facts.{Facts, stages}
use Rattle.mf_vault.specs.Conditions.{IsOfFamily}
use Rattle.mf_client.specs.Sweeps.{is_converted, parts_of}
use Rattle.mf_client.specs.Steps.{Converting}
use Rattle.mf_client.proofs.Turns.{turn_leaves, one_converted, ended_there, all_converted, parts_few}
use Rattle.mf_client.proofs.sweeping.convert_in_turn.Goals as goal

pub convert-change-requires-clause-idle : goal.convert-change-requires-clause-idle
convert-change-requires-clause-idle g c =
    (turn_leaves c.args.due c.loop-turn.invariant.converting.changes (g.A.Access.actor c.args.access.now)
    (g.A.Access.actor c.loop-turn.access) c.loop-turn.invariant.converting.turn c.requires.idle).idle

pub convert-change-requires-clause-family : goal.convert-change-requires-clause-family
convert-change-requires-clause-family g c =
    subst (λ (f : Facts). IsOfFamily c.args.family.now.shape c.args.family.now.points f.book)
    (sym (turn_leaves c.args.due c.loop-turn.invariant.converting.changes (g.A.Access.actor c.args.access.now)
    (g.A.Access.actor c.loop-turn.access) c.loop-turn.invariant.converting.turn c.requires.idle).facts)
    c.requires.family

pub convert-change-requires-clause-upto : goal.convert-change-requires-clause-upto
convert-change-requires-clause-upto g c =
    subst (λ (f : Facts). c.args.due < stages f)
    (sym (turn_leaves c.args.due c.loop-turn.invariant.converting.changes (g.A.Access.actor c.args.access.now)
    (g.A.Access.actor c.loop-turn.access) c.loop-turn.invariant.converting.turn c.requires.idle).facts)
    c.requires.due

pub returns-then-not-is_converted-clause-visited : goal.returns-then-not-is_converted-clause-visited
returns-then-not-is_converted-clause-visited g c =
    let lt = c.loop-turn-test.true in
    let over : is_converted c.convert-change.result ≡ false = first_of (search rules, cc) in
    ended_there c.args.file c.args.due c.loop-turn._turn c.convert-change.result (g.A.Access.actor c.args.access.now)
    (g.A.Access.actor c.loop-turn.access) (g.A.Access.actor c.convert-change.new.access) c.args.parts.now.items
    c.loop-turn.parts.items c.add_part.new.parts.items c.loop-turn.invariant.converting
    c.convert-change.ensures.licence c.add_part.ensures.items over (omega arith)

pub loop-turn-preserved : goal.loop-turn-preserved
loop-turn-preserved g c =
    let v = c.loop-turn.invariant in
    let more : is_converted c.convert-change.result ≡ true = first_of (search rules, cc) in
    let room = v.room in
    let capacity = v.capacity in
    let still = c.add_part.ensures.capacity in
    let told = parts_of c.args.file (c.convert-change.result ∷ []) in
    let long = ap length c.add_part.ensures.items ∙ length-append c.loop-turn.parts.items told in
    let few = parts_few c.args.file (c.convert-change.result ∷ []) in
    record {
      converting = one_converted c.args.file c.args.due c.loop-turn._turn c.convert-change.result
          (g.A.Access.actor c.args.access.now) (g.A.Access.actor c.loop-turn.access)
          (g.A.Access.actor c.convert-change.new.access) c.args.parts.now.items c.loop-turn.parts.items
          c.add_part.new.parts.items v.converting c.convert-change.ensures.licence c.add_part.ensures.items more;
      room = omega arith;
      capacity = omega arith;
    }

pub returns-clause-visited : goal.returns-clause-visited
returns-clause-visited g c =
    let over = c.loop-turn-test.false in
    let end = c.loop-turn.auto._turn-end in
    let all : c.loop-turn._turn ≡ c.args.due = omega arith in
    all_converted c.args.file c.args.due (g.A.Access.actor c.args.access.now) (g.A.Access.actor c.loop-turn.access)
    c.args.parts.now.items c.loop-turn.parts.items
    (subst (λ i. Converting c.args.file c.args.due i (g.A.Access.actor c.args.access.now)
    (g.A.Access.actor c.loop-turn.access) c.args.parts.now.items c.loop-turn.parts.items) all
    c.loop-turn.invariant.converting)
