use Rattle.std.proofs.Common.{Bool, ap, arith, length, filter, ◌∷◌, []}
use Rattle.mf_places.specs.declared.Name.TheVariants.{Data}
use Rattle.mf_vault.proofs.Doing.{facts_stay}
use Rattle.mf_client.proofs.Losses.{may_still, lose_more}
use Rattle.mf_client.proofs.losing.lose_names.Goals as goal
use Rattle.mf_client.proofs.losing.lose_names.Goals.{then-lose, else-lose}

pub lose-requires-clause-may : goal.lose-requires-clause-may
lose-requires-clause-may g c =
    may_still _ c.args.line (g.A.Access.actor c.args.access.now) (g.A.Access.actor c.loop-name.access) (facts_stay
    c.loop-name.invariant.lost.does)
    (c.requires.may.0 c.loop-name.name-index (Data 0) c.loop-name-test.true)

pub loop-name-preserved : goal.loop-name-preserved
loop-name-preserved g c =
    let v = c.loop-name.invariant in
    let room = v.room in
    let low = v.low in
    let spare = c.lose.ensures.spare in
    elim c.if-lose.branch [
      | then-lose w ↦
          let is = w.count-is in
          let yes = ap (λ (b : Bool). length (filter (λ (x : Bool). x) (b ∷ []))) w.if-lose.true in
          record {
            lost = lose_more c.args.line c.loop-name.count c.if-lose.count c.loop-name.name-index c.args.names.now
                c.lose.result (Data 0) v.lost c.lose.ensures.goes c.loop-name-test.true (omega arith);
            room = omega arith;
            low = omega arith;
          }
      | else-lose w ↦
          let is = w.count-is in
          let no = ap (λ (b : Bool). length (filter (λ (x : Bool). x) (b ∷ []))) w.if-lose.false in
          record {
            lost = lose_more c.args.line c.loop-name.count c.if-lose.count c.loop-name.name-index c.args.names.now
                c.lose.result (Data 0) v.lost c.lose.ensures.goes c.loop-name-test.true (omega arith);
            room = omega arith;
            low = omega arith;
          }
    ]
