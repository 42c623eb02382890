use Rattle.std.proofs.Common.{◌≡◌, ℕ, ◌<◌, List, length, take, sym, ap, ◌∙◌, subst, arith}
use Rattle.std.proofs.lemmas.List.{length-take-le}
use Rattle.mf_check.specs.Families.{Code, IsCode}
use Rattle.mf_shape.specs.Chain.{Chain}
use Rattle.mf_shape.specs.declared.Stage.{Stage}
use Rattle.mf_shape.specs.Stages.{parities_at}
use Rattle.mf_places.specs.Generations.{pieces_of}
use Rattle.mf_places.specs.Facts.{BookFacts}
use Rattle.mf_places.proofs.Held.{parities_at-le-first}
use Rattle.mf_vault.specs.Facts.{stages}
use Rattle.mf_vault.specs.Actor.{Actor}
use Rattle.mf_vault.specs.Conditions.{IsOfFamily}
use Rattle.mf_read.proofs.Gathered.{gathers_by}
use Rattle.mf_read.proofs.gathering.gather_by.Goals as goal

-- the family has points for the stage
points_taken : (start a : Actor) (family : Code) (g parities : ℕ) (read : List ℕ) → start ≡ a
    → g < stages start.facts → IsOfFamily family.shape family.points a.facts.book → IsCode family
    → parities ≡ parities_at a.facts.book.shape.stages g → read ≡ family.points → length (take parities read) ≡ parities
points_taken start a family g parities read e low of kept p q =
    let shape = ap (λ (s : Chain). s.stages) of.shape in
    let low' : g < length family.shape.stages = subst (λ (l : List Stage). g < length l) shape (subst (λ
    (z : Actor). g < stages z.facts) e low) in
    let same : parities_at a.facts.book.shape.stages g ≡ parities_at family.shape.stages g = ap (λ
    (l : List Stage). parities_at l g) shape in
    let most = parities_at-le-first kept.shape_ok.chain g low' in
    let all = kept.family.points_ok.len in
    let long = ap length q in
    length-take-le parities read (omega arith)

pub slice_bounds-points-end : goal.slice_bounds-points-end
slice_bounds-points-end g c =
    let asker = c.args.asker.now in
    sym (points_taken g.K.Begun.start (g.A.Access.actor asker.access.now) c.args.family.now asker.g
    c.stage-stage.result.parities c.points.result.now c.requires.start
    asker.reader.stage c.requires.family c.points.ensures.kept (ap (λ
    (s : Stage). s.parities) c.stage-stage.ensures) c.points.ensures.value)

pub returns-clause-gathers : goal.returns-clause-gathers
returns-clause-gathers g c =
    let old = c.args.asker.now in
    let new = c.gather_kept.new.pieces in
    let a = g.A.Access.actor old.access.now in
    let stays = c.gather_kept.ensures.stays.1 in
    let parities = ap (λ (s : Stage). s.parities) c.stage-stage.ensures in
    gathers_by old.g old.j new.g new.j g.K.Begun.start a
    (g.A.Access.actor new.access.now) new.stopped c.gather_kept.result c.pieces-count.result
    (length (take c.stage-stage.result.parities c.points.result.now))
    c.requires.start (ap (λ (t : ℕ × ℕ × ℕ). t.1) stays) (ap (λ (t : ℕ × ℕ × ℕ). t.2) stays)
    (c.pieces-count.ensures.value ∙ ap (λ (b : BookFacts). pieces_of b old.g old.j) c.book.ensures)
    (points_taken g.K.Begun.start a c.args.family.now old.g c.stage-stage.result.parities c.points.result.now
    c.requires.start
    old.reader.stage c.requires.family c.points.ensures.kept parities c.points.ensures.value ∙ parities)
    c.gather_kept.ensures.answer c.gather_kept.ensures.asked new.since
