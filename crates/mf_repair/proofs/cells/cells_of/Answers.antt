use Rattle.std.proofs.Common.{◌≡◌, ◌≤◌, ◌*◌, All, List, ℕ, length, ap, sym, ◌∙◌, subst, arith}
use Rattle.mf_shape.specs.Chain.{Chain}
use Rattle.mf_shape.specs.declared.Stage.{Stage}
use Rattle.mf_shape.specs.Stages.{width_at}
use Rattle.mf_code.specs.Stripes.{stripe}
use Rattle.mf_places.specs.declared.Name.TheVariants.{Data}
use Rattle.mf_vault.specs.Facts.{cell}
use Rattle.mf_repair.proofs.Placed.{stripe_lengths, stripe_few, parities_made, cells_more}
use Rattle.mf_repair.proofs.cells.cells_of.Goals as goal

pub encode-requires-clause-count : goal.encode-requires-clause-count
encode-requires-clause-count c =
    let (file, long, is) = c.requires.chunks in
    let w = ap (λ (s : Stage). s.width) c.stage-stage.ensures in
    let same = ap (λ (s : Chain). width_at s.stages c.args.g) c.requires.family.shape in
    let few = stripe_few c.args.book.now.chunk file (width_at c.args.book.now.shape.stages c.args.g) c.args.j in
    let n = ap length is in
    omega arith

pub encode-requires-clause-lengths : goal.encode-requires-clause-lengths
encode-requires-clause-lengths c =
    let (file, long, is) = c.requires.chunks in
    subst (λ (n : ℕ). All (λ (piece : List ℕ). length piece ≡ n) c.args.chunks.now) (sym c.chunk.ensures.value)
    (subst (λ (l : List (List ℕ)). All (λ (piece : List ℕ). length piece ≡ c.args.book.now.chunk) l) (sym is)
    (stripe_lengths c.args.book.now.chunk file (width_at c.args.book.now.shape.stages c.args.g) c.args.j))

pub loop-name-preserved : goal.loop-name-preserved
loop-name-preserved c file long is =
    let b = c.args.book.now in
    let g = c.args.g in
    let j = c.args.j in
    let i = c.loop-name.name-index in
    let low = c.loop-name-test.true in
    let chunk = c.chunk.ensures.value in
    let wide : c.stage-stage.result.width ≡ width_at b.shape.stages g = ap (λ
    (s : Stage). s.width) c.stage-stage.ensures
    ∙ sym (ap (λ (s : Chain). width_at s.stages g) c.requires.family.shape) in
    cells_more (cell b file) c.args.names.now i (Data 0) c.loop-name.cells.items c.push.new.self.items
    c.in_ok-cell.field-0
    low (c.loop-name.invariant file long is)
    (c.in_ok-cell.ensures b file g j record {
      book = c.chunk.ensures.kept;
      has = c.requires.stripe;
      long = long;
      start = ap (λ w. j * w) wide;
      chunks = is;
      parities = c.in_ok-chunks_of.ensures ∙ parities_made b c.args.family.now file g j c.chunk.result
          c.stage-stage.result
          c.points.result.now _ c.requires.family chunk c.stage-stage.ensures c.points.ensures.value
          (c.in_ok-lists.ensures.of_file file j (is ∙ (λ k. stripe (sym chunk k) file (sym wide k) j)));
    } (c.requires.names i (Data 0) low))
    c.in_ok-push.ensures.items
