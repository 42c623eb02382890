use Rattle.std.proofs.Common.{◌≡◌, ◌++◌, ◌∙◌, ap, map, length, arith}
use Rattle.std.specs.List.{range_with_len}
use Rattle.std.specs.String.{string_bytes}
use Rattle.mf_places.specs.Facts.{BookFacts}
use Rattle.mf_report.specs.Dumps.{generation_text}
use Rattle.mf_report.proofs.Listed.{line_next}
use Rattle.mf_report.proofs.dumps.add_generations.Goals as goal

pub loop-g-preserved : goal.loop-g-preserved
loop-g-preserved c =
    line_next string_bytes (generation_text c.args.plain.now) c.loop-g.g c.args.lines.now.items c.loop-g.lines.items
    c.push.new.self.items c.in_ok-generation_line.field-0 c.loop-g.invariant c.in_ok-push.ensures.items
    c.in_ok-generation_line.ensures

pub returns : goal.returns
returns c =
    let many = c.stages-g-end.ensures.value ∙ ap (λ (b : BookFacts). length b.shape.stages) c.book.ensures in
    let most = c.loop-g-test.false in
    let least = c.loop-g.auto.g-end in
    let all : c.loop-g.g ≡ length c.args.plain.now.book.shape.stages = omega arith in
    c.loop-g.invariant
    ∙ ap (λ m. map string_bytes c.args.lines.now.items ++ map (generation_text c.args.plain.now) (range_with_len 0 m)) all
