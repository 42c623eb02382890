use Rattle.std.proofs.Common.{◌≡◌, ◌++◌, ◌∙◌, ap, map, arith}
use Rattle.std.specs.List.{range_with_len}
use Rattle.std.specs.String.{string_bytes}
use Rattle.mf_places.specs.Names.{count_of}
use Rattle.mf_report.specs.Dumps.{chunk_text}
use Rattle.mf_report.proofs.Listed.{line_next}
use Rattle.mf_report.proofs.dumps.add_chunks.Goals as goal

pub loop-n-preserved : goal.loop-n-preserved
loop-n-preserved c =
    line_next string_bytes (chunk_text c.args.plain.now) c.loop-n.n c.args.lines.now.items c.loop-n.lines.items
    c.push.new.self.items c.in_ok-chunk_line.field-0 c.loop-n.invariant c.in_ok-push.ensures.items
    c.in_ok-chunk_line.ensures

pub returns : goal.returns
returns c =
    let many = c.count-n-end.ensures.value ∙ ap count_of c.book.ensures in
    let most = c.loop-n-test.false in
    let least = c.loop-n.auto.n-end in
    let all : c.loop-n.n ≡ count_of c.args.plain.now.book = omega arith in
    c.loop-n.invariant
    ∙ ap (λ m. map string_bytes c.args.lines.now.items ++ map (chunk_text c.args.plain.now) (range_with_len 0 m)) all
