use Rattle.std.proofs.Common.{length, map}
use Rattle.std.specs.List.{range_with_len}
use Rattle.std.specs.String.{string_bytes}
use Rattle.std.proofs.lemmas.Result.{on_ok_weaker}
use Rattle.mf_places.specs.Names.{count_of}
use Rattle.mf_report.specs.Dumps.{head_text, generation_text, chunk_text}
use Rattle.mf_report.proofs.Listed.{lines_next}
use Rattle.mf_report.proofs.dumps.add_dump.Goals as goal

pub returns : goal.returns
returns c =
    let r = c.args.plain.now in
    on_ok_weaker c.add_chunks.result
    (lines_next string_bytes c.args.lines.now.items c.push.new.self.items c.add_generations.new.lines.items
    c.add_chunks.new.lines.items c.in_ok-format.field-0 (head_text c.args.name.now r)
    (map (generation_text r) (range_with_len 0 (length r.book.shape.stages)))
    (map (chunk_text r) (range_with_len 0 (count_of r.book))) c.in_ok-push.ensures.items c.in_ok-format.ensures.ok
    c.in_ok-add_generations.ensures)
    c.add_chunks.ensures
