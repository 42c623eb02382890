use Rattle.std.proofs.Common.{◌≡◌, length, take, drop, min, sym, ap, ◌∙◌, arith, length-append, length-drop}
use Rattle.std.proofs.lemmas.List.{length-take}
use Rattle.mf_io.proofs.Pieces.{taken_front, none_left}
use Rattle.mf_io.proofs.memory.MemorySourceSource.read.Goals as goal

pub returns-clause-bytes : goal.returns-clause-bytes
returns-clause-bytes c =
    let bytes = c.self.inside.bytes.items in
    let taken = c.self.inside.taken in
    let n = c.min-n.result in
    let left : c.split_at.result.1.now ≡ drop taken bytes = c.split_at.ensures.back
    ∙ ap (drop taken) c.deref-2.ensures.value in
    let count : n ≡ min (min (length (drop taken bytes)) (length c.args.buf.now)) c.self.inside.piece =
    c.min-n.ensures
    ∙ ap (λ m. min m c.self.inside.piece) (c.min.ensures ∙ ap (λ xs. min (length xs) (length c.args.buf.now)) left)
    in (
      ap (λ f. f.left) (sym c.self.view_is)
          ∙ taken_front bytes (drop n c.args.buf.now) c.copy_from_slice.new.self taken n (omega arith)
          (c.copy_from_slice.ensures.after ∙ ap (take n) left),
      λ z room. none_left bytes taken n (length c.args.buf.now) c.self.inside.piece count c.self.invariant.1 z
          (omega (
            arith,
            length-append c.copy_from_slice.new.self (drop n c.args.buf.now),
            length-drop n c.args.buf.now,
            length-take n c.args.buf.now,
            c.copy_from_slice.ensures.len,
          )),
    )
