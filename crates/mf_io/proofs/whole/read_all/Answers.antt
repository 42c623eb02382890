use Rattle.std.proofs.Common.{◌≡◌, ◌+◌, ◌++◌, length, take, ◌∙◌, arith, length-append}
use Rattle.std.proofs.lemmas.List.{length-take, length-take-le}
use Rattle.std.proofs.KnownBytes.{Consumes-trans}
use Rattle.mf_io.specs.ReadAll.{LeavesRefused}
use Rattle.mf_io.specs.declared.whole.ReadAll.TheVariants.{Memory}
use Rattle.mf_io.proofs.Pieces.{IfErr-from_one}
use Rattle.mf_io.proofs.whole.read_all.Goals as goal

pub returns-then-n-room-clause-refused : goal.returns-then-n-room-clause-refused
returns-then-n-room-clause-refused g c =
    let left = g.S.Source.left in
    let n = c.in_ok-n.n in
    let part = take n c.read.new.buf in
    let size : length part ≡ n = length-take-le n c.read.new.buf c.in_ok-n.ensures.bound.0 in (
      c.in_ok-n.ensures.count ∙ c.loop-text.invariant.2,
      (
        c.loop-text.text.items ++ part,
        Consumes-trans (left c.args.source.now) (left c.loop-text.source) (left c.read.new.self) _ _
            c.loop-text.invariant.1 c.in_ok-n.ensures.bytes.0,
        omega (
          arith,
          length-append c.loop-text.text.items part,
          size,
          c.in_ok-n.ensures.bound.0,
          length-take
              (c.min-ask.result + 1) c.loop-text.buf,
          c.loop-text.text.ok.0,
        ),
      ),
    )

pub returns-in_err-extend_from_slice-clause-refused : goal.returns-in_err-extend_from_slice-clause-refused
returns-in_err-extend_from_slice-clause-refused g c =
    let left = g.S.Source.left in
    let n = c.in_ok-n.n in
    let part = take n c.read.new.buf in
    let size : length part ≡ n = length-take-le n c.read.new.buf c.in_ok-n.ensures.bound.0 in
    IfErr-from_one _ Memory
    (λ e. LeavesRefused e c.args.limit (left c.args.source.now) (left c.read.new.self)
    (g.S.Source.faults c.args.source.now) (g.S.Source.faults c.read.new.self))
    c.from_residual-in_err-extend_from_slice.ensures.1 (
      c.in_ok-n.ensures.count ∙ c.loop-text.invariant.2,
      (
        c.loop-text.text.items ++ part,
        Consumes-trans (left c.args.source.now) (left c.loop-text.source) (left c.read.new.self) _ _
            c.loop-text.invariant.1 c.in_ok-n.ensures.bytes.0,
        omega (arith, length-append c.loop-text.text.items part, size, c.loop-text.text.ok.0),
      ),
    )
