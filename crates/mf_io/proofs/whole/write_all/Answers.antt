use Rattle.std.proofs.Common.{◌≡◌, ◌+◌, ◌-◌, ◌++◌, length, take, drop, sym, ap, ◌∙◌, subst, arith, length-drop}
use Rattle.std.proofs.lemmas.List.{take_all, length-take}
use Rattle.std.proofs.Math.Seq.{take-add}
use Rattle.std.proofs.KnownBytes.{Appends-trans}
use Rattle.std.specs.Io.KnownBytes.{Appends}
use Rattle.mf_io.proofs.whole.write_all.Goals as goal

pub loop-done-preserved : goal.loop-done-preserved
loop-done-preserved g c =
    let written = g.K.Sink.written in
    let bytes = c.args.bytes.now in
    let done = c.loop-done.done in
    let n = c.in_ok-done.field-0 in
    let rest : take (length bytes - done) (drop done bytes) ≡ drop done bytes =
    take_all (length bytes - done) (drop done bytes) (omega (arith, length-drop done bytes)) in
    let two : take done bytes ++ take n (take (length bytes - done) (drop done bytes)) ≡ take (done + n) bytes =
    ap (λ xs. take done bytes ++ take n xs) rest ∙ sym (take-add done n bytes) in (
      omega (
        arith,
        c.in_ok-done.ensures.bound,
        length-take (length bytes - done) (drop done bytes),
        length-drop done
            bytes,
      ),
      subst (Appends (written c.args.sink.now) (written c.write.new.self)) two
          (Appends-trans (written c.args.sink.now) (written c.loop-done.sink) (written c.write.new.self) _ _
          c.loop-done.invariant.1 c.in_ok-done.ensures.bytes),
      c.in_ok-done.ensures.count ∙ c.loop-done.invariant.2,
    )
