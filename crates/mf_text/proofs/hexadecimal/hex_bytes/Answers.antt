use Rattle.std.proofs.Common.{◌<◌, ◌∙◌, sym, length, arith}
use Rattle.std.proofs.lemmas.Bool.{eqb-true, eqb-false}
use Rattle.mf_text.proofs.HexLemmas.{hex_of-none, hex_text-from, Pairs-start, Pairs-more, Pairs-bad, Pairs-end}
use Rattle.mf_text.proofs.hexadecimal.hex_bytes.Goals as goal
use Rattle.mf_text.proofs.hexadecimal.hex_bytes.Goals.{then-is_empty-via-then-is_empty}
use Rattle.mf_text.proofs.hexadecimal.hex_bytes.Goals.{then-is_empty-via-else-is_empty+then-word-ne0}

pub returns-then-is_empty-clause-fault : goal.returns-then-is_empty-clause-fault
returns-then-is_empty-clause-fault c =
    hex_of-none c.args.word.now (λ is.
    let some = is.some in
    elim c.then-is_empty.branch [
      | then-is_empty-via-then-is_empty w ↦ let none = eqb-true (length c.args.word.now) 0
          (sym c.is_empty.ensures ∙ w.if-is_empty.true) in omega arith
      | then-is_empty-via-else-is_empty+then-word-ne0 w ↦ w.if-word-ne0.true is.even
    ])

pub loop-rest-init : goal.loop-rest-init
loop-rest-init c = rw c.new-bytes.ensures.items (Pairs-start c.args.word.now c.if-word-ne0.false)

pub returns-in_default-byte_of-clause-fault : goal.returns-in_default-byte_of-clause-fault
returns-in_default-byte_of-clause-fault c = Pairs-bad c.args.word.now c.loop-rest.bytes.items c.loop-rest.rest.now
    c.loop-rest.invariant c.in-len2-up.len_at_least c.in_default-byte_of.ensures

pub loop-rest-preserved : goal.loop-rest-preserved
loop-rest-preserved c =
    rw c.in_ok-push.ensures.items
    (Pairs-more c.args.word.now c.loop-rest.bytes.items c.loop-rest.rest.now c.in-Some.byte c.loop-rest.invariant
    c.in-len2-up.len_at_least c.in-Some.ensures.0 c.in-Some.ensures.1)

pub returns-clause-value : goal.returns-clause-value
returns-clause-value c =
    let none = eqb-false (length c.args.word.now) 0 (sym c.is_empty.ensures ∙ c.if-is_empty.false) in
    let some : 0 < length c.args.word.now = omega arith in
    Pairs-end c.args.word.now c.loop-rest.bytes.items c.loop-rest.rest.now c.loop-rest.invariant some
    c.if-word-ne0.false c.in_default.len_below

pub returns-clause-spelled : goal.returns-clause-spelled
returns-clause-spelled c =
    let none = eqb-false (length c.args.word.now) 0 (sym c.is_empty.ensures ∙ c.if-is_empty.false) in
    let some : 0 < length c.args.word.now = omega arith in
    hex_text-from c.args.word.now c.loop-rest.bytes.items
    (Pairs-end c.args.word.now c.loop-rest.bytes.items c.loop-rest.rest.now c.loop-rest.invariant some
    c.if-word-ne0.false c.in_default.len_below)
