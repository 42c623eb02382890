use Rattle.std.proofs.Common.{rules, ◌≡◌, ◌∷◌, length, get_or, ap, ◌∙◌, arith}
use Rattle.std.proofs.lemmas.List.Elements.{All-push, All-same}
use Rattle.std.proofs.lemmas.Slice.{first_rest}
use Rattle.std.specs.List.{between}
use Rattle.mf_journal.specs.Frames.{IsShort}
use Rattle.mf_journal.specs.Opening.{lists}
use Rattle.mf_journal.proofs.Openings.{lists_push, one_read}
use Rattle.mf_journal.proofs.opening.parse.Goals as goal

pub loop-rest-preserved : goal.loop-rest-preserved
loop-rest-preserved c =
    let rest = c.loop-rest.rest.now in
    let so_far = lists c.loop-rest.records.items in
    let payload = c.in-Some.payload.now in
    let copied : c.in_ok-to_vec.field-0.items ≡ payload = search rules in
    let pushed = lists_push c.loop-rest.records.items c.push.new.self.items c.in_ok-to_vec.field-0
    payload c.in_ok-push.ensures.items copied in
    let gate : get_or rest 0 0 ≡ 165 = search rules in
    let behind = between 1 (length rest) rest in
    let opens = first_rest rest 0 (omega arith) ∙ ap (λ x. x ∷ behind) gate in
    record {
      read = one_read c.args.bytes.now rest behind c.in-Some.after.now payload so_far _
          c.loop-rest.invariant.read opens c.in-Some.ensures.some.0 pushed;
      short = All-same IsShort _ _ pushed
          (All-push IsShort so_far payload c.loop-rest.invariant.short c.in-Some.ensures.some.1);
    }
