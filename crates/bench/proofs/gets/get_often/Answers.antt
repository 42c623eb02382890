use Rattle.mf_vault.proofs.Entering.{pinned_at}
use Rattle.mf_vault.proofs.Held.{may_get_work}
use Rattle.bench.proofs.gets.get_often.Goals as goal

pub is_held-requires : goal.is_held-requires
is_held-requires g c =
    let (missed, goes) = c.in-At.ensures.goes in
    (pinned_at goes).1

pub get_all-requires-clause-may : goal.get_all-requires-clause-may
get_all-requires-clause-may g c =
    let (missed, goes) = c.in-At.ensures.goes in
    let at = pinned_at goes in
    may_get_work (g.A.Access.actor c.pin.new.self) c.in-At.g c.args.name at.0 at.1 c.if-is_held.ensures.had
    c.if-is_held.ensures.held
