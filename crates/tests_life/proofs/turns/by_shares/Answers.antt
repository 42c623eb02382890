use Rattle.std.proofs.Common.{sym, ap, ◌∙◌}
use Rattle.mf_machine.specs.declared.view.View.{View}
use Rattle.mf_vault.specs.Actor.{Actor}
use Rattle.mf_shared.specs.Seats.{view_of}
use Rattle.tests_life.proofs.Following.{entered_able, whole_again}
use Rattle.tests_life.proofs.turns.by_shares.Goals as goal

pub by_two-requires-clause-first : goal.by_two-requires-clause-first
by_two-requires-clause-first g c =
    entered_able c.args.family.now c.args.bytes.now c.args.plain c.args.now c.args.losses.now c.in-Ok.shared
    c.in-Ok.first c.split-second.new.seat _ c.in-Ok.ensures.made c.new-one.ensures c.requires.family c.requires.bytes
    c.requires.line

pub by_two-requires-clause-second : goal.by_two-requires-clause-second
by_two-requires-clause-second g c =
    entered_able c.args.family.now c.args.bytes.now c.args.plain c.args.now c.args.losses.now c.in-Ok.shared
    c.in-Ok.first c.split-second.result _ c.in-Ok.ensures.made c.new-other.ensures c.requires.family c.requires.bytes
    c.requires.line

pub join-requires : goal.join-requires
join-requires g c = record {
  of = (
    c.finish-first.ensures.of c.in-Ok.shared
        (sym (c.by_two.ensures.first.facts ∙ ap (λ (a : Actor). a.facts) c.new-one.ensures)),
    c.finish-second.ensures.of c.in-Ok.shared
        (sym (c.by_two.ensures.second.facts ∙ ap (λ (a : Actor). a.facts) c.new-other.ensures)),
  );
}

pub into_plain-plain-requires-clause-last : goal.into_plain-plain-requires-clause-last
into_plain-plain-requires-clause-last g c =
    whole_again (view_of c.in-Ok.first) _ _ _ _ _ _ _ _ _ (ap (λ (v : View). v.share) c.in-Ok.ensures.made.view)
    c.split-second.ensures.old c.split-second.ensures.new (ap (λ (a : Actor). a.view) c.new-one.ensures)
    (ap (λ (a : Actor). a.view) c.new-other.ensures) c.by_two.ensures.first c.by_two.ensures.second
    c.finish-first.ensures.view c.finish-second.ensures.view c.join.ensures.both
