-- How a read leaves an actor.
use Rattle.std.proofs.Common.{◌≡◌, ℕ, List, [], ◌∷◌, ◌++◌, refl, sym, ap, ◌∙◌, subst, inl, inr, ◌⊎◌}
use Rattle.mf_machine.specs.declared.answer.Slot.TheVariants.{Work}
use Rattle.mf_places.specs.declared.Name.{Name}
use Rattle.mf_vault.specs.declared.answers.Got.TheVariants as got
use Rattle.mf_vault.specs.declared.answers.Pinned.TheVariants as pinned
use Rattle.mf_vault.specs.Facts.{Facts}
use Rattle.mf_vault.specs.Actor.{Actor, Call, did, pin, unpin, get}
use Rattle.mf_vault.specs.Licence.{did_all}
use Rattle.mf_vault.specs.Conditions.{IsIdle, Leaves}
use Rattle.mf_vault.proofs.Entering.{tried_right, tried_hold}
use Rattle.mf_vault.proofs.Leaving.{AreQuiet, AreOps, quiet_all, ops_then, ops_quiet, did_both, stays_leaves}
use Rattle.mf_vault.proofs.Leaving.{unpinned_leaves}
use Rattle.mf_read.specs.declared.outcome.ReadOutcome.{ReadOutcome}
use Rattle.mf_read.specs.declared.outcome.ReadOutcome.TheVariants as read
use Rattle.mf_read.specs.Asking.{Ask, here, gets}
use Rattle.mf_read.specs.Reading.{IsEnd, Ends, IsReadOf, IsThrough, IsRead, Reads}

pub gets_ops : (f : Facts) (asks : List Ask) → AreOps (gets f asks)
gets_ops f [] = tt
gets_ops f (a ∷ asks) = (tt, gets_ops f asks)

pub cut_ops : (f : Facts) (asks rest : List Ask) (cs : List Call) → ((cs ≡ gets f asks)
    ⊎ ((x : Name) × (others : List Ask) × (rest ≡ record { name = x; found = here } ∷ others)
    × (cs ≡ gets f asks ++ get x got.Memory ∷ []))) → AreOps cs
cut_ops f asks rest cs (inl e) = subst AreOps (sym e) (gets_ops f asks)
cut_ops f asks rest cs (inr (x, others, is, e)) = subst AreOps (sym e)
    (ops_then (gets f asks) (get x got.Memory ∷ []) (gets_ops f asks) (tt, tt))

end_ops : (f : Facts) (g j : ℕ) (o : ReadOutcome) (cs : List Call) → IsEnd f g j o cs → AreOps cs
end_ops f g j (read.DataLost h k names) cs (asks, e, i, short, is, same, more) =
    subst AreOps (sym is) (gets_ops f asks)
end_ops f g j (read.Unreachable h k x server) cs (asks, e, i, short, is, low, more) =
    subst AreOps (sym is) (gets_ops f asks)
end_ops f g j read.Memory cs (asks, rest, asking, either) = cut_ops f asks rest cs either
end_ops f g j read.Absent cs e = absurd e
end_ops f g j read.Removed cs e = absurd e
end_ops f g j (read.Bytes h bytes from) cs e = absurd e

ends_ops : (f : Facts) (g : ℕ) (o : ReadOutcome) (cs : List Call) → Ends f g o cs → AreOps cs
ends_ops f g o cs (j, front, rest, served, ends, is) = subst AreOps (sym is)
    (ops_then (gets f front) rest (gets_ops f front) (end_ops f g j o rest ends))

pub read_ops : (f : Facts) (g : ℕ) (o : ReadOutcome) (cs : List Call) → IsReadOf f g o cs → AreOps cs
read_ops f g (read.Bytes h bytes from) cs (asks, e, served, is, same, from_is) = subst AreOps (sym is)
    (gets_ops f asks)
read_ops f g (read.DataLost h k names) cs ends = ends_ops f g (read.DataLost h k names) cs ends
read_ops f g (read.Unreachable h k x server) cs ends = ends_ops f g (read.Unreachable h k x server) cs ends
read_ops f g read.Memory cs ends = ends_ops f g read.Memory cs ends
read_ops f g read.Absent cs ends = ends_ops f g read.Absent cs ends
read_ops f g read.Removed cs ends = ends_ops f g read.Removed cs ends

through_leaves : (g : ℕ) (inner cs : List Call) (a : Actor) → IsIdle a → AreQuiet inner
    → IsThrough a.view.hold g inner cs → Leaves a (did_all cs a)
through_leaves g inner cs a idle q (inl (held, is)) =
    subst (λ l. Leaves a (did_all l a)) (sym is) (stays_leaves idle (quiet_all inner a q))
through_leaves g inner cs a idle q (inr (free, (gs, is))) =
    let e = did (pin Work gs (pinned.At g)) a in
    let s = quiet_all inner e q in
    let whole = ap (λ l. did_all l a) is ∙ did_both inner (unpin Work ∷ []) e in
    subst (Leaves a) (sym whole) (record {
      idle = record { right = s.right ∙ tried_right a.facts Work gs (pinned.At g) a.view ∙ idle.right; work = refl };
      facts = s.facts;
      hold = s.hold ∙ tried_hold a.facts gs (pinned.At g) a.view;
      cut = s.cut;
    })

read_leaves : (o : ReadOutcome) (cs : List Call) (a : Actor) → IsIdle a → IsRead a.facts a.view.hold o cs
    → Leaves a (did_all cs a)
read_leaves read.Absent cs a idle (free, (gs, is)) = unpinned_leaves gs pinned.Absent cs a idle refl is
read_leaves read.Removed cs a idle (free, (gs, is)) = unpinned_leaves gs pinned.Removed cs a idle refl is
read_leaves (read.Bytes h bytes from) cs a idle (g, inner, is, through) =
    through_leaves g inner cs a idle (ops_quiet inner (read_ops a.facts g (read.Bytes h bytes from) inner is)) through
read_leaves (read.DataLost h k names) cs a idle (g, inner, is, through) =
    through_leaves g inner cs a idle (ops_quiet inner (read_ops a.facts g (read.DataLost h k names) inner is)) through
read_leaves (read.Unreachable h k x server) cs a idle (g, inner, is, through) =
    through_leaves g inner cs a idle (ops_quiet inner (read_ops a.facts g (read.Unreachable h k x server) inner is)) through
read_leaves read.Memory cs a idle (g, inner, is, through) =
    through_leaves g inner cs a idle (ops_quiet inner (read_ops a.facts g read.Memory inner is)) through

pub reads_leaves : (o : ReadOutcome) {a b : Actor} → Reads o a b → IsIdle a → Leaves a b
reads_leaves o {a = a} (cs, is, does) idle =
    subst (Leaves a) (sym does.becomes) (read_leaves o cs a idle is)
