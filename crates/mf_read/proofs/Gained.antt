-- What a read adds to its actor's Made and Met.
use Rattle.std.proofs.Common.{ℕ, List, [], ◌∷◌, ◌++◌, sym, subst, inl, inr}
use Rattle.mf_machine.specs.declared.answer.Slot.TheVariants.{Work}
use Rattle.mf_vault.specs.declared.answers.Pinned.TheVariants as pinned
use Rattle.mf_vault.specs.Facts.{Facts}
use Rattle.mf_vault.specs.Actor.{Call, pin, unpin}
use Rattle.mf_vault.proofs.Engines as engine
use Rattle.mf_vault.proofs.Engines.{Profile, HaveNoClose, both, no_close_then, ops_no_close}
use Rattle.mf_vault.proofs.Leaving.{AreOps}
use Rattle.mf_read.specs.declared.outcome.ReadOutcome.{ReadOutcome}
use Rattle.mf_read.specs.declared.outcome.ReadOutcome.TheVariants as read
use Rattle.mf_read.specs.Laws.{ReadsGain}
use Rattle.mf_read.specs.Reading.{IsThrough, IsRead}
use Rattle.mf_read.proofs.Leaving.{read_ops}

-- calls without a publishing, a begin and a close
abbrev IsPlain : List Call → Type 0
IsPlain cs = Profile cs [] 0 0 × HaveNoClose cs

through : (hold g : ℕ) (inner cs : List Call) → AreOps inner → IsThrough hold g inner cs → IsPlain cs
through hold g inner cs ops (inl (held, is)) = subst IsPlain (sym is) (engine.ops ops, ops_no_close inner ops)
through hold g inner cs ops (inr (free, (gs, is))) = subst IsPlain (sym is) (
  both (engine.pinned gs (pinned.At g)) (both (engine.ops ops) engine.unpinned),
  no_close_then inner (unpin Work ∷ []) (ops_no_close inner ops) tt,
)

plain : (f : Facts) (hold : ℕ) (o : ReadOutcome) (cs : List Call) → IsRead f hold o cs → IsPlain cs
plain f hold read.Absent cs (free, (gs, is)) = subst IsPlain (sym is) (engine.pinned gs pinned.Absent, tt)
plain f hold read.Removed cs (free, (gs, is)) = subst IsPlain (sym is) (engine.pinned gs pinned.Removed, tt)
plain f hold (read.Bytes h bytes from) cs (g, inner, is, way) =
    through hold g inner cs (read_ops f g (read.Bytes h bytes from) inner is) way
plain f hold (read.DataLost h k names) cs (g, inner, is, way) =
    through hold g inner cs (read_ops f g (read.DataLost h k names) inner is) way
plain f hold (read.Unreachable h k x server) cs (g, inner, is, way) =
    through hold g inner cs (read_ops f g (read.Unreachable h k x server) inner is) way
plain f hold read.Memory cs (g, inner, is, way) = through hold g inner cs (read_ops f g read.Memory inner is) way

pub reads_gain : ReadsGain
reads_gain a b o (cs, is, does) = let p = plain a.facts a.view.hold o cs is in
    engine.engine_gains p.0 does (engine.free_without cs a p.1)
