-- What a create, a convert and a remove add to their actor's Made and Met.
use Rattle.std.proofs.Common.{◌≡◌, ℕ, ◌+◌, true, List, [], ◌∷◌, ◌++◌, refl, sym, subst, arith}
use mathlib.Core.List.{append-nil}
use Rattle.mf_machine.specs.declared.answer.Slot.TheVariants.{Work}
use Rattle.mf_vault.specs.declared.answers.Pinned.TheVariants as pinned
use Rattle.mf_vault.specs.Facts.{Facts, stages}
use Rattle.mf_vault.specs.Actor.{Call, begin, pin, unpin, end, publish}
use Rattle.mf_vault.proofs.Engines as engine
use Rattle.mf_vault.proofs.Engines.{Profile, HaveNoClose, both, no_close_then, ops_no_close}
use Rattle.mf_convert.specs.declared.change.Change.{Change}
use Rattle.mf_convert.specs.declared.change.Change.TheVariants as change
use Rattle.mf_convert.specs.Convert as convert
use Rattle.mf_convert.specs.Convert.{IsCut, IsConversion, IsConvert, whole}
use Rattle.mf_convert.specs.Create as create
use Rattle.mf_convert.specs.Create.{IsCreate, probes, brings, first_names}
use Rattle.mf_convert.specs.Remove as remove
use Rattle.mf_convert.specs.Remove.{IsRemove}
use Rattle.mf_convert.specs.Laws.{ChangesGain, published_by, rights_of, refusals_of}
use Rattle.mf_convert.proofs.Leaving.{brings_ops}
use Rattle.mf_convert.proofs.Steady.{probes_ops, whole_ops, cut_ops}

-- what the calls of a change are, by its outcome
abbrev Is : Facts → Change → List Call → Type 0
Is f o cs = Profile cs (published_by f o) (rights_of o) (refusals_of o) × HaveNoClose cs

creates : {f : Facts} {o : Change} {cs : List Call} → IsCreate f o cs → Is f o cs
creates create.busy = (engine.was_busy, tt)
creates (create.was_there gs g) = (both (engine.begun_and_pinned gs (pinned.At g)) engine.unpinned_and_ended, tt)
creates (create.was_removed gs) = (both (engine.begun_and_pinned gs pinned.Removed) engine.ended, tt)
creates (create.no_memory gs) = (both (engine.begun_and_pinned gs pinned.Absent) engine.ended, tt)
creates {f = f} (create.created gs ss long) =
    let xs = first_names f in let p = probes_ops xs ss in let b = brings_ops xs ss in (
      both (engine.begun_and_pinned gs pinned.Absent) (both (engine.ops p) (both (engine.ops b)
          (both (engine.publishing 1) engine.ended))),
      no_close_then (probes xs ss) (brings xs ss ++ (publish 1 ∷ end ∷ [])) (ops_no_close (probes xs ss) p)
          (no_close_then (brings xs ss) (publish 1 ∷ end ∷ []) (ops_no_close (brings xs ss) b) tt),
    )

removes : {f : Facts} {o : Change} {cs : List Call} → IsRemove f o cs → Is f o cs
removes remove.busy = (engine.was_busy, tt)
removes (remove.absent gs) = (both (engine.begun_and_pinned gs pinned.Absent) engine.ended, tt)
removes (remove.was_removed gs) = (both (engine.begun_and_pinned gs pinned.Removed) engine.ended, tt)
removes {f = f} (remove.removed_now gs g) = (
  both (engine.begun_and_pinned gs (pinned.At g)) (both engine.unpinned (both (engine.publishing (stages f + 1))
      engine.ended)),
  tt,
)

-- a conversion that was cut began, and publishes nothing
cut_began : {f : Facts} {g : ℕ} {due done : List Call} {o : Change} → IsCut f g due o done
    → ([] ≡ published_by f o) × (1 ≡ rights_of o) × (0 ≡ refusals_of o)
cut_began (convert.stopped c due made) = (refl, refl, refl)
cut_began (convert.away_probed x s due server) = (refl, refl, refl)
cut_began (convert.away_got x o due server) = (refl, refl, refl)
cut_began (convert.lost_probed x s due line held) = (refl, refl, refl)
cut_began (convert.lost_got x o due line) = (refl, refl, refl)
cut_began (convert.no_memory due) = (refl, refl, refl)
cut_began (convert.not_shared x o due) = (refl, refl, refl)
cut_began (convert.later c due o done is) = cut_began is

-- the calls between its pin and its end
abbrev Inner : Facts → Change → List Call → Type 0
Inner f o done = Profile done (published_by f o) 0 0 × HaveNoClose done × (1 ≡ rights_of o) × (0 ≡ refusals_of o)

conversion : {f : Facts} {g : ℕ} {o : Change} {done : List Call} → IsConversion f g o done → Inner f o done
conversion {f = f} {g = g} (convert.converted states made all) = let w = whole_ops f g states in (
  both (engine.ops w) (subst (λ n. Profile (publish (g + 2) ∷ []) (n ∷ []) 0 0)
      (let e : g + 2 ≡ g + 1 + 1 = omega arith in e) (engine.publishing (g + 2))),
  no_close_then (whole f g states) (publish (g + 2) ∷ []) (ops_no_close (whole f g states) w) tt,
  refl,
  refl,
)
conversion {f = f} {g = g} (convert.cut states o done all is) =
    let e = cut_began is in let ops = cut_ops is (whole_ops f g states) in
    (subst (λ ns. Profile done ns 0 0) e.0 (engine.ops ops), ops_no_close done ops, e.1, e.2)

converts : {f : Facts} {upto : ℕ} {o : Change} {cs : List Call} → IsConvert f upto o cs → Is f o cs
converts convert.busy = (engine.was_busy, tt)
converts (convert.absent gs) = (both (engine.begun_and_pinned gs pinned.Absent) engine.ended, tt)
converts (convert.was_removed gs) = (both (engine.begun_and_pinned gs pinned.Removed) engine.ended, tt)
converts (convert.last gs g low) = (both (engine.begun_and_pinned gs (pinned.At g)) engine.unpinned_and_ended, tt)
converts {f = f} (convert.converting gs g o done low is) = let i = conversion is in
    let calls : List Call = begin true ∷ pin Work gs (pinned.At g) ∷ (done ++ (unpin Work ∷ end ∷ [])) in
    let numbers = published_by f o in (
      subst (λ n. Profile calls numbers n (refusals_of o)) i.2 (subst (λ n. Profile calls numbers 1 n) i.3
          (subst (λ l. Profile calls l 1 0) (append-nil numbers)
          (both (engine.begun_and_pinned gs (pinned.At g)) (both i.0 engine.unpinned_and_ended)))),
      no_close_then done (unpin Work ∷ end ∷ []) i.1 tt,
    )

pub changes_gain : ChangesGain
changes_gain = record {
  create = λ a b o x. let p = creates x.licence in
      engine.engine_gains p.0 x.does (engine.free_without x.calls a p.1);
  convert = λ a b upto stop o x. let p = converts x.licence in
      engine.engine_gains p.0 x.does (engine.free_without x.calls a p.1);
  remove = λ a b o x. let p = removes x.licence in
      engine.engine_gains p.0 x.does (engine.free_without x.calls a p.1);
}
