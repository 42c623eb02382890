-- How the calls of an engine leave an actor.
use Rattle.std.proofs.Common.{◌≡◌, ℕ, Bool, true, false, List, [], ◌∷◌, ◌++◌, refl, sym, ap, ◌∙◌, subst}
use Rattle.mf_machine.specs.declared.answer.Closed.{Closed}
use Rattle.mf_machine.specs.declared.answer.Closed.TheVariants as closed
use Rattle.mf_machine.specs.declared.answer.Slot.TheVariants.{Work}
use Rattle.mf_machine.specs.declared.answer.State.{State}
use Rattle.mf_machine.specs.declared.answer.State.TheVariants as state
use Rattle.mf_machine.specs.Steps.{begun}
use Rattle.mf_places.specs.declared.Name.{Name}
use Rattle.mf_vault.specs.declared.answers.Got.{Got}
use Rattle.mf_vault.specs.declared.answers.Got.TheVariants as got
use Rattle.mf_vault.specs.declared.answers.Pinned.{Pinned}
use Rattle.mf_vault.specs.declared.answers.Pinned.TheVariants as pinned
use Rattle.mf_vault.specs.Actor.{Actor, Call, did, cut_off, pin, unpin, begin, end, publish, probe, put, restore, close}
use Rattle.mf_vault.specs.Actor.{discard, get, lose}
use Rattle.mf_vault.specs.Licence.{did_all, work_of_pin}
use Rattle.mf_vault.specs.Conditions.{IsIdle, Leaves}
use Rattle.mf_vault.proofs.Entering.{tried_right, tried_hold, tried_work}

-- the right, the slots, the facts and the cut-off servers are the same
pub record Stays (a b : Actor) : Type 0 where
  pub right : b.view.build.right ≡ a.view.build.right
  pub work : b.view.work ≡ a.view.work
  pub hold : b.view.hold ≡ a.view.hold
  pub facts : b.facts ≡ a.facts
  pub cut : b.cut ≡ a.cut

pub stays : (a : Actor) → Stays a a
stays a = record { right = refl; work = refl; hold = refl; facts = refl; cut = refl }

pub stays_on : {a b c : Actor} → Stays a b → Stays b c → Stays a c
stays_on x y = record {
  right = y.right ∙ x.right;
  work = y.work ∙ x.work;
  hold = y.hold ∙ x.hold;
  facts = y.facts ∙ x.facts;
  cut = y.cut ∙ x.cut;
}

-- calls on chunks
abbrev pub IsQuiet : Call → Type 0
IsQuiet (probe x s) = Unit {0}
IsQuiet (put x) = Unit {0}
IsQuiet (restore x) = Unit {0}
IsQuiet (get x o) = Unit {0}
IsQuiet (lose x l b) = Unit {0}
IsQuiet (close g c) = Unit {0}
IsQuiet (discard x b) = Unit {0}
IsQuiet (publish next) = Unit {0}
IsQuiet other = ⊥

abbrev pub AreQuiet : List Call → Type 0
AreQuiet [] = Unit {0}
AreQuiet (c ∷ cs) = IsQuiet c × AreQuiet cs

quiet_probe : (x : Name) (s : State) (a : Actor) → Stays a (did (probe x s) a)
quiet_probe x state.Unborn a = record { right = refl; work = refl; hold = refl; facts = refl; cut = refl }
quiet_probe x state.Here a = record { right = refl; work = refl; hold = refl; facts = refl; cut = refl }
quiet_probe x (state.Lost l) a = record { right = refl; work = refl; hold = refl; facts = refl; cut = refl }
quiet_probe x (state.Away s) a = record { right = refl; work = refl; hold = refl; facts = refl; cut = refl }

quiet_get : (x : Name) (o : Got) (a : Actor) → Stays a (did (get x o) a)
quiet_get x (got.Here c) a = record { right = refl; work = refl; hold = refl; facts = refl; cut = refl }
quiet_get x (got.Lost l) a = record { right = refl; work = refl; hold = refl; facts = refl; cut = refl }
quiet_get x (got.Away s) a = record { right = refl; work = refl; hold = refl; facts = refl; cut = refl }
quiet_get x got.Memory a = record { right = refl; work = refl; hold = refl; facts = refl; cut = refl }

quiet_lose : (x : Name) (l : ℕ) (b : Bool) (a : Actor) → Stays a (did (lose x l b) a)
quiet_lose x l true a = record { right = refl; work = refl; hold = refl; facts = refl; cut = refl }
quiet_lose x l false a = record { right = refl; work = refl; hold = refl; facts = refl; cut = refl }

quiet_close : (g : ℕ) (c : Closed) (a : Actor) → Stays a (did (close g c) a)
quiet_close g closed.Done a = record { right = refl; work = refl; hold = refl; facts = refl; cut = refl }
quiet_close g (closed.Pins n) a = record { right = refl; work = refl; hold = refl; facts = refl; cut = refl }
quiet_close g closed.Already a = record { right = refl; work = refl; hold = refl; facts = refl; cut = refl }

quiet_discard : (x : Name) (b : Bool) (a : Actor) → Stays a (did (discard x b) a)
quiet_discard x true a = record { right = refl; work = refl; hold = refl; facts = refl; cut = refl }
quiet_discard x false a = record { right = refl; work = refl; hold = refl; facts = refl; cut = refl }

quiet_one : (c : Call) (a : Actor) → IsQuiet c → Stays a (did c a)
quiet_one (probe x s) a q = quiet_probe x s a
quiet_one (put x) a q = record { right = refl; work = refl; hold = refl; facts = refl; cut = refl }
quiet_one (restore x) a q = record { right = refl; work = refl; hold = refl; facts = refl; cut = refl }
quiet_one (get x o) a q = quiet_get x o a
quiet_one (lose x l b) a q = quiet_lose x l b a
quiet_one (cut_off s) a q = absurd q
quiet_one (pin slot gs p) a q = absurd q
quiet_one (unpin slot) a q = absurd q
quiet_one (begin b) a q = absurd q
quiet_one end a q = absurd q
quiet_one (publish next) a q = record { right = refl; work = refl; hold = refl; facts = refl; cut = refl }
quiet_one (close g c) a q = quiet_close g c a
quiet_one (discard x b) a q = quiet_discard x b a

pub quiet_all : (cs : List Call) (a : Actor) → AreQuiet cs → Stays a (did_all cs a)
quiet_all [] a q = stays a
quiet_all (c ∷ cs) a q = stays_on (quiet_one c a q.0) (quiet_all cs (did c a) q.1)

pub did_both : (cs ds : List Call) (a : Actor) → did_all (cs ++ ds) a ≡ did_all ds (did_all cs a)
did_both [] ds a = refl
did_both (c ∷ cs) ds a = did_both cs ds (did c a)

pub quiet_append : (cs ds : List Call) → AreQuiet cs → AreQuiet ds → AreQuiet (cs ++ ds)
quiet_append [] ds p q = q
quiet_append (c ∷ cs) ds p q = (p.0, quiet_append cs ds p.1 q)

-- chunk operations that change no name but by its cell
abbrev pub IsOp : Call → Type 0
IsOp (probe x s) = Unit {0}
IsOp (put x) = Unit {0}
IsOp (restore x) = Unit {0}
IsOp (get x o) = Unit {0}
IsOp c = ⊥

abbrev pub AreOps : List Call → Type 0
AreOps [] = Unit {0}
AreOps (c ∷ cs) = IsOp c × AreOps cs

pub ops_then : (cs ds : List Call) → AreOps cs → AreOps ds → AreOps (cs ++ ds)
ops_then [] ds h k = k
ops_then (c ∷ cs) ds h k = (h.0, ops_then cs ds h.1 k)

op_quiet : (c : Call) → IsOp c → IsQuiet c
op_quiet (probe x s) op = tt
op_quiet (put x) op = tt
op_quiet (restore x) op = tt
op_quiet (get x o) op = tt
op_quiet c op = absurd op

pub ops_quiet : (cs : List Call) → AreOps cs → AreQuiet cs
ops_quiet [] ops = tt
ops_quiet (c ∷ cs) ops = (op_quiet c ops.0, ops_quiet cs ops.1)

-- ---- the begin and the pin of an engine

-- the actor that has begun, and pinned the Work slot
abbrev pub entered : List ℕ → Pinned → Actor → Actor
entered gs p a = did (pin Work gs p) (did (begin true) a)

pub entered_work : (gs : List ℕ) (p : Pinned) (a : Actor) → IsIdle a
    → (entered gs p a).view.work ≡ work_of_pin p 0
entered_work gs p a idle = tried_work a.facts gs p (begun a.view)
    ∙ ap (work_of_pin p) idle.work

-- calls on chunks between the pin of the Work slot and its end
pub worked : (gs : List ℕ) (g : ℕ) (inner : List Call) (a : Actor) → AreQuiet inner
    → Leaves a (did_all (inner ++ (unpin Work ∷ end ∷ [])) (entered gs (pinned.At g) a))
worked gs g inner a q =
    let e = entered gs (pinned.At g) a in
    let s = quiet_all inner e q in
    subst (Leaves a) (sym (did_both inner (unpin Work ∷ end ∷ []) e)) (record {
      idle = record { right = refl; work = refl };
      facts = s.facts;
      hold = s.hold ∙ tried_hold a.facts gs (pinned.At g) (begun a.view);
      cut = s.cut;
    })

-- a begin, and a pin that pinned nothing
pub turned : (gs : List ℕ) (p : Pinned) (a : Actor) → IsIdle a → work_of_pin p 0 ≡ 0
    → Leaves a (did_all (end ∷ []) (entered gs p a))
turned gs p a idle none = record {
  idle = record { right = refl; work = entered_work gs p a idle ∙ none };
  facts = refl;
  hold = tried_hold a.facts gs p (begun a.view);
  cut = refl;
}

-- a begin that found the right held
pub refused : (a : Actor) → IsIdle a → Leaves a (did_all (begin false ∷ []) a)
refused a idle = record {
  idle = record { right = idle.right; work = idle.work };
  facts = refl;
  hold = refl;
  cut = refl;
}

-- ---- a pin alone

-- calls that leave an idle actor's slots
pub stays_leaves : {a b : Actor} → IsIdle a → Stays a b → Leaves a b
stays_leaves idle s = record {
  idle = record { right = s.right ∙ idle.right; work = s.work ∙ idle.work };
  facts = s.facts;
  hold = s.hold;
  cut = s.cut;
}

-- a pin that found no generation
pub unpinned_leaves : (gs : List ℕ) (p : Pinned) (cs : List Call) (a : Actor) → IsIdle a
    → work_of_pin p a.view.work ≡ a.view.work → cs ≡ pin Work gs p ∷ []
    → Leaves a (did_all cs a)
unpinned_leaves gs p cs a idle none is = subst (λ l. Leaves a (did_all l a)) (sym is) (record {
  idle = record {
    right = tried_right a.facts Work gs p a.view ∙ idle.right;
    work = tried_work a.facts gs p a.view ∙ none ∙ idle.work;
  };
  facts = refl;
  hold = tried_hold a.facts gs p a.view;
  cut = refl;
})
