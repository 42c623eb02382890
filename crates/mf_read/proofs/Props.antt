-- What was done by gets is a proposition, so it comes out of what an asker keeps.
use Rattle.std.proofs.Common.{ℕ, List, [], ◌∷◌, ◌++◌, Option, Some, None, IfSome}
use Rattle.std.specs.Coded.{coded_ℕ, Coded-set, le_prop}
use mathlib.Core.Bool.{Bool-set}
use mathlib.Core.HLevel.{×_prop, Unit-prop}
use mathlib.Core.List.{is_set}
use mathlib.Core.Sum.{⊎_set}
use Rattle.mf_machine.specs.Worlds.{World}
use Rattle.mf_places.specs.declared.Name.{Name}
use Rattle.mf_vault.specs.declared.answers.Got.{Got}
use Rattle.mf_vault.specs.declared.answers.Got.TheVariants as got
use Rattle.mf_vault.specs.Facts.{Facts}
use Rattle.mf_vault.specs.Actor.{Actor, Call, get, did}
use Rattle.mf_vault.specs.Answers.{IsFair, IsTold, IsAnswer}
use Rattle.mf_vault.specs.Licence.{Does, AreFair, AreTold, did_all}
use Rattle.mf_read.specs.declared.asking.Wanting.{Wanting}
use Rattle.mf_read.specs.declared.asking.Wanting.TheVariants.{Room, Share}
use Rattle.mf_read.specs.Asking.{Ask, gets, get_of, got_of}
use Rattle.mf_read.specs.Groups.{want}

ℕ_set : IsSet ℕ
ℕ_set = Coded-set coded_ℕ

pub Actor_set : IsSet Actor
Actor_set = hlevel (ℕ_set, Bool-set, ⊎_set, (λ (A : Type 0). is_set {A = A}))

fair_prop : (x : Name) (r : Got) (a : Actor) → IsProp (IsFair (get x r) a)
fair_prop x (got.Here c) a = hlevel (le_prop, ℕ_set, Bool-set, is_set ℕ_set)
fair_prop x (got.Lost l) a = hlevel (le_prop, ℕ_set, Bool-set)
fair_prop x (got.Away s) a = hlevel (le_prop, ℕ_set, Bool-set)
fair_prop x got.Memory a = hlevel (le_prop, ℕ_set, Bool-set)

answer_prop : (f : Facts) (x : Name) (r : Got) (w : World) → IsProp (IsAnswer f (get x r) w)
answer_prop f x (got.Here c) w = hlevel (ℕ_set, ⊎_set)
answer_prop f x (got.Lost l) w = hlevel (ℕ_set, ⊎_set)
answer_prop f x (got.Away s) w = Unit-prop
answer_prop f x got.Memory w = hlevel (ℕ_set, ⊎_set)

told_prop : (x : Name) (r : Got) (a : Actor) → IsProp (IsTold (get x r) a)
told_prop x r a = by_whole a.whole
  where
    by_whole : (o : Option World) → IsProp (IfSome o (IsAnswer a.facts (get x r)))
    by_whole None = Unit-prop
    by_whole (Some w) = answer_prop a.facts x r w

wanted_fair : (w : Wanting) (a : Actor) → IsProp (AreFair (want w) a)
wanted_fair Room a = Unit-prop
wanted_fair (Share x) a = ×_prop (fair_prop x got.Memory a) Unit-prop

wanted_told : (w : Wanting) (a : Actor) → IsProp (AreTold (want w) a)
wanted_told Room a = Unit-prop
wanted_told (Share x) a = ×_prop (told_prop x got.Memory a) Unit-prop

fair_all : (f : Facts) (asks : List Ask) (cs : List Call) (a : Actor) → ((b : Actor) → IsProp (AreFair cs b))
    → IsProp (AreFair (gets f asks ++ cs) a)
fair_all f [] cs a h = h a
fair_all f (x ∷ asks) cs a h = ×_prop (fair_prop x.name (got_of f x.name x.found) a) (fair_all f asks cs (did
    (get_of f x) a) h)

told_all : (f : Facts) (asks : List Ask) (cs : List Call) (a : Actor) → ((b : Actor) → IsProp (AreTold cs b))
    → IsProp (AreTold (gets f asks ++ cs) a)
told_all f [] cs a h = h a
told_all f (x ∷ asks) cs a h = ×_prop (told_prop x.name (got_of f x.name x.found) a) (told_all f asks cs (did
    (get_of f x) a) h)

does_by : (cs : List Call) (a b : Actor) → IsProp (AreFair cs a) → IsProp (AreTold cs a) → IsProp (Does cs a b)
does_by cs a b fair told x y = λ i. record {
  becomes = Actor_set b (did_all cs a) x.becomes y.becomes i;
  fair = fair x.fair y.fair i;
  told = told x.told y.told i;
}

pub does_prop : (f : Facts) (asks : List Ask) (w : Wanting) (a b : Actor) → IsProp (Does (gets f asks ++ want w) a b)
does_prop f asks w a b = does_by (gets f asks ++ want w) a b (fair_all f asks (want w) a (wanted_fair w))
    (told_all f asks (want w) a (wanted_told w))
