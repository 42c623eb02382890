-- What a get leaves of an actor: the next one may happen too.
use Rattle.std.proofs.Common.{◌≡◌, refl, sym, subst, ap}
use Rattle.mf_machine.specs.Actors.{PinHolds}
use Rattle.mf_places.specs.declared.Name.{Name}
use Rattle.mf_vault.specs.declared.answers.Got.{Got}
use Rattle.mf_vault.specs.declared.answers.Got.TheVariants as got
use Rattle.mf_vault.specs.Actor.{Actor, did, get}
use Rattle.mf_vault.specs.Answers.{Goes}
use Rattle.mf_vault.specs.May.{MayGet}

may_after : (x : Name) (o : Got) (a : Actor) → MayGet x a → MayGet x (did (get x o) a)
may_after x (got.Here c) a may = may
may_after x (got.Lost l) a may = may
may_after x (got.Away s) a may = may
may_after x got.Memory a may = may

pub may_again : {x : Name} {o : Got} {a b : Actor} → Goes (get x o) a b → MayGet x a → MayGet x b
may_again {x = x} {o = o} {a = a} goes may = subst (MayGet x) (sym goes.becomes) (may_after x o a may)
