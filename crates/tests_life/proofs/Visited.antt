-- What an actor's accesses leave of its seat.
use Rattle.std.proofs.Common.{◌≡◌, ℕ, List, sym, ap, ◌∙◌, subst}
use Rattle.mf_check.specs.Families.{Code}
use Rattle.mf_machine.specs.declared.view.View.{View}
use Rattle.mf_vault.specs.Actor.{Actor}
use Rattle.mf_shared.specs.declared.seat.Seat.{Seat}
use Rattle.mf_shared.specs.declared.shared.Shared.{Shared}
use Rattle.mf_shared.specs.Seats.{IsOf, entering, let_go, view_of}
use Rattle.mf_shared.specs.Shared.{facts_in}
use Rattle.mf_shared.proofs.Going.{share_stays}
use Rattle.tests_life.specs.Turns.{Follows, IsAble, IsTried, Stays}

pub seat_able : (c : Code) (v : List ℕ) (shared : Shared) (seat : Seat) (a : Actor)
    → a ≡ entering (facts_in shared) (view_of seat) → IsTried c v (facts_in shared) → IsAble c v a
seat_able c v shared seat a e tried = record {
  idle = record {
    right = ap (λ (z : Actor). z.view.build.right) e ∙ seat.unbound.right;
    work = ap (λ (z : Actor). z.view.work) e ∙ seat.unbound.work;
  };
  tried = subst (IsTried c v) (sym (ap (λ (z : Actor). z.facts) e)) tried;
}

pub stays_on : {a b c : Seat} {s : Shared} → Stays a b s → Stays b c s → Stays a c s
stays_on x y = record { of = y.of; share = y.share ∙ x.share }

pub stays_visited : {s : Shared} {seat after : Seat} {a b : Actor} → a ≡ entering (facts_in s) (view_of seat)
    → Follows a b → ((t : Shared) → facts_in t ≡ b.facts → IsOf after t) → view_of after ≡ let_go b.view
    → Stays seat after s
stays_visited {s = s} {b = b} e x of left = record {
  of = of s (sym (x.facts ∙ ap (λ (z : Actor). z.facts) e));
  share = ap (λ (v : View). v.share) left ∙ (share_stays b.view ∙ (x.share ∙ ap (λ (z : Actor). z.view.share) e));
}
