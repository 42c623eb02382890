-- The first actors of a file that isn't created may create it; and halves of a share.
use Rattle.std.proofs.Common.{◌≡◌, ℕ, ◌*◌, ◌≤◌, List, [], ◌++◌, refl, sym, ap, ◌∙◌, subst, arith}
use Rattle.mf_check.specs.Families.{Code}
use Rattle.mf_machine.specs.declared.view.View.{View}
use Rattle.mf_machine.specs.Steps.{old_half}
use Rattle.mf_places.specs.declared.losses.LoseLine.{LoseLine}
use Rattle.mf_places.specs.Facts.{BookFacts}
use Rattle.mf_plain.specs.Alone.{first_actor}
use Rattle.mf_plain.specs.Resting.{Resting, facts_of}
use Rattle.mf_shared.specs.declared.seat.Seat.{Seat}
use Rattle.mf_shared.specs.declared.shared.Shared.{Shared}
use Rattle.mf_shared.specs.Seats.{Begins, entering, view_of}
use Rattle.mf_shared.specs.Shared.{facts_in}
use Rattle.mf_vault.specs.Actor.{Actor}
use Rattle.mf_vault.specs.Conditions.{IsOfFamily}
use Rattle.mf_vault.specs.Facts.{Facts}
use Rattle.bench.specs.Files.{IsFresh, MayFill}

-- a phase without lose lines may begin from it
pub no_lines : {c : Code} {content : List ℕ} {r : Resting} (losses : List LoseLine) → losses ≡ []
    → IsFresh c content r → (more : List LoseLine) × (losses ≡ r.losses ++ more)
no_lines losses e fresh = ([], e ∙ sym (ap (λ (l : List LoseLine). l ++ []) fresh.losses))

pub born_before : {c : Code} {content : List ℕ} {r : Resting} (now : ℕ) → IsFresh c content r → r.born ≤ now
born_before now fresh = let e = fresh.born in omega arith

pub first_fills : {c : Code} {content : List ℕ} {r : Resting} {now : ℕ} {losses : List LoseLine} {a : Actor}
    → IsFresh c content r → a ≡ first_actor r now losses → MayFill c content a
first_fills {c = c} fresh e = record {
  idle = record {
    right = ap (λ (z : Actor). z.view.build.right) e;
    work = ap (λ (z : Actor). z.view.work) e;
  };
  family = subst (IsOfFamily c.shape c.points) (sym (ap (λ (z : Actor). z.facts.book) e)) fresh.family;
  bytes = sym (ap (λ (z : Actor). z.facts.bytes) e ∙ fresh.bytes);
  reached = ap (λ (z : Actor). z.cut) e;
}

pub entered_fills : {c : Code} {content : List ℕ} {r : Resting} {now : ℕ} {losses : List LoseLine}
    {shared : Shared} {first : Seat} {a : Actor} (seat : Seat) → IsFresh c content r → Begins r now losses shared first
    → a ≡ entering (facts_in shared) (view_of seat) → MayFill c content a
entered_fills {c = c} seat fresh begins e =
    let facts = ap (λ (z : Actor). z.facts) e ∙ begins.facts in record {
      idle = record {
        right = ap (λ (z : Actor). z.view.build.right) e ∙ seat.unbound.right;
        work = ap (λ (z : Actor). z.view.work) e ∙ seat.unbound.work;
      };
      family = subst (IsOfFamily c.shape c.points) (sym (ap (λ (f : Facts). f.book) facts)) fresh.family;
      bytes = sym (ap (λ (f : Facts). f.bytes) facts ∙ fresh.bytes);
      reached = ap (λ (z : Actor). z.cut) e;
    }

-- what is left of a share that is split
pub half_left : (v u : View) (n : ℕ) → u ≡ old_half v → 2 * n ≤ v.share → n ≤ u.share
half_left v u n e h =
    let left : u.share ≡ (old_half v).share = ap (λ (z : View). z.share) e in omega arith
