-- Where calls on a name may happen, in the words of the book.
use Rattle.std.proofs.Common.{◌≡◌, ℕ, ◌+◌, ◌<◌, ◌≤◌, true, refl, sym, ap, ◌∙◌, subst, inl, inr, arith}
use Rattle.mf_machine.specs.declared.view.View.{View}
use Rattle.mf_machine.specs.Actors.{PinHolds, NextHolds}
use Rattle.mf_machine.specs.Counts.{times}
use Rattle.mf_machine.specs.File.{Holds}
use Rattle.mf_machine.proofs.Lists.{bit_is}
use Rattle.mf_places.specs.declared.Name.{Name}
use Rattle.mf_places.specs.Names.{HasName, count_of, name_at}
use Rattle.mf_places.specs.Generations.{holds}
use Rattle.mf_places.specs.Placement.{server_of}
use Rattle.mf_places.proofs.Names.{IsAt-number, name_at-number}
use Rattle.mf_vault.specs.Facts.{Facts, file, number, server, stages, cell, cell_of}
use Rattle.mf_vault.specs.Actor.{Actor}
use Rattle.mf_vault.specs.Answers.{IsReached}
use Rattle.mf_vault.specs.Licence.{IsBuilding}
use Rattle.mf_vault.specs.May.{MayGet, MayProbe, MayPut, MayRestore, MayPublish}

-- a name's number is one of the file's, and stands for it
pub number_low : (f : Facts) (x : Name) → HasName f.book x → number f x < count_of f.book
number_low f x had = (IsAt-number f.book x had).below

pub name_is : (f : Facts) (x : Name) → HasName f.book x → name_at f.book (number f x) ≡ x
name_is f x had = (IsAt-number f.book x had).at

pub holds_is : (f : Facts) (g : ℕ) (x : Name) → HasName f.book x → holds f.book g x ≡ true
    → Holds (file f) g (number f x)
holds_is f g x had h = ap (holds f.book g) (name_is f x had) ∙ h

pub held_is : (f : Facts) (g : ℕ) (x : Name) → HasName f.book x → Holds (file f) g (number f x)
    → holds f.book g x ≡ true
held_is f g x had h = ap (holds f.book g) (sym (name_is f x had)) ∙ h

pub cell_is : (f : Facts) (x : Name) → HasName f.book x → (file f).cell (number f x) ≡ cell_of f x
cell_is f x had = ap (cell f.book f.bytes) (name_is f x had)

pub server_is : (f : Facts) (x : Name) → HasName f.book x → (file f).server (number f x) ≡ server f x
server_is f x had = ap (server_of f.book) (name_is f x had)

-- the generation of a slot holds the name
pub work_holds : (f : Facts) (v : View) (g : ℕ) (x : Name) → v.work ≡ g + 1 → g < stages f → HasName f.book x
    → holds f.book g x ≡ true
    → PinHolds (file f) v.hold v.work (number f x)
work_holds f v g x e low had h = let b = bit_is v.work (g + 1) e in (g, low, (omega arith), holds_is f g x had h)

pub hold_holds : (f : Facts) (v : View) (g : ℕ) (x : Name) → v.hold ≡ g + 1 → g < stages f → HasName f.book x
    → holds f.book g x ≡ true
    → PinHolds (file f) v.hold v.work (number f x)
hold_holds f v g x e low had h = let b = bit_is v.hold (g + 1) e in (g, low, (omega arith), holds_is f g x had h)

-- the next generation is the one with the number that was looked at
pub next_holds : (a : Actor) (g : ℕ) (x : Name) → IsBuilding a g → g < stages a.facts → HasName a.facts.book x
    → holds a.facts.book g x ≡ true
    → NextHolds (file a.facts) a.view.build a.view.last (number a.facts x)
next_holds a g x b low had h = (g, (b.right, b.looked, b.last, low), holds_is a.facts g x had h)

-- where a builder may probe, put and restore a name of the next generation
pub may_probe_next : (a : Actor) (g : ℕ) (x : Name) → IsBuilding a g → g < stages a.facts → HasName a.facts.book x
    → holds a.facts.book g x ≡ true
    → MayProbe x a
may_probe_next a g x b low had h = (had, inr (next_holds a g x b low had h))

pub may_put_next : (a : Actor) (g : ℕ) (x : Name) → IsBuilding a g → g < stages a.facts → HasName a.facts.book x
    → holds a.facts.book g x ≡ true
    → 0 < times (number a.facts x) a.view.build.unborn → IsReached a x → MayPut x a
may_put_next a g x b low had h found reached = (had, next_holds a g x b low had h, found, reached)

pub may_restore_next : (a : Actor) (g : ℕ) (x : Name) → IsBuilding a g → g < stages a.facts → HasName a.facts.book x
    → holds a.facts.book g x ≡ true
    → 0 < times (number a.facts x) a.view.build.lost → IsReached a x → MayRestore x a
may_restore_next a g x b low had h found reached = (had, (b.right, inr (next_holds a g x b low had h)), found, reached)

-- and of the generation of its Work pin
pub may_restore_work : (a : Actor) (g : ℕ) (x : Name) → a.view.build.right ≡ 1 → a.view.work ≡ g + 1
    → g < stages a.facts → HasName a.facts.book x
    → holds a.facts.book g x ≡ true → 0 < times (number a.facts x) a.view.build.lost → IsReached a x → MayRestore x a
may_restore_work a g x r e low had h found reached =
    (had, (r, inl (g, low, e, holds_is a.facts g x had h)), found, reached)

pub may_probe_work : (a : Actor) (g : ℕ) (x : Name) → a.view.work ≡ g + 1 → g < stages a.facts → HasName a.facts.book x
    → holds a.facts.book g x ≡ true
    → MayProbe x a
may_probe_work a g x e low had h = (had, inl (work_holds a.facts a.view g x e low had h))

pub may_get_work : (a : Actor) (g : ℕ) (x : Name) → a.view.work ≡ g + 1 → g < stages a.facts → HasName a.facts.book x
    → holds a.facts.book g x ≡ true
    → MayGet x a
may_get_work a g x e low had h = (had, work_holds a.facts a.view g x e low had h)

pub may_get_hold : (a : Actor) (g : ℕ) (x : Name) → a.view.hold ≡ g + 1 → g < stages a.facts → HasName a.facts.book x
    → holds a.facts.book g x ≡ true
    → MayGet x a
may_get_hold a g x e low had h = (had, hold_holds a.facts a.view g x e low had h)

-- the next generation may be published where each name that it holds is settled
pub may_publish_next : (a : Actor) (g : ℕ) → IsBuilding a g → g < stages a.facts
    → ((x : Name) → HasName a.facts.book x → holds a.facts.book g x ≡ true
    → 0 < times (number a.facts x) a.view.build.settled)
    → MayPublish (g + 1) a
may_publish_next a g b low settled = (
  b.right,
  b.looked,
  (
    g,
    b.last,
    inl (
      refl,
      (omega arith),
      λ n below h.
          let had = Rattle.mf_places.proofs.Names.number_of-name_at a.facts.book n below in
          subst (λ k. 0 < times k a.view.build.settled) had.1 (settled (name_at a.facts.book n) had.0 h),
    ),
  ),
)

pub may_publish_removed : (a : Actor) (n : ℕ) → IsBuilding a n → 1 ≤ n → n ≤ stages a.facts
    → MayPublish (stages a.facts + 1) a
may_publish_removed a n b some low = (b.right, b.looked, (n, b.last, inr (refl, some, low)))
