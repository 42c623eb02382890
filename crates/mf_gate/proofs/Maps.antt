-- The slots and actors of a table, and those of the file machine.
use Rattle.std.proofs.Common.{◌≡◌, ℕ, zero, suc, ◌<◌, List, [], ◌∷◌, ◌++◌, set, get_or, length, sym, refl, ap, arith}
use Rattle.std.proofs.Common.{Option, Some, None}
use mathlib.Core.Option.{none, some, some-injective, some-ne-none}
use mathlib.Core.Option as maybe
use lib.ListN.{get_elem?}
use Rattle.mf_machine.specs.declared.view.View.{View}
use Rattle.mf_machine.specs.File.{Home}
use Rattle.mf_machine.specs.File.Home.{away, empty, keeps}
use Rattle.mf_gate.specs.declared.known.Known.{Known}
use Rattle.mf_gate.specs.Table.{home_of, homes_of, views_of}

-- what a slot of the table may have
abbrev pub Kept : Type 0
Kept = maybe.Option (Option (List ℕ))

pub views_set : (vs : List Known) (i : ℕ) (w : Known) → views_of (set vs i w) ≡ set (views_of vs) i w.view
views_set [] i w = refl
views_set (v ∷ vs) zero w = refl
views_set (v ∷ vs) (suc i) w = ap (λ (l : List View). v.view ∷ l) (views_set vs i w)

pub views_more : (vs : List Known) (w : Known) → views_of (vs ++ w ∷ []) ≡ views_of vs ++ w.view ∷ []
views_more [] w = refl
views_more (v ∷ vs) w = ap (λ (l : List View). v.view ∷ l) (views_more vs w)

pub view_at : (vs : List Known) (i : ℕ) (v : Known) → get_elem? vs i ≡ some v → get_elem? (views_of vs) i ≡ some v.view
view_at [] i v e = absurd (some-ne-none v (sym e))
view_at (u ∷ vs) zero v e = ap (λ (z : Known). some z.view) (some-injective u v e)
view_at (u ∷ vs) (suc i) v e = view_at vs i v e

pub homes_set : (hs : List Kept) (i : ℕ) (h : Kept) → homes_of (set hs i h) ≡ set (homes_of hs) i (home_of h)
homes_set [] i h = refl
homes_set (x ∷ hs) zero h = refl
homes_set (x ∷ hs) (suc i) h = ap (λ (l : List Home). home_of x ∷ l) (homes_set hs i h)

pub homes_long : (hs : List Kept) → length (homes_of hs) ≡ length hs
homes_long [] = refl
homes_long (h ∷ hs) = ap suc (homes_long hs)

-- a slot that has the bytes is at home with them; and one that is empty is at home, and empty
pub home_keeps : (hs : List Kept) (n : ℕ) (b : List ℕ) → get_or (homes_of hs) n empty ≡ keeps b
    → get_elem? hs n ≡ some (some (Some b))
home_keeps [] n b e = absurd (let z : empty ≡ keeps b = e in cc)
home_keeps (some (Some c) ∷ hs) zero b e = ap (λ (z : List ℕ). some (some (Some z))) (same c b e)
  where
    same : (c b : List ℕ) → keeps c ≡ keeps b → c ≡ b
    same c b e = cc
home_keeps (some None ∷ hs) zero b e = absurd (let z : empty ≡ keeps b = e in cc)
home_keeps (none ∷ hs) zero b e = absurd (let z : away ≡ keeps b = e in cc)
home_keeps (h ∷ hs) (suc n) b e = home_keeps hs n b e

pub home_empty : (hs : List Kept) (n : ℕ) → n < length hs → get_or (homes_of hs) n empty ≡ empty
    → get_elem? hs n ≡ some (some None)
home_empty [] n low e = absurd (omega arith)
home_empty (some (Some c) ∷ hs) zero low e = absurd (let z : keeps c ≡ empty = e in cc)
home_empty (some None ∷ hs) zero low e = refl
home_empty (none ∷ hs) zero low e = absurd (let z : away ≡ empty = e in cc)
home_empty (h ∷ hs) (suc n) low e = home_empty hs n (omega arith) e
