-- The names of the next generation.
use Rattle.std.proofs.Common.{◌≡◌, ◌≢◌, ℕ, ◌+◌, ◌<◌, Bool, true, List, length, get_or}
use Rattle.std.proofs.Common.{sym, ap, ◌∙◌, subst, arith, IsTrue, rules}
use Rattle.std.proofs.lemmas.List.Elements.{filter_passes}
use Rattle.std.proofs.lemmas.List.Kept.{AllPairs-filter}
use Rattle.mf_shape.specs.Stages.{width_at}
use Rattle.mf_places.specs.declared.Name.{Name}
use Rattle.mf_places.specs.declared.Name.TheVariants as name
use Rattle.mf_places.specs.declared.Name.TheVariants.{Data}
use Rattle.mf_places.specs.Facts.{BookFacts}
use Rattle.mf_places.specs.Names.{HasName, all_names, count_of, name_at, stripes_of}
use Rattle.mf_places.specs.Generations.{holds}
use Rattle.mf_places.specs.Numbers.{number_of}
use Rattle.mf_places.proofs.Held.{Holds, Holds-from, holds-from, HasName-from_holds}
use Rattle.mf_places.proofs.Names.{IsAt-number}
use Rattle.mf_vault.specs.Facts.{Facts, number, stages}
use Rattle.mf_vault.specs.Licence.{IsFile}
use Rattle.mf_convert.specs.Convert.{names_of}
use Rattle.mf_convert.specs.Converting.{IsNextParity}
use Rattle.mf_convert.proofs.Listed.{StandsIn, all_apart, found_in}

is_true : (b : Bool) → IsTrue b → b ≡ true
is_true b h = search rules

from_true : (b : Bool) → b ≡ true → IsTrue b
from_true b h = search rules

-- a name that generation g holds
pub held_from : (b : BookFacts) (g : ℕ) (x : Name) → holds b g x ≡ true → Holds b g x
held_from b g x h = Holds-from b g x (from_true (holds b g x) h)

pub held_test : (b : BookFacts) (g : ℕ) (x : Name) → Holds b g x → holds b g x ≡ true
held_test b g x h = is_true (holds b g x) (holds-from b g x h)

pub has_name : (f : Facts) (g : ℕ) (x : Name) → IsFile f → g < stages f → holds f.book g x ≡ true → HasName f.book x
has_name f g x file low h = HasName-from_holds f.book file.layout.shape.chain g low x (held_from f.book g x h)

-- what the next generation holds of data and copies, this one holds
pub held_data : (b : BookFacts) (g i : ℕ) → holds b (g + 1) (name.Data i) ≡ true → holds b g (name.Data i) ≡ true
held_data b g i h = h

pub held_copy : (f : Facts) (g c i : ℕ) → IsFile f → g + 1 < stages f → holds f.book (g + 1) (name.Copy c i) ≡ true
    → holds f.book g (name.Copy c i) ≡ true
held_copy f g c i file low h =
    let k = held_from f.book (g + 1) (name.Copy c i) h in
    let s = (file.layout.shape.chain.steps g low).copies in
    let a = k.0 in
    held_test f.book g (name.Copy c i) ((omega arith), k.1)

-- a parity of the next generation
pub next_parity : (b : BookFacts) (g w j p : ℕ) → holds b (g + 1) (name.Parity w j p) ≡ true
    → (w ≡ width_at b.shape.stages (g + 1)) × IsNextParity b g j p
next_parity b g w j p h = let k = held_from b (g + 1) (name.Parity w j p) h in
    (k.0, (record { stripe = subst (λ n. j < stripes_of b n) k.0 k.1; point = k.2 }))

-- the names in the list
pub next_held : (f : Facts) (t i : ℕ) (d : Name) → i < length (names_of f t)
    → holds f.book t (get_or (names_of f t) i d) ≡ true
next_held f t i d low = filter_passes (holds f.book t) (all_names f.book) i d low

pub next_apart : (f : Facts) (t i j : ℕ) (d : Name) → i < j → j < length (names_of f t)
    → number f (get_or (names_of f t) i d) ≢ number f (get_or (names_of f t) j d)
next_apart f t i j d less low =
    AllPairs-filter (λ x y. number_of f.book x ≢ number_of f.book y) (holds f.book t) (all_names f.book)
    (all_apart f.book) i j d less low

pub next_found : (f : Facts) (t : ℕ) (x : Name) → HasName f.book x → holds f.book t x ≡ true
    → StandsIn x (Data 0) (names_of f t)
unfolding name_at count_of
next_found f t x had h =
    let at = IsAt-number f.book x had in
    subst (λ y. StandsIn y (Data 0) (names_of f t)) at.at
    (found_in (holds f.book t) (all_names f.book) (number_of f.book x) (Data 0) at.below (ap (holds f.book t) at.at
    ∙ h))

-- a name of the list, for an actor of the same facts
pub nth_held : (t : ℕ) (names : List Name) (i : ℕ) (d : Name) {f h : Facts} → h ≡ f → names ≡ names_of f t
    → i < length names → holds h.book t (get_or names i d) ≡ true
nth_held t names i d {f = f} same is low =
    subst (λ (k : Facts). holds k.book t (get_or names i d) ≡ true) (sym same)
    (subst (λ (l : List Name). i < length l → holds f.book t (get_or l i d) ≡ true) (sym is) (next_held f t i d) low)
