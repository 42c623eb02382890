-- A file that isn't created is at rest.
use Rattle.std.proofs.Common.{◌≡◌, ℕ, zero, suc, ◌+◌, ◌<◌, Bool, false, true, All, List, [], ◌∷◌, ◌++◌, length, get_or}
use Rattle.std.proofs.Common.{replicate, sym, refl, ap, ◌∙◌, arith}
use Rattle.std.proofs.lemmas.List.{length-replicate, get_or_read}
use Rattle.mf_places.specs.declared.Name.{Name}
use Rattle.mf_places.specs.Facts.{BookFacts, IsBook}
use Rattle.mf_places.specs.Names.{count_of, name_at}
use Rattle.mf_places.specs.Numbers.{number_of}
use Rattle.mf_places.proofs.Names.{IsNumber-at}
use Rattle.mf_plain.specs.declared.known.Told.{Told}
use Rattle.mf_vault.specs.declared.answers.Rest.{Rest}
use Rattle.mf_vault.specs.declared.answers.Rest.TheVariants as rest
use Rattle.mf_vault.specs.Resting.{word_of, home_of, opening_of}
use Rattle.mf_plain.specs.Resting.{Resting, AtRest, unborn}

pub more_unborn : (n : ℕ) → replicate n rest.Unborn ++ rest.Unborn ∷ [] ≡ replicate (n + 1) rest.Unborn
more_unborn n = go n ∙ ap (λ k. replicate k rest.Unborn) (let e : suc n ≡ n + 1 = omega arith in e)
  where
    go : (n : ℕ) → replicate n rest.Unborn ++ rest.Unborn ∷ [] ≡ replicate (suc n) rest.Unborn
    go zero = refl
    go (suc n) = ap (λ l. rest.Unborn ∷ l) (go n)

each_unborn : (m n : ℕ) → get_or (replicate m rest.Unborn) n rest.Unborn ≡ rest.Unborn
each_unborn zero n = refl
each_unborn (suc m) zero = refl
each_unborn (suc m) (suc n) = each_unborn m n

none_closed : (m g : ℕ) → get_or (replicate m false) g false ≡ false
none_closed zero g = refl
none_closed (suc m) zero = refl
none_closed (suc m) (suc g) = none_closed m g

module _ (b : BookFacts) (bytes : List ℕ) where
  abbrev r : Resting
  r = unborn b bytes

  name_zero : (n : ℕ) → (opening_of r.number r.closed r.names).name n ≡ 0
  name_zero n = ap word_of (each_unborn (count_of b) n)

  pub unborn_rests : IsBook b → length bytes ≡ b.bytes → All (λ x. x < 256) bytes → AtRest r
  unborn_rests book long low = record {
    is_file = record { layout = book; long = long; bytes = low };
    closed = length-replicate (length b.shape.stages) false;
    names = length-replicate (count_of b) rest.Unborn;
    rest = record {
      number = omega arith;
      closed = λ g l e. let z : false ≡ true = sym (none_closed (length b.shape.stages) g) ∙ e in
          absurd (let y : ⊥ = cc in y);
      born = λ g l e. absurd (omega arith);
      settled = λ n l e. let z = name_zero n in absurd (omega arith);
      dropped = λ n l e. let z = name_zero n in absurd (omega arith);
      lost = λ n m l e. let z = name_zero n in absurd (omega arith);
      here = λ n l e. let z = name_zero n in absurd (omega arith);
      bare = λ n l e. ap home_of (each_unborn (count_of b) n);
    };
    unborn = λ _. refl;
  }

pub unborn_is : (b : BookFacts) (bytes : List ℕ) (t : Told) (closed : List Bool) (names : List Rest)
    → t ≡ record { bytes = bytes; losses = [] } → closed ≡ replicate (length b.shape.stages) false
    → names ≡ replicate (count_of b) rest.Unborn
    → unborn b bytes ≡ record {
      book = b;
      bytes = t.bytes;
      losses = t.losses;
      number = 0;
      closed = closed;
      names = names;
      born = 0;
    }
unborn_is b bytes t closed names e c n = λ j. record {
  book = b;
  bytes = (sym e j).bytes;
  losses = (sym e j).losses;
  number = 0;
  closed = sym c j;
  names = sym n j;
  born = 0;
}

-- a name's state stands at its number
pub rest_at : (b : BookFacts) (x : Name) (n : ℕ) (names : List Rest) (r : Rest) → n < count_of b → name_at b n ≡ x
    → r ≡ get_or names n rest.Unborn → r ≡ get_or names (number_of b x) rest.Unborn
rest_at b x n names r low at e = e ∙ ap (λ k. get_or names k rest.Unborn) (IsNumber-at b x n low at).number

pub rest_seen : (b : BookFacts) (x : Name) (n : ℕ) (names : List Rest) (r : Rest) → length names ≡ count_of b
    → (n < count_of b) × (name_at b n ≡ x) → r ≡ get_or names n r → r ≡ get_or names (number_of b x) rest.Unborn
rest_seen b x n names r long at e =
    rest_at b x n names r at.0 at.1 (get_or_read names n r (let l = at.0 in omega arith) e rest.Unborn)
