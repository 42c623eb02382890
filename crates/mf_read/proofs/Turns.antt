-- Names asked for in turn.
use Rattle.std.proofs.Common.{◌≡◌, ℕ, zero, suc, ◌+◌, true, false, nat_lt, List, [], ◌∷◌, ◌++◌, Option, Some, None}
use Rattle.std.proofs.Common.{is_some, refl, sym, subst}
use Rattle.mf_places.specs.declared.Name.{Name}
use Rattle.mf_read.specs.Asking.{Found, Ask, here, lost, away, one_here, here_in, still, IsAsked}

-- what is left may be had in some way
unfoldable pub fill : (n : ℕ) (names : List Name) → (asks : List Ask) × IsAsked n names asks
fill zero names = ([], refl)
fill (suc n) [] = ([], refl)
fill (suc n) (x ∷ names) = let (asks, is) = fill (suc n) names in
    ((record { name = x; found = lost 0 }) ∷ asks, (refl, is))

-- names more behind
pub extend : (n : ℕ) (names more : List Name) (asks : List Ask) → IsAsked n names asks
    → (rest : List Ask) × IsAsked n (names ++ more) (asks ++ rest)
extend zero names more asks e = ([], subst (λ (l : List Ask). l ++ [] ≡ []) (sym e) refl)
extend (suc n) [] more asks e = let (rest, is) = fill (suc n) more in
    (rest, subst (λ (l : List Ask). IsAsked (suc n) more (l ++ rest)) (sym e) is)
extend (suc n) (x ∷ names) more [] e = absurd e
extend (suc n) (x ∷ names) more (a ∷ asks) (e, is) = let (rest, all) = extend (still a.found n) names more asks is in
    (rest, (e, all))

-- how many names are still wanted, by what was had
abbrev pub wants : Option (List ℕ) → ℕ
wants None = 1
wants (Some c) = 0

none_here : (o : Option (List ℕ)) → is_some o ≡ true → (names : List Name) (others : List Ask)
    → IsAsked (wants o) names others → others ≡ []
none_here None e names others is = absurd (let z : false ≡ true = e in cc)
none_here (Some c) e names others is = is

some_wanted : (o : Option (List ℕ)) → is_some o ≡ false → (names : List Name) (others : List Ask)
    → IsAsked (wants o) names others → IsAsked 1 names others
some_wanted None e names others is = is
some_wanted (Some c) e names others is = absurd (let z : true ≡ false = e in cc)

-- one name, and then others while it wasn't had
then_by : (x : Name) (names : List Name) (f : Found) (asks others : List Ask) (o : Option (List ℕ))
    → IsAsked (still f 0) [] asks
    → is_some o ≡ nat_lt 0 (one_here f + here_in asks) → IsAsked (wants o) names others
    → IsAsked 1 (x ∷ names) (((record { name = x; found = f }) ∷ asks) ++ others)
then_by x names here asks others o e had is =
    let h = subst (λ (l : List Ask). is_some o ≡ nat_lt 0 (1 + here_in l)) e had in
    (refl, subst (λ (l : List Ask). l ++ others ≡ []) (sym e) (none_here o h names others is))
then_by x names (lost l) asks others o e had is =
    let h = subst (λ (l : List Ask). is_some o ≡ nat_lt 0 (0 + here_in l)) e had in
    (refl, subst (λ (l : List Ask). IsAsked 1 names (l ++ others)) (sym e) (some_wanted o h names others is))
then_by x names (away s) asks others o e had is =
    let h = subst (λ (l : List Ask). is_some o ≡ nat_lt 0 (0 + here_in l)) e had in
    (refl, subst (λ (l : List Ask). IsAsked 1 names (l ++ others)) (sym e) (some_wanted o h names others is))

pub in_turn : (x : Name) (names : List Name) (asks others : List Ask) (o : Option (List ℕ)) → IsAsked 1 (x ∷ []) asks
    → is_some o ≡ nat_lt 0 (here_in asks) → IsAsked (wants o) names others → IsAsked 1 (x ∷ names) (asks ++ others)
in_turn x names [] others o e had is = absurd e
in_turn x names (a ∷ asks) others o (e, rest) had is = (e, (then_by x names a.found asks others o rest had is).1)
