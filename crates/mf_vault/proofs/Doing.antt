-- Calls in turn.
use Rattle.std.proofs.Common.{◌≡◌, List, [], ◌∷◌, ◌++◌, refl, sym, ap, ◌∙◌, subst, append_assoc}
use mathlib.Core.List.{append-nil}
use Rattle.mf_vault.specs.Actor.{Actor, Call, did, entry_of}
use Rattle.mf_vault.specs.Answers.{Goes}
use Rattle.mf_vault.specs.Licence.{Does, did_all, entries_of}

pub nothing : (a : Actor) → Does [] a a
nothing a = record { becomes = refl; fair = tt; told = tt }

-- where the actor is the same
pub same : {a b : Actor} → b ≡ a → Does [] a b
same e = record { becomes = e; fair = tt; told = tt }

pub one : {c : Call} {a b : Actor} → Goes c a b → Does (c ∷ []) a b
one g = record { becomes = g.becomes; fair = (g.fair, tt); told = (g.told, tt) }

chained : (cs ds : List Call) (a b c : Actor) → Does cs a b → Does ds b c → Does (cs ++ ds) a c
chained [] ds a b c x y = subst (λ (z : Actor). Does ds z c) x.becomes y
chained (d ∷ cs) ds a b c x y =
    let r = chained cs ds (did d a) b c (record { becomes = x.becomes; fair = x.fair.1; told = x.told.1 }) y in
    record { becomes = r.becomes; fair = (x.fair.0, r.fair); told = (x.told.0, r.told) }

pub then : {cs ds : List Call} {a b c : Actor} → Does cs a b → Does ds b c → Does (cs ++ ds) a c
then {cs = cs} {ds = ds} {a = a} {b = b} {c = c} x y = chained cs ds a b c x y

-- one call more, behind and in front
pub more : {cs : List Call} {c : Call} {a b d : Actor} → Does cs a b → Goes c b d → Does (cs ++ c ∷ []) a d
more x g = then x (one g)

pub after : {c : Call} {cs : List Call} {a b d : Actor} → Goes c a b → Does cs b d → Does (c ∷ cs) a d
after {c = c} {cs = cs} g x = then {cs = c ∷ []} {ds = cs} (one g) x

-- no call changes the facts
facts_all : (cs : List Call) (a : Actor) → (did_all cs a).facts ≡ a.facts
facts_all [] a = refl
facts_all (c ∷ cs) a = facts_all cs (did c a)

pub facts_stay : {cs : List Call} {a b : Actor} → Does cs a b → b.facts ≡ a.facts
facts_stay {cs = cs} {a = a} x = ap (λ (z : Actor). z.facts) x.becomes ∙ facts_all cs a

pub facts_kept : {c : Call} {a b : Actor} → Goes c a b → b.facts ≡ a.facts
facts_kept g = ap (λ (z : Actor). z.facts) g.becomes

-- the ledger has the entries of the calls, in order
entries_all : (cs : List Call) (a : Actor) → (did_all cs a).entries ≡ a.entries ++ entries_of cs
entries_all [] a = sym (append-nil a.entries)
entries_all (c ∷ cs) a = entries_all cs (did c a) ∙ append_assoc a.entries (entry_of c) (entries_of cs)

pub entries_are : {cs : List Call} {a b : Actor} → Does cs a b → b.entries ≡ a.entries ++ entries_of cs
entries_are {cs = cs} {a = a} x = ap (λ (z : Actor). z.entries) x.becomes ∙ entries_all cs a
