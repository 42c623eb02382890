-- Sets of servers.
use Rattle.std.proofs.Common.{◌≡◌, ℕ, ◌^◌, ◌<◌, ◌⊎◌, List, [], ◌∷◌, ap, ◌∙◌, sym, subst, inl, inr, ⊎_elim, arith, lit<}
use Rattle.std.proofs.Common.{Contains, IsBitSet, ◌↔◌, fold, ◌+◌, ◌++◌, true, refl, flat_map}
use Rattle.std.proofs.lemmas.List.{append-nil}
use Rattle.std.proofs.lemmas.List.Concat.{flat_map-append}
use Rattle.std.proofs.lemmas.Bool.{cases_lt, cases_eq, eqb-true, eq-eqb, lt-ltb, le-ltb}
use Rattle.std.proofs.lemmas.Nat.{or_lt, bit_set_by_shift}
use Rattle.std.proofs.lemmas.Nat.Bits.{bit_at-zero, bit_at_or, bit_at-pow_same, bit_at-pow_other, bit_at-lt}
use Rattle.std.proofs.lemmas.Nat.Bits.{bit_at_above, same_from_bits_below, shr_and_one}
use Rattle.std.proofs.lemmas.List.Elements.{Contains-append_cases, Contains-append_left, Contains-append_right}
use Rattle.std.proofs.lemmas.List.Elements.{Contains-push, Contains-push_cases}
use Rattle.std.proofs.Math.Pow.{pow-lt}
use Rattle.std.specs.Int.{bit_at}
use Rattle.mf_places.specs.declared.servers.Servers.{Servers}
use Rattle.mf_places.specs.Servers.{IsIn, is_in, no_servers, with_server, set_of, servers_of}
use Rattle.mf_places.specs.Texts.{spaced, servers_text}
use Rattle.mf_places.proofs.Passing.{passing, passing-yes, Passes-from, Contains-passing}

-- ---- one bit

-- a bit is set where it is 1
pub set-bit : (n k : ℕ) → IsBitSet n k ↔ (bit_at n k ≡ 1)
set-bit n k =
    let shift = bit_set_by_shift n k in
    (λ h. sym (shr_and_one n k) ∙ shift.1 h, λ e. shift.0 (shr_and_one n k ∙ e))

-- ---- one server more

pub with-lt : (set : Servers) (x : ℕ) → set.bits < 2 ^ 128 → (with_server set x).bits < 2 ^ 128
with-lt set x h = ⊎_elim
    (λ below. rw (lt-ltb x 128 below) (or_lt 128 set.bits (2 ^ x) h (pow-lt below)))
    (λ above. rw (le-ltb x 128 above) h)
    (cases_lt x 128)

with-own : (set : Servers) (x : ℕ) → x < 128 → bit_at (with_server set x).bits x ≡ 1
with-own set x below =
    rw (lt-ltb x 128 below) (omega (arith, bit_at_or set.bits (2 ^ x) x, bit_at-pow_same x, bit_at-lt set.bits x))

with-before : (set : Servers) (x s : ℕ) → bit_at set.bits s ≡ 1 → bit_at (with_server set x).bits s ≡ 1
with-before set x s h = ⊎_elim
    (λ below. rw (lt-ltb x 128 below) (omega (arith, bit_at_or set.bits (2 ^ x) s, bit_at-lt (2 ^ x) s)))
    (λ above. rw (le-ltb x 128 above) h)
    (cases_lt x 128)

with-only : (set : Servers) (x s : ℕ) → bit_at (with_server set x).bits s ≡ 1
    → ((x ≡ s) × (x < 128)) ⊎ (bit_at set.bits s ≡ 1)
with-only set x s = ⊎_elim
    (λ below. rw (lt-ltb x 128 below) (λ h. ⊎_elim
    (λ same. inl (same, below))
    (λ other. inr (omega (arith, bit_at_or set.bits (2 ^ x) s, bit_at-pow_other x s (λ e. other (sym e)))))
    (cases_eq x s)))
    (λ above. rw (le-ltb x 128 above) (λ h. inr h))
    (cases_lt x 128)

-- ---- the set of a list

from-lt : (set : Servers) (xs : List ℕ) → set.bits < 2 ^ 128 → (fold with_server set xs).bits < 2 ^ 128
from-lt set [] h = h
from-lt set (x ∷ xs) h = from-lt (with_server set x) xs (with-lt set x h)

pub set_of-lt : (xs : List ℕ) → (set_of xs).bits < 2 ^ 128
unfolding set_of
set_of-lt xs = from-lt no_servers xs (lit< tt)

from-before : (set : Servers) (xs : List ℕ) (s : ℕ) → bit_at set.bits s ≡ 1
    → bit_at (fold with_server set xs).bits s ≡ 1
from-before set [] s h = h
from-before set (x ∷ xs) s h = from-before (with_server set x) xs s (with-before set x s h)

one-is : (x s : ℕ) → Contains (x ∷ []) s → x ≡ s
one-is x s h = ⊎_elim (λ none. absurd (omega (arith, none.1))) (λ e. e) (Contains-push_cases [] x s h)

from-has : (set : Servers) (xs : List ℕ) (s : ℕ) → s < 128 → Contains xs s → bit_at (fold with_server set xs).bits s ≡ 1
from-has set [] s below h = absurd (omega (arith, h.1))
from-has set (x ∷ xs) s below h = ⊎_elim
    (λ first.
    let e = one-is x s first in
    from-before (with_server set x) xs s (subst (λ (k : ℕ). bit_at (with_server set x).bits k
    ≡ 1) e (with-own set x (omega arith))))
    (λ later. from-has (with_server set x) xs s below later)
    (Contains-append_cases (x ∷ []) xs s h)

pub set_of-has : (xs : List ℕ) (s : ℕ) → s < 128 → Contains xs s → bit_at (set_of xs).bits s ≡ 1
unfolding set_of
set_of-has xs s below h = from-has no_servers xs s below h

from-only : (set : Servers) (xs : List ℕ) (s : ℕ) → bit_at (fold with_server set xs).bits s ≡ 1
    → (bit_at set.bits s ≡ 1) ⊎ ((s < 128) × Contains xs s)
from-only set [] s h = inl h
from-only set (x ∷ xs) s h = ⊎_elim
    (λ before. ⊎_elim
    (λ own. inr (
      omega (arith, own.0, own.1),
      subst (λ (k : ℕ). Contains (x ∷ xs) k) own.0 (Contains-append_left (x ∷ []) xs x (Contains-push [] x)),
    ))
    (λ old. inl old)
    (with-only set x s before))
    (λ rest. inr (rest.0, Contains-append_right (x ∷ []) xs s rest.1))
    (from-only (with_server set x) xs s h)

pub set_of-only : (xs : List ℕ) (s : ℕ) → bit_at (set_of xs).bits s ≡ 1 → (s < 128) × Contains xs s
unfolding set_of
set_of-only xs s h = ⊎_elim (λ none. absurd (omega (
  arith,
  bit_at-zero s,
))) (λ found. found) (from-only no_servers xs s h)

-- a number is in the set of a list where it is small and stands there
pub in-set_of : (xs : List ℕ) (s : ℕ) → IsIn (set_of xs) s ↔ ((s < 128) × Contains xs s)
in-set_of xs s =
    let bit = set-bit (set_of xs).bits s in
    (λ h. set_of-only xs s (bit.0 h.1), λ h. (h.0, bit.1 (set_of-has xs s h.0 h.1)))

-- ---- the list of a set

-- a number in the set is in its list, and the other way round
pub listed : (set : Servers) (s : ℕ) → IsIn set s → Contains (servers_of set) s
unfolding servers_of
listed set s h = Contains-passing (is_in set) 128 s h.0 (eq-eqb _ 1 ((set-bit set.bits s).0 h.1))

pub in-from_list : (set : Servers) (s : ℕ) → Contains (servers_of set) s → IsIn set s
unfolding servers_of
in-from_list set s h =
    let pass = Passes-from (is_in set) 128 s h in
    (pass.below, (set-bit set.bits s).1 (eqb-true _ 1 pass.test))

-- the set of the list is the set
back-bit : (set : Servers) → set.bits < 2 ^ 128 → (s : ℕ) → bit_at (set_of (servers_of set)).bits s ≡ bit_at set.bits s
back-bit set fits s = ⊎_elim
    (λ one.
    let below : s < 128 =
    ⊎_elim (λ low. low) (λ high. absurd (omega (arith, bit_at_above set.bits 128 s fits high))) (cases_lt s 128) in
    set_of-has (servers_of set) s below (listed set s (below, (set-bit set.bits s).1 one)) ∙ sym one)
    (λ other.
    let low = bit_at-lt set.bits s in
    let low' = bit_at-lt (set_of (servers_of set)).bits s in
    ⊎_elim
    (λ is. absurd (other ((set-bit set.bits s).0 (in-from_list set s (set_of-only (servers_of set) s is).1).1)))
    (λ not. omega arith)
    (cases_eq (bit_at (set_of (servers_of set)).bits s) 1))
    (cases_eq (bit_at set.bits s) 1)

pub set_of-servers_of : (set : Servers) → set.bits < 2 ^ 128 → set_of (servers_of set) ≡ set
set_of-servers_of set fits =
    let same = same_from_bits_below 128 (set_of (servers_of set)).bits set.bits (set_of-lt (servers_of set)) fits
    (λ s below. back-bit set fits s) in
    let made : ℕ → Servers = λ bits. record { bits = bits } in
    ap made same

-- a loop that lists what passes lists the set
pub all_listed : (set : Servers) (n : ℕ) (xs : List ℕ) → xs ≡ passing (is_in set) n → n ≡ 128 → xs ≡ servers_of set
unfolding servers_of
all_listed set n xs so_far end = so_far ∙ ap (passing (is_in set)) end

-- the list of a set is empty where the set is
pub none_listed : (set : Servers) → set.bits ≡ 0 → servers_of set ≡ []
unfolding servers_of
none_listed set e = ap (λ (b : ℕ). servers_of (record { bits = b })) e

pub none_in : (set : Servers) → set.bits < 2 ^ 128 → servers_of set ≡ [] → set.bits ≡ 0
unfolding set_of
none_in set fits e = ap (λ (s : Servers). s.bits) (sym (set_of-servers_of set fits) ∙ ap set_of e)

-- the text of a set, server by server
pub member_text : (set : Servers) (n : ℕ) → is_in set n ≡ true
    → flat_map spaced (passing (is_in set) (n + 1)) ≡ flat_map spaced (passing (is_in set) n) ++ spaced n
member_text set n test =
    ap (flat_map spaced) (passing-yes (is_in set) n test)
    ∙ flat_map-append spaced (passing (is_in set) n) (n ∷ [])
    ∙ ap (λ ys. flat_map spaced (passing (is_in set) n) ++ ys) (append-nil (spaced n))

pub all_text : (set : Servers) (n : ℕ) → n ≡ 128 → flat_map spaced (passing (is_in set) n) ≡ servers_text set
all_text set n end = ap (flat_map spaced) (all_listed set n (passing (is_in set) n) refl end)
