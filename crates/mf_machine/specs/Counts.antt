-- How often something stands in a list, and sums over all actors.
use Rattle.std.specs.Prelude.{ℕ, zero, suc, ◌+◌, ◌==◌, nat_lt, Bool, List, [], ◌∷◌, cond}
use Rattle.mf_machine.specs.declared.view.Loss.{Loss}
use Rattle.mf_machine.specs.declared.view.Met.{Met}
use Rattle.mf_machine.specs.declared.view.View.{View}

-- 1 where the two numbers are equal, else 0
abbrev pub bit : ℕ → ℕ → ℕ
bit a b = cond (a == b) 1 0

-- 1 for true
abbrev pub truth : Bool → ℕ
truth b = cond b 1 0

-- how often x stands in the list
abbrev pub times : ℕ → List ℕ → ℕ
times x [] = 0
times x (y ∷ ys) = bit y x + times x ys

-- how often the name was lost
abbrev pub losses : ℕ → List Loss → ℕ
losses n [] = 0
losses n (x ∷ xs) = bit x.name n + losses n xs

-- how often the name was lost with this line
abbrev pub lines : ℕ → ℕ → List Loss → ℕ
lines n l [] = 0
lines n l (x ∷ xs) = cond (x.name == n) (bit x.line l) 0 + lines n l xs

-- the begins answered true in all these
abbrev pub all_begun : List Met → ℕ
all_begun [] = 0
all_begun (m ∷ ms) = m.begun + all_begun ms

-- the pins made on an open g in all these
abbrev pub all_opened : ℕ → List Met → ℕ
all_opened g [] = 0
all_opened g (m ∷ ms) = times g m.opened + all_opened g ms

-- f of each actor, added up
abbrev pub total : (View → ℕ) → List View → ℕ
total f [] = 0
total f (v ∷ vs) = f v + total f vs

-- the list without n
abbrev pub without : ℕ → List ℕ → List ℕ
without n [] = []
without n (x ∷ xs) = cond (x == n) (without n xs) (x ∷ without n xs)

-- the numbers below n for which the test is true
abbrev pub those : (ℕ → Bool) → ℕ → List ℕ
those p zero = []
those p (suc n) = cond (p n) (n ∷ those p n) (those p n)

-- the first c entries of each number, counted from the end
abbrev pub up_to : ℕ → List ℕ → List ℕ
up_to c [] = []
up_to c (x ∷ xs) = cond (nat_lt (times x xs) c) (x ∷ up_to c xs) (up_to c xs)

-- the others
abbrev pub beyond : ℕ → List ℕ → List ℕ
beyond c [] = []
beyond c (x ∷ xs) = cond (nat_lt (times x xs) c) (beyond c xs) (x ∷ beyond c xs)
