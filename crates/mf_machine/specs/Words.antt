-- The numbers that stand in the words of a file and in a view.
use Rattle.std.specs.Prelude.{◌≡◌, ℕ, ◌+◌, ◌-◌, ◌^◌, ◌≤◌, ◌==◌, ltb, leb, Bool}

-- the words in their order: the published number
abbrev pub number_word : ℕ
number_word = 0

-- the right
abbrev pub right_word : ℕ
right_word = 1

-- the pins of generation g
abbrev pub pins_word : ℕ → ℕ
pins_word g = g + 2

-- the nth name
abbrev pub nth_name_word : (q n : ℕ) → ℕ
nth_name_word q n = q + 2 + n

-- the word of a name: Unborn
abbrev pub unborn : ℕ
unborn = 0

-- Here
abbrev pub here : ℕ
here = 1

-- Taken, with some actor
abbrev pub taken : ℕ
taken = 2

-- Dropped
abbrev pub dropped : ℕ
dropped = 3

-- lost, by this lose line
abbrev pub lost : ℕ → ℕ
lost line = 4 + line

-- its line
abbrev pub line_of : ℕ → ℕ
line_of x = x - lost 0

-- the word is that of a lost name
abbrev pub IsLost : ℕ → Type 0
IsLost x = lost 0 ≤ x

-- the test of it
abbrev pub is_lost : ℕ → Bool
is_lost x = leb (lost 0) x

-- the test of Here
abbrev pub is_here : ℕ → Bool
is_here x = x == here

-- the word of the right: it is free
abbrev pub free : ℕ
free = 0

-- it is some actor's
abbrev pub held : ℕ
held = 1

-- the word of a generation's pins: how many there are, and beside them this bit once it is closed
abbrev pub closed_bit : ℕ
closed_bit = 9223372036854775808

-- open, and without pins
abbrev pub no_pins : ℕ
no_pins = 0

-- the test of an open generation
abbrev pub is_open : ℕ → Bool
is_open x = ltb x closed_bit

-- the published number of a file that isn't created
abbrev pub absent : ℕ
absent = 0

-- that of generation g
abbrev pub number_of : ℕ → ℕ
number_of g = g + 1

-- that of a file of q generations that is removed
abbrev pub removed_of : ℕ → ℕ
removed_of q = q + 1

-- a mark of a view: no
abbrev pub no : ℕ
no = 0

-- yes
abbrev pub yes : ℕ
yes = 1

-- the share of the first actor
abbrev pub whole_share : ℕ
whole_share = 2 ^ 30

-- a place of a view that may be empty: 0, or 1 more than what stands there
abbrev pub vacant : ℕ
vacant = 0

-- it has n
abbrev pub filled : ℕ → ℕ
filled n = n + 1

-- the place has n
abbrev pub Fills : (place n : ℕ) → Type 0
Fills place n = place ≡ filled n
