-- The text of a seed's script. Its numbers are drawn one after the other, in the order in which they stand in it.
use Rattle.std.specs.Prelude.{ℕ, zero, suc, ◌+◌, ◌*◌, ◌/◌, ◌%◌, ◌^◌, List, [], ◌∷◌, ◌++◌, codes, slice_index_or}
use Rattle.std.specs.List.{flat_map, range_with_len}
use Rattle.mf_text.specs.Decimal.{decimal_text}

-- ---- the generator, whose state is a number below 2 ^ 64

-- the state behind a draw
unfoldable pub next : ℕ → ℕ
next x = (x * 6364136223846793005 + 1442695040888963407) % 2 ^ 64

-- the state behind k draws
abbrev pub behind : ℕ → ℕ → ℕ
behind zero x = x
behind (suc k) x = next (behind k x)

-- the number below m that a draw gives in state x
unfoldable pub draw : ℕ → ℕ → ℕ
draw m x = (next x / 2 ^ 33) % m

-- ---- lines: x is the state before the first draw of each

-- a line with its end
abbrev pub ended : List ℕ → List ℕ
ended line = line ++ 10 ∷ []

-- a space and a number
abbrev pub spaced : ℕ → List ℕ
spaced n = codes " " ++ decimal_text n

-- a word and the name of file i
abbrev pub on_file : List ℕ → ℕ → List ℕ
on_file word i = word ++ codes " f" ++ decimal_text i

-- the store
unfoldable pub store_lines : List ℕ
store_lines =
    flat_map ended
    (codes "morph 1" ∷ codes "servers 16" ∷ codes "chunk 64" ∷ codes "points 1 2 4" ∷ codes "stage 6 3 1"
    ∷ codes "stage 6 3 0" ∷ codes "stage 12 3 0" ∷ codes "policy 0 7 30" ∷ [])

-- file i, whose length is drawn, and then its start
abbrev pub file_line : ℕ → ℕ → List ℕ
file_line x i =
    ended (on_file (codes "file") i ++ codes " pattern" ++ spaced (draw 4001 x) ++ spaced (draw 251 (next x)))

-- the files
unfoldable pub file_lines : ℕ → List ℕ
file_lines x = flat_map (λ i. file_line (behind (2 * i) x) i) (range_with_len 0 8)

-- client c of the first phase, which creates its two files
abbrev pub creator_lines : ℕ → List ℕ
creator_lines c =
    ended (codes "client") ++ ended (on_file (codes "create") (2 * c)) ++ ended (on_file (codes "create") (2 * c + 1))

-- the clients of the first phase
unfoldable pub creators_lines : List ℕ
creators_lines = flat_map creator_lines (range_with_len 0 4)

-- the command that a number below 4 stands for
abbrev pub verb : ℕ → List ℕ
verb v = slice_index_or (codes "read" ∷ codes "repair" ∷ codes "convert" ∷ codes "reclaim" ∷ []) v []

-- a command on file i that is drawn, and a read of it
abbrev pub turn_lines : ℕ → ℕ → List ℕ
turn_lines x i = ended (on_file (verb (draw 4 x)) i) ++ ended (on_file (codes "read") i)

-- client c of a round, with a turn for each of its two files
abbrev pub client_lines : ℕ → ℕ → List ℕ
client_lines x c = ended (codes "client") ++ turn_lines x (2 * c) ++ turn_lines (next x) (2 * c + 1)

-- the clients of a round
unfoldable pub clients_lines : ℕ → List ℕ
clients_lines x = flat_map (λ c. client_lines (behind (2 * c) x) c) (range_with_len 0 4)

-- some ticks, and a phase that loses a server
unfoldable pub loss_lines : ℕ → List ℕ
loss_lines x =
    ended (codes "tick" ++ spaced (draw 10 x)) ++ ended (codes "phase") ++ ended (codes "client")
    ++ ended (codes "lose" ++ spaced (draw 16 (next x)))

-- a phase that sweeps
unfoldable pub sweep_lines : List ℕ
sweep_lines = ended (codes "phase") ++ ended (codes "client") ++ ended (codes "sweep")

-- a round, of ten draws
abbrev pub round_lines : ℕ → List ℕ
round_lines x = loss_lines x ++ ended (codes "phase") ++ clients_lines (behind 2 x) ++ sweep_lines

-- the rounds
unfoldable pub rounds_lines : ℕ → List ℕ
rounds_lines x = flat_map (λ r. round_lines (behind (10 * r) x)) (range_with_len 0 8)

-- the dumps
unfoldable pub dump_lines : List ℕ
dump_lines = flat_map (λ i. ended (on_file (codes "dump") i)) (range_with_len 0 8)

-- the script of seed n
unfoldable pub seed_text : ℕ → List ℕ
seed_text n =
    store_lines ++ file_lines n ++ ended (codes "phase") ++ creators_lines ++ rounds_lines (behind 16 n) ++ dump_lines
    ++ ended (codes "end")
