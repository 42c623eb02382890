-- The count of a list with one entry more.
use Rattle.std.proofs.Common.{◌≡◌, ℕ, ◌+◌, ◌<◌, ◌≤◌, ◌^◌, List, [], ◌∷◌, ◌++◌, length, take, get_or, sym, ap, ◌∙◌}
use Rattle.std.proofs.Common.{arith}
use Rattle.std.proofs.lemmas.List.{take_more}
use Rattle.mf_places.specs.declared.Name.{Name}
use Rattle.mf_places.specs.declared.Name.TheVariants as name
use Rattle.mf_vault.specs.declared.answers.Answer.{Answer}
use Rattle.mf_vault.specs.declared.answers.Answer.TheVariants as answer
use Rattle.mf_vault.specs.declared.answers.Entry.{Entry}
use Rattle.mf_vault.specs.declared.answers.Entry.TheVariants as entry
use Rattle.mf_vault.specs.declared.answers.Op.TheVariants as op
use Rattle.mf_vault.specs.declared.io.Io.{Io}
use Rattle.mf_vault.specs.Counting.{io_of, counts, add_io, no_io, read, get_counts, discard_counts, SumFits}

same : (a b : Io) → a.pieces ≡ b.pieces → a.copies ≡ b.copies → a.parities ≡ b.parities → a.misses ≡ b.misses
    → a.writes ≡ b.writes → a.probes ≡ b.probes → a.drops ≡ b.drops → a ≡ b
same a b p c r m w q d = λ i. record {
  pieces = p i;
  copies = c i;
  parities = r i;
  misses = m i;
  writes = w i;
  probes = q i;
  drops = d i;
}

plus_nothing : (a : Io) → add_io a no_io ≡ a
plus_nothing a =
    same (add_io a no_io) a (omega arith) (omega arith) (omega arith) (omega arith) (omega arith) (omega arith)
    (omega arith)

nothing_plus : (a : Io) → add_io no_io a ≡ a
nothing_plus a =
    same (add_io no_io a) a (omega arith) (omega arith) (omega arith) (omega arith) (omega arith) (omega arith)
    (omega arith)

pub plus_assoc : (a b c : Io) → add_io (add_io a b) c ≡ add_io a (add_io b c)
plus_assoc a b c =
    same (add_io (add_io a b) c) (add_io a (add_io b c)) (omega arith) (omega arith) (omega arith) (omega arith)
    (omega arith) (omega arith) (omega arith)

pub io_append : (es fs : List Entry) → io_of (es ++ fs) ≡ add_io (io_of es) (io_of fs)
io_append [] fs = sym (nothing_plus (io_of fs))
io_append (e ∷ es) fs = ap (add_io (counts e)) (io_append es fs) ∙ sym (plus_assoc (counts e) (io_of es) (io_of fs))

pub io_more : (es : List Entry) (e : Entry) → io_of (es ++ e ∷ []) ≡ add_io (io_of es) (counts e)
io_more es e = io_append es (e ∷ []) ∙ ap (add_io (io_of es)) (plus_nothing (counts e))

-- no kind is counted more often than there are entries
pub record Below (a : Io) (n : ℕ) : Type 0 where
  pub pieces : a.pieces ≤ n
  pub copies : a.copies ≤ n
  pub parities : a.parities ≤ n
  pub misses : a.misses ≤ n
  pub writes : a.writes ≤ n
  pub probes : a.probes ≤ n
  pub drops : a.drops ≤ n

abbrev below_one : Io → Type 0
below_one a = Below a 1

low : (a : Io) → a.pieces ≤ 1 → a.copies ≤ 1 → a.parities ≤ 1 → a.misses ≤ 1 → a.writes ≤ 1 → a.probes ≤ 1
    → a.drops ≤ 1 → Below a 1
low a p c r m w q d = record { pieces = p; copies = c; parities = r; misses = m; writes = w; probes = q; drops = d }

z : 0 ≤ 1
z = omega arith

o : 1 ≤ 1
o = omega arith

no_low : Below no_io 1
no_low = low no_io z z z z z z z

read_low : (x : Name) → Below (read x) 1
read_low (name.Data i) = low (read (name.Data i)) o z z z z z z
read_low (name.Copy c i) = low (read (name.Copy c i)) z o z z z z z
read_low (name.Parity w j p) = low (read (name.Parity w j p)) z z o z z z z

get_low : (x : Name) (a : Answer) → Below (get_counts x a) 1
get_low x answer.Here = read_low x
get_low x (answer.Lost l) = low (get_counts x (answer.Lost l)) z z z o z z z
get_low x (answer.Away s) = low (get_counts x (answer.Away s)) z z z o z z z
get_low x answer.Unborn = low (get_counts x answer.Unborn) z z z o z z z
get_low x answer.Done = low (get_counts x answer.Done) z z z o z z z
get_low x answer.Nothing = low (get_counts x answer.Nothing) z z z o z z z

discard_low : (a : Answer) → Below (discard_counts a) 1
discard_low answer.Here = no_low
discard_low (answer.Lost l) = no_low
discard_low (answer.Away s) = no_low
discard_low answer.Unborn = no_low
discard_low answer.Done = low (discard_counts answer.Done) z z z z z z o
discard_low answer.Nothing = no_low

counts_low : (e : Entry) → Below (counts e) 1
counts_low (entry.Chunk op.Get x a) = get_low x a
counts_low (entry.Chunk op.Probe x a) = low (record no_io { probes = 1 }) z z z z z o z
counts_low (entry.Chunk op.Put x a) = low (record no_io { writes = 1 }) z z z z o z z
counts_low (entry.Chunk op.Restore x a) = low (record no_io { writes = 1 }) z z z z o z z
counts_low (entry.Chunk op.Discard x a) = discard_low a
counts_low (entry.Chunk op.Lose x a) = no_low
counts_low (entry.Close g c) = no_low

pub io_low : (es : List Entry) → Below (io_of es) (length es)
io_low [] = record { pieces = z0; copies = z0; parities = z0; misses = z0; writes = z0; probes = z0; drops = z0 }
  where
    z0 : 0 ≤ 0
    z0 = omega arith
io_low (e ∷ es) = let a = counts_low e in let b = io_low es in record {
  pieces = let x = a.pieces in let y = b.pieces in omega arith;
  copies = let x = a.copies in let y = b.copies in omega arith;
  parities = let x = a.parities in let y = b.parities in omega arith;
  misses = let x = a.misses in let y = b.misses in omega arith;
  writes = let x = a.writes in let y = b.writes in omega arith;
  probes = let x = a.probes in let y = b.probes in omega arith;
  drops = let x = a.drops in let y = b.drops in omega arith;
}

pub fits : (a : Io) (e : Entry) (n m : ℕ) → Below a n → n < m → m < 2 ^ 64 → SumFits a (counts e)
fits a e n m b l top = let c = counts_low e in record {
  pieces = let x = b.pieces in let y = c.pieces in omega arith;
  copies = let x = b.copies in let y = c.copies in omega arith;
  parities = let x = b.parities in let y = c.parities in omega arith;
  misses = let x = b.misses in let y = c.misses in omega arith;
  writes = let x = b.writes in let y = c.writes in omega arith;
  probes = let x = b.probes in let y = c.probes in omega arith;
  drops = let x = b.drops in let y = c.drops in omega arith;
}

pub io_step : (es : List Entry) (n : ℕ) (d : Entry) (a b c : Io) → n < length es → a ≡ io_of (take n es)
    → b ≡ counts (get_or es n d) → c ≡ add_io a b → c ≡ io_of (take (n + 1) es)
io_step es n d a b c low x y z = z ∙ (ap (λ i. add_io i b) x ∙ (ap (add_io (io_of (take n es))) y
    ∙ (sym (io_more (take n es) (get_or es n d)) ∙ ap io_of (sym (take_more es n d low)))))
