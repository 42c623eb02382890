-- A matrix whose entries stand at the front of its room.
use Rattle.std.proofs.Common.{◌≡◌, ℕ, ◌+◌, ◌*◌, ◌<◌, ◌≤◌, List, take, set, replicate, length, get_or, refl, sym, ap}
use Rattle.std.proofs.Common.{subst, ◌∙◌, arith, inl, inr}
use Rattle.std.proofs.Math.Nat.{mul_comm}
use Rattle.std.proofs.Math.Seq.{take-set-lt}
use Rattle.std.proofs.lemmas.Bool.{cases_eq, cases_lt}
use Rattle.std.proofs.lemmas.Nat.{mul-add-lt, mul-le}
use Rattle.std.proofs.lemmas.List.{take-replicate, get_or-set_same, get_or-set_other, get_or-replicate, get_or_past}
use Rattle.std.proofs.lemmas.List.{length-set, length-replicate}
use Rattle.mf_matrix.specs.Tables.{IsTable}
use Rattle.mf_matrix.specs.Matrix.{Grid, IsGrid, entry}

abbrev pub grid_of : ℕ → ℕ → List ℕ → Grid
grid_of rows columns room = record { rows = rows; columns = columns; entries = take (rows * columns) room }

-- the entries of a matrix are bytes
pub bytes_of : (m n : Grid) → m ≡ n → IsGrid m → IsTable (entry n)
bytes_of m n e grid i j = (let g : IsGrid n = subst IsGrid e grid in g).bytes (i * n.columns + j)

-- the index of an entry
pub index_below : (rows columns row column : ℕ) → row < rows → column < columns
    → row * columns + column < rows * columns
index_below rows columns row column low inside =
    omega (arith, mul-add-lt row columns column rows low inside, mul_comm columns rows)

pub put_grid : (rows columns : ℕ) (room : List ℕ) (g : Grid) (row column value : ℕ) → grid_of rows columns room ≡ g
    → row < rows → column < columns
    → grid_of rows columns (set room (row * columns + column) value)
    ≡ record { rows = g.rows; columns = g.columns; entries = set g.entries (row * g.columns + column) value }
put_grid rows columns room g row column value is low inside =
    ap (λ (xs : List ℕ). (let m : Grid = record { rows = rows; columns = columns; entries = xs } in m))
    (take-set-lt (rows * columns) room (row * columns + column) value (index_below rows columns row column low inside))
    ∙ ap (λ (m : Grid). (let n : Grid =
    record { rows = m.rows; columns = m.columns; entries = set m.entries (row * m.columns + column) value } in n)) is

pub put_kept : (rows columns : ℕ) (room : List ℕ) (row column value : ℕ) → IsGrid (grid_of rows columns room)
    → row < rows → column < columns → value < 256
    → IsGrid (grid_of rows columns (set room (row * columns + column) value))
put_kept rows columns room row column value grid low inside byte =
    let n = rows * columns in
    let p = row * columns + column in
    let made = take-set-lt n room p value (index_below rows columns row column low inside) in
    let within : p < length (take n room) = omega (arith, grid.filled, index_below rows columns row column low inside)
    in
    record {
      few_rows = grid.few_rows;
      few_columns = grid.few_columns;
      filled = ap length made ∙ length-set (take n room) p value ∙ grid.filled;
      bytes = λ k. elim (cases_eq k p) [
        | inl here ↦
            subst (λ v. v < 256)
            (sym (ap (λ (xs : List ℕ). get_or xs k 0) made ∙ ap (λ (m : ℕ). get_or (set (take n room) p value) m 0)
            here ∙ get_or-set_same (take n room) p value 0 within)) byte
        | inr other ↦
            subst (λ v. v < 256) (sym
            (ap (λ (xs : List ℕ). get_or xs k 0) made ∙ get_or-set_other (take n room) p k value 0 other))
            (grid.bytes k)
      ];
    }

-- the matrix of zeros
pub zero_entries : (rows columns : ℕ) → rows ≤ 8 → columns ≤ 8 → take {A = ℕ} (rows * columns) (replicate 64 0)
    ≡ replicate (rows * columns) 0
zero_entries rows columns few narrow = take-replicate {X = ℕ} (rows * columns) 64 0 (mul-le rows columns 8 8 few narrow)

pub zero_kept : (rows columns : ℕ) → rows ≤ 8 → columns ≤ 8
    → IsGrid (record { rows = rows; columns = columns; entries = replicate {A = ℕ} (rows * columns) 0 })
zero_kept rows columns few narrow = record {
  few_rows = few;
  few_columns = narrow;
  filled = length-replicate (rows * columns) 0;
  bytes = λ k. elim (cases_lt k (rows * columns)) [
    | inl within ↦ subst (λ v. v < 256) (sym (get_or-replicate (rows * columns) k 0 0 within)) (omega arith)
    | inr past ↦ subst (λ v. v < 256)
        (sym (get_or_past (replicate {A = ℕ} (rows * columns) 0) k 0
        (omega (arith, length-replicate {A = ℕ} (rows * columns) 0)))) (omega arith)
  ];
}

-- a matrix of which i rows, and j entries of the next row, are those of a table
pub record FilledTo (rows columns : ℕ) (f : ℕ → ℕ → ℕ) (i j : ℕ) (g : Grid) : Type 0 where
  pub rows_are : g.rows ≡ rows
  pub columns_are : g.columns ≡ columns
  pub filled : length g.entries ≡ rows * columns
  pub before : (a b : ℕ) → a < i → b < columns → get_or g.entries (a * columns + b) 0 ≡ f a b
  pub row : (b : ℕ) → b < j → get_or g.entries (i * columns + b) 0 ≡ f i b

module _ (rows columns : ℕ) (f : ℕ → ℕ → ℕ) where
  pub filled_none : (g : Grid) → g ≡ record { rows = rows; columns = columns; entries = replicate (rows * columns) 0 }
      → FilledTo rows columns f 0 0 g
  filled_none g is = subst (FilledTo rows columns f 0 0) (sym is)
      (let made : FilledTo rows columns f 0 0
      (record { rows = rows; columns = columns; entries = replicate (rows * columns) 0 }) =
      record {
        rows_are = refl;
        columns_are = refl;
        filled = length-replicate {A = ℕ} (rows * columns) 0;
        before = λ a b low _. absurd (omega arith);
        row = λ b low. absurd (omega arith);
      } in made)

  pub filled_more : (i j value : ℕ) (g h : Grid) → FilledTo rows columns f i j g → i < rows → j < columns
      → value ≡ f i j
      → h ≡ record { rows = g.rows; columns = g.columns; entries = set g.entries (i * g.columns + j) value }
      → FilledTo rows columns f i (j + 1) h
  filled_more i j value g h so_far low inside new is =
      let place : i * g.columns + j ≡ i * columns + j = ap (λ (n : ℕ). i * n + j) so_far.columns_are in
      let entries : h.entries ≡ set g.entries (i * columns + j) value = ap (λ (m : Grid). m.entries) is
      ∙ ap (λ (n : ℕ). set g.entries n value) place in
      let within : i * columns + j < length g.entries =
      omega (arith, so_far.filled, index_below rows columns i j low inside) in
      let other : (k : ℕ) → k < i * columns + j → get_or h.entries k 0 ≡ get_or g.entries k 0 =
      λ k below. ap (λ (xs : List ℕ). get_or xs k 0) entries ∙ get_or-set_other g.entries (i * columns + j) k value 0
      (omega arith) in
      record {
        rows_are = ap (λ (m : Grid). m.rows) is ∙ so_far.rows_are;
        columns_are = ap (λ (m : Grid). m.columns) is ∙ so_far.columns_are;
        filled = ap length entries ∙ length-set g.entries (i * columns + j) value ∙ so_far.filled;
        before = λ a b la lb. other (a * columns + b) (omega (arith, index_below i columns a b la lb))
            ∙ so_far.before a b la lb;
        row = λ b lb. elim (cases_lt b j) [
          | inl below ↦ other (i * columns + b) (omega arith) ∙ so_far.row b below
          | inr last ↦
              let here : j ≡ b = omega arith in
              ap (λ (m : ℕ). get_or h.entries (i * columns + m) 0) (sym here)
              ∙ ap (λ (xs : List ℕ). get_or xs (i * columns + j) 0) entries
              ∙ get_or-set_same g.entries (i * columns + j) value 0 within ∙ new ∙ ap (f i) here
        ];
      }

  pub filled_row : (i j : ℕ) (g : Grid) → columns ≤ j → FilledTo rows columns f i j g
      → FilledTo rows columns f (i + 1) 0 g
  filled_row i j g whole so_far = record {
    rows_are = so_far.rows_are;
    columns_are = so_far.columns_are;
    filled = so_far.filled;
    before = λ a b la lb. elim (cases_lt a i) [
      | inl below ↦ so_far.before a b below lb
      | inr last ↦
          let here : i ≡ a = omega arith in
          ap (λ (m : ℕ). get_or g.entries (m * columns + b) 0) (sym here) ∙ so_far.row b (omega arith)
          ∙ ap (λ (m : ℕ). f m b) here
    ];
    row = λ b low. absurd (omega arith);
  }

  pub filled_all : (i j : ℕ) (g : Grid) → rows ≤ i → FilledTo rows columns f i j g → (a b : ℕ) → a < rows → b < columns
      → entry g a b ≡ f a b
  filled_all i j g all so_far a b la lb = ap (λ (n : ℕ). get_or g.entries (a * n + b) 0) so_far.columns_are
      ∙ so_far.before a b (omega arith) lb
