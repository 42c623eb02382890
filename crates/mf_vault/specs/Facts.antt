-- A file's facts, from its book, its bytes and its lose lines; and what the file machine sees of them.
use Rattle.std.specs.Prelude.{ℕ, ◌+◌, ◌-◌, List, [], ◌∷◌, length, slice_index, Option, Some, None}
use Rattle.mf_code.specs.Chunks.{chunk, parity}
use Rattle.mf_machine.specs.File.{File, Line, Opening}
use Rattle.mf_places.specs.declared.losses.LoseLine.{LoseLine}
use Rattle.mf_places.specs.declared.Name.{Name}
use Rattle.mf_places.specs.declared.Name.TheVariants as name
use Rattle.mf_places.specs.Facts.{BookFacts}
use Rattle.mf_places.specs.Names.{count_of, name_at}
use Rattle.mf_places.specs.Generations.{holds}
use Rattle.mf_places.specs.Placement.{server_of}
use Rattle.mf_places.specs.Numbers.{number_of}

-- *Cell*: what a name stands for. Data and copies are chunks of the file, and a parity is the parity by its point of
-- its
-- stripe
abbrev pub cell : BookFacts → List ℕ → Name → List ℕ
cell l bytes (name.Data i) = chunk l.chunk bytes i
cell l bytes (name.Copy c i) = chunk l.chunk bytes i
cell l bytes (name.Parity width j p) = parity l.chunk bytes (slice_index l.points p) width j

-- what no call of an access changes: what the book lays out, the file's bytes, the lose lines up to the end of the
-- phase, the file at rest from which the phase began, the ticks at the file's creation (or, where it rested uncreated,
-- of this phase), the ticks of this phase, and the numbers that tell the table in which several actors find the file
-- from every other table (none where one actor has the file alone)
pub record Facts : Type 0 where
  pub book : BookFacts
  pub bytes : List ℕ
  pub losses : List LoseLine
  pub opening : Opening
  pub born : ℕ
  pub now : ℕ
  pub table : List ℕ

-- the file's age in this phase: 0 where it rested uncreated
abbrev pub age : Facts → ℕ
age f = f.now - f.born

-- the cell of a name, its number and its server
abbrev pub cell_of : Facts → Name → List ℕ
cell_of f x = cell f.book f.bytes x

abbrev pub number : Facts → Name → ℕ
number f x = number_of f.book x

abbrev pub server : Facts → Name → ℕ
server f x = server_of f.book x

abbrev pub stages : Facts → ℕ
stages f = length f.book.shape.stages

-- the lose lines in the words of the file machine
abbrev pub lines : List LoseLine → List Line
lines [] = []
lines (x ∷ xs) = (record { line = x.line; server = x.server }) ∷ lines xs

-- these facts in the words of the file machine, where names are numbers
abbrev pub file : Facts → File
file f = record {
  stages = stages f;
  names = count_of f.book;
  holds = λ g n. holds f.book g (name_at f.book n);
  server = λ n. server_of f.book (name_at f.book n);
  cell = λ n. cell f.book f.bytes (name_at f.book n);
  losses = lines f.losses;
}

-- a generation that may be absent, as a number: 0, or 1 more than the generation
abbrev pub place : Option ℕ → ℕ
place None = 0
place (Some g) = g + 1
