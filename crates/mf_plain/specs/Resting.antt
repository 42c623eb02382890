-- A file at rest, as contracts see it.
use Rattle.std.specs.Prelude.{◌≡◌, ℕ, ◌==◌, Bool, false, List, [], length, replicate, if◌then◌else◌}
use Rattle.mf_machine.specs.Rest as machine
use Rattle.mf_machine.specs.Words.{absent}
use Rattle.mf_places.specs.declared.losses.LoseLine.{LoseLine}
use Rattle.mf_places.specs.Facts.{BookFacts}
use Rattle.mf_places.specs.Names.{count_of}
use Rattle.mf_vault.specs.declared.answers.Rest.{Rest}
use Rattle.mf_vault.specs.declared.answers.Rest.TheVariants as rest
use Rattle.mf_vault.specs.Facts.{Facts, file}
use Rattle.mf_vault.specs.Licence.{IsFile}
use Rattle.mf_vault.specs.Resting.{opening_of}

-- what its book lays out, its bytes, the lose lines that its names may show, the published number, which generations
-- are
-- closed, the states of its names by number, and the ticks at its creation
pub record Resting : Type 0 where
  pub book : BookFacts
  pub bytes : List ℕ
  pub losses : List LoseLine
  pub number : ℕ
  pub closed : List Bool
  pub names : List Rest
  pub born : ℕ

-- the facts of a phase that begins from it, with these ticks and these lose lines
abbrev pub facts_of : Resting → ℕ → List LoseLine → Facts
facts_of r now losses = record {
  book = r.book;
  bytes = r.bytes;
  losses = losses;
  opening = opening_of r.number r.closed r.names;
  born = (if r.number == absent then now else r.born);
  now = now;
  table = [];
}

-- it keeps the rules with no actor, and there is a state of each generation and name
pub record AtRest (r : Resting) : Type 0 where
  pub is_file : IsFile (facts_of r r.born r.losses)
  pub closed : length r.closed ≡ length r.book.shape.stages
  pub names : length r.names ≡ count_of r.book
  pub rest : machine.Rest (file (facts_of r r.born r.losses)) (opening_of r.number r.closed r.names)
  pub unborn : r.number ≡ absent → r.born ≡ 0

-- the file of these bytes, not created
abbrev pub unborn : BookFacts → List ℕ → Resting
unborn book bytes = record {
  book = book;
  bytes = bytes;
  losses = [];
  number = absent;
  closed = replicate (length book.shape.stages) false;
  names = replicate (count_of book) rest.Unborn;
  born = 0;
}
