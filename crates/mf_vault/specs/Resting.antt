-- A file at rest: its number, its closed generations, and its names, as lists.
use Rattle.std.specs.Prelude.{ℕ, Bool, false, List, [], ◌∷◌, slice_index_or}
use Rattle.mf_machine.specs.File.{Home, Opening}
use Rattle.mf_machine.specs.File.Home.{empty, keeps}
use Rattle.mf_machine.specs.Words as word
use Rattle.mf_vault.specs.declared.answers.Rest.{Rest}
use Rattle.mf_vault.specs.declared.answers.Rest.TheVariants as rest

-- the word of a name at rest, and its slot
abbrev pub word_of : Rest → ℕ
word_of rest.Unborn = word.unborn
word_of (rest.Here c) = word.here
word_of (rest.Lost l) = word.lost l
word_of rest.Dropped = word.dropped

abbrev pub home_of : Rest → Home
home_of rest.Unborn = empty
home_of (rest.Here c) = keeps c
home_of (rest.Lost l) = empty
home_of rest.Dropped = empty

abbrev pub words_of : List Rest → List ℕ
words_of [] = []
words_of (r ∷ rs) = word_of r ∷ words_of rs

abbrev pub homes_of : List Rest → List Home
homes_of [] = []
homes_of (r ∷ rs) = home_of r ∷ homes_of rs

-- the opening of a phase that begins from this number, these closed generations and these names
abbrev pub opening_of : ℕ → List Bool → List Rest → Opening
opening_of number closed names = record {
  number = number;
  closed = λ g. slice_index_or closed g false;
  name = λ n. word_of (slice_index_or names n rest.Unborn);
  home = λ n. home_of (slice_index_or names n rest.Unborn);
}
