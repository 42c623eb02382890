-- The file of the tests on a gate: the bytes ab, created, with the chunks of its later generations too.
use Rattle.std.specs.Prelude.{false, List, [], ◌∷◌}
use Rattle.mf_places.specs.declared.losses.LoseLine.{LoseLine}
use Rattle.mf_places.specs.Facts.{BookFacts}
use Rattle.mf_vault.specs.declared.answers.Rest.{Rest}
use Rattle.mf_vault.specs.declared.answers.Rest.TheVariants.{Here}
use Rattle.mf_gate.specs.declared.known.About.{About}

abbrev pub book_ab : BookFacts
book_ab = record {
  shape = record {
    stages = (record { width = 1; parities = 1; copies = 1 }) ∷ (record { width = 1; parities = 1; copies = 0 })
        ∷ (record { width = 2; parities = 1; copies = 0 }) ∷ [];
    servers = 3;
  };
  points = 1 ∷ [];
  chunk = 1;
  file = 0;
  bytes = 2;
}

-- two chunks of data, a copy of each, the parity of each alone, and that of both
abbrev pub names_ab : List Rest
names_ab = Here (97 ∷ []) ∷ Here (98 ∷ []) ∷ Here (97 ∷ []) ∷ Here (98 ∷ []) ∷ Here (97 ∷ []) ∷ Here (98 ∷ [])
    ∷ Here (3 ∷ []) ∷ []

abbrev pub file_ab : List LoseLine → About
file_ab losses = record {
  book = book_ab;
  bytes = 97 ∷ 98 ∷ [];
  losses = losses;
  number = 1;
  closed = false ∷ false ∷ false ∷ [];
  names = names_ab;
}
