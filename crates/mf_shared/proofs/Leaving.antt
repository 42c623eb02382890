-- What is left of a file among many actors is at rest, and accounted for.
use Rattle.std.proofs.Common.{◌≡◌, ℕ, ◌==◌, Bool, List, sym, refl, ap, ◌∙◌, subst, if◌then◌else◌}
use Rattle.mf_vault.specs.declared.answers.Rest.{Rest}
use Rattle.mf_vault.specs.Facts.{file}
use Rattle.mf_gate.specs.declared.known.About.{About}
use Rattle.mf_gate.specs.Passes.{about, told, view}
use Rattle.mf_gate.specs.Resting.{Leaves}
use Rattle.mf_plain.specs.declared.known.Told.{Told}
use Rattle.mf_plain.specs.Resting.{Resting, AtRest}
use Rattle.mf_shared.specs.declared.seat.Seat.{Seat}
use Rattle.mf_shared.specs.declared.shared.Shared.{Shared}
use Rattle.mf_shared.specs.Left.{LeftBy}
use Rattle.mf_shared.specs.Seats.{IsOf, view_of}
use Rattle.mf_shared.specs.Shared.{facts_in}
use Rattle.mf_shared.proofs.Erased.{kept_erased}

module _ (shared : Shared) (seat : Seat) (of : IsOf seat shared) (number : ℕ) (shut : List Bool) (names : List Rest)
    (born : ℕ) (note : Told) (left : Leaves (told seat.pass) (view seat.pass) number shut names)
    (noted : note ≡ record { bytes = (about shared.gate).bytes; losses = (about shared.gate).losses })
    (birth : born ≡ (if number == 0 then 0 else shared.born)) where
  abbrev k : About
  k = about shared.gate

  left_here : Leaves k (view seat.pass) number shut names
  left_here = subst (λ (j : About). Leaves j (view seat.pass) number shut names) of.1 left

  -- the file at rest, in the words of the code and in those of the table
  abbrev stored : Resting
  stored = record {
    book = shared.book;
    bytes = note.bytes;
    losses = note.losses;
    number = number;
    closed = shut;
    names = names;
    born = born;
  }

  abbrev known : Resting
  known = record {
    book = k.book;
    bytes = k.bytes;
    losses = k.losses;
    number = number;
    closed = shut;
    names = names;
    born = born;
  }

  same : stored ≡ known
  same = λ i. record {
    book = shared.book_is i;
    bytes = (noted i).bytes;
    losses = (noted i).losses;
    number = number;
    closed = shut;
    names = names;
    born = born;
  }

  known_rests : AtRest known
  known_rests = record {
    is_file = record { layout = shared.file.layout; long = shared.file.long; bytes = shared.file.bytes };
    closed = left_here.at_rest.closed;
    names = left_here.at_rest.names;
    rest = left_here.at_rest.rest;
    unborn = λ z. birth ∙ ap (λ n. if n == 0 then 0 else shared.born) z;
  }

  pub stored_rests : AtRest stored
  stored_rests = subst AtRest (sym same) known_rests

  known_left : LeftBy (facts_in shared) (view_of seat) known
  known_left = let a = left_here in let b = a.brings in record {
    same = record { book = refl; bytes = refl; losses = refl; born = birth };
    state = a.state;
    rest = record { number = a.number_is; closed = a.closed_are; names = a.names_are };
    brings = record {
      number = b.number;
      greatest = b.greatest;
      closed = b.closed;
      unborn = b.unborn;
      dropped = b.dropped;
      lost = b.lost;
      line = b.line;
      here = b.here;
    };
    kept = kept_erased (file (facts_in shared)) (facts_in shared).opening a.state (view seat.pass) seat.unbound a.kept;
    at_rest = known_rests;
  }

  pub stored_left : LeftBy (facts_in shared) (view_of seat) stored
  stored_left = subst (LeftBy (facts_in shared) (view_of seat)) (sym same) known_left
