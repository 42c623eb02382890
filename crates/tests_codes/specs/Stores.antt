-- What a store of the trials answers from.
use Rattle.std.specs.Prelude.{ℕ, List, None, IfSome}
use Rattle.mf_decode.specs.Stripes.{Stripe, IsDataList}

-- A stripe of which no data list is told: the trials compare the chunks themselves.
abbrev pub stripe_of : ℕ → List ℕ → ℕ → Stripe
stripe_of size points count = record { size = size; points = points; count = count; pieces = None }

pub shape_of : (size : ℕ) (points : List ℕ) (count : ℕ)
    → IfSome (stripe_of size points count).pieces
    (IsDataList (stripe_of size points count).count (stripe_of size points count).size)
shape_of size points count = tt
