-- What a gathering answers.
use Rattle.std.specs.Prelude.{ℕ, ◌≡◌, ⊤, List, length, Option, Some, None, Result, Ok, Err, MatchOption, IfSome}
use Rattle.std.specs.Prelude.{All as AllOf}
use Rattle.std.specs.declared.vec.Vec.{Vec}
use Rattle.std.specs.declared.alloc.Global.{Global}
use Rattle.std.specs.declared.alloc.AllocError.{AllocError}
use Rattle.mf_decode.specs.declared.pieces.Asked.{Asked}
use Rattle.mf_decode.specs.declared.pieces.Place.{Place}
use Rattle.mf_decode.specs.declared.gathering.Gathered.{Gathered}
use Rattle.mf_decode.specs.declared.gathering.Gathered.TheVariants.{All, Short, Memory}
use Rattle.mf_decode.specs.Stripes.{Stripe}
use Rattle.mf_decode.specs.Answers.{IsServed, IsShort, IsBegun, IsNext}

-- The stripe has chunks of `size` bytes, these points and `count` pieces.
pub record IsStripe (size count : ℕ) (points : List ℕ) (stripe : Stripe) : Type 0 where
  pub size_is : stripe.size ≡ size
  pub count_is : stripe.count ≡ count
  pub points_are : stripe.points ≡ points

-- All chunks of a stripe: they are the data list with which the answers agree, where there is one.
pub record IsWhole (stripe : Stripe) (chunks : List (List ℕ)) : Type 0 where
  pub len : length chunks ≡ stripe.count
  pub sizes : AllOf (λ chunk. length chunk ≡ stripe.size) chunks
  pub data_list : IfSome stripe.pieces (λ list. chunks ≡ list)

-- What the answer says of the data.
abbrev pub IsAnswer : Stripe → Gathered → Type 0
IsAnswer stripe (All chunks) = IsWhole stripe chunks.items
IsAnswer stripe Short = ⊤
IsAnswer stripe Memory = ⊤

-- What was asked for, by the answer: All and Short end a whole asking. Memory cuts one, and where an error of the
-- pieces or the parities did so, its place is the next one.
abbrev pub HasAsked : ℕ → ℕ → List Asked → Option Place → Gathered → Type 0
HasAsked count points asked failure (All chunks) = IsServed count points asked × (failure ≡ None)
HasAsked count points asked failure Short = IsShort count points asked × (failure ≡ None)
HasAsked count points asked failure Memory =
    MatchOption failure (IsBegun count points asked) (IsNext count points asked)

-- The answer as an enum: an error is want of memory, and nothing is a short asking.
abbrev pub answer_of : Result (Option (Vec (List ℕ) Global)) AllocError → Gathered
answer_of (Ok (Some chunks)) = All chunks
answer_of (Ok None) = Short
answer_of (Err e) = Memory
