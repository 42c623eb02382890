-- Results.
use Rattle.std.specs.Prelude.{Result, Ok, Err, IfOk}

-- what is known of the value gives what follows from it
pub if_ok-map : {T E : Type 0} (r : Result T E) (P Q : T → Type 0) → ((x : T) → P x → Q x) → IfOk r P → IfOk r Q
if_ok-map (Ok x) P Q f h = f x h
if_ok-map (Err e) P Q f h = h
