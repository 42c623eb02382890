-- What holds of a call that hasn't failed.
use Rattle.std.proofs.Common.{◌≡◌, Bool, false, Result, Ok, Err, is_err, OnOk}

pub not_err : {T E P : Type 0} (r : Result T E) (full : Bool) → full ≡ is_err r → full ≡ false
    → OnOk r P → P
not_err (Ok x) full is fine holds = holds
not_err (Err e) full is fine holds = absurd (cc)
