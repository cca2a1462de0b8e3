-- What a call says of its Ok, once it is known to be one.
use Rattle.std.proofs.Common.{◌≡◌, false, OnOk, Result, Ok, Err}
use Rattle.std.specs.Prelude.{is_err}

pub if_granted : {T E P : Type 0} (result : Result T E) → is_err result ≡ false → OnOk result P → P
if_granted (Ok x) well holds = holds
if_granted (Err e) well holds = absurd (cc)
