-- What a reading of some bytes found, and that it stands there.
use Rattle.std.specs.Prelude.{ℕ, List, Result, Ok, Err}
use Rattle.ix_vbyte.specs.declared.errors.VbError.{VbError}
use Rattle.ix_vbyte.specs.declared.errors.VbError.TheVariants.{Cut, LeadingZero, TooBig}
use Rattle.ix_vbyte.specs.Reading.{StartsWithCode, StartsWithZero, IsTooBig, IsCut}

-- The bytes have the fault.
abbrev pub HasFault : List ℕ → VbError → Type 0
HasFault bytes Cut = IsCut bytes
HasFault bytes LeadingZero = StartsWithZero bytes
HasFault bytes TooBig = IsTooBig bytes

-- A number with the count of its bytes is their code's; a fault is theirs.
abbrev pub Finds : List ℕ → Result (ℕ × ℕ) VbError → Type 0
Finds bytes (Ok found) = StartsWithCode bytes found.0 found.1
Finds bytes (Err fault) = HasFault bytes fault
