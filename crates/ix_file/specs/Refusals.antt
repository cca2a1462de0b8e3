-- What a refusal says of the bytes that were refused.
use Rattle.std.specs.Prelude.{◌≡◌, ℕ, List}
use Rattle.ix_file.specs.declared.open_error.OpenError.{OpenError}
use Rattle.ix_file.specs.declared.open_error.OpenError.TheVariants.{Number}
use Rattle.ix_file.specs.declared.open_error.Section.{Section}
use Rattle.ix_vbyte.specs.Decoded.{HasFault}
use Rattle.ix_vbyte.specs.declared.errors.VbError.{VbError}

-- the bytes of the section do not begin with a code, for this reason
pub record IsNumberFault (section : Section) (bytes : List ℕ) (error : OpenError) : Type 0 where
  pub fault : VbError
  pub named : error ≡ Number section fault
  pub has : HasFault bytes fault
