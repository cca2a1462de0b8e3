-- Why no code or no text could be read from the front of some bytes.
use Rattle.std.specs.Prelude.{ℕ, ◌<◌, List, length, take, ⊤}
use Rattle.ix_run_text.specs.declared.run_text_error.RunTextError.{RunTextError}
use Rattle.ix_run_text.specs.declared.run_text_error.RunTextError.TheVariants.{Number, ListLength, Memory, Read}
use Rattle.ix_vbyte.specs.Decoded.{HasFault}
use Rattle.ix_vbyte.specs.Reading.{IsCut}
use Rattle.ix_vbyte.specs.declared.errors.VbError.TheVariants.{Cut}

-- The bytes have the fault, the code goes on past the limit of its bytes, or a read was refused.
abbrev pub IsCodeFault : ℕ → List ℕ → RunTextError → Type 0
IsCodeFault limit bytes (Number fault) = HasFault bytes fault
IsCodeFault limit bytes ListLength = IsCut (take limit bytes)
IsCodeFault limit bytes Read = ⊤
IsCodeFault limit bytes _ = ⊥

-- There are fewer bytes than the text has, or a read or a growth was refused.
abbrev pub IsTextFault : ℕ → List ℕ → RunTextError → Type 0
IsTextFault count bytes (Number Cut) = length bytes < count
IsTextFault count bytes Read = ⊤
IsTextFault count bytes Memory = ⊤
IsTextFault count bytes _ = ⊥
