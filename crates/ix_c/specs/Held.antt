-- What a handle owns.
use Rattle.std.specs.Prelude.{Option, None, Some}
use base.Fml.{Fml, ftrue}
use Rattle.ix_file.specs.Opened.{Opened}

-- what is owned where there is an index: nothing where there is none
abbrev pub owned_at : (Opened → Fml) → Option Opened → Fml
owned_at owned None = ftrue
owned_at owned (Some opened) = owned opened
