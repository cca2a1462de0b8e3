-- The errors of a line.
use Rattle.std.specs.Prelude.{◌≡◌, ◌≢◌, ◌⊎◌, ℕ}
use Rattle.clap.specs.Words.{kind_of}
use Rattle.clap.specs.declared.error.Error.{Error}
use Rattle.clap.specs.declared.error.kind.ErrorKind.TheVariants.{DisplayHelp, OutOfMemory}
use Rattle.ix_line.specs.declared.error.LineError.{LineError}
use Rattle.ix_line.specs.declared.error.LineError.TheVariants.{Both, Clap, Memory, NamesOrList}

abbrev pub number_of : LineError → ℕ
number_of (Clap e) = 1
number_of Memory = 2
number_of Both = 3
number_of NamesOrList = 4

-- the words ask for help
abbrev pub IsHelp : LineError → Type 0
IsHelp (Clap e) = kind_of e ≡ DisplayHelp
IsHelp Memory = ⊥
IsHelp Both = ⊥
IsHelp NamesOrList = ⊥

-- want of memory is an error of its own, and all else is `clap`'s
abbrev pub SortsError : Error → LineError → Type 0
SortsError e r = ((kind_of e ≡ OutOfMemory) × (r ≡ Memory))
    ⊎ ((kind_of e ≢ OutOfMemory) × (r ≡ Clap e))
