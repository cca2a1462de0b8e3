-- Lines that read the standard input twice.
use Rattle.std.specs.Prelude.{◌≡◌, ◌<◌, Bool, Option, None, Some, bytes_eq, codes, count_by}
use Rattle.std.specs.Borrow.{Bor}
use Rattle.clap.specs.Walk.{Text}
use Rattle.ix_line.specs.declared.line.Line.{Line}
use Rattle.ix_line.specs.declared.line.Line.TheVariants.{Add, Ask, Build, Check, Live, Merge, Run}

-- the path is that of the standard input
abbrev pub is_input : Bor Text → Bool
is_input path = bytes_eq path.now (codes "-")

-- a stop file was named, and both it and the other path are the standard input
abbrev pub AreBothInput : Option (Bor Text) → Text → Type 0
AreBothInput None other = ⊥
AreBothInput (Some path) other = (path.now ≡ codes "-") × (other ≡ codes "-")

-- the line reads the standard input twice
abbrev pub ReadsInputTwice : Line → Type 0
ReadsInputTwice (Ask stop_file plan collection query) = AreBothInput stop_file collection.now
ReadsInputTwice (Build stop_file plan collection index) = AreBothInput stop_file collection.now
ReadsInputTwice (Add stop_file plan archive collection) = AreBothInput stop_file collection.now
ReadsInputTwice (Live stop_file plan searchers script) = AreBothInput stop_file script.now
ReadsInputTwice (Run stop_file first collection run) = AreBothInput stop_file collection.now
ReadsInputTwice (Merge index inputs) = 1 < count_by is_input inputs.items
ReadsInputTwice (Check paths) = 1 < count_by is_input paths.items
ReadsInputTwice _ = ⊥
