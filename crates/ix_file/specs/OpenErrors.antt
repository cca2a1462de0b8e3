-- The numbers by which refusals of an index text are told, and their names, as they are printed.
use Rattle.std.specs.Prelude.{ℕ, List, ◌++◌, codes}
use Rattle.ix_vbyte.specs.Numbers.{name_of}
use Rattle.ix_file.specs.SectionNames.{section_name}
use Rattle.ix_file.specs.declared.open_error.OpenError.{OpenError}
use Rattle.ix_file.specs.declared.open_error.OpenError.TheVariants.{Short, Magic, Trailer, Lengths, Number, Text, Name, TermSize, TermOrder, StopOrder, StopIndexed, ListLength, Zero, DocRange, PositionRange, Doubled, Grams, Counts, TooLarge, Memory, Front}

-- an error's place in the list, from 1
abbrev pub open_error_number : OpenError → ℕ
open_error_number Short = 1
open_error_number Magic = 2
open_error_number Trailer = 3
open_error_number Lengths = 4
open_error_number (Number section fault) = 5
open_error_number Text = 6
open_error_number Name = 7
open_error_number TermSize = 8
open_error_number TermOrder = 9
open_error_number StopOrder = 10
open_error_number StopIndexed = 11
open_error_number ListLength = 12
open_error_number Zero = 13
open_error_number DocRange = 14
open_error_number PositionRange = 15
open_error_number Doubled = 16
open_error_number Grams = 17
open_error_number Counts = 18
open_error_number TooLarge = 19
open_error_number Memory = 20
open_error_number Front = 21

-- the name of an error, with the section and the fault of a number in brackets
abbrev pub open_error_name : OpenError → List ℕ
open_error_name Short = codes "Short"
open_error_name Magic = codes "Magic"
open_error_name Trailer = codes "Trailer"
open_error_name Lengths = codes "Lengths"
open_error_name (Number part fault) = codes "Number(" ++ (section_name part ++ (codes ", " ++ (name_of fault ++ codes ")")))
open_error_name Text = codes "Text"
open_error_name Name = codes "Name"
open_error_name TermSize = codes "TermSize"
open_error_name TermOrder = codes "TermOrder"
open_error_name StopOrder = codes "StopOrder"
open_error_name StopIndexed = codes "StopIndexed"
open_error_name ListLength = codes "ListLength"
open_error_name Zero = codes "Zero"
open_error_name DocRange = codes "DocRange"
open_error_name PositionRange = codes "PositionRange"
open_error_name Doubled = codes "Doubled"
open_error_name Grams = codes "Grams"
open_error_name Counts = codes "Counts"
open_error_name TooLarge = codes "TooLarge"
open_error_name Memory = codes "Memory"
open_error_name Front = codes "Front"
