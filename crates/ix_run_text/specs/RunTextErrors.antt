-- The numbers of the errors of reading a run text, their names, and which of them say nothing of its bytes.
use Rattle.std.specs.Prelude.{ℕ, ⊤, List, ◌++◌, codes}
use Rattle.ix_vbyte.specs.Numbers.{name_of}
use Rattle.ix_run_text.specs.declared.run_text_error.RunTextError.{RunTextError}
use Rattle.ix_run_text.specs.declared.run_text_error.RunTextError.TheVariants.{Magic, Number, Text, Name, TermSize, TermOrder, ListLength, DocRange, Zero, PositionRange, StopIndexed, StopOrder, Extra, TooLarge, Read, Memory, Doubled, Failed}

-- from 1, in the order of the list
abbrev pub run_text_error_number : RunTextError → ℕ
run_text_error_number Magic = 1
run_text_error_number (Number fault) = 2
run_text_error_number Text = 3
run_text_error_number Name = 4
run_text_error_number TermSize = 5
run_text_error_number TermOrder = 6
run_text_error_number ListLength = 7
run_text_error_number DocRange = 8
run_text_error_number Zero = 9
run_text_error_number PositionRange = 10
run_text_error_number StopIndexed = 11
run_text_error_number StopOrder = 12
run_text_error_number Extra = 13
run_text_error_number TooLarge = 14
run_text_error_number Read = 15
run_text_error_number Memory = 16
run_text_error_number Doubled = 17
run_text_error_number Failed = 18

-- the name of an error, with the fault of a number in brackets
abbrev pub run_text_error_name : RunTextError → List ℕ
run_text_error_name Magic = codes "Magic"
run_text_error_name (Number fault) = codes "Number(" ++ (name_of fault ++ codes ")")
run_text_error_name Text = codes "Text"
run_text_error_name Name = codes "Name"
run_text_error_name TermSize = codes "TermSize"
run_text_error_name TermOrder = codes "TermOrder"
run_text_error_name ListLength = codes "ListLength"
run_text_error_name DocRange = codes "DocRange"
run_text_error_name Zero = codes "Zero"
run_text_error_name PositionRange = codes "PositionRange"
run_text_error_name StopIndexed = codes "StopIndexed"
run_text_error_name StopOrder = codes "StopOrder"
run_text_error_name Extra = codes "Extra"
run_text_error_name TooLarge = codes "TooLarge"
run_text_error_name Read = codes "Read"
run_text_error_name Memory = codes "Memory"
run_text_error_name Doubled = codes "Doubled"
run_text_error_name Failed = codes "Failed"

-- A read or a growth was refused: the bytes may be right.
abbrev pub IsRefusal : RunTextError → Type 0
IsRefusal Read = ⊤
IsRefusal Memory = ⊤
IsRefusal _ = ⊥
