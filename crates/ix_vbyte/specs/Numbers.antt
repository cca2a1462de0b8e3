-- The number by which a fault is told, and its name.
use Rattle.std.specs.Prelude.{ℕ, List, codes}
use Rattle.ix_vbyte.specs.declared.errors.VbError.{VbError}
use Rattle.ix_vbyte.specs.declared.errors.VbError.TheVariants.{Cut, LeadingZero, TooBig}

-- From 1, in the order of the list.
abbrev pub number_of : VbError → ℕ
number_of Cut = 1
number_of LeadingZero = 2
number_of TooBig = 3

-- The name of a fault, as it is printed.
abbrev pub name_of : VbError → List ℕ
name_of Cut = codes "Cut"
name_of LeadingZero = codes "LeadingZero"
name_of TooBig = codes "TooBig"
