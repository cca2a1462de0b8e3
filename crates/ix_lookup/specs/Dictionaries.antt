-- The dictionary of a source of which the bytes are known.
use Rattle.std.specs.Prelude.{ℕ, List, take, drop}
use Rattle.ix_lookup.specs.FoundTerms.{AreFoundIn}
use Rattle.ix_lookup.specs.Listed.{IsOfNone}
use Rattle.ix_lookup.specs.Versions.{version_in}
use Rattle.ix_lookup.specs.declared.dictionary.Dictionary.{Dictionary}
use Rattle.ix_lookup.specs.declared.found_term.FoundTerm.{FoundTerm}

-- the bytes of the section
abbrev pub section_of : Dictionary → List ℕ → List ℕ
section_of dictionary bytes = take dictionary.size (drop dictionary.start bytes)

-- They were found in the section, whichever listings it is the dictionary of.
abbrev pub AreFoundAt : Dictionary → List ℕ → (List ℕ → Type 0) → List FoundTerm → Type 0
AreFoundAt dictionary bytes wants found =
    AreFoundIn (version_in dictionary.version) (section_of dictionary bytes) dictionary.terms dictionary.postings wants
    found

-- The section is no dictionary of that many terms and bytes of lists.
abbrev pub IsNoDictionary : Dictionary → List ℕ → Type 0
IsNoDictionary dictionary bytes =
    IsOfNone (version_in dictionary.version) (section_of dictionary bytes) dictionary.terms dictionary.postings
