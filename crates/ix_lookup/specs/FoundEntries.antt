-- What the terms that are found say of a collection.
use Rattle.std.specs.Prelude.{◌≡◌, ℕ, ◌+◌, List, [], ◌∷◌, ◌⊎◌, length, slice_range, string_bytes}
use Rattle.ix_text.specs.Collections.{Collection, IsLawful}
use Rattle.ix_text.specs.Parts.{DictionaryEntry, Parts, ArePartsOf}
use Rattle.ix_vbyte.specs.Postings.{list_bytes}
use Rattle.ix_index_text.specs.Sections.{Version, postings_section, dictionary_section}
use Rattle.ix_lookup.specs.FoundTerms.{AreFoundIn}
use Rattle.ix_lookup.specs.declared.found_term.FoundTerm.{FoundTerm}

-- What was found is the entry's term, the number of its documents, and where POSTINGS has its list.
pub record IsFoundEntry (postings : List ℕ) (entry : DictionaryEntry) (found : FoundTerm) : Type 0 where
  pub term : string_bytes found.term ≡ entry.term
  pub documents : found.documents ≡ length entry.postings
  pub list : slice_range postings found.start (found.start + found.size) ≡ list_bytes entry.postings

-- Of the entries exactly those whose term is looked for were found, in their order.
abbrev pub AreFoundEntries : (List ℕ → Type 0) → List ℕ → List DictionaryEntry → List FoundTerm → Type 0
AreFoundEntries wants postings [] found = found ≡ []
AreFoundEntries wants postings (entry ∷ entries) found =
    (wants entry.term × ((one : FoundTerm) × (others : List FoundTerm) × (found ≡ one ∷ others) × IsFoundEntry postings entry one × AreFoundEntries wants postings entries others))
    ⊎ (¬ (wants entry.term) × AreFoundEntries wants postings entries found)

-- Terms that were found in the dictionary of a lawful collection are its entries whose term is looked for.
abbrev pub FindsEntries : (List ℕ → Type 0) → Type 0
FindsEntries wants =
    (version : Version) (collection : Collection) (parts : Parts) (found : List FoundTerm) → IsLawful collection → ArePartsOf collection parts
    → AreFoundIn version (dictionary_section version parts.entries) (length parts.entries) (length (postings_section parts.entries)) wants found
    → AreFoundEntries wants (postings_section parts.entries) parts.entries found
