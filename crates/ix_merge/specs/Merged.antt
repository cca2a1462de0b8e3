-- What a writer was given of what sources gave: the same postings, each document under its number in the whole.
use Rattle.std.specs.Prelude.{◌≡◌, ℕ, ◌+◌, ◌++◌, ◌↔◌, List, [], map, slice_get, Some, All, Contains, Option}
use Rattle.ix_text.specs.ByteOrder.{IsAscending}
use Rattle.ix_text.specs.Parts.{DictionaryEntry, AreTermPostings, HasPosition, terms_of}
use Rattle.ix_output.specs.Sinks.{AppendsFront}
use Rattle.ix_file.specs.IndexText.{magic}
use Rattle.ix_file.specs.Sections.{FrontCoded, postings_section}
use Rattle.ix_run.specs.Heads.{Heading}
use Rattle.ix_run.specs.Sources.{AreWhole, Yielding}

-- what a source gave, under its heading
pub record Share : Type 0 where
  pub heading : Heading
  pub entries : List DictionaryEntry

-- the entries have the position, in the document of that number, under the term
pub record HasUnder (entries : List DictionaryEntry) (term : List ℕ) (number position : ℕ) : Type 0 where
  pub entry : DictionaryEntry
  pub among : Contains entries entry
  pub of_term : entry.term ≡ term
  pub has : HasPosition entry.postings number position

-- some share has it, whose documents count from its first number
pub record SomeShareHas (shares : List Share) (term : List ℕ) (number position : ℕ) : Type 0 where
  pub share : Share
  pub among : Contains shares share
  pub place : ℕ
  pub shifted : number ≡ share.heading.first + place
  pub has : HasUnder share.entries term place position

-- The entries have what the shares have and nothing else, terms and documents ascending.
pub record IsMergeOf (shares : List Share) (entries : List DictionaryEntry) : Type 0 where
  pub ascending : IsAscending (terms_of entries)
  pub ordered : All (λ entry. AreTermPostings entry.postings) entries
  pub merged : (term : List ℕ) (number position : ℕ) → HasUnder entries term number position ↔ SomeShareHas shares term number position

-- Shares of sources with these headings, one each: each a lawful dictionary under its heading.
pub record AreShares (headings : List Heading) (shares : List Share) : Type 0 where
  pub headed : map (λ share. share.heading) shares ≡ headings
  pub whole : All (λ share. AreWhole share.heading share.entries) shares

-- The entries that the writer was given are the merge of all that the sources yield, as they were before anything was read.
pub record HasMergedAll {S : Type 0} (yields : Yielding S) (heading : S → Heading) (begun : List S) (told : List DictionaryEntry) : Type 0 where
  pub shares : List Share
  pub are : AreShares (map heading begun) shares
  pub yielded : (place : ℕ) (source : S) (share : Share) → slice_get begun place ≡ Some source → slice_get shares place ≡ Some share
      → yields source [] share.entries
  pub merge : IsMergeOf shares told

-- Since `before`, a front went out of what is settled by a merge of shares of sources with these headings.
pub record HasMergedSome (headings : List Heading) (before now : Option (List ℕ)) : Type 0 where
  pub shares : List Share
  pub are : AreShares headings shares
  pub told : List DictionaryEntry
  pub merge : IsMergeOf shares told
  pub gained : AppendsFront before now (magic FrontCoded ++ postings_section told)
