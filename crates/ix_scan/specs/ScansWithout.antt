-- Scans of a collection of which some documents are gone, and what is found in documents behind documents.
use Rattle.std.specs.Prelude.{◌↔◌, ℕ, ◌+◌, ◌<◌, Bool, Decides, List, map, filter, Contains}
use Rattle.std.specs.List.Sorted.{IsStrictlyIncreasing}
use Rattle.ix_text.specs.Collections.{Collection, Document}
use Rattle.ix_query.specs.Tree.{Tree}
use Rattle.ix_query.specs.Scans.{SatisfiesAt}

-- a collection of a stop set and documents
abbrev pub of_documents : List (List ℕ) → List Document → Collection
of_documents stop documents = record { stop = stop; documents = documents }

-- the numbers of all documents that satisfy the query and are not gone, ascending
pub record IsScanWithout (collection : Collection) (gone : ℕ → Type 0) (query : Tree) (numbers : List ℕ) : Type 0 where
  pub ascending : IsStrictlyIncreasing numbers
  pub exact : (number : ℕ) → Contains numbers number ↔ (SatisfiesAt collection query number × ¬ (gone number))

-- of the numbers from a first one on, as many as counted, the test passes those that are not gone
abbrev pub LeavesOut : (ℕ → Type 0) → (ℕ → Bool) → ℕ → ℕ → Type 0
LeavesOut gone test first count = (number : ℕ) → number < count → Decides (test (first + number)) (¬ (gone (first + number)))

-- numbers counted from a first one on, those left out that the test does not pass
abbrev pub kept_from : (ℕ → Bool) → ℕ → List ℕ → List ℕ
kept_from test first numbers = filter test (map (λ number. first + number) numbers)
