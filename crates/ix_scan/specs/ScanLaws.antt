-- Laws of scans of a collection of which some documents are gone: which ones is any test of numbers.
use Rattle.std.specs.Prelude.{◌≡◌, ◌↔◌, ℕ, Bool, true, List, ◌++◌, length}
use Rattle.ix_text.specs.Collections.{Collection, Document}
use Rattle.ix_query.specs.Tree.{Tree}
use Rattle.ix_query.specs.Scans.{IsScan}
use Rattle.ix_scan.specs.ScansWithout.{IsScanWithout, LeavesOut, kept_from, of_documents}

-- the numbers at which a test is true
abbrev pub At : (ℕ → Bool) → ℕ → Type 0
At test number = test number ≡ true

-- a collection has one scan for a query and what is gone
abbrev pub HasOneScanWithout : Type 0
HasOneScanWithout =
    (collection : Collection) (gone : ℕ → Bool) (query : Tree) (numbers others : List ℕ) → IsScanWithout collection (At gone) query numbers → IsScanWithout collection (At gone) query others → numbers ≡ others

-- if nothing is gone, it is the collection's own
abbrev pub IsScanIfNothingIsGone : Type 0
IsScanIfNothingIsGone =
    (collection : Collection) (gone : ℕ → Bool) (query : Tree) (numbers : List ℕ) → ((number : ℕ) → ¬ (At gone number)) → IsScanWithout collection (At gone) query numbers ↔ IsScan collection query numbers

-- the scan goes on with what is found in the documents behind, counted on from those before, if a test leaves out what is
-- gone of them
abbrev pub GoesOnBehind : Type 0
GoesOnBehind =
    (stop : List (List ℕ)) (before behind : List Document) (gone test : ℕ → Bool) (query : Tree) (found numbers : List ℕ)
    → LeavesOut (At gone) test (length before) (length behind) → IsScanWithout (of_documents stop before) (At gone) query found → IsScan (of_documents stop behind) query numbers
    → IsScanWithout (of_documents stop (before ++ behind)) (At gone) query (found ++ kept_from test (length before) numbers)
