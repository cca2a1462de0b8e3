-- Places in a list of postings at which a walk may go on.
use Rattle.std.specs.Prelude.{◌≡◌, ℕ, ◌-◌, ◌^◌, ◌<◌, List, ◌++◌, length, All}
use Rattle.ix_vbyte.specs.Gaps.{next_after}
use Rattle.ix_vbyte.specs.Postings.{Posting, ArePostings, documents_of, list_bytes, list_bytes_from}
use Rattle.ix_vbyte.specs.declared.skips.Skip.{Skip}

-- The place parts the list, and tells the document before it, and how many postings and bytes are left from it on.
pub record IsSkip (postings : List Posting) (skip : Skip) : Type 0 where
  pub front : List Posting
  pub back : List Posting
  pub parted : postings ≡ front ++ back
  pub next : skip.next ≡ next_after 0 (documents_of front)
  pub left : skip.left ≡ length back
  pub size : skip.size ≡ length (list_bytes_from skip.next back)

-- Each place from which on fewer postings are left is one of the list.
abbrev pub AreSkips : List Posting → List Skip → Type 0
AreSkips postings skips = All (λ skip. skip.left < length postings → IsSkip postings skip) skips

-- The places are those of the coded list of so many postings.
abbrev pub AreSkipsIn : ℕ → List ℕ → List Skip → Type 0
AreSkipsIn count bytes skips =
    (postings : List Posting) → ArePostings 0 (2 ^ 32 - 1) postings → length postings ≡ count → bytes ≡ list_bytes postings → AreSkips postings skips
