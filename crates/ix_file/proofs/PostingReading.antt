-- A posting that was checked lies in its document, and is the one that stands there.
use Rattle.std.proofs.Common.{◌≡◌, ℕ, ◌+◌, ◌-◌, ◌<◌, ◌≤◌, ◌⊎◌, List, ◌++◌, length, get_or, slice_get, Some, refl, sym, ap, ◌∙◌, arith, inl, inr, ⊎_elim}
use Rattle.std.specs.List.{sum_by}
use Rattle.std.proofs.lemmas.List.{length-append}
use Rattle.std.proofs.lemmas.List.Elements.{Contains-get_or}
use Rattle.std.proofs.lemmas.List.Sums.{sum_by-take-le}
use Rattle.std.proofs.lemmas.Option.{slice_get_within}
use Rattle.ix_vbyte.specs.Postings.{posting_bytes, IsPosting as IsPostingBelow}
use Rattle.ix_vbyte.proofs.Gaps.{Ascends-from}
use Rattle.ix_vbyte.proofs.Postings.{posting_apart}
use Rattle.ix_text.specs.Parts.{DocumentRow, Posting}
use Rattle.ix_text.specs.PartsLaws.{IsInRange}
use Rattle.ix_text.specs.TokenLaws.{IsPostingIn}
use Rattle.ix_text.specs.TokenNumbers.{tokens_before}
use Rattle.ix_text.proofs.TokensBefore.{count_of, tokens_before_next}
use Rattle.ix_postings.specs.CheckedLists.{MayFail}
use Rattle.ix_postings.specs.declared.list_fault.ListFault.{ListFault}
use Rattle.ix_postings.specs.declared.list_fault.ListFault.TheVariants.{Number, Zero, DocRange, PositionRange, Doubled, ListLength, Memory}
use Rattle.ix_file.specs.ReadLists.{IsNextPosting}

-- ---- a posting in its document

-- a document's tokens are among all
row_below : (rows : List DocumentRow) (document : ℕ) (row : DocumentRow) → slice_get rows document ≡ Some row → tokens_before rows document + row.tokens ≤ sum_by count_of rows
row_below rows document row numbered = omega (arith, tokens_before_next rows document row numbered, sum_by-take-le count_of rows (document + 1))

first_position : (rows : List DocumentRow) (posting : Posting) → IsPostingIn rows posting → IsInRange rows posting.0 (get_or posting.1 0 0)
first_position rows posting inside = inside.in_range (get_or posting.1 0 0) (Contains-get_or posting.1 0 0 inside.is.0)

pub document_within : (rows : List DocumentRow) (posting : Posting) → IsPostingIn rows posting → posting.0 < length rows
document_within rows posting inside =
    let range = first_position rows posting inside in
    slice_get_within rows posting.0 range.row range.numbered

-- all positions are below the number of tokens
pub posting_below : (rows : List DocumentRow) (posting : Posting) → IsPostingIn rows posting → IsPostingBelow (sum_by count_of rows) posting
posting_below rows posting inside = record {
  some = inside.is.0;
  positions = Ascends-from 0 (sum_by count_of rows) posting.1 inside.is.1 (λ k d h. (omega arith, below (get_or posting.1 k d) (inside.in_range (get_or posting.1 k d) (Contains-get_or posting.1 k d h))));
}
  where
    below : (position : ℕ) → IsInRange rows posting.0 position → position < sum_by count_of rows
    below position range =
        let inside_row : position < range.row.tokens = range.below in
        omega (arith, row_below rows posting.0 range.row range.numbered)

-- ---- one posting stands there
pub same_posting : (rows : List DocumentRow) (next : ℕ) (left rest other : List ℕ) (one posting : Posting) → IsNextPosting rows next left one rest → IsNextPosting rows next left posting other → (one ≡ posting) × (rest ≡ other)
same_posting rows next left rest other one posting a b =
    posting_apart next (sum_by count_of rows) one posting rest other a.above b.above (posting_below rows one a.is) (posting_below rows posting b.is) (sym a.coded ∙ b.coded)

-- ---- why none was found

pub is_memory : (fault : ListFault) → (fault ≡ Memory) ⊎ ¬ (fault ≡ Memory)
is_memory (Number fault) = inr (λ e. absurd (cc e))
is_memory Zero = inr (λ e. absurd (cc e))
is_memory DocRange = inr (λ e. absurd (cc e))
is_memory PositionRange = inr (λ e. absurd (cc e))
is_memory Doubled = inr (λ e. absurd (cc e))
is_memory ListLength = inr (λ e. absurd (cc e))
is_memory Memory = inl refl

-- a posting that stands there is no other fault
pub not_failed : (next : ℕ) (left rest : List ℕ) (fault : ListFault) (posting : Posting) → ¬ (fault ≡ Memory) → left ≡ posting_bytes (posting.0 + 1 - next) posting ++ rest
    → MayFail left (posting_bytes (posting.0 + 1 - next) posting) fault → ⊥
not_failed next left rest fault posting other coded may =
    ⊎_elim other (λ cut. let less = cut.1 in omega (arith, less, ap length coded, length-append (posting_bytes (posting.0 + 1 - next) posting) rest)) may
