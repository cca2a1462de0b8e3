-- Postings that may come one behind another, as postings of a list.
use Rattle.std.proofs.Common.{ℕ, ◌+◌, ◌≤◌, List, [], ◌∷◌, length, get_or, sum_by, refl, arith}
use Rattle.std.proofs.lemmas.List.Elements.{All-nil, All-cons, Contains-get_or}
use Rattle.ix_text.specs.Parts.{DocumentRow, Posting}
use Rattle.ix_text.specs.TokenNumbers.{tokens_before}
use Rattle.ix_postings.specs.TokenTables.{IsSpan}
use Rattle.ix_vbyte.specs.Gaps.{next_after}
use Rattle.ix_vbyte.specs.Postings.{ArePostings, IsPosting, documents_of}
use Rattle.ix_vbyte.proofs.Gaps.{Ascends-wider, next_after-le}
use Rattle.ix_postings.specs.NextPostings.{PostingFits, PostingsFit}
use Rattle.ix_postings.proofs.NextPostings.{numbered, positions_ascend, span_within}

-- where the tokens of a posting's document lie
span_of : (rows : List DocumentRow) (next : ℕ) (posting : Posting) → PostingFits rows next posting → (span : ℕ × ℕ) × IsSpan rows posting.0 span
span_of rows next posting fits =
    let range = fits.is.in_range (get_or posting.1 0 0) (Contains-get_or posting.1 0 0 fits.is.is.0) in
    ((tokens_before rows posting.0, range.row.tokens), record { row = range.row; numbered = range.numbered; first = refl; count = refl })

module _ (rows : List DocumentRow) (top : ℕ) (few_documents : length rows ≤ top) (few_tokens : sum_by (λ row. row.tokens) rows ≤ top) where
  pub fit_are : (next : ℕ) (postings : List Posting) → PostingsFit rows next postings → ArePostings next top postings
  fit_are next [] fit = record { documents = tt; each = All-nil (IsPosting top) }
  fit_are next (p ∷ ps) fit =
      let later = fit_are (p.0 + 1) ps fit.1 in
      let (span, is) = span_of rows next p fit.0 in
      let within = span_within rows p.0 span is in
      let below = numbered rows next p fit.0 in
      record {
        documents = (fit.0.above, omega (arith, below, few_documents), later.documents);
        each =
            All-cons (IsPosting top) p ps
            (record { some = fit.0.is.is.0; positions = Ascends-wider 0 span.1 top p.1 (omega (arith, within, few_tokens)) (positions_ascend rows next p fit.0 span is) })
            later.each;
      }

  pub near_fit : (next : ℕ) (postings : List Posting) → next ≤ top → PostingsFit rows next postings → next_after next (documents_of postings) ≤ top
  near_fit next postings low fit = next_after-le next top (documents_of postings) low (fit_are next postings fit).documents
