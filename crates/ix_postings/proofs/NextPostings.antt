-- A posting that may come next at the front of what is left.
use Rattle.std.proofs.Common.{◌≡◌, ℕ, ◌+◌, ◌-◌, ◌^◌, ◌<◌, ◌≤◌, List, [], ◌∷◌, ◌++◌, length, get_or, sum_by, sym, ap, ap₂, ◌∙◌, subst, arith, append_assoc, append-nil}
use Rattle.std.proofs.lemmas.List.{length-append}
use Rattle.std.proofs.lemmas.List.Elements.{All-contains, All-from_get_or, Contains-get_or}
use Rattle.std.proofs.lemmas.List.Sums.{sum_by-take-le}
use Rattle.std.proofs.lemmas.Option.{slice_get_within}
use Rattle.ix_text.specs.Parts.{DocumentRow, Posting}
use Rattle.ix_text.specs.TokenNumbers.{numbers_of_posting}
use Rattle.ix_text.proofs.TokensBefore.{tokens_before_next}
use Rattle.ix_vbyte.specs.Code.{code_of}
use Rattle.ix_vbyte.specs.Gaps.{Ascends, gaps_of}
use Rattle.ix_vbyte.specs.Postings.{codes_of, posting_bytes}
use Rattle.ix_vbyte.specs.ShortPostings.{single_bytes}
use Rattle.ix_vbyte.proofs.Values.{code_of-apart}
use Rattle.ix_vbyte.proofs.Gaps.{Ascends-from, Ascends-rising, Ascends-within, length-Ascends}
use Rattle.ix_postings.specs.CheckedLists.{StandNext}
use Rattle.ix_postings.specs.NextPostings.{HaveRoom, PostingFits, numbers_at}
use Rattle.ix_postings.specs.TokenTables.{HasTokens, IsSpan}
use Rattle.ix_postings.specs.declared.token_table.TokenTable.{TokenTable}
use Rattle.ix_postings.proofs.TokenStarts.{in_range_from_span, span_from_in_range}

-- a posting that fits is one of the documents
pub numbered : (rows : List DocumentRow) (next : ℕ) (posting : Posting) → PostingFits rows next posting → posting.0 < length rows
numbered rows next posting fits =
    let range = fits.is.in_range _ (Contains-get_or posting.1 0 0 fits.is.is.0) in
    slice_get_within rows posting.0 range.row range.numbered

-- the number behind its document is small
pub near_next : (rows : List DocumentRow) (next : ℕ) (posting : Posting) → PostingFits rows next posting → length rows ≤ 2 ^ 28 → posting.0 + 1 ≤ 2 ^ 28
near_next rows next posting fits few = omega (arith, numbered rows next posting fits)

-- the tokens of a document are among those of all
pub span_within : (rows : List DocumentRow) (document : ℕ) (span : ℕ × ℕ) → IsSpan rows document span → span.0 + span.1 ≤ sum_by (λ row. row.tokens) rows
span_within rows document span is =
    omega (arith, is.first, is.count, tokens_before_next rows document is.row is.numbered, sum_by-take-le (λ row. row.tokens) rows (document + 1))

-- a table has the rows of as many documents, whichever they are
pub same_count : (tokens : TokenTable) (rows others : List DocumentRow) → HasTokens tokens rows → HasTokens tokens others → length rows ≡ length others
unfolding HasTokens
same_count tokens rows others has also = omega (arith, has.counted, also.counted)

-- positions that ascend below the number of the document's tokens make a posting that may come next
pub posting_fits : (rows : List DocumentRow) (next document : ℕ) (positions : List ℕ) (span : ℕ × ℕ) → next ≤ document → IsSpan rows document span → 0 < length positions → Ascends 0 span.1 positions
    → PostingFits rows next (document, positions)
posting_fits rows next document positions span above is some up = record {
  above = above;
  is = record {
    is = (some, Ascends-rising 0 span.1 positions up);
    in_range = λ position has.
        let within = All-contains (λ x. (0 ≤ x) × (x < span.1)) positions position (Ascends-within 0 span.1 positions up) has in
        in_range_from_span rows document position span is within.1;
  };
}

-- and those of a posting that may come next do
pub positions_ascend : (rows : List DocumentRow) (next : ℕ) (posting : Posting) → PostingFits rows next posting → (span : ℕ × ℕ) → IsSpan rows posting.0 span → Ascends 0 span.1 posting.1
positions_ascend rows next posting fits span is =
    Ascends-from 0 span.1 posting.1 fits.is.is.1
    (All-from_get_or (λ x. (0 ≤ x) × (x < span.1)) posting.1 0
    (λ i lt. (omega arith, span_from_in_range rows posting.0 (get_or posting.1 i 0) span is (fits.is.in_range (get_or posting.1 i 0) (Contains-get_or posting.1 i 0 lt)))))

-- ---- a posting that may come next

module _ (tokens : TokenTable) (has_room : ℕ → Type 0) (ready : HaveRoom tokens has_room) (rows : List DocumentRow) (has : HasTokens tokens rows) (next : ℕ) (posting : Posting) (fits : PostingFits rows next posting) where
  few_rows : length rows ≤ 2 ^ 28
  few_rows = omega (arith, same_count tokens rows ready.rows has ready.has, ready.few_documents)

  -- its document is there
  pub document_within : posting.0 < length rows
  document_within = numbered rows next posting fits

  pub gap_some : 0 < posting.0 + 1 - next
  gap_some = omega (arith, fits.above)

  pub gap_fits : posting.0 + 1 - next < 2 ^ 32
  gap_fits = omega (arith, document_within, few_rows)

  pub few_documents : length rows < 2 ^ 32
  few_documents = omega (arith, few_rows)

  -- its positions ascend below the number of the document's tokens
  pub ascends : (span : ℕ × ℕ) → IsSpan rows posting.0 span → Ascends 0 span.1 posting.1
  ascends span is = positions_ascend rows next posting fits span is

  pub count_fits : (span : ℕ × ℕ) → IsSpan rows posting.0 span → span.0 + span.1 ≤ 2 ^ 28 → length posting.1 < 2 ^ 32
  count_fits span is few = omega (arith, length-Ascends 0 span.1 posting.1 (omega arith) (ascends span is), few)

-- ---- its bytes

-- what stands behind the document's gap, and behind the number of positions
abbrev pub behind_gap : Posting → List ℕ → List ℕ
behind_gap posting rest = code_of (length posting.1) ++ (codes_of (gaps_of posting.1) ++ rest)

abbrev pub behind_count : Posting → List ℕ → List ℕ
behind_count posting rest = codes_of (gaps_of posting.1) ++ rest

-- its positions come next
pub positions_next : (admits held : List ℕ → Type 0) (tokens : TokenTable) (has_room : ℕ → Type 0) (ready : HaveRoom tokens has_room) (rows : List DocumentRow) (has : HasTokens tokens rows) (next : ℕ) (posting : Posting) → PostingFits rows next posting
    → (span : ℕ × ℕ) → IsSpan rows posting.0 span → (count : ℕ) (numbers rest bytes : List ℕ) → held numbers → admits (numbers ++ numbers_of_posting rows posting) → count ≡ length posting.1
    → bytes ≡ behind_count posting rest → StandNext admits held span.0 span.1 count bytes numbers posting.1 rest
positions_next admits held tokens has_room ready rows has next posting fits span is count numbers rest bytes seen free counted e = record {
  held = seen;
  counted = sym counted;
  ascend = ascends tokens has_room ready rows has next posting fits span is;
  free = subst (λ (first : ℕ). admits (numbers ++ numbers_at first posting.1)) (sym is.first) free;
  spelled = e;
}

pub posting_parts : (gap : ℕ) (posting : Posting) (rest : List ℕ) → posting_bytes gap posting ++ rest ≡ code_of gap ++ behind_gap posting rest
posting_parts gap posting rest =
    append_assoc (code_of gap ++ code_of (length posting.1)) (codes_of (gaps_of posting.1)) rest
    ∙ append_assoc (code_of gap) (code_of (length posting.1)) (codes_of (gaps_of posting.1) ++ rest)

pub length-posting : (gap : ℕ) (posting : Posting) → length (posting_bytes gap posting) ≡ length (code_of gap) + (length (code_of (length posting.1)) + length (codes_of (gaps_of posting.1)))
length-posting gap posting =
    omega (arith, length-append (code_of gap ++ code_of (length posting.1)) (codes_of (gaps_of posting.1)), length-append (code_of gap) (code_of (length posting.1)))

-- ---- a posting of one position

-- its one position, from the code of that gap
one_left : (positions : List ℕ) (position : ℕ) (behind rest : List ℕ) → 0 < position → 1 ≡ length positions → code_of position ++ behind ≡ codes_of (gaps_of positions) ++ rest
    → (positions ≡ (position - 1) ∷ []) × (behind ≡ rest)
one_left [] position behind rest some count e = absurd (omega (arith, count))
one_left (x ∷ []) position behind rest some count e =
    let apart = code_of-apart position (x + 1 - 0) behind rest (e ∙ ap (λ (xs : List ℕ). xs ++ rest) (append-nil (code_of (x + 1 - 0)))) in
    let same : x ≡ position - 1 = omega (arith, apart.0) in
    (ap (λ (n : ℕ). n ∷ []) same, apart.1)
one_left (x ∷ z ∷ more) position behind rest some count e = absurd (omega (arith, count))

-- what was taken is the posting that comes first
pub single_is : (taken position gap : ℕ) (posting : Posting) (behind rest : List ℕ) → 0 < position → single_bytes taken position ++ behind ≡ posting_bytes gap posting ++ rest
    → (taken ≡ gap) × (posting.1 ≡ (position - 1) ∷ [])
single_is taken position gap posting behind rest some e =
    let parts : single_bytes taken position ++ behind ≡ code_of taken ++ (code_of 1 ++ (code_of position ++ behind)) =
    append_assoc (code_of taken) (code_of 1 ++ code_of position) behind ∙ ap (λ (xs : List ℕ). code_of taken ++ xs) (append_assoc (code_of 1) (code_of position) behind) in
    let one = code_of-apart taken gap (code_of 1 ++ (code_of position ++ behind)) (behind_gap posting rest) (sym parts ∙ e ∙ posting_parts gap posting rest) in
    let two = code_of-apart 1 (length posting.1) (code_of position ++ behind) (behind_count posting rest) one.1 in
    (one.0, (one_left posting.1 position behind rest some two.0 two.1).0)

-- and its bytes are those of the posting
pub single_spelled : (gap position next document : ℕ) (positions : List ℕ) → 0 < position → document + 1 ≡ next + gap → positions ≡ (position - 1) ∷ []
    → single_bytes gap position ≡ posting_bytes (document + 1 - next) (document, positions)
single_spelled gap position next document positions some is only =
    let same : gap ≡ document + 1 - next = omega (arith, is) in
    let also : position ≡ (position - 1) + 1 - 0 = omega (arith, some) in
    sym (append_assoc (code_of gap) (code_of 1) (code_of position))
    ∙ ap₂ (λ (n m : ℕ). (code_of n ++ code_of 1) ++ code_of m) same also
    ∙ ap (λ (xs : List ℕ). (code_of (document + 1 - next) ++ code_of 1) ++ xs) (sym (append-nil (code_of ((position - 1) + 1 - 0))))
    ∙ ap (λ (xs : List ℕ). posting_bytes (document + 1 - next) (document, xs)) (sym only)

-- the token of its one position
pub numbers_single : (rows : List DocumentRow) (document position : ℕ) (positions : List ℕ) (span : ℕ × ℕ) → IsSpan rows document span → positions ≡ (position - 1) ∷ []
    → numbers_of_posting rows (document, positions) ≡ (span.0 + (position - 1)) ∷ []
numbers_single rows document position positions span is only =
    ap (λ (xs : List ℕ). numbers_of_posting rows (document, xs)) only ∙ ap (λ (first : ℕ). (first + (position - 1)) ∷ []) (sym is.first)

pub ascends_single : (tokens : TokenTable) (has_room : ℕ → Type 0) (ready : HaveRoom tokens has_room) (rows : List DocumentRow) (has : HasTokens tokens rows) (next : ℕ) (posting : Posting) → PostingFits rows next posting
    → (position : ℕ) (span : ℕ × ℕ) → IsSpan rows posting.0 span → posting.1 ≡ (position - 1) ∷ [] → position - 1 < span.1
ascends_single tokens has_room ready rows has next posting fits position span is only =
    (subst (Ascends 0 span.1) only (ascends tokens has_room ready rows has next posting fits span is)).1
