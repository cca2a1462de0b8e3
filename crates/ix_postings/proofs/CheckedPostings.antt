-- A posting that was checked: its parts, one of one position, and one in the front of the bytes.
use Rattle.std.proofs.Common.{◌≡◌, ℕ, ◌+◌, ◌-◌, ◌^◌, ◌<◌, ◌≤◌, List, [], ◌∷◌, ◌++◌, length, take, drop, Result, Ok, Err, IfOk, refl, sym, ap, ap₂, subst, ◌∙◌, arith, append_assoc, length-append, inr}
use Rattle.std.proofs.Math.Seq.{drop-append_seam, take-append-add}
use Rattle.std.proofs.lemmas.List.{drop-drop, drop_at, take-append-drop}
use Rattle.ix_text.specs.Parts.{DocumentRow, Posting}
use Rattle.ix_text.specs.TokenNumbers.{numbers_of_posting, tokens_before}
use Rattle.ix_vbyte.specs.Code.{code_of}
use Rattle.ix_vbyte.specs.Gaps.{gaps_of}
use Rattle.ix_vbyte.specs.Postings.{codes_of, posting_bytes}
use Rattle.ix_vbyte.specs.ShortPostings.{BeginsWithShort, BeginsWithSingle, single_bytes}
use Rattle.ix_postings.specs.CheckedLists.{IsCutShort, MayFail, SeesPositions, SeesPosting}
use Rattle.ix_postings.specs.NextPostings.{PostingFits, numbers_at}
use Rattle.ix_postings.specs.SeenTokens.{SeesMore}
use Rattle.ix_postings.specs.TokenTables.{HasTokens, IsSpan}
use Rattle.ix_postings.specs.declared.list_fault.ListFault.{ListFault}
use Rattle.ix_postings.specs.declared.token_table.TokenTable.{TokenTable}
use Rattle.ix_postings.proofs.NextPostings.{length-posting, posting_fits, single_is, single_spelled}
use Rattle.ix_postings.proofs.PositionLemmas.{fails_longer}

-- bytes that end within a part of it end within it
module _ (bytes : List ℕ) (gap : ℕ) (posting : Posting) where
  pub cut_in_gap : (fault : ListFault) → IsCutShort bytes (code_of gap) fault → MayFail bytes (posting_bytes gap posting) fault
  cut_in_gap fault cut = inr (cut.0, (let less = cut.1 in omega (arith, length-posting gap posting, less)))

  module _ (found size : ℕ) (same : found ≡ gap) (begins : BeginsWithShort bytes found size) (list : List ℕ) (list_is : list ≡ drop size bytes) where
    list_length : length bytes ≡ length (code_of gap) + length list
    list_length = omega (arith, ap length begins.spelled, length-append (code_of found) (drop size bytes), ap length list_is, ap (λ (n : ℕ). length (code_of n)) same)

    pub cut_in_count : (fault : ListFault) → IsCutShort list (code_of (length posting.1)) fault → MayFail bytes (posting_bytes gap posting) fault
    cut_in_count fault cut = inr (cut.0, (let less = cut.1 in omega (arith, length-posting gap posting, list_length, less)))

    module _ (count more : ℕ) (counted : count ≡ length posting.1) (second : BeginsWithShort list count more) (left : List ℕ) (left_is : left ≡ drop more list) where
      pub fails_in_positions : (fault : ListFault) → MayFail left (codes_of (gaps_of posting.1)) fault → MayFail bytes (posting_bytes gap posting) fault
      fails_in_positions fault may =
          let longer : length left < length (codes_of (gaps_of posting.1)) → length bytes < length (posting_bytes gap posting) =
          λ less. omega (arith, length-posting gap posting, list_length, ap length second.spelled, length-append (code_of count) (drop more list), ap length left_is, ap (λ (n : ℕ). length (code_of n)) counted, less) in
          fails_longer left (codes_of (gaps_of posting.1)) bytes (posting_bytes gap posting) fault longer may

-- its parts
pub sees_parts : (admits old new : List ℕ → Type 0) (tokens : TokenTable) (next : ℕ) (bytes : List ℕ) (gap gap_bytes count count_bytes list_size document : ℕ) (span : ℕ × ℕ) → BeginsWithShort bytes gap gap_bytes
    → document ≡ next + (gap - 1) → ((rows : List DocumentRow) → HasTokens tokens rows → IsSpan rows document span) → BeginsWithShort (drop gap_bytes bytes) count count_bytes
    → SeesPositions admits old new span.0 span.1 count (drop count_bytes (drop gap_bytes bytes)) list_size → SeesPosting admits old new tokens next bytes document (gap_bytes + count_bytes + list_size)
sees_parts admits old new tokens next bytes gap gap_bytes count count_bytes list_size document span begins is spans behind marks =
    let positions = marks.positions in
    let some = begins.some in
    let count_some = behind.some in
    let counted = marks.counted in
    let codes : List ℕ = codes_of (gaps_of positions) in
    let rest : List ℕ = drop (gap_bytes + count_bytes + list_size) bytes in
    let same_gap : gap ≡ document + 1 - next = omega (arith, is, some) in
    let left : drop list_size (drop count_bytes (drop gap_bytes bytes)) ≡ rest =
    drop-drop list_size count_bytes (drop gap_bytes bytes) ∙ drop-drop (count_bytes + list_size) gap_bytes bytes ∙ ap (λ (n : ℕ). drop n bytes) (omega arith) in
    let parts : bytes ≡ code_of gap ++ (code_of count ++ (codes ++ rest)) =
    begins.spelled
    ∙ ap (λ (more : List ℕ). code_of gap ++ more) (behind.spelled ∙ ap (λ (more : List ℕ). code_of count ++ more) (marks.spelled ∙ ap (λ (more : List ℕ). codes ++ more) left)) in
    let joined : code_of gap ++ (code_of count ++ (codes ++ rest)) ≡ (code_of gap ++ code_of count ++ codes) ++ rest =
    sym (append_assoc (code_of gap) (code_of count) (codes ++ rest)) ∙ sym (append_assoc (code_of gap ++ code_of count) codes rest) in
    let named : code_of gap ++ code_of count ++ codes ≡ posting_bytes (document + 1 - next) (document, positions) =
    ap₂ (λ (g n : ℕ). code_of g ++ code_of n ++ codes) same_gap (sym marks.counted) in
    record {
      positions = positions;
      fits = λ rows has. posting_fits rows next document positions span (omega (arith, is)) (spans rows has) (omega (arith, counted, count_some)) marks.ascend;
      spelled = parts ∙ joined ∙ ap (λ (front : List ℕ). front ++ rest) named;
      sized =
          let one = begins.sized in
          let two = behind.sized in
          let three = marks.sized in
          omega (arith, one, two, three, sym (ap length named), length-append (code_of gap ++ code_of count) codes, length-append (code_of gap) (code_of count));
      seen = λ rows has.
          let first : span.0 ≡ tokens_before rows document = (spans rows has).first in
          subst (λ (n : ℕ). SeesMore admits old new (numbers_at n positions)) first marks.seen;
    }

-- one of one position
pub sees_single : (admits old new : List ℕ → Type 0) (tokens : TokenTable) (next : ℕ) (bytes : List ℕ) (gap position_gap size document : ℕ) → BeginsWithSingle bytes gap position_gap size → document + 1 ≡ next + gap
    → ((rows : List DocumentRow) → HasTokens tokens rows → PostingFits rows next (document, (position_gap - 1) ∷ []))
    → ((rows : List DocumentRow) → HasTokens tokens rows → SeesMore admits old new (numbers_of_posting rows (document, (position_gap - 1) ∷ [])))
    → SeesPosting admits old new tokens next bytes document size
sees_single admits old new tokens next bytes gap position_gap size document begins is fits seen =
    let same = single_spelled gap position_gap next document ((position_gap - 1) ∷ []) begins.position_some is refl in
    record {
      positions = (position_gap - 1) ∷ [];
      fits = fits;
      spelled = begins.spelled ∙ ap (λ (front : List ℕ). front ++ drop size bytes) same;
      sized = begins.sized ∙ ap length same;
      seen = seen;
    }

-- what was found first is the posting that comes first
pub single_stands : (bytes missing : List ℕ) (taken position size gap : ℕ) (posting : Posting) (rest : List ℕ) → BeginsWithSingle bytes taken position size → bytes ++ missing ≡ posting_bytes gap posting ++ rest
    → (taken ≡ gap) × (posting.1 ≡ (position - 1) ∷ [])
single_stands bytes missing taken position size gap posting rest begins e =
    single_is taken position gap posting (drop size bytes ++ missing) rest begins.position_some
    (sym (append_assoc (single_bytes taken position) (drop size bytes) missing) ∙ ap (λ (bs : List ℕ). bs ++ missing) (sym begins.spelled) ∙ e)

-- ---- a posting in the front of the bytes

-- one that ends there comes first in the front
pub single_in_front : (bytes : List ℕ) (gap position size limit : ℕ) → BeginsWithSingle bytes gap position size → size ≤ limit → BeginsWithSingle (take limit bytes) gap position size
single_in_front bytes gap position size limit begins within =
    let spells : List ℕ = single_bytes gap position in
    let rest : List ℕ = drop size bytes in
    let parts : limit ≡ length spells + (limit - size) = (let sized = begins.sized in omega (arith, sized, within)) in
    let is : take limit bytes ≡ spells ++ take (limit - size) rest = ap (take limit) begins.spelled ∙ ap (λ (n : ℕ). take n (spells ++ rest)) parts ∙ take-append-add spells rest (limit - size) in
    record {
      gap_some = begins.gap_some;
      position_some = begins.position_some;
      spelled = is ∙ ap (λ (bs : List ℕ). spells ++ bs) (sym (ap (drop size) is ∙ drop_at spells (take (limit - size) rest) size (sym begins.sized)));
      sized = begins.sized;
    }

module _ (admits old new : List ℕ → Type 0) (tokens : TokenTable) (next : ℕ) (bytes : List ℕ) (limit : ℕ) (within : limit ≤ length bytes) where
  sees_in_front : (document size : ℕ) → size ≤ length (take limit bytes) → SeesPosting admits old new tokens next (take limit bytes) document size → SeesPosting admits old new tokens next bytes document size
  sees_in_front document size short marks = record {
    positions = marks.positions;
    fits = marks.fits;
    spelled = whole ∙ ap (λ (more : List ℕ). spells ++ more) (sym (ap (λ (n : ℕ). drop n bytes) marks.sized ∙ ap (drop (length spells)) whole ∙ drop-append_seam spells (left ++ drop limit bytes)));
    sized = marks.sized;
    seen = marks.seen;
  }
    where
      spells : List ℕ
      spells = posting_bytes (document + 1 - next) (document, marks.positions)

      left : List ℕ
      left = drop size (take limit bytes)

      whole : bytes ≡ spells ++ (left ++ drop limit bytes)
      whole = sym (take-append-drop limit bytes) ∙ ap (λ (front : List ℕ). front ++ drop limit bytes) marks.spelled ∙ append_assoc spells left (drop limit bytes)

  pub sees_front : (result : Result (ℕ × ℕ) ListFault) → IfOk result (λ found. found.1 ≤ length (take limit bytes)) → IfOk result (λ found. SeesPosting admits old new tokens next (take limit bytes) found.0 found.1)
      → IfOk result (λ found. SeesPosting admits old new tokens next bytes found.0 found.1)
  sees_front (Ok found) short marks = sees_in_front found.0 found.1 short marks
  sees_front (Err fault) short marks = tt
