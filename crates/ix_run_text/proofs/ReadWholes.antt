-- What comes next where a reader of a run text stands within a lawful whole.
use Rattle.std.proofs.Common.{◌≡◌, ℕ, ◌-◌, ◌^◌, ◌<◌, List, [], ◌∷◌, ◌++◌, length, get_or, Contains, Some, Less, refl, sym, ap, subst, arith}
use Rattle.std.proofs.lemmas.List.{append_assoc, length-map, map-append}
use Rattle.std.proofs.lemmas.List.Elements.{All-contains, Contains-append_left, Contains-append_right}
use Rattle.std.proofs.lemmas.List.Sums.{get_or-le-sum_by}
use Rattle.std.specs.Cmp.Lexicographic.{slice_cmp}
use Rattle.std.specs.List.Sorted.{IsStrictlyIncreasing}
use Rattle.std.specs.Ordering.{nat_cmp}
use Rattle.ix_text.specs.ByteOrder.{IsAscending}
use Rattle.ix_text.specs.Parts.{DictionaryEntry, Posting, IsTermPosting, terms_of}
use Rattle.ix_text.specs.PartsLaws.{IsLawfulTerm, position_count}
use Rattle.ix_text.proofs.CollectionTold.{has_collection}
use Rattle.ix_text.proofs.PartsCounted.{positions_counted}
use Rattle.ix_vbyte.specs.Gaps.{next_after}
use Rattle.ix_vbyte.specs.Postings.{documents_of, list_bytes}
use Rattle.ix_vbyte.proofs.Gaps.{length-Ascends}
use Rattle.ix_vbyte.proofs.Sizes.{list_short}
use Rattle.ix_run_text.specs.Heads.{Heading, parts_with}
use Rattle.ix_run_text.specs.Orders.{StandsAbove}
use Rattle.ix_postings.specs.NextPostings.{PostingFits}
use Rattle.ix_run_text.specs.ReadTerms.{TermFits}
use Rattle.ix_run_text.specs.Reading.{last_text}
use Rattle.ix_run_text.specs.Sources.{AreWhole, closed, entry_with, extended}
use Rattle.ix_run_text.proofs.OrderLemmas.{stands_above}
use Rattle.ix_run_text.proofs.ReadFronts.{AreRising, rising_next, rising_of}
use Rattle.ix_run_text.proofs.WholeLists.{codable}

-- ---- the same whole, one step on

-- one posting given
pub closed-given : (finished : List DictionaryEntry) (entry : DictionaryEntry) (posting : Posting) (postings : List Posting)
    → closed finished (Some entry) (posting ∷ postings) ≡ closed finished (Some (extended entry (posting ∷ []))) postings
closed-given finished entry posting postings = ap (λ (ps : List Posting). finished ++ entry_with entry.term ps ∷ []) (sym (append_assoc entry.postings (posting ∷ []) postings))

-- one term begun
pub closed-begun : (finished : List DictionaryEntry) (term : List ℕ) (postings : List Posting) (entries : List DictionaryEntry)
    → closed finished (Some (entry_with term [])) postings ++ entries ≡ finished ++ entry_with term postings ∷ entries
closed-begun finished term postings entries = append_assoc finished (entry_with term postings ∷ []) entries

-- ---- what comes next

-- the next posting of the term at hand fits
pub posting_fits : (heading : Heading) (finished : List DictionaryEntry) (entry : DictionaryEntry) (posting : Posting) (postings : List Posting) (entries : List DictionaryEntry)
    → AreWhole heading (closed finished (Some entry) (posting ∷ postings) ++ entries) → PostingFits heading.rows (next_after 0 (documents_of entry.postings)) posting
posting_fits heading finished entry posting postings entries whole =
    let all : List DictionaryEntry = closed finished (Some entry) (posting ∷ postings) ++ entries in
    let more : DictionaryEntry = extended entry (posting ∷ postings) in
    let are : AreRising heading.rows (entry.postings ++ posting ∷ postings) =
    rising_of heading all more whole.lawful (Contains-append_left (finished ++ more ∷ []) entries more (Contains-append_right finished (more ∷ []) more (0, omega arith, refl))) in
    let among : Contains (entry.postings ++ posting ∷ postings) posting = Contains-append_right entry.postings (posting ∷ postings) posting (0, omega arith, refl) in
    record {
      above = rising_next (documents_of entry.postings) posting.0 (documents_of postings) (subst IsStrictlyIncreasing (map-append (λ (p : Posting). p.0) entry.postings (posting ∷ postings)) are.ascending);
      is = record {
        is = All-contains IsTermPosting (entry.postings ++ posting ∷ postings) posting are.each among;
        in_range = λ position positioned. are.in_range posting.0 position (record { positions = posting.1; among = among; positioned = positioned });
      };
    }

-- a list of a lawful dictionary is short
list_fits : (heading : Heading) (entries : List DictionaryEntry) (k : ℕ) (none : DictionaryEntry) → AreWhole heading entries → k < length entries
    → (length (get_or entries k none).postings < 2 ^ 32) × (length (list_bytes (get_or entries k none).postings) < 2 ^ 32)
list_fits heading entries k none whole within =
    let parts = parts_with heading entries in
    let has = has_collection parts whole.lawful in
    let total = positions_counted has.collection parts has.of_collection in
    let few = has.lawful.few_tokens in
    let entry = get_or entries k none in
    let are = codable heading entries whole k none within in
    let share = get_or-le-sum_by (λ (e : DictionaryEntry). position_count e.postings) entries k none within in
    let small = list_short 0 (2 ^ 32 - 1) entry.postings are (omega arith) in
    let count = length-Ascends 0 (2 ^ 32 - 1) (documents_of entry.postings) (omega arith) are.documents in
    let size = length-map entry.postings (λ (p : Posting). p.0) in
    (omega (arith, count, size), omega (arith, share, total, few, small))

first_above : (texts : List (List ℕ)) (text : List ℕ) → 0 < length text → StandsAbove texts text → slice_cmp nat_cmp (last_text texts) text ≡ Less
first_above [] [] some above = absurd (omega arith)
first_above [] (x ∷ xs) some above = refl
first_above (t ∷ ts) text some above = above [] (omega arith)

-- the next term fits
pub term_fits : (heading : Heading) (finished : List DictionaryEntry) (entry : DictionaryEntry) (entries : List DictionaryEntry) → AreWhole heading (finished ++ entry ∷ entries)
    → TermFits heading.stop (last_text (terms_of finished)) entry.term (length entry.postings) (length (list_bytes entry.postings))
term_fits heading finished entry entries whole =
    let all : List DictionaryEntry = finished ++ entry ∷ entries in
    let among : Contains all entry = Contains-append_right finished (entry ∷ entries) entry (0, omega arith, refl) in
    let is : IsLawfulTerm (parts_with heading all) entry = All-contains (IsLawfulTerm (parts_with heading all)) all entry whole.lawful.terms among in
    let P : DictionaryEntry → Type 0 = λ e. (length e.postings < 2 ^ 32) × (length (list_bytes e.postings) < 2 ^ 32) in
    let fit : P entry = subst P among.2 (list_fits heading all among.0 entry whole among.1) in
    let ascending : IsAscending (terms_of finished ++ entry.term ∷ terms_of entries) = subst IsAscending (map-append (λ (e : DictionaryEntry). e.term) finished (entry ∷ entries)) whole.lawful.ascending in
    record {
      text = record {
        is = is.term;
        above = first_above (terms_of finished) entry.term is.term.some_byte (stands_above (terms_of finished) entry.term (terms_of entries) ascending);
        no_stop = is.no_stop;
      };
      some = is.ordered.some;
      documents_fit = fit.0;
      bytes_fit = fit.1;
    }
