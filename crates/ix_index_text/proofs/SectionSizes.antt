-- The lengths of the sections of a lawful collection fit eight bytes.
use Rattle.std.proofs.Common.{ℕ, ◌+◌, ◌*◌, ◌%◌, ◌^◌, ◌<◌, ◌≤◌, List, [], ◌∷◌, ◌++◌, length, get_or, drop, flat_map, nat_eq, All, sum_by, Bool, true, false, cond, arith, length-append, length-drop}
use Rattle.std.proofs.lemmas.List.Concat.{length-flat_map}
use Rattle.std.proofs.lemmas.List.Elements.{All-head, All-tail, All-weaker}
use Rattle.std.proofs.lemmas.List.Sums.{sum_by-cons, sum_by-le, get_or-le-sum_by, common_prefix_len-le}
use Rattle.std.specs.List.{common_prefix_len}
use Rattle.ix_text.specs.Collections.{Collection, IsLawful}
use Rattle.ix_text.specs.Parts.{Parts, Posting, DictionaryEntry, DocumentRow, ArePartsOf, IsTermPosting}
use Rattle.ix_text.specs.PartsLaws.{AreLawful, position_count}
use Rattle.ix_text.specs.Terms.{IsTerm}
use Rattle.ix_text.proofs.PartsCounted.{positions_counted}
use Rattle.ix_text.proofs.PartsLawful.{lawful_parts, postings_below}
use Rattle.ix_vbyte.specs.Code.{code_of}
use Rattle.ix_vbyte.specs.Postings.{ArePostings, list_bytes}
use Rattle.ix_vbyte.specs.Texts.{counted}
use Rattle.ix_vbyte.proofs.Sizes.{postings_from, list_short}
use Rattle.ix_vbyte.proofs.Values.{length-code_of}
use Rattle.ix_index_text.specs.Sections.{Version, Plain, FrontCoded, postings_section, stop_section, documents_section, entry_counts, front_coded, grouped, front_coded_from, dictionary_section}

-- what the sizes follow from
pub record AreSmall (parts : Parts) : Type 0 where
  pub lawful : AreLawful parts
  pub postings : All (λ entry. ArePostings 0 (2 ^ 28) entry.postings) parts.entries
  pub few_positions : sum_by (λ entry. position_count entry.postings) parts.entries ≤ 2 ^ 28

pub small_parts : (collection : Collection) (parts : Parts) → IsLawful collection → ArePartsOf collection parts → AreSmall parts
small_parts collection parts lawful of =
    let are : AreLawful parts = lawful_parts collection parts lawful of in
    let below = postings_below parts are in
    record {
      lawful = are;
      postings = λ k d h. postings_from (2 ^ 28) (get_or parts.entries k d).postings (are.terms k d h).ordered.ascending (are.terms k d h).ordered.each (below k d h);
      few_positions = omega (arith, positions_counted collection parts of, lawful.few_tokens);
    }

-- pieces of a bounded length each
flat_map_short : {X : Type 0} (piece : X → List ℕ) (most : ℕ) (xs : List X) → All (λ x. length (piece x) ≤ most) xs → length (flat_map piece xs) ≤ length xs * most
flat_map_short piece most xs all = omega (arith, length-flat_map piece xs, sum_by-le (λ x. length (piece x)) most xs all)

counted_short : (text : List ℕ) → length text ≤ 255 → length (counted text) ≤ 260
counted_short text short = omega (arith, length-code_of (length text) (omega arith), length-append (code_of (length text)) text)

-- ---- STOP and DOCS

pub length-stop_section : (parts : Parts) → AreSmall parts → length (stop_section parts.stop) < 2 ^ 64
unfolding stop_section
length-stop_section parts small =
    omega (arith, small.lawful.few_stop_terms, flat_map_short counted 260 parts.stop (All-weaker IsTerm (λ term. length (counted term) ≤ 260) (λ term is. counted_short term is.short) parts.stop small.lawful.stop_terms))

pub length-documents_section : (parts : Parts) → AreSmall parts → length (documents_section parts.rows) < 2 ^ 64
unfolding documents_section
length-documents_section parts small =
    omega (arith, small.lawful.few_documents, flat_map_short (λ (row : DocumentRow). counted row.name ++ code_of row.tokens) 265 parts.rows row_short)
  where
    row_short : All (λ row. length (counted row.name ++ code_of row.tokens) ≤ 265) parts.rows
    row_short k d h =
        let row = get_or parts.rows k d in
        let few = get_or-le-sum_by (λ (r : DocumentRow). r.tokens) parts.rows k d h in
        let all = small.lawful.few_tokens in
        omega (arith, counted_short row.name (small.lawful.names k d h).short, length-code_of row.tokens (omega arith), length-append (counted row.name) (code_of row.tokens))

-- ---- POSTINGS

lists_short : (top : ℕ) (entries : List DictionaryEntry) → top < 2 ^ 32 → All (λ entry. ArePostings 0 top entry.postings) entries → length (flat_map (λ entry. list_bytes entry.postings) entries) ≤ 15 * sum_by (λ entry. position_count entry.postings) entries
lists_short top [] low are = omega arith
lists_short top (entry ∷ entries) low are =
    let P = λ (e : DictionaryEntry). ArePostings 0 top e.postings in
    omega (
      arith,
      list_short 0 top entry.postings (All-head P entry entries are) low,
      lists_short top entries low (All-tail P entry entries are),
      sum_by-cons (λ (e : DictionaryEntry). position_count e.postings) entry entries,
      length-append (list_bytes entry.postings) (flat_map (λ (e : DictionaryEntry). list_bytes e.postings) entries),
    )

pub length-postings_section : (parts : Parts) → AreSmall parts → length (postings_section parts.entries) < 2 ^ 64
unfolding postings_section
length-postings_section parts small = omega (arith, small.few_positions, lists_short (2 ^ 28) parts.entries (omega arith) small.postings)

-- ---- DICTIONARY

-- each document of a term has a position
documents_few : (postings : List Posting) → All IsTermPosting postings → length postings ≤ position_count postings
documents_few [] are = omega arith
documents_few (p ∷ ps) are =
    omega (arith, (All-head IsTermPosting p ps are).0, documents_few ps (All-tail IsTermPosting p ps are), sum_by-cons (λ (posting : Posting). length posting.1) p ps)

-- what the dictionary says of the term is small
pub record IsSmallEntry (entry : DictionaryEntry) : Type 0 where
  pub term : length entry.term ≤ 255
  pub documents : length entry.postings < 2 ^ 32
  pub size : length (list_bytes entry.postings) < 2 ^ 32

pub small_entries : (parts : Parts) → AreSmall parts → All IsSmallEntry parts.entries
small_entries parts small k d h =
    let entry = get_or parts.entries k d in
    let few = get_or-le-sum_by (λ (e : DictionaryEntry). position_count e.postings) parts.entries k d h in
    let all = small.few_positions in
    record {
      term = (small.lawful.terms k d h).term.short;
      documents = omega (arith, documents_few entry.postings (small.lawful.terms k d h).ordered.each);
      size = omega (arith, list_short 0 (2 ^ 28) entry.postings (small.postings k d h) (omega arith));
    }

-- each term has a position
entries_few : (entries : List DictionaryEntry) → All (λ entry. 0 < position_count entry.postings) entries → length entries ≤ sum_by (λ entry. position_count entry.postings) entries
entries_few [] some = omega arith
entries_few (entry ∷ entries) some =
    let P = λ (e : DictionaryEntry). 0 < position_count e.postings in
    omega (arith, All-head P entry entries some, entries_few entries (All-tail P entry entries some), sum_by-cons (λ (e : DictionaryEntry). position_count e.postings) entry entries)

pub few_entries : (parts : Parts) → AreSmall parts → length parts.entries ≤ 2 ^ 28
few_entries parts small = omega (
  arith,
  small.few_positions,
  entries_few parts.entries (λ k d h.
      let is = (small.lawful.terms k d h).ordered in
      omega (arith, is.some, documents_few (get_or parts.entries k d).postings is.each)),
)

counts_short : (entry : DictionaryEntry) → IsSmallEntry entry → length (entry_counts entry) ≤ 10
counts_short entry is =
    omega (
      arith,
      length-code_of (length entry.postings) is.documents,
      length-code_of (length (list_bytes entry.postings)) is.size,
      length-append (code_of (length entry.postings)) (code_of (length (list_bytes entry.postings))),
    )

grouped_short : (place : ℕ) (before term : List ℕ) → length term ≤ 255 → length (grouped place before term) ≤ 265
grouped_short place before term short = either (nat_eq (place % 4) 0)
  where
    either : (b : Bool) → length (cond b (counted term) (front_coded before term)) ≤ 265
    either true = omega (arith, counted_short term short)
    either false =
        let n = common_prefix_len nat_eq before term in
        let within = (common_prefix_len-le nat_eq before term).1 in
        omega (arith, length-code_of n (omega arith), counted_short (drop n term) (omega (arith, length-drop n term)), length-append (code_of n) (counted (drop n term)))

front_coded_short : (place : ℕ) (before : List ℕ) (entries : List DictionaryEntry) → All IsSmallEntry entries → length (front_coded_from place before entries) ≤ length entries * 275
front_coded_short place before [] are = omega arith
front_coded_short place before (entry ∷ entries) are =
    let is = All-head IsSmallEntry entry entries are in
    let first = grouped_short place before entry.term is.term in
    let second = counts_short entry is in
    let others = front_coded_short (place + 1) entry.term entries (All-tail IsSmallEntry entry entries are) in
    let more = front_coded_from (place + 1) entry.term entries in
    omega (
      arith,
      first,
      second,
      others,
      length-append (grouped place before entry.term) (entry_counts entry),
      length-append (grouped place before entry.term ++ entry_counts entry) more,
    )

dictionary_short : (version : Version) (entries : List DictionaryEntry) → All IsSmallEntry entries → length (dictionary_section version entries) ≤ length entries * 275
unfolding dictionary_section
dictionary_short Plain entries are =
    flat_map_short (λ (entry : DictionaryEntry). counted entry.term ++ entry_counts entry) 275 entries
    (All-weaker IsSmallEntry (λ entry. length (counted entry.term ++ entry_counts entry) ≤ 275) (λ entry is. omega (arith, counted_short entry.term is.term, counts_short entry is, length-append (counted entry.term) (entry_counts entry))) entries are)
dictionary_short FrontCoded entries are = front_coded_short 0 [] entries are

pub length-dictionary_section : (version : Version) (parts : Parts) → AreSmall parts → length (dictionary_section version parts.entries) < 2 ^ 64
length-dictionary_section version parts small = omega (arith, few_entries parts small, dictionary_short version parts.entries (small_entries parts small))
