-- How many bytes the entries of an index text take at least.
use Rattle.std.proofs.Common.{◌≡◌, ℕ, ◌+◌, ◌-◌, ◌*◌, ◌%◌, ◌<◌, ◌≤◌, List, [], ◌∷◌, ◌++◌, length, get_or, drop, flat_map, nat_eq, All, sum_by, suc, Bool, true, false, cond, sym, ap, ◌∙◌, subst, arith, length-append}
use Rattle.std.proofs.lemmas.List.{length-map}
use Rattle.std.proofs.lemmas.List.Concat.{length-flat_map}
use Rattle.std.proofs.lemmas.List.Elements.{All-head, All-tail, All-weaker}
use Rattle.std.proofs.lemmas.List.Sums.{sum_by-cons}
use Rattle.std.specs.List.{common_prefix_len}
use Rattle.ix_text.specs.Parts.{Parts, Posting, DictionaryEntry, DocumentRow, GramEntry, IsGramEntry, IsTermPosting, terms_of}
use Rattle.ix_text.specs.PartsLaws.{AreLawful}
use Rattle.ix_text.specs.Terms.{IsTerm}
use Rattle.ix_text.proofs.PartsLawful.{lawful_parts}
use Rattle.ix_vbyte.specs.Code.{code_of}
use Rattle.ix_vbyte.specs.Gaps.{gaps_from, gaps_of}
use Rattle.ix_vbyte.specs.Postings.{codes_of, posting_bytes, list_bytes, list_bytes_from}
use Rattle.ix_vbyte.specs.Texts.{counted}
use Rattle.ix_vbyte.proofs.Values.{some_code_byte}
use Rattle.ix_index_text.specs.IndexText.{layout, tail}
use Rattle.ix_index_text.specs.Sections.{Version, Plain, FrontCoded, postings_section, stop_section, documents_section, entry_counts, front_coded, grouped, front_coded_from, dictionary_section, grams_section}
use Rattle.ix_file.specs.SizeLaws.{HasBytesForEntries}
use Rattle.ix_index_text.proofs.GramLists.{one_gram_list}
use Rattle.ix_text.proofs.OneParts.{one_vocabulary}
use Rattle.ix_index_text.proofs.TextLaws.{length-magic, length-end_mark}

-- ---- pieces of some bytes each

sum_long : {X : Type 0} (f : X → ℕ) (least : ℕ) (xs : List X) → All (λ x. least ≤ f x) xs → length xs * least ≤ sum_by f xs
sum_long f least [] all = omega arith
sum_long {X} f least (x ∷ xs) all =
    let P = λ (y : X). least ≤ f y in
    let one = All-head P x xs all in
    let rest = sum_long f least xs (All-tail P x xs all) in
    subst (λ (n : ℕ). suc (length xs) * least ≤ n) (sym (sum_by-cons f x xs)) (omega arith)

long : {X : Type 0} (piece : X → List ℕ) (least : ℕ) (xs : List X) → All (λ x. least ≤ length (piece x)) xs → length xs * least ≤ length (flat_map piece xs)
long {X} piece least xs all = omega (arith, length-flat_map piece xs, sum_long (λ (x : X). length (piece x)) least xs all)

counted_long : (text : List ℕ) → length text + 1 ≤ length (counted text)
counted_long text = omega (arith, some_code_byte (length text), length-append (code_of (length text)) text)

gaps_long : (next : ℕ) (xs : List ℕ) → 0 < length xs → 1 ≤ length (codes_of (gaps_from next xs))
gaps_long next [] some = omega arith
gaps_long next (x ∷ xs) some = omega (arith, some_code_byte (x + 1 - next), length-append (code_of (x + 1 - next)) (codes_of (gaps_from (x + 1) xs)))

-- ---- STOP and DOCS

stop_long : (stop : List (List ℕ)) → All IsTerm stop → length stop * 2 ≤ length (stop_section stop)
unfolding stop_section
stop_long stop are = long counted 2 stop (All-weaker IsTerm (λ (term : List ℕ). 2 ≤ length (counted term)) (λ term is. omega (arith, counted_long term, is.some_byte)) stop are)

rows_long : (rows : List DocumentRow) → length rows * 2 ≤ length (documents_section rows)
unfolding documents_section
rows_long rows = long (λ (row : DocumentRow). counted row.name ++ code_of row.tokens) 2 rows row_long
  where
    row_long : All (λ row. 2 ≤ length (counted row.name ++ code_of row.tokens)) rows
    row_long k d h =
        let row = get_or rows k d in
        omega (arith, counted_long row.name, some_code_byte row.tokens, length-append (counted row.name) (code_of row.tokens))

-- ---- POSTINGS

posting_long : (gap : ℕ) (posting : Posting) → 0 < length posting.1 → 3 ≤ length (posting_bytes gap posting)
posting_long gap posting some =
    let first = some_code_byte gap in
    let second = some_code_byte (length posting.1) in
    let third = gaps_long 0 posting.1 some in
    simp length-append (omega (arith, first, second, third))

list_long : (next : ℕ) (postings : List Posting) → 0 < length postings → All IsTermPosting postings → 3 ≤ length (list_bytes_from next postings)
list_long next [] some are = absurd (omega arith)
list_long next (p ∷ ps) some are =
    omega (arith, posting_long (p.0 + 1 - next) p (All-head IsTermPosting p ps are).0, length-append (posting_bytes (p.0 + 1 - next) p) (list_bytes_from (p.0 + 1) ps))

lists_long : (parts : Parts) → AreLawful parts → length parts.entries * 3 ≤ length (postings_section parts.entries)
unfolding postings_section
lists_long parts are = long (λ (entry : DictionaryEntry). list_bytes entry.postings) 3 parts.entries each
  where
    each : All (λ entry. 3 ≤ length (list_bytes entry.postings)) parts.entries
    each k d h =
        let is = (are.terms k d h).ordered in
        list_long 0 (get_or parts.entries k d).postings is.some is.each

-- ---- DICTIONARY

counts_long : (entry : DictionaryEntry) → 2 ≤ length (entry_counts entry)
counts_long entry =
    omega (
      arith,
      some_code_byte (length entry.postings),
      some_code_byte (length (list_bytes entry.postings)),
      length-append (code_of (length entry.postings)) (code_of (length (list_bytes entry.postings))),
    )

grouped_long : (place : ℕ) (before term : List ℕ) → 0 < length term → 2 ≤ length (grouped place before term)
grouped_long place before term some = either (nat_eq (place % 4) 0)
  where
    either : (b : Bool) → 2 ≤ length (cond b (counted term) (front_coded before term))
    either true = omega (arith, some, counted_long term)
    either false =
        let n = common_prefix_len nat_eq before term in
        omega (arith, some_code_byte n, counted_long (drop n term), length-append (code_of n) (counted (drop n term)))

front_coded_long : (place : ℕ) (before : List ℕ) (entries : List DictionaryEntry) → All (λ entry. 0 < length entry.term) entries → length entries * 4 ≤ length (front_coded_from place before entries)
front_coded_long place before [] some = omega arith
front_coded_long place before (entry ∷ entries) some =
    let P = λ (e : DictionaryEntry). 0 < length e.term in
    let first = grouped_long place before entry.term (All-head P entry entries some) in
    let counts = counts_long entry in
    let rest = front_coded_long (place + 1) entry.term entries (All-tail P entry entries some) in
    let more = front_coded_from (place + 1) entry.term entries in
    omega (
      arith,
      first,
      counts,
      rest,
      length-append (grouped place before entry.term) (entry_counts entry),
      length-append (grouped place before entry.term ++ entry_counts entry) more,
    )

dictionary_long : (version : Version) (entries : List DictionaryEntry) → All (λ entry. 0 < length entry.term) entries → length entries * 4 ≤ length (dictionary_section version entries)
unfolding dictionary_section
dictionary_long Plain entries some = long (λ (entry : DictionaryEntry). counted entry.term ++ entry_counts entry) 4 entries each
  where
    each : All (λ entry. 4 ≤ length (counted entry.term ++ entry_counts entry)) entries
    each k d h =
        let entry = get_or entries k d in
        omega (arith, some k d h, counted_long entry.term, counts_long entry, length-append (counted entry.term) (entry_counts entry))
dictionary_long FrontCoded entries some = front_coded_long 0 [] entries some

-- ---- GRAMS

grams_long : (grams : List GramEntry) → All IsGramEntry grams → length grams * 3 ≤ length (grams_section grams)
unfolding grams_section
grams_long grams are = long (λ (entry : GramEntry). counted entry.gram ++ code_of (length entry.numbers) ++ codes_of (gaps_of entry.numbers)) 3 grams each
  where
    each : All (λ entry. 3 ≤ length (counted entry.gram ++ code_of (length entry.numbers) ++ codes_of (gaps_of entry.numbers))) grams
    each k d h =
        let entry = get_or grams k d in
        omega (
          arith,
          counted_long entry.gram,
          some_code_byte (length entry.numbers),
          gaps_long 0 entry.numbers (are k d h).0,
          length-append (counted entry.gram) (code_of (length entry.numbers)),
          length-append (counted entry.gram ++ code_of (length entry.numbers)) (codes_of (gaps_of entry.numbers)),
        )

-- ---- the text

parts_long : (version : Version) (parts : Parts) (grams : List GramEntry) (bytes : List ℕ) → AreLawful parts → All IsGramEntry grams → bytes ≡ layout version parts grams
    → 64 + 2 * length parts.stop + 2 * length parts.rows + 7 * length parts.entries + 3 * length grams ≤ length bytes
unfolding layout tail
parts_long version parts grams bytes are each spelled =
    let e = ap length spelled in
    let simple = simp length-append at e in
    let stop = stop_long parts.stop are.stop_terms in
    let rows = rows_long parts.rows in
    let lists = lists_long parts are in
    let dictionary = dictionary_long version parts.entries (λ k d h. (are.terms k d h).term.some_byte) in
    omega (arith, simple, length-magic version, length-end_mark version, stop, rows, lists, dictionary, grams_long grams each)

pub bytes_for_entries : HasBytesForEntries
bytes_for_entries opened version collection bytes is text =
    let of = text.of_collection in
    let more = text.grams_of_collection in
    let least = parts_long version text.parts text.grams bytes (lawful_parts collection text.parts text.lawful of) more.each text.spelled in
    let terms = one_vocabulary collection (terms_of opened.parts.entries) (terms_of text.parts.entries) is.parts.vocabulary of.vocabulary in
    let grams = one_gram_list opened.grams text.grams is.grams.ascending more.ascending is.grams.each more.each
    (λ g n. (λ has. (more.related g n).1 ((is.grams.related g n).0 has), λ has. (is.grams.related g n).1 ((more.related g n).0 has))) in
    let same_stop = ap length (is.parts.stop ∙ sym of.stop) in
    let same_rows = ap length (is.parts.rows ∙ sym of.rows) in
    let same_terms = ap length terms in
    let same_grams = ap length grams in
    let term = λ (entry : DictionaryEntry). entry.term in
    omega (arith, least, same_stop, same_rows, same_terms, same_grams, length-map opened.parts.entries term, length-map text.parts.entries term)
