-- An index text, cut by its trailer, tells its version and its collection.
use Rattle.std.proofs.Common.{◌≡◌, ℕ, ◌^◌, ◌<◌, List, [], ◌++◌, length, get_or, flat_map, refl, sym, ap, ◌∙◌, subst, arith, length-append}
use Rattle.std.proofs.lemmas.List.{append_assoc, append_cancel_left}
use Rattle.std.proofs.lemmas.Nat.{from_le_bytes-to_le_bytes_8}
use Rattle.std.specs.Int.{from_le_bytes, to_le_bytes, w32, w64}
use Rattle.ix_text.specs.Collections.{Collection}
use Rattle.ix_text.specs.Parts.{Parts, DocumentRow, GramEntry, ArePartsOf}
use Rattle.ix_text.proofs.PartsLemmas.{same_collection, same_parts_fields, same_row_fields}
use Rattle.ix_vbyte.specs.Code.{code_of}
use Rattle.ix_vbyte.specs.Texts.{counted}
use Rattle.ix_vbyte.proofs.Pieces.{AreApart, fronts_apart, pieces_before_end}
use Rattle.ix_vbyte.proofs.Texts.{counted-apart, counted_number-apart}
use Rattle.ix_vbyte.proofs.Values.{some_code_byte}
use Rattle.ix_index_text.specs.IndexText.{IsIndexText, magic, end_mark, tail, layout}
use Rattle.ix_index_text.specs.Sections.{Version, Plain, FrontCoded, postings_section, stop_section, documents_section, dictionary_section, grams_section}
use Rattle.ix_index_text.proofs.DictionaryTold.{dictionary_told, lists_told}
use Rattle.ix_index_text.proofs.SectionSizes.{AreSmall, small_parts, length-postings_section, length-stop_section, length-documents_section, length-dictionary_section}
use Rattle.ix_index_text.proofs.TextLaws.{length-end_mark, version_byte, has_version_byte}

-- ---- sections without a count

-- pieces that are never empty, to the end of the text
pieces_to_end : {X : Type 0} (piece : X → List ℕ) → AreApart (λ _. Unit {0}) piece → ((x : X) → 0 < length (piece x)) → (xs ys : List X) → flat_map piece xs ≡ flat_map piece ys → xs ≡ ys
pieces_to_end piece apart some xs ys e =
    (pieces_before_end (λ _. Unit {0}) piece (λ bytes. bytes ≡ []) apart (λ x bytes _ none. omega (arith, ap length none, length-append (piece x) bytes, some x)) xs ys [] [] (λ k d h. tt) (λ k d h. tt) refl refl (ap (λ bytes. bytes ++ []) e)).0

pub stop_told : (one other : List (List ℕ)) → stop_section one ≡ stop_section other → one ≡ other
unfolding stop_section
stop_told one other e =
    pieces_to_end counted (λ text more xs ys _ _ same. counted-apart text more xs ys same) (λ text. omega (arith, some_code_byte (length text), length-append (code_of (length text)) text)) one other e

pub rows_told : (one other : List DocumentRow) → documents_section one ≡ documents_section other → one ≡ other
unfolding documents_section
rows_told one other e =
    pieces_to_end (λ (row : DocumentRow). counted row.name ++ code_of row.tokens) row_apart (λ row. omega (arith, some_code_byte row.tokens, length-append (counted row.name) (code_of row.tokens))) one other e
  where
    row_apart : AreApart (λ _. Unit {0}) (λ (row : DocumentRow). counted row.name ++ code_of row.tokens)
    row_apart row more xs ys _ _ same =
        let r = counted_number-apart row.name more.name row.tokens more.tokens xs ys same in
        (same_row_fields row more r.0 r.1, r.2)

entries_told : (version : Version) (one other : Parts) → AreSmall one → AreSmall other → dictionary_section version one.entries ≡ dictionary_section version other.entries → postings_section one.entries ≡ postings_section other.entries → one.entries ≡ other.entries
unfolding postings_section
entries_told version one other small also dictionary postings =
    lists_told (2 ^ 28) one.entries other.entries small.postings also.postings (dictionary_told version one.entries other.entries dictionary) postings

-- ---- the cut

-- the sections with their magic, and the trailer
abbrev pub body : Version → Parts → List GramEntry → List ℕ
body version parts grams =
    magic version ++ (postings_section parts.entries ++ (stop_section parts.stop ++ (documents_section parts.rows ++ (dictionary_section version parts.entries ++ grams_section grams))))

abbrev pub counts : Version → Parts → List GramEntry → List ℕ
counts version parts grams = to_le_bytes w64 (length (grams_section grams)) ++ (to_le_bytes w32 (length parts.rows) ++ (to_le_bytes w32 (length parts.entries) ++ end_mark version))

abbrev pub trailer : Version → Parts → List GramEntry → List ℕ
trailer version parts grams =
    to_le_bytes w64 (length (postings_section parts.entries))
    ++ (to_le_bytes w64 (length (stop_section parts.stop)) ++ (to_le_bytes w64 (length (documents_section parts.rows)) ++ (to_le_bytes w64 (length (dictionary_section version parts.entries)) ++ counts version parts grams)))

cut : (version : Version) (parts : Parts) (grams : List GramEntry) → layout version parts grams ≡ body version parts grams ++ trailer version parts grams
unfolding layout tail
cut version parts grams = simp append_assoc

length-trailer : (version : Version) (parts : Parts) (grams : List GramEntry) → length (trailer version parts grams) ≡ 56
length-trailer version parts grams = simp length-append (omega (arith, length-end_mark version))

eight_apart : (m n : ℕ) (xs ys : List ℕ) → m < 2 ^ 64 → n < 2 ^ 64 → to_le_bytes w64 m ++ xs ≡ to_le_bytes w64 n ++ ys → (m ≡ n) × (xs ≡ ys)
eight_apart m n xs ys small low e =
    let r = fronts_apart (to_le_bytes w64 m) (to_le_bytes w64 n) xs ys refl e in
    (sym (from_le_bytes-to_le_bytes_8 m small) ∙ ap (from_le_bytes w64) r.0 ∙ from_le_bytes-to_le_bytes_8 n low, r.1)

-- two lists that end alike are alike before
ends_apart : (xs ys rest other : List ℕ) → length rest ≡ length other → xs ++ rest ≡ ys ++ other → (xs ≡ ys) × (rest ≡ other)
ends_apart xs ys rest other l e = fronts_apart xs ys rest other (omega (arith, l, ap length e, length-append xs rest, length-append ys other)) e

pub parts_told : (version : Version) (one other : Parts) (grams more : List GramEntry) → AreSmall one → AreSmall other → layout version one grams ≡ layout version other more → one ≡ other
parts_told version one other grams more small also e =
    let ends = ends_apart (body version one grams) (body version other more) (trailer version one grams) (trailer version other more) (length-trailer version one grams ∙ sym (length-trailer version other more)) (sym (cut version one grams) ∙ e ∙ cut version other more) in
    let postings_length = eight_apart _ _ _ _ (length-postings_section one small) (length-postings_section other also) ends.1 in
    let stop_length = eight_apart _ _ _ _ (length-stop_section one small) (length-stop_section other also) postings_length.1 in
    let documents_length = eight_apart _ _ _ _ (length-documents_section one small) (length-documents_section other also) stop_length.1 in
    let dictionary_length = eight_apart _ _ _ _ (length-dictionary_section version one small) (length-dictionary_section version other also) documents_length.1 in
    let sections = append_cancel_left (magic version) _ _ ends.0 in
    let postings = fronts_apart _ _ _ _ postings_length.0 sections in
    let stop = fronts_apart _ _ _ _ stop_length.0 postings.1 in
    let documents = fronts_apart _ _ _ _ documents_length.0 stop.1 in
    let dictionary = fronts_apart _ _ _ _ dictionary_length.0 documents.1 in
    same_parts_fields one other (stop_told one.stop other.stop stop.0) (rows_told one.rows other.rows documents.0) (entries_told version one other small also dictionary.0 postings.0)

-- ---- the version

same_version : (version another : Version) → version_byte version ≡ version_byte another → version ≡ another
same_version Plain Plain e = refl
same_version Plain FrontCoded e = absurd (omega arith)
same_version FrontCoded Plain e = absurd (omega arith)
same_version FrontCoded FrontCoded e = refl

version_told : (version another : Version) (one other : Parts) (grams more : List GramEntry) → layout version one grams ≡ layout another other more → version ≡ another
version_told version another one other grams more e =
    same_version version another (sym (has_version_byte version one grams) ∙ ap (λ (bytes : List ℕ). get_or bytes 7 0) e ∙ has_version_byte another other more)

pub collection_told : (version : Version) (one other : Collection) (bytes : List ℕ) → IsIndexText version one bytes → IsIndexText version other bytes → one ≡ other
collection_told version one other bytes is also =
    let same = parts_told version is.parts also.parts is.grams also.grams (small_parts one is.parts is.lawful is.of_collection) (small_parts other also.parts also.lawful also.of_collection) (sym is.spelled ∙ also.spelled) in
    same_collection is.parts one other is.of_collection (subst (ArePartsOf other) (sym same) also.of_collection)

pub index_told : (version another : Version) (one other : Collection) (bytes : List ℕ) → IsIndexText version one bytes → IsIndexText another other bytes → (version ≡ another) × (one ≡ other)
index_told version another one other bytes is also =
    let same = version_told version another is.parts also.parts is.grams also.grams (sym is.spelled ∙ also.spelled) in
    (same, collection_told another one other bytes (subst (λ (v : Version). IsIndexText v one bytes) same is) also)
