-- The frame of an index text: it holds the sections of the parts, and a text has one frame.
use Rattle.std.proofs.Common.{◌≡◌, ℕ, ◌^◌, ◌<◌, List, [], ◌++◌, length, sym, ap, ◌∙◌, arith, length-append}
use Rattle.std.proofs.lemmas.List.{append_assoc}
use Rattle.ix_text.specs.Parts.{GramEntry, Parts}
use Rattle.ix_vbyte.proofs.Pieces.{fronts_apart}
use Rattle.ix_file.specs.Frames.{FileSectionTexts, IsCutInto, counts, eight, four, framed, joined_sections, lengths}
use Rattle.ix_index_text.specs.IndexText.{end_mark, layout, magic, tail}
use Rattle.ix_index_text.specs.Sections.{Version}
use Rattle.ix_file.specs.Spelled.{AreSectionsOf, sections_of}
use Rattle.ix_file.proofs.FrameReading.{eight_apart, four_apart, frame_of, length-four, length-lengths, one_mark}
use Rattle.ix_index_text.proofs.TextLaws.{length-end_mark, length-magic}

-- the bytes of parts and grams are the frame of their sections
pub layout_framed : (version : Version) (parts : Parts) (grams : List GramEntry) → layout version parts grams ≡ framed version (sections_of version parts grams) (length parts.rows) (length parts.entries)
unfolding layout tail framed eight four
layout_framed version parts grams = simp append_assoc

pub sections_framed : (version : Version) (parts : Parts) (grams : List GramEntry) (texts : FileSectionTexts) (documents terms : ℕ) → AreSectionsOf version parts grams texts documents terms → framed version texts documents terms ≡ layout version parts grams
sections_framed version parts grams texts documents terms is =
    let with_texts : FileSectionTexts → List ℕ = λ t. framed version t documents terms in
    let with_documents : ℕ → List ℕ = λ n. framed version (sections_of version parts grams) n terms in
    let with_terms : ℕ → List ℕ = λ n. framed version (sections_of version parts grams) (length parts.rows) n in
    ap with_texts is.spelled ∙ ap with_documents is.document_count ∙ ap with_terms is.term_count ∙ sym (layout_framed version parts grams)

-- ---- one frame

cut_there : (version : Version) (texts : FileSectionTexts) (documents terms : ℕ) (bytes : List ℕ) → bytes ≡ framed version texts documents terms → IsCutInto bytes (magic version) (joined_sections texts) (lengths texts) (counts documents terms) (end_mark version)
unfolding framed
cut_there version texts documents terms bytes e = record {
  whole = e;
  mark_length = length-magic version;
  sizes_length = length-lengths texts;
  numbers_length = omega (arith, length-four documents, length-four terms, length-append (four documents) (four terms));
  final_length = length-end_mark version;
}

-- each section is as short as the text
pub record AreShort (texts : FileSectionTexts) : Type 0 where
  pub postings : length texts.postings < 2 ^ 64
  pub stop : length texts.stop < 2 ^ 64
  pub documents : length texts.documents < 2 ^ 64
  pub dictionary : length texts.dictionary < 2 ^ 64
  pub grams : length texts.grams < 2 ^ 64

short : (version : Version) (texts : FileSectionTexts) (documents terms : ℕ) (bytes : List ℕ) → length bytes < 2 ^ 64 → bytes ≡ framed version texts documents terms → AreShort texts
unfolding framed
short version texts documents terms bytes few e =
    let size = simp length-append at (ap length e) in
    record { postings = omega (arith, few, size); stop = omega (arith, few, size); documents = omega (arith, few, size); dictionary = omega (arith, few, size); grams = omega (arith, few, size) }

same_texts : (one other : FileSectionTexts) → AreShort one → AreShort other → lengths one ≡ lengths other → joined_sections one ≡ joined_sections other → one ≡ other
same_texts one other few also sizes bodies =
    let a = eight_apart _ _ _ _ few.postings also.postings sizes in
    let b = eight_apart _ _ _ _ few.stop also.stop a.1 in
    let c = eight_apart _ _ _ _ few.documents also.documents b.1 in
    let d = eight_apart _ _ _ _ few.dictionary also.dictionary c.1 in
    let postings = fronts_apart one.postings other.postings _ _ a.0 bodies in
    let stop = fronts_apart one.stop other.stop _ _ b.0 postings.1 in
    let documents = fronts_apart one.documents other.documents _ _ c.0 stop.1 in
    let dictionary = fronts_apart one.dictionary other.dictionary one.grams other.grams d.0 documents.1 in
    let with_a : List ℕ → FileSectionTexts = λ x. record { postings = x; stop = one.stop; documents = one.documents; dictionary = one.dictionary; grams = one.grams } in
    let with_b : List ℕ → FileSectionTexts = λ x. record { postings = other.postings; stop = x; documents = one.documents; dictionary = one.dictionary; grams = one.grams } in
    let with_c : List ℕ → FileSectionTexts = λ x. record { postings = other.postings; stop = other.stop; documents = x; dictionary = one.dictionary; grams = one.grams } in
    let with_d : List ℕ → FileSectionTexts = λ x. record { postings = other.postings; stop = other.stop; documents = other.documents; dictionary = x; grams = one.grams } in
    let with_e : List ℕ → FileSectionTexts = λ x. record { postings = other.postings; stop = other.stop; documents = other.documents; dictionary = other.dictionary; grams = x } in
    ap with_a postings.0 ∙ ap with_b stop.0 ∙ ap with_c documents.0 ∙ ap with_d dictionary.0 ∙ ap with_e dictionary.1

-- two frames of one text
pub record IsSameFrame (version another : Version) (texts more : FileSectionTexts) (documents terms m n : ℕ) : Type 0 where
  pub same_version : version ≡ another
  pub same_texts : texts ≡ more
  pub same_documents : documents ≡ m
  pub same_terms : terms ≡ n

pub one_frame : (bytes : List ℕ) (version another : Version) (texts more : FileSectionTexts) (documents terms m n : ℕ) → length bytes < 2 ^ 64 → documents < 2 ^ 32 → terms < 2 ^ 32 → m < 2 ^ 32 → n < 2 ^ 32
    → bytes ≡ framed version texts documents terms → bytes ≡ framed another more m n → IsSameFrame version another texts more documents terms m n
one_frame bytes version another texts more documents terms m n few a b c d e f =
    let is = frame_of bytes (magic version) (joined_sections texts) (lengths texts) (counts documents terms) (end_mark version) (cut_there version texts documents terms bytes e) another more m n f in
    let numbers = four_apart documents m (four terms) (four n) a c is.numbers_are in
    record {
      same_version = one_mark version another is.mark_is;
      same_texts = same_texts texts more (short version texts documents terms bytes few e) (short another more m n bytes few f) is.sizes_are is.body_is;
      same_documents = numbers.0;
      same_terms = (four_apart terms n [] [] b d (ap (λ xs. xs ++ []) numbers.1)).0;
    }
