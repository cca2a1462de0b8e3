-- The trailer tells the sizes of the sections.
use Rattle.std.proofs.Common.{◌≡◌, ℕ, ◌+◌, ◌^◌, ◌<◌, List, [], ◌++◌, length, sym, ap, ◌∙◌, arith, length-append}
use Rattle.std.proofs.lemmas.List.{append-nil}
use Rattle.ix_vbyte.proofs.Pieces.{fronts_apart}
use Rattle.ix_index_text.proofs.TextLaws.{length-magic}
use Rattle.ix_index_text.specs.IndexText.{end_mark, magic}
use Rattle.ix_index_text.specs.Sections.{Version}
use Rattle.ix_file.specs.Frames.{FileSectionTexts, counts, eight, four, joined_sections, lengths}
use Rattle.ix_file.proofs.FrameReading.{eight_apart, four_apart, length-four, length-lengths}
use Rattle.ix_extract.specs.Trailers.{AreEnds, AreSmall, ends_of, sizes_bytes, sum_of}
use Rattle.ix_extract.specs.declared.trailer.Ends.{Ends}
use Rattle.ix_extract.specs.declared.trailer.Sizes.{Sizes}

-- sizes that are those of the sections
pub record AreSizesOf (texts : FileSectionTexts) (sizes : Sizes) : Type 0 where
  pub postings : sizes.postings ≡ length texts.postings
  pub stop : sizes.stop ≡ length texts.stop
  pub documents : sizes.documents ≡ length texts.documents
  pub dictionary : sizes.dictionary ≡ length texts.dictionary
  pub grams : sizes.grams ≡ length texts.grams

pub length-joined : (texts : FileSectionTexts) → length (joined_sections texts) ≡ length texts.postings + length texts.stop + length texts.documents + length texts.dictionary + length texts.grams
length-joined texts =
    omega (
      arith,
      length-append texts.postings (texts.stop ++ (texts.documents ++ (texts.dictionary ++ texts.grams))),
      length-append texts.stop (texts.documents ++ (texts.dictionary ++ texts.grams)),
      length-append texts.documents (texts.dictionary ++ texts.grams),
      length-append texts.dictionary texts.grams,
    )

pub sizes_told : (texts : FileSectionTexts) (sizes : Sizes) (left : ℕ) → left < 2 ^ 64 → AreSmall sizes → length (joined_sections texts) ≡ left → lengths texts ≡ sizes_bytes sizes → AreSizesOf texts sizes
sizes_told texts sizes left short small sum told =
    let all = length-joined texts in
    let a = eight_apart sizes.postings (length texts.postings) _ _ small.postings (omega arith) (sym told) in
    let b = eight_apart sizes.stop (length texts.stop) _ _ small.stop (omega arith) a.1 in
    let c = eight_apart sizes.documents (length texts.documents) _ _ small.documents (omega arith) b.1 in
    let d = eight_apart sizes.dictionary (length texts.dictionary) _ _ small.dictionary (omega arith) c.1 in
    let g = eight_apart sizes.grams (length texts.grams) [] [] small.grams (omega arith) (append-nil (eight sizes.grams) ∙ d.1 ∙ sym (append-nil (eight (length texts.grams)))) in
    record { postings = a.0; stop = b.0; documents = c.0; dictionary = d.0; grams = g.0 }

pub sizes_sum : (texts : FileSectionTexts) (sizes : Sizes) → AreSizesOf texts sizes → sum_of sizes ≡ length (joined_sections texts)
sizes_sum texts sizes are = omega (arith, are.postings, are.stop, are.documents, are.dictionary, are.grams, length-joined texts)

-- what was cut, of an index text
pub record AreEndsOf (ends : Ends) (version : Version) (texts : FileSectionTexts) (documents terms : ℕ) : Type 0 where
  pub mark_is : ends.mark.now ≡ magic version
  pub sizes_are : lengths texts ≡ ends.sizes.now
  pub counts_are : counts documents terms ≡ ends.counts.now
  pub end_mark_is : ends.end_mark.now ≡ end_mark version

pub ends_told : (bytes : List ℕ) (ends : Ends) → AreEnds bytes ends → (version : Version) (texts : FileSectionTexts) (documents terms : ℕ) → bytes ≡ ends_of version texts documents terms → AreEndsOf ends version texts documents terms
ends_told bytes ends are version texts documents terms e =
    let numbers = lengths texts ++ counts documents terms in
    let cut = ends.sizes.now ++ ends.counts.now in
    let size : length cut ≡ length numbers =
    omega (arith, are.sizes_length, are.counts_length, length-lengths texts, length-four documents, length-four terms, length-append (four documents) (four terms), length-append (lengths texts) (counts documents terms), length-append ends.sizes.now ends.counts.now) in
    let one = fronts_apart ends.mark.now (magic version) (cut ++ ends.end_mark.now) (numbers ++ end_mark version) (are.mark_length ∙ sym (length-magic version)) (sym are.whole ∙ e) in
    let two = fronts_apart cut numbers ends.end_mark.now (end_mark version) size one.1 in
    let three = fronts_apart ends.sizes.now (lengths texts) ends.counts.now (counts documents terms) (are.sizes_length ∙ sym (length-lengths texts)) two.0 in
    record { mark_is = one.0; sizes_are = sym three.0; counts_are = sym three.1; end_mark_is = two.1 }

pub counts_told : (documents terms m n : ℕ) → documents < 2 ^ 32 → terms < 2 ^ 32 → m < 2 ^ 32 → n < 2 ^ 32 → counts documents terms ≡ counts m n → (m ≡ documents) × (n ≡ terms)
counts_told documents terms m n a b c d e =
    let one = four_apart documents m (four terms) (four n) a c e in
    (sym one.0, sym (four_apart terms n [] [] b d (ap (λ xs. xs ++ []) one.1)).0)
