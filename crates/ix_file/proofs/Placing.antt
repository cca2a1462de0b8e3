-- The sections of framed bytes stand where their lengths say.
use Rattle.std.proofs.Common.{◌≡◌, ℕ, ◌+◌, List, ◌++◌, length, slice_range, sym, ap, ◌∙◌, arith, length-append}
use Rattle.std.proofs.lemmas.List.{append_assoc}
use Rattle.ix_file.specs.Frames.{FileSectionTexts, counts, framed, lengths}
use Rattle.ix_index_text.specs.IndexText.{end_mark, magic}
use Rattle.ix_file.specs.Places.{ArePlacesIn, IsFramed, texts_at}
use Rattle.ix_file.proofs.FrameReading.{length-eight, length-four}
use Rattle.ix_file.proofs.RowReading.{part_at}
use Rattle.ix_index_text.proofs.TextLaws.{length-end_mark, length-magic}

pub framed_size : (bytes : List ℕ) (texts : FileSectionTexts) → IsFramed bytes texts → length bytes ≡ 64 + length texts.postings + length texts.stop + length texts.documents + length texts.dictionary + length texts.grams
unfolding framed
framed_size bytes texts is =
    let size = simp (length-append, length-eight, length-four) at (ap length is.framed) in
    omega (arith, size, length-magic is.version, length-end_mark is.version)

-- where each section begins, and where the last ends
pub record AreLengths (texts : FileSectionTexts) (stop documents dictionary grams end : ℕ) : Type 0 where
  pub stop_is : stop ≡ 8 + length texts.postings
  pub documents_is : documents ≡ stop + length texts.stop
  pub dictionary_is : dictionary ≡ documents + length texts.documents
  pub grams_is : grams ≡ dictionary + length texts.dictionary
  pub end_is : end ≡ grams + length texts.grams

pub placed : (bytes : List ℕ) (texts : FileSectionTexts) (stop documents dictionary grams end : ℕ) → IsFramed bytes texts → AreLengths texts stop documents dictionary grams end → ArePlacesIn bytes (record { stop = stop; documents = documents; dictionary = dictionary; grams = grams; end = end })
placed bytes texts stop documents dictionary grams end is are =
    let size = framed_size bytes texts is in
    let a = are.stop_is in
    let b = are.documents_is in
    let c = are.dictionary_is in
    let d = are.grams_is in
    let e = are.end_is in
    record { stop = omega arith; documents = omega arith; dictionary = omega arith; grams = omega arith; end = omega arith; within = omega arith }

-- a part from its start to its end
part_to : (bytes before part rest : List ℕ) (start end : ℕ) → bytes ≡ before ++ (part ++ rest) → start ≡ length before → end ≡ start + length part → slice_range bytes start end ≡ part
part_to bytes before part rest start end is at to = ap (λ n. slice_range bytes start n) to ∙ part_at bytes before part rest start is at

pub texts_placed : (bytes : List ℕ) (texts : FileSectionTexts) (stop documents dictionary grams end : ℕ) → IsFramed bytes texts → AreLengths texts stop documents dictionary grams end → texts_at bytes (record { stop = stop; documents = documents; dictionary = dictionary; grams = grams; end = end }) ≡ texts
unfolding framed
texts_placed bytes texts stop documents dictionary grams end is are =
    let mark = magic is.version in
    let rest = (lengths texts ++ counts is.documents is.terms) ++ end_mark is.version in
    let one : bytes ≡ mark ++ (texts.postings ++ (texts.stop ++ (texts.documents ++ (texts.dictionary ++ (texts.grams ++ rest))))) = is.framed ∙ ap (λ xs. mark ++ xs) (simp append_assoc) in
    let two : bytes ≡ (mark ++ texts.postings) ++ (texts.stop ++ (texts.documents ++ (texts.dictionary ++ (texts.grams ++ rest)))) = one ∙ simp append_assoc in
    let three : bytes ≡ ((mark ++ texts.postings) ++ texts.stop) ++ (texts.documents ++ (texts.dictionary ++ (texts.grams ++ rest))) = one ∙ simp append_assoc in
    let four : bytes ≡ (((mark ++ texts.postings) ++ texts.stop) ++ texts.documents) ++ (texts.dictionary ++ (texts.grams ++ rest)) = one ∙ simp append_assoc in
    let five : bytes ≡ ((((mark ++ texts.postings) ++ texts.stop) ++ texts.documents) ++ texts.dictionary) ++ (texts.grams ++ rest) = one ∙ simp append_assoc in
    let size = length-magic is.version in
    let a = are.stop_is in
    let b = are.documents_is in
    let c = are.dictionary_is in
    let d = are.grams_is in
    let e = are.end_is in
    let l1 = length-append mark texts.postings in
    let l2 = length-append (mark ++ texts.postings) texts.stop in
    let l3 = length-append ((mark ++ texts.postings) ++ texts.stop) texts.documents in
    let l4 = length-append (((mark ++ texts.postings) ++ texts.stop) ++ texts.documents) texts.dictionary in
    let p1 = part_to bytes mark texts.postings _ 8 stop one (sym size) a in
    let p2 = part_to bytes (mark ++ texts.postings) texts.stop _ stop documents two (omega arith) b in
    let p3 = part_to bytes ((mark ++ texts.postings) ++ texts.stop) texts.documents _ documents dictionary three (omega arith) c in
    let p4 = part_to bytes (((mark ++ texts.postings) ++ texts.stop) ++ texts.documents) texts.dictionary _ dictionary grams four (omega arith) d in
    let p5 = part_to bytes ((((mark ++ texts.postings) ++ texts.stop) ++ texts.documents) ++ texts.dictionary) texts.grams rest grams end five (omega arith) e in
    let with_1 : List ℕ → FileSectionTexts = λ x. record { postings = x; stop = slice_range bytes stop documents; documents = slice_range bytes documents dictionary; dictionary = slice_range bytes dictionary grams; grams = slice_range bytes grams end } in
    let with_2 : List ℕ → FileSectionTexts = λ x. record { postings = texts.postings; stop = x; documents = slice_range bytes documents dictionary; dictionary = slice_range bytes dictionary grams; grams = slice_range bytes grams end } in
    let with_3 : List ℕ → FileSectionTexts = λ x. record { postings = texts.postings; stop = texts.stop; documents = x; dictionary = slice_range bytes dictionary grams; grams = slice_range bytes grams end } in
    let with_4 : List ℕ → FileSectionTexts = λ x. record { postings = texts.postings; stop = texts.stop; documents = texts.documents; dictionary = x; grams = slice_range bytes grams end } in
    let with_5 : List ℕ → FileSectionTexts = λ x. record { postings = texts.postings; stop = texts.stop; documents = texts.documents; dictionary = texts.dictionary; grams = x } in
    ap with_1 p1 ∙ ap with_2 p2 ∙ ap with_3 p3 ∙ ap with_4 p4 ∙ ap with_5 p5
