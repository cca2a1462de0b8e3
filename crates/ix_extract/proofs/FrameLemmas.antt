-- Each section of a frame is where the trailer says.
use Rattle.std.proofs.Common.{◌≡◌, ℕ, ◌+◌, ◌-◌, List, [], ◌∷◌, ◌++◌, length, take, drop, All, slice_range, refl, sym, ap, ap₂, ◌∙◌, arith, length-append}
use Rattle.std.proofs.lemmas.List.{append-nil, append_assoc, drop-append-le, length-drop, take-append-le}
use Rattle.std.proofs.lemmas.List.Elements.{All-head, All-tail}
use Rattle.std.proofs.Math.Seq.{drop-append-add, drop-append_seam, take-append_seam}
use Rattle.ix_index_text.proofs.TextLaws.{length-end_mark, length-magic}
use Rattle.ix_index_text.specs.IndexText.{end_mark, magic}
use Rattle.ix_index_text.specs.Sections.{Version}
use Rattle.ix_file.specs.Frames.{FileSectionTexts, counts, four, framed, joined_sections, lengths}
use Rattle.ix_file.proofs.FrameReading.{length-four, length-lengths}
use Rattle.ix_lookup.specs.declared.found_term.FoundTerm.{FoundTerm}
use Rattle.ix_extract.specs.Gathered.{list_at, lists_at}
use Rattle.ix_extract.proofs.ChosenLemmas.{IsWithin, found_lists}

-- a part between others
pub part_at : (front part rest : List ℕ) (start : ℕ) → start ≡ length front → take (length part) (drop start (front ++ (part ++ rest))) ≡ part
part_at front part rest start is =
    ap (λ n. take (length part) (drop n (front ++ (part ++ rest)))) is ∙ ap (take (length part)) (drop-append_seam front (part ++ rest)) ∙ take-append_seam part rest

-- what stands behind the sections
abbrev pub trailer_of : Version → FileSectionTexts → ℕ → ℕ → List ℕ
trailer_of version texts documents terms = (lengths texts ++ counts documents terms) ++ end_mark version

pub length-trailer_of : (version : Version) (texts : FileSectionTexts) (documents terms : ℕ) → length (trailer_of version texts documents terms) ≡ 56
length-trailer_of version texts documents terms =
    omega (
      arith,
      length-lengths texts,
      length-four documents,
      length-four terms,
      length-end_mark version,
      length-append (four documents) (four terms),
      length-append (lengths texts) (counts documents terms),
      length-append (lengths texts ++ counts documents terms) (end_mark version),
    )

regroup_one : (m a b c d g e : List ℕ) → m ++ ((a ++ (b ++ (c ++ (d ++ g)))) ++ e) ≡ (m ++ a) ++ (b ++ (c ++ (d ++ (g ++ e))))
regroup_one m a b c d g e = simp append_assoc

regroup_two : (m a b c d g e : List ℕ) → m ++ ((a ++ (b ++ (c ++ (d ++ g)))) ++ e) ≡ ((m ++ a) ++ b) ++ (c ++ (d ++ (g ++ e)))
regroup_two m a b c d g e = simp append_assoc

regroup_three : (m a b c d g e : List ℕ) → m ++ ((a ++ (b ++ (c ++ (d ++ g)))) ++ e) ≡ (((m ++ a) ++ b) ++ c) ++ (d ++ (g ++ e))
regroup_three m a b c d g e = simp append_assoc

pub record AreRanges (bytes : List ℕ) (version : Version) (texts : FileSectionTexts) (documents terms : ℕ) : Type 0 where
  pub size : length bytes ≡ 64 + length (joined_sections texts)
  pub sections : length (joined_sections texts) ≡ length texts.postings + length texts.stop + length texts.documents + length texts.dictionary + length texts.grams
  pub mark_range : take 8 bytes ≡ magic version
  pub trailer_range : take 56 (drop (length bytes - 56) bytes) ≡ trailer_of version texts documents terms
  pub stop_range : take (length texts.stop) (drop (8 + length texts.postings) bytes) ≡ texts.stop
  pub documents_range : take (length texts.documents) (drop (8 + length texts.postings + length texts.stop) bytes) ≡ texts.documents
  pub dictionary_range : take (length texts.dictionary) (drop (8 + length texts.postings + length texts.stop + length texts.documents) bytes) ≡ texts.dictionary

pub ranges : (version : Version) (texts : FileSectionTexts) (documents terms : ℕ) → AreRanges (framed version texts documents terms) version texts documents terms
unfolding framed
ranges version texts documents terms =
    let mark = magic version in
    let eight = length-magic version in
    let end = trailer_of version texts documents terms in
    let body = joined_sections texts in
    let end_size = length-trailer_of version texts documents terms in
    let all = mark ++ (body ++ end) in
    let size : length all ≡ 64 + length body = omega (arith, eight, end_size, length-append mark (body ++ end), length-append body end) in
    let a = texts.postings in
    let b = texts.stop in
    let c = texts.documents in
    let d = texts.dictionary in
    let g = texts.grams in
    let one = regroup_one mark a b c d g end in
    let two = regroup_two mark a b c d g end in
    let three = regroup_three mark a b c d g end in
    let last : all ≡ (mark ++ body) ++ (end ++ []) = sym (append_assoc mark body end) ∙ ap (λ xs. (mark ++ body) ++ xs) (sym (append-nil end)) in
    let at_a : 8 + length a ≡ length (mark ++ a) = omega (arith, eight, length-append mark a) in
    let at_b : 8 + length a + length b ≡ length ((mark ++ a) ++ b) = omega (arith, at_a, length-append (mark ++ a) b) in
    let at_c : 8 + length a + length b + length c ≡ length (((mark ++ a) ++ b) ++ c) = omega (arith, at_b, length-append ((mark ++ a) ++ b) c) in
    let at_end : length all - 56 ≡ length (mark ++ body) = omega (arith, size, eight, length-append mark body) in
    record {
      size = size;
      sections = omega (arith, length-append a (b ++ (c ++ (d ++ g))), length-append b (c ++ (d ++ g)), length-append c (d ++ g), length-append d g);
      mark_range = ap (λ n. take n all) (sym eight) ∙ take-append_seam mark (body ++ end);
      trailer_range = ap (λ n. take n (drop (length all - 56) all)) (sym end_size) ∙ ap (λ xs. take (length end) (drop (length all - 56) xs)) last ∙ part_at (mark ++ body) end [] (length all - 56) at_end;
      stop_range = ap (λ xs. take (length b) (drop (8 + length a) xs)) one ∙ part_at (mark ++ a) b (c ++ (d ++ (g ++ end))) (8 + length a) at_a;
      documents_range = ap (λ xs. take (length c) (drop (8 + length a + length b) xs)) two ∙ part_at ((mark ++ a) ++ b) c (d ++ (g ++ end)) (8 + length a + length b) at_b;
      dictionary_range = ap (λ xs. take (length d) (drop (8 + length a + length b + length c) xs)) three ∙ part_at (((mark ++ a) ++ b) ++ c) d (g ++ end) (8 + length a + length b + length c) at_c;
    }

-- ---- lists

-- a list of POSTINGS, in the whole text
list_in : (mark postings rest : List ℕ) (one : FoundTerm) → length mark ≡ 8 → IsWithin (length postings) one → list_at (mark ++ (postings ++ rest)) (8 + one.start) one.size ≡ slice_range postings one.start (one.start + one.size)
list_in mark postings rest one eight within =
    let behind : drop (8 + one.start) (mark ++ (postings ++ rest)) ≡ drop one.start (postings ++ rest) =
    ap (λ n. drop (n + one.start) (mark ++ (postings ++ rest))) (sym eight) ∙ drop-append-add mark (postings ++ rest) one.start in
    let size : one.size ≡ one.start + one.size - one.start = omega arith in
    ap (take one.size) (behind ∙ drop-append-le one.start postings rest (omega (arith, within)))
    ∙ take-append-le one.size (drop one.start postings) rest (omega (arith, within, length-drop one.start postings))
    ∙ ap (λ n. take n (drop one.start postings)) size

lists_inside : (mark postings rest : List ℕ) (found : List FoundTerm) → length mark ≡ 8 → All (IsWithin (length postings)) found → lists_at (mark ++ (postings ++ rest)) found ≡ found_lists postings found
unfolding lists_at
lists_inside mark postings rest [] eight within = refl
lists_inside mark postings rest (one ∷ others) eight within =
    ap₂ (λ (xs : List ℕ) (ys : List ℕ). xs ++ ys) (list_in mark postings rest one eight (All-head (IsWithin (length postings)) one others within))
    (lists_inside mark postings rest others eight (All-tail (IsWithin (length postings)) one others within))

-- the lists are where POSTINGS has them
pub lists_in : (version : Version) (texts : FileSectionTexts) (documents terms : ℕ) (found : List FoundTerm) → All (IsWithin (length texts.postings)) found → lists_at (framed version texts documents terms) found ≡ found_lists texts.postings found
unfolding framed
lists_in version texts documents terms found within =
    let rest = texts.stop ++ (texts.documents ++ (texts.dictionary ++ texts.grams)) in
    let end = trailer_of version texts documents terms in
    ap (λ xs. lists_at (magic version ++ xs) found) (append_assoc texts.postings rest end) ∙ lists_inside (magic version) texts.postings (rest ++ end) found (length-magic version) within
