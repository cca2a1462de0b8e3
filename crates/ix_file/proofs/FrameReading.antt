-- The frame of an index text is cut from both ends.
use Rattle.std.proofs.Common.{◌≡◌, ◌⊎◌, inl, inr, ◌↔◌, Bool, IsTrue, bytes_eq, ℕ, ◌+◌, ◌^◌, ◌<◌, ◌≤◌, List, ◌++◌, length, take, drop, get_or, refl, sym, ap, ap₂, ◌∙◌, subst, arith, length-append, take-append-drop}
use Rattle.std.proofs.lemmas.List.{length-take-le, length-take, get_or-take, get_or-drop, get_or_past}
use Rattle.std.proofs.lemmas.Bool.{cases_lt}
use Rattle.std.proofs.lemmas.Bool.Decides.{Decides-eqb}
use Rattle.std.proofs.lemmas.Slice.Eq.{slice_eq-Decides}
use Rattle.std.proofs.lemmas.Nat.{le_bytes_4, le_bytes_8, from_le_bytes-to_le_bytes_4, from_le_bytes-to_le_bytes_8}
use Rattle.std.specs.Int.{to_le_bytes, from_le_bytes, w32, w64}
use Rattle.ix_vbyte.proofs.Pieces.{fronts_apart}
use Rattle.ix_file.specs.Frames.{FileSectionTexts, eight, four, joined_sections, lengths, counts, framed, IsCutInto}
use Rattle.ix_index_text.specs.IndexText.{magic, end_mark}
use Rattle.ix_index_text.specs.Sections.{Version, Plain, FrontCoded}
use Rattle.ix_index_text.proofs.TextLaws.{length-magic, length-end_mark}

pub length-eight : (n : ℕ) → length (eight n) ≡ 8
unfolding eight
length-eight n = refl

pub length-four : (n : ℕ) → length (four n) ≡ 4
unfolding four
length-four n = refl

pub eight_apart : (m n : ℕ) (xs ys : List ℕ) → m < 2 ^ 64 → n < 2 ^ 64 → eight m ++ xs ≡ eight n ++ ys → (m ≡ n) × (xs ≡ ys)
unfolding eight
eight_apart m n xs ys small low e =
    let r = fronts_apart (to_le_bytes w64 m) (to_le_bytes w64 n) xs ys refl e in
    (sym (from_le_bytes-to_le_bytes_8 m small) ∙ ap (from_le_bytes w64) r.0 ∙ from_le_bytes-to_le_bytes_8 n low, r.1)

pub four_apart : (m n : ℕ) (xs ys : List ℕ) → m < 2 ^ 32 → n < 2 ^ 32 → four m ++ xs ≡ four n ++ ys → (m ≡ n) × (xs ≡ ys)
unfolding four
four_apart m n xs ys small low e =
    let r = fronts_apart (to_le_bytes w32 m) (to_le_bytes w32 n) xs ys refl e in
    (sym (from_le_bytes-to_le_bytes_4 m small) ∙ ap (from_le_bytes w32) r.0 ∙ from_le_bytes-to_le_bytes_4 n low, r.1)

pub length-lengths : (texts : FileSectionTexts) → length (lengths texts) ≡ 40
length-lengths texts = simp (length-append, length-eight) refl

length-numbers : (texts : FileSectionTexts) (documents terms : ℕ) → length (lengths texts ++ counts documents terms) ≡ 48
length-numbers texts documents terms = simp (length-append, length-eight, length-four) refl

pub record IsFrameOf (mark body sizes numbers final : List ℕ) (version : Version) (texts : FileSectionTexts) (documents terms : ℕ) : Type 0 where
  pub mark_is : mark ≡ magic version
  pub body_is : body ≡ joined_sections texts
  pub sizes_are : sizes ≡ lengths texts
  pub numbers_are : numbers ≡ counts documents terms
  pub final_is : final ≡ end_mark version

pub frame_of : (bytes mark body sizes numbers final : List ℕ) → IsCutInto bytes mark body sizes numbers final → (version : Version) (texts : FileSectionTexts) (documents terms : ℕ) → bytes ≡ framed version texts documents terms → IsFrameOf mark body sizes numbers final version texts documents terms
unfolding framed
frame_of bytes mark body sizes numbers final is version texts documents terms e =
    let trailer = lengths texts ++ counts documents terms in
    let given : length (sizes ++ numbers) ≡ 48 = omega (arith, is.sizes_length, is.numbers_length, length-append sizes numbers) in
    let same = sym is.whole ∙ e in
    let first = fronts_apart mark (magic version) (body ++ ((sizes ++ numbers) ++ final)) (joined_sections texts ++ (trailer ++ end_mark version)) (is.mark_length ∙ sym (length-magic version)) same in
    let size : length body ≡ length (joined_sections texts) =
    omega (arith, ap length first.1, given, is.final_length, length-end_mark version, length-numbers texts documents terms, length-append body ((sizes ++ numbers) ++ final), length-append (sizes ++ numbers) final, length-append (joined_sections texts) (trailer ++ end_mark version), length-append trailer (end_mark version)) in
    let second = fronts_apart body (joined_sections texts) ((sizes ++ numbers) ++ final) (trailer ++ end_mark version) size first.1 in
    let third = fronts_apart (sizes ++ numbers) trailer final (end_mark version) (given ∙ sym (length-numbers texts documents terms)) second.1 in
    let fourth = fronts_apart sizes (lengths texts) numbers (counts documents terms) (is.sizes_length ∙ sym (length-lengths texts)) third.0 in
    record { mark_is = first.0; body_is = second.0; sizes_are = fourth.0; numbers_are = fourth.1; final_is = third.1 }

pub framed_from : (bytes mark body sizes numbers final : List ℕ) → IsCutInto bytes mark body sizes numbers final → (version : Version) (texts : FileSectionTexts) (documents terms : ℕ) → IsFrameOf mark body sizes numbers final version texts documents terms → bytes ≡ framed version texts documents terms
unfolding framed
framed_from bytes mark body sizes numbers final cut version texts documents terms is =
    let join : List ℕ → List ℕ → List ℕ = λ xs ys. xs ++ ys in
    cut.whole ∙ ap₂ join is.mark_is (ap₂ join is.body_is (ap₂ join (ap₂ join is.sizes_are is.numbers_are) is.final_is))

-- a mark that is that of two versions
pub one_mark : (version another : Version) → magic version ≡ magic another → version ≡ another
unfolding magic
one_mark Plain Plain e = refl
one_mark Plain FrontCoded e = absurd (omega (arith, ap (λ (bytes : List ℕ). get_or bytes 7 0) e))
one_mark FrontCoded Plain e = absurd (omega (arith, ap (λ (bytes : List ℕ). get_or bytes 7 0) e))
one_mark FrontCoded FrontCoded e = refl

-- the number of documents that the counts tell
pub counts_apart : (documents terms m n : ℕ) → documents < 2 ^ 32 → m < 2 ^ 32 → counts documents terms ≡ counts m n → documents ≡ m
counts_apart documents terms m n low small e = (four_apart documents m (four terms) (four n) low small e).0

-- fewer bytes than a frame has
pub length-framed : (version : Version) (texts : FileSectionTexts) (documents terms : ℕ) → 64 ≤ length (framed version texts documents terms)
unfolding framed
length-framed version texts documents terms =
    let trailer = lengths texts ++ counts documents terms in
    omega (
      arith,
      length-magic version,
      length-end_mark version,
      length-numbers texts documents terms,
      length-append (magic version) (joined_sections texts ++ (trailer ++ end_mark version)),
      length-append (joined_sections texts) (trailer ++ end_mark version),
      length-append trailer (end_mark version),
    )

-- what eight bytes say, and four
pub eight_read : (bytes front rest : List ℕ) (n : ℕ) → front ≡ take 8 bytes → rest ≡ drop 8 bytes → 8 ≤ length bytes → ((i : ℕ) → get_or front i 0 < 256) → n ≡ from_le_bytes w64 front → bytes ≡ eight n ++ rest
unfolding eight
eight_read bytes front rest n is behind long each value =
    let size : length front ≡ 8 = ap length is ∙ length-take-le 8 bytes long in
    sym (take-append-drop 8 bytes) ∙ ap₂ (λ xs ys. xs ++ ys) (sym is ∙ sym (le_bytes_8 front n size each value)) (sym behind)

pub four_read : (bytes front rest : List ℕ) (n : ℕ) → front ≡ take 4 bytes → rest ≡ drop 4 bytes → 4 ≤ length bytes → ((i : ℕ) → get_or front i 0 < 256) → n ≡ from_le_bytes w32 front → bytes ≡ four n ++ rest
unfolding four
four_read bytes front rest n is behind long each value =
    let size : length front ≡ 4 = ap length is ∙ length-take-le 4 bytes long in
    sym (take-append-drop 4 bytes) ∙ ap₂ (λ xs ys. xs ++ ys) (sym is ∙ sym (le_bytes_4 front n size each value)) (sym behind)

-- two sections that stand at the front of one text under one length
pub section_apart : (body section rest sizes more : List ℕ) (size : ℕ) (behind : List ℕ) → size < 2 ^ 64 → length body < 2 ^ 64 → sizes ≡ eight size ++ behind → body ≡ section ++ rest → sizes ≡ eight (length section) ++ more → (size ≡ length section) × (behind ≡ more)
section_apart body section rest sizes more size behind small short is whole e =
    eight_apart size (length section) behind more small (omega (arith, ap length whole, length-append section rest)) (sym is ∙ e)

-- a section that was cut off is the first one
pub record IsFirstOf (section rest more : List ℕ) (one others sizes : List ℕ) : Type 0 where
  pub section_is : section ≡ one
  pub rest_is : rest ≡ others
  pub more_is : more ≡ sizes

pub first_of_cut : (body sizes section rest more one others : List ℕ) (behind : List ℕ) → length body < 2 ^ 64 → body ≡ section ++ rest → sizes ≡ eight (length section) ++ more → body ≡ one ++ others → sizes ≡ eight (length one) ++ behind → IsFirstOf section rest more one others behind
first_of_cut body sizes section rest more one others behind short is has whole e =
    let size = section_apart body one others sizes behind (length section) more (omega (arith, ap length is, length-append section rest)) short has whole e in
    let cut = fronts_apart section one rest others size.0 (sym is ∙ whole) in
    record { section_is = cut.0; rest_is = cut.1; more_is = size.1 }

-- bytes of a part are bytes
pub bytes_taken : (bytes front : List ℕ) (n : ℕ) → front ≡ take n bytes → ((i : ℕ) → get_or bytes i 0 < 256) → (i : ℕ) → get_or front i 0 < 256
bytes_taken bytes front n is each i = subst (λ (xs : List ℕ). get_or xs i 0 < 256) (sym is) (at (cases_lt i n))
  where
    at : (i < n) ⊎ (n ≤ i) → get_or (take n bytes) i 0 < 256
    at (inl low) = subst (λ b. b < 256) (sym (get_or-take n bytes i 0 low)) (each i)
    at (inr high) = subst (λ b. b < 256) (sym (get_or_past (take n bytes) i 0 (omega (arith, length-take n bytes)))) (omega arith)

pub bytes_dropped : (bytes back : List ℕ) (n : ℕ) → back ≡ drop n bytes → ((i : ℕ) → get_or bytes i 0 < 256) → (i : ℕ) → get_or back i 0 < 256
bytes_dropped bytes back n is each i = subst (λ (xs : List ℕ). get_or xs i 0 < 256) (sym is) (subst (λ b. b < 256) (sym (get_or-drop n bytes i 0)) (each (n + i)))

-- the test of a mark
pub same_mark : (mark other : List ℕ) (r : Bool) → r ≡ bytes_eq mark other → IsTrue r ↔ (mark ≡ other)
same_mark mark other r is =
    let decides = slice_eq-Decides Decides-eqb mark other r is in
    (decides.0, decides.1)

-- neither mark
pub no_mark : (mark : List ℕ) → (mark ≡ magic Plain → ⊥) → (mark ≡ magic FrontCoded → ⊥) → (version : Version) → mark ≡ magic version → ⊥
no_mark mark one other Plain e = one e
no_mark mark one other FrontCoded e = other e
