-- A run text, read from its front, tells the run, and where it ends.
use Rattle.std.proofs.Common.{◌≡◌, ℕ, ◌^◌, ◌<◌, ◌≤◌, List, [], ◌∷◌, ◌++◌, length, get_or, flat_map, codes, All, refl, sym, ap, ◌∙◌, subst, arith}
use Rattle.std.proofs.lemmas.List.{append_assoc, append-nil, append_cancel_left}
use Rattle.std.proofs.lemmas.Nat.{from_le_bytes-to_le_bytes_4}
use Rattle.std.specs.Int.{from_le_bytes, to_le_bytes, w32}
use Rattle.ix_text.specs.Collections.{Collection}
use Rattle.ix_text.specs.Parts.{Parts, DictionaryEntry, DocumentRow, ArePartsOf, row_bytes}
use Rattle.ix_text.specs.PartsLaws.{AreLawful}
use Rattle.ix_text.proofs.PartsLawful.{lawful_parts, postings_below}
use Rattle.ix_text.proofs.PartsLemmas.{same_collection, same_entry_fields, same_parts_fields, same_row_fields}
use Rattle.ix_vbyte.specs.Code.{code_of}
use Rattle.ix_vbyte.specs.Postings.{ArePostings, list_bytes}
use Rattle.ix_vbyte.specs.Texts.{counted}
use Rattle.ix_vbyte.proofs.Pieces.{fronts_apart, pieces_apart, pieces_before_end}
use Rattle.ix_vbyte.proofs.Postings.{list_apart}
use Rattle.ix_vbyte.proofs.Sizes.{postings_from}
use Rattle.ix_vbyte.proofs.Texts.{counted-apart, counted_number-apart, counted_texts_apart}
use Rattle.ix_vbyte.proofs.Values.{code_of-apart}
use Rattle.ix_run_text.specs.RunText.{IsRunText, term_bytes, head_bytes, run_layout}

-- ---- rows and terms

row_apart : (one other : DocumentRow) (xs ys : List ℕ) → row_bytes code_of one ++ xs ≡ row_bytes code_of other ++ ys → (one ≡ other) × (xs ≡ ys)
row_apart one other xs ys e =
    let r = counted_number-apart one.name other.name one.tokens other.tokens xs ys e in
    (same_row_fields one other r.0 r.1, r.2)

-- what a term of a run needs to be told by its bytes
pub record IsTold (entry : DictionaryEntry) : Type 0 where
  pub some_byte : 0 < length entry.term
  pub postings : ArePostings 0 (2 ^ 28) entry.postings

term_apart : (one other : DictionaryEntry) (xs ys : List ℕ) → IsTold one → IsTold other → term_bytes one ++ xs ≡ term_bytes other ++ ys → (one ≡ other) × (xs ≡ ys)
term_apart one other xs ys is also e =
    let count = code_of (length one.postings) in
    let count' = code_of (length other.postings) in
    let list = counted (list_bytes one.postings) in
    let list' = counted (list_bytes other.postings) in
    let split : counted one.term ++ (count ++ (list ++ xs)) ≡ counted other.term ++ (count' ++ (list' ++ ys)) = sym (regroup (counted one.term) count list xs) ∙ e ∙ regroup (counted other.term) count' list' ys in
    let terms = counted-apart one.term other.term (count ++ (list ++ xs)) (count' ++ (list' ++ ys)) split in
    let counts = code_of-apart (length one.postings) (length other.postings) (list ++ xs) (list' ++ ys) terms.1 in
    let lists = counted-apart (list_bytes one.postings) (list_bytes other.postings) xs ys counts.1 in
    let postings = list_apart 0 (2 ^ 28) one.postings other.postings [] [] is.postings also.postings counts.0 (ap (λ (bytes : List ℕ). bytes ++ []) lists.0) in
    (same_entry_fields one other terms.0 postings.0, lists.1)
  where
    regroup : (a b c d : List ℕ) → a ++ b ++ c ++ d ≡ a ++ (b ++ (c ++ d))
    regroup a b c d = simp append_assoc

-- the end mark, which is the code of no byte, begins no term
abbrev pub Ends : List ℕ → Type 0
Ends bytes = (rest : List ℕ) × (bytes ≡ code_of 0 ++ rest)

term_goes_on : (entry : DictionaryEntry) (xs : List ℕ) → IsTold entry → Ends (term_bytes entry ++ xs) → ⊥
term_goes_on entry xs is (rest, e) =
    let size = code_of (length entry.term) in
    let count = code_of (length entry.postings) in
    let list = counted (list_bytes entry.postings) in
    let none = code_of-apart (length entry.term) 0 (entry.term ++ (count ++ (list ++ xs))) rest (sym (regroup size entry.term count list xs) ∙ e) in
    omega (arith, none.0, is.some_byte)
  where
    regroup : (a b c d e : List ℕ) → a ++ b ++ c ++ d ++ e ≡ a ++ (b ++ (c ++ (d ++ e)))
    regroup a b c d e = simp append_assoc

end_mark : (xs : List ℕ) → Ends (128 ∷ xs)
unfolding code_of
end_mark xs = (xs, refl)

-- ---- the run

-- what a run needs to be told by its bytes
pub record AreTold (first : ℕ) (parts : Parts) : Type 0 where
  pub low : first ≤ 2 ^ 28
  pub few : length parts.rows ≤ 2 ^ 28
  pub terms : All IsTold parts.entries

four_apart : (m n : ℕ) (xs ys : List ℕ) → m ≤ 2 ^ 28 → n ≤ 2 ^ 28 → to_le_bytes w32 m ++ xs ≡ to_le_bytes w32 n ++ ys → (m ≡ n) × (xs ≡ ys)
four_apart m n xs ys few small e =
    let r = fronts_apart (to_le_bytes w32 m) (to_le_bytes w32 n) xs ys refl e in
    (sym (from_le_bytes-to_le_bytes_4 m (omega arith)) ∙ ap (from_le_bytes w32) r.0 ∙ from_le_bytes-to_le_bytes_4 n (omega arith), r.1)

-- the layout with the first piece in front of all the others
spread : (first : ℕ) (parts : Parts) (xs : List ℕ) → run_layout first parts ++ xs ≡ codes "PIIXRUN1" ++ (to_le_bytes w32 first ++ (to_le_bytes w32 (length parts.rows) ++ (code_of (length parts.stop) ++ (flat_map counted parts.stop ++ (flat_map (row_bytes code_of) parts.rows ++ (flat_map term_bytes parts.entries ++ 128 ∷ xs))))))
unfolding run_layout head_bytes
spread first parts xs =
    regroup (codes "PIIXRUN1") (to_le_bytes w32 first) (to_le_bytes w32 (length parts.rows)) (code_of (length parts.stop)) (flat_map counted parts.stop) (flat_map (row_bytes code_of) parts.rows) (flat_map term_bytes parts.entries) (128 ∷ []) xs
  where
    regroup : (a b c d e f g h i : List ℕ) → a ++ b ++ c ++ d ++ e ++ f ++ g ++ h ++ i ≡ a ++ (b ++ (c ++ (d ++ (e ++ (f ++ (g ++ (h ++ i)))))))
    regroup a b c d e f g h i = simp append_assoc

-- two layouts at the front of one text are those of one run
pub record IsSameRun (first start : ℕ) (one other : Parts) (xs ys : List ℕ) : Type 0 where
  pub firsts : first ≡ start
  pub parts : one ≡ other
  pub rests : xs ≡ ys

pub layout_apart : (first start : ℕ) (one other : Parts) (xs ys : List ℕ) → AreTold first one → AreTold start other → run_layout first one ++ xs ≡ run_layout start other ++ ys → IsSameRun first start one other xs ys
layout_apart first start one other xs ys is also e =
    let numbers = append_cancel_left (codes "PIIXRUN1") _ _ (sym (spread first one xs) ∙ e ∙ spread start other ys) in
    let firsts = four_apart first start _ _ is.low also.low numbers in
    let row_counts = four_apart (length one.rows) (length other.rows) _ _ is.few also.few firsts.1 in
    let stop_counts = code_of-apart (length one.stop) (length other.stop) _ _ row_counts.1 in
    let stops = counted_texts_apart one.stop other.stop _ _ stop_counts.0 stop_counts.1 in
    let rows = pieces_apart (λ (row : DocumentRow). Unit {0}) (row_bytes code_of) (λ row more us vs _ _ same. row_apart row more us vs same) one.rows other.rows _ _ (λ k d h. tt) (λ k d h. tt) row_counts.0 stops.1 in
    let entries = pieces_before_end IsTold term_bytes Ends term_apart term_goes_on one.entries other.entries (128 ∷ xs) (128 ∷ ys) is.terms also.terms (end_mark xs) (end_mark ys) rows.1 in
    record { firsts = firsts.0; parts = same_parts_fields one other stops.0 rows.0 entries.0; rests = cc (entries.1) }

-- a run text has such parts
told : (first : ℕ) (collection : Collection) (bytes : List ℕ) → (is : IsRunText first collection bytes) → AreTold first is.parts
told first collection bytes is =
    let lawful : AreLawful is.parts = lawful_parts collection is.parts is.lawful is.of_collection in
    let below = postings_below is.parts lawful in
    let within = is.within in
    record {
      low = omega (arith, within);
      few = lawful.few_documents;
      terms = λ k d h.
          let entry = get_or is.parts.entries k d in
          record { some_byte = (lawful.terms k d h).term.some_byte; postings = postings_from (2 ^ 28) entry.postings (lawful.terms k d h).ordered.ascending (lawful.terms k d h).ordered.each (below k d h) };
    }

pub run_told : (first start : ℕ) (one other : Collection) (bytes : List ℕ) → IsRunText first one bytes → IsRunText start other bytes → (first ≡ start) × (one ≡ other)
run_told first start one other bytes is also =
    let same = layout_apart first start is.parts also.parts [] [] (told first one bytes is) (told start other bytes also) (ap (λ (xs : List ℕ). xs ++ []) (sym is.spelled ∙ also.spelled)) in
    (same.firsts, same_collection is.parts one other is.of_collection (subst (ArePartsOf other) (sym same.parts) also.of_collection))

pub nothing_behind : (first start : ℕ) (one other : Collection) (bytes rest : List ℕ) → IsRunText first one bytes → IsRunText start other (bytes ++ rest) → rest ≡ []
nothing_behind first start one other bytes rest is also =
    (layout_apart first start is.parts also.parts rest [] (told first one bytes is) (told start other (bytes ++ rest) also)
    (ap (λ (xs : List ℕ). xs ++ rest) (sym is.spelled) ∙ also.spelled ∙ sym (append-nil (run_layout start also.parts)))).rests
