-- The rows of GRAMS, and the grams of the terms that they are.
use Rattle.std.proofs.Common.{◌≡◌, ℕ, ◌-◌, ◌^◌, ◌<◌, List, [], ◌∷◌, ◌++◌, length, flat_map, get_or, All, Contains, IsUtf8, refl, sym, ap, ap₂, subst, ◌∙◌, arith}
use Rattle.std.proofs.lemmas.List.Elements.{All-contains, All-head, All-map, All-tail, Contains-get_or}
use Rattle.ix_text.proofs.AscendingLists.{contained_from_map, contains_map}
use Rattle.ix_text.specs.ByteOrder.{IsAscending}
use Rattle.ix_text.specs.Parts.{GramEntry, HasNumber}
use Rattle.ix_vbyte.specs.Code.{code_of}
use Rattle.ix_vbyte.specs.Texts.{counted}
use Rattle.ix_index_text.specs.Grams.{AreGramsOfTerms, IsGramOfTerm}
use Rattle.ix_index_text.specs.Sections.{grams_section}
use Rattle.ix_vbyte.specs.Gaps.{Ascends}
use Rattle.ix_vbyte.specs.Walking.{positions_told}
use Rattle.ix_vbyte.proofs.Gaps.{Ascends-wider}
use Rattle.ix_vbyte.proofs.Walks.{positions_from, Told}
use Rattle.ix_index_text.specs.GramTables.{text_of}
use Rattle.ix_file.specs.declared.open.grams.GramRow.{GramRow}
use Rattle.ix_file.specs.declared.open.sides.Side.TheVariants.{From}
use Rattle.ix_file.specs.GramWalks.{AreRowsOn, HasRow, IsRowOfTerms, gap_bytes}
use Rattle.ix_file.specs.OpenedGrams.{AreCutRows, AreNumbersOf, IsGramRow, IsListedGram, IsRightEntry, IsRightRow, LiesIn, cut_bytes, gap_codes, gram_bytes, gram_in, grams_in}
use Rattle.ix_index_text.proofs.GramLists.{one_entry}
use Rattle.ix_file.proofs.GramKeys.{all_listed, right_entries}
use Rattle.ix_file.proofs.GramParting.{window_of, window_there}
use Rattle.ix_file.proofs.GramReading.{some_number, term_characters, text_is}
use Rattle.ix_file.proofs.GramSections.{text_in, texts_in}
use Rattle.ix_file.proofs.GramTexts.{gram_is_text}

-- a row whose numbers were read to their end is right, and these are its numbers
pub row_right : (terms : List (List ℕ)) (section : List ℕ) (row : GramRow) (numbers : List ℕ) → length terms < 2 ^ 32 → LiesIn section row → 0 < row.count → AreNumbersOf terms (text_in section row) numbers → length numbers ≡ row.count
    → gap_bytes section row ≡ gap_codes numbers → IsRightRow terms section row × ((gram_in section row).numbers ≡ numbers)
row_right terms section row numbers few lies some are many coded =
    let gaps = gap_bytes section row in
    let ascends : Ascends 0 (2 ^ 32 - 1) numbers = Ascends-wider 0 (length terms) (2 ^ 32 - 1) numbers (omega (arith, few)) are.ascend in
    let told : Told 0 row.count gaps numbers = positions_from 0 row.count gaps numbers ascends coded many in
    let counted : length (positions_told 0 gaps) ≡ row.count = told.are.counted in (
      record {
        is = record { gram = lies.gram; numbers = lies.numbers; coded = told.are };
        right = record { some = omega (arith, counted, some); numbers = subst (λ (ns : List ℕ). AreNumbersOf terms (text_in section row) ns) (sym told.told) are };
      },
      told.told,
    )

-- ---- the rows of a section

-- an entry of terms is a listed gram
listed_entry : (terms : List (List ℕ)) → length terms < 2 ^ 32 → All IsUtf8 terms → (entry : GramEntry) → IsRightEntry terms entry → IsListedGram entry
listed_entry terms few texts entry right =
    let (n, of) = some_number terms entry right in
    record {
      text = gram_is_text entry.gram (term_characters terms entry.gram n texts of);
      some = right.some;
      ascend = Ascends-wider 0 (length terms) (2 ^ 32 - 1) entry.numbers (omega (arith, few)) right.numbers.ascend;
    }

pub listed_grams : (terms : List (List ℕ)) → length terms < 2 ^ 32 → All IsUtf8 terms → (grams : List GramEntry) → AreGramsOfTerms terms grams → All IsListedGram grams
listed_grams terms few texts grams are k d low = listed_entry terms few texts (get_or grams k d) (right_entries terms grams are k d low)

module _ (terms : List (List ℕ)) (section : List ℕ) where
  each_right : (table : List GramRow) → All (IsGramRow section) table → All (IsRightEntry terms) (grams_in section table) → All (IsRightRow terms section) table
  each_right table are right k d low =
      let row = get_or table k d in
      record { is = are k d low; right = All-contains (IsRightEntry terms) (grams_in section table) (gram_in section row) right (contains_map (gram_in section) table row (Contains-get_or table k d low)) }

  rows_told : (table : List GramRow) → All (IsRightRow terms section) table → All (IsGramRow section) table
  rows_told table all k d low = (all k d low).is

  row_bytes : (row : GramRow) → IsGramRow section row → cut_bytes section row ≡ gram_bytes (gram_in section row)
  row_bytes row is =
      ap₂ (λ (n : ℕ) (gaps : List ℕ). counted (text_in section row) ++ code_of n ++ gaps) (sym is.coded.counted) is.coded.coded

  same_bytes : (table : List GramRow) → All (IsGramRow section) table → flat_map (cut_bytes section) table ≡ flat_map gram_bytes (grams_in section table)
  same_bytes [] all = refl
  same_bytes (row ∷ table) all =
      ap₂ (λ (a b : List ℕ). a ++ b) (row_bytes row (All-head (IsGramRow section) row table all)) (same_bytes table (All-tail (IsGramRow section) row table all))

  number_in : (table : List GramRow) → All (IsRowOfTerms terms section) table → (g : List ℕ) (n : ℕ) → IsGramOfTerm terms g n → HasRow section table g → HasNumber (grams_in section table) g n
  number_in table all g n of h =
      let numbers = (gram_in section h.row).numbers in
      let same : gram_in section h.row ≡ (record { gram = g; numbers = numbers }) = λ i. record { gram = h.spelled i; numbers = numbers } in
      let is = All-contains (IsRowOfTerms terms section) table h.row all h.among in
      record {
        numbers = numbers;
        among = subst (λ (e : GramEntry). Contains (grams_in section table) e) same (contains_map (gram_in section) table h.row h.among);
        listed = is.all n (subst (λ (t : List ℕ). IsGramOfTerm terms t n) (sym h.spelled) of);
      }

  -- what the walk finds are the grams of the terms, and the section is theirs
  pub grams_there : (table : List GramRow) → All IsUtf8 terms → AreCutRows section table → AreRowsOn (From 0) terms section table
      → AreGramsOfTerms terms (grams_in section table) × (section ≡ grams_section (grams_in section table)) × All (IsGramRow section) table
  unfolding grams_section
  grams_there table texts cut on =
      let right : All (IsRightRow terms section) table = λ k d low. (on.each k d low).right in
      let rows = rows_told table right in (
        all_listed terms (grams_in section table) (subst IsAscending (sym (texts_in section table)) cut.ascending) (All-map (IsRightEntry terms) (gram_in section) table (λ k d low. (right k d low).right))
            (λ g n of.
            let (window, among, spelled) = window_of of.term g (text_is terms n of.term texts of.numbered) of.windowed in
            number_in table on.each g n of (subst (HasRow section table) spelled (on.all of.term window n of.numbered among (omega arith)))),
        cut.bytes ∙ same_bytes table rows,
        rows,
      )

  -- and the rows of grams of the terms are what it looks for
  pub rows_there : (table : List GramRow) → length terms < 2 ^ 32 → All IsUtf8 terms → AreCutRows section table → (grams : List GramEntry) → AreGramsOfTerms terms grams → section ≡ grams_section grams → AreRowsOn (From 0) terms section table
  rows_there table few texts cut grams are same =
      let only = cut.only grams (listed_grams terms few texts grams are) same in
      let of : AreGramsOfTerms terms (grams_in section table) = subst (AreGramsOfTerms terms) only.0 are in
      let right = each_right table only.1 (right_entries terms (grams_in section table) of) in
      record {
        each = λ k d low.
            let row = get_or table k d in
            record {
              right = right k d low;
              all = λ n is.
                  let has = (of.related (text_in section row) n).1 is in
                  let there : Contains (grams_in section table) (gram_in section row) = contains_map (gram_in section) table row (Contains-get_or table k d low) in
                  let entry = one_entry (grams_in section table) of.ascending (record { gram = text_in section row; numbers = has.numbers }) (gram_in section row) has.among there refl in
                  subst (λ (e : GramEntry). Contains e.numbers n) entry has.listed;
            };
        all = λ term gram n at has on.
            let text = text_is terms n term texts at in
            let number = (of.related (text_of gram) n).1 (record { term = term; numbered = at; windowed = window_there term gram text has }) in
            let (row, among, is) = contained_from_map (gram_in section) table (record { gram = text_of gram; numbers = number.numbers }) number.among in
            record { row = row; among = among; spelled = ap (λ (e : GramEntry). e.gram) is };
      }
