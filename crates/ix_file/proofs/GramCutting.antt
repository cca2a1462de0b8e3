-- GRAMS is cut into rows, whose numbers are passed over.
use Rattle.std.proofs.Common.{◌≡◌, ◌≢◌, ℕ, ◌+◌, ◌-◌, ◌^◌, ◌<◌, ◌≤◌, List, [], ◌∷◌, ◌++◌, map, length, flat_map, take, drop, slice_get, slice_range, All, Option, Bor, refl, sym, ap, ap₂, subst, ◌∙◌, arith, length-append}
use Rattle.std.proofs.lemmas.List.{append_assoc, append-nil, length-take, length-drop, map-append, nil_from_length, take-append-drop, take_all, take_at, drop_at}
use Rattle.std.proofs.lemmas.List.Elements.{All-nil, All-push, All-contains, Contains-push}
use Rattle.std.specs.Option.{option_copied}
use Rattle.ix_text.specs.ByteOrder.{IsAscending}
use Rattle.ix_text.specs.Parts.{GramEntry}
use Rattle.ix_text.specs.Terms.{IsTerm}
use Rattle.ix_vbyte.specs.Code.{code_of}
use Rattle.ix_vbyte.specs.Gaps.{gaps_of}
use Rattle.ix_vbyte.specs.Postings.{codes_of}
use Rattle.ix_vbyte.specs.Texts.{counted}
use Rattle.ix_vbyte.proofs.Gaps.{length-Ascends, length-gaps_from}
use Rattle.ix_vbyte.proofs.Texts.{counted-apart}
use Rattle.ix_vbyte.proofs.Values.{some_code_byte, code_of-apart}
use Rattle.ix_vbyte.proofs.Walks.{positions_from, Told}
use Rattle.ix_file.specs.declared.open.grams.GramRow.{GramRow}
use Rattle.ix_index_text.specs.GramTables.{entry}
use Rattle.ix_file.specs.OpenedGrams.{AreCutRows, CutsEntry, IsGramRow, IsListedGram, LiesIn, cut_bytes, gap_codes, gram_bytes, gram_in, grams_in}
use Rattle.ix_index_text.specs.Sections.{grams_section}
use Rattle.ix_file.proofs.AscendingLemmas.{ascending_front, ascending_none, follows, followed, from_borrowed, to_borrowed, MayFollowBorrowed}
use Rattle.ix_file.proofs.Continuing.{GoesOn, HasNext, read_more}
use Rattle.ix_file.proofs.GramReading.{bytes_split, long_codes}
use Rattle.ix_file.proofs.GramSections.{text_in, texts_in, grams_push}
use Rattle.ix_file.proofs.RowReading.{named, part_at}
use Rattle.ix_file.proofs.StopReading.{All-front}

-- ---- the entry that stands there

module _ (entry : GramEntry) (listed : IsListedGram entry) (left other : List ℕ) (stands : left ≡ gram_bytes entry ++ other) where
  pub text_there : ((text rest : List ℕ) → IsTerm text → left ≢ counted text ++ rest) → ⊥
  text_there refused = refused entry.gram (code_of (length entry.numbers) ++ (gap_codes entry.numbers ++ other)) listed.text (stands ∙ bytes_split entry other)

  few_there : length entry.numbers < 2 ^ 32
  few_there = omega (arith, length-Ascends 0 (2 ^ 32 - 1) entry.numbers (omega arith) listed.ascend)

  module _ (text behind : List ℕ) (found : left ≡ counted text ++ behind) where
    same_text : (text ≡ entry.gram) × (behind ≡ code_of (length entry.numbers) ++ (gap_codes entry.numbers ++ other))
    same_text = counted-apart text entry.gram behind (code_of (length entry.numbers) ++ (gap_codes entry.numbers ++ other)) (sym found ∙ stands ∙ bytes_split entry other)

    pub count_there : ((n : ℕ) (rest : List ℕ) → n < 2 ^ 32 → behind ≢ code_of n ++ rest) → ⊥
    count_there refused = refused (length entry.numbers) (gap_codes entry.numbers ++ other) few_there same_text.1

    module _ (gaps : List ℕ) (count : ℕ) (coded : behind ≡ code_of count ++ gaps) where
      same_count : (count ≡ length entry.numbers) × (gaps ≡ gap_codes entry.numbers ++ other)
      same_count = code_of-apart count (length entry.numbers) gaps (gap_codes entry.numbers ++ other) (sym coded ∙ same_text.1)

      module _ (size : ℕ) (skipped : (numbers rest : List ℕ) → gaps ≡ codes_of numbers ++ rest → length numbers ≡ count → size ≡ length (codes_of numbers)) where
        many_gaps : length (gaps_of entry.numbers) ≡ count
        many_gaps = length-gaps_from 0 entry.numbers ∙ sym same_count.0

        same_size : size ≡ length (gap_codes entry.numbers)
        same_size = skipped (gaps_of entry.numbers) other same_count.1 many_gaps

        pub enough_there : count ≤ size
        enough_there = omega (arith, many_gaps, same_size, long_codes (gaps_of entry.numbers))

-- ---- the row that was cut

module _ (section left text behind gaps : List ℕ) (count size : ℕ) (within : (before : List ℕ) × (section ≡ before ++ left)) (found : left ≡ counted text ++ behind) (coded : behind ≡ code_of count ++ gaps) (fits : size ≤ length gaps)
    (skipped : (numbers rest : List ℕ) → gaps ≡ codes_of numbers ++ rest → length numbers ≡ count → size ≡ length (codes_of numbers)) where
  abbrev row : GramRow
  row = record {
    start = length section - length behind - length text;
    size = length text;
    count = count;
    numbers = length section - length gaps;
    numbers_size = size;
  }

  abbrev rest : List ℕ
  rest = take (length gaps - size) (drop size gaps)

  -- all up to the gaps
  abbrev front : List ℕ
  front = (within.0 ++ counted text) ++ code_of count

  rest_is : rest ≡ drop size gaps
  rest_is = take_all (length gaps - size) (drop size gaps) (omega (arith, length-drop size gaps))

  gaps_are : gaps ≡ take size gaps ++ rest
  gaps_are = sym (take-append-drop size gaps) ∙ ap (λ bytes. take size gaps ++ bytes) (sym rest_is)

  parts : section ≡ front ++ gaps
  parts =
      within.1 ∙ ap (λ bytes. within.0 ++ bytes) (found ∙ ap (λ bytes. counted text ++ bytes) coded)
      ∙ sym (append_assoc within.0 (counted text) (code_of count ++ gaps))
      ∙ sym (append_assoc (within.0 ++ counted text) (code_of count) gaps)

  whole_size : length section ≡ length front + length gaps
  whole_size = ap length parts ∙ length-append front gaps

  taken : length (take size gaps) ≡ size
  taken = omega (arith, length-take size gaps, fits)

  gap_part : slice_range section row.numbers (row.numbers + row.numbers_size) ≡ take size gaps
  gap_part =
      ap (λ n. slice_range section (length section - length gaps) (length section - length gaps + n)) (sym taken)
      ∙ part_at section front (take size gaps) rest (length section - length gaps) (parts ∙ ap (λ bytes. front ++ bytes) gaps_are) (omega (arith, whole_size))

  text_part : slice_range section row.start (row.start + row.size) ≡ text
  text_part = named section within.0 left text behind within.1 found

  row_bytes : left ≡ cut_bytes section row ++ rest
  row_bytes =
      found ∙ ap (λ bytes. counted text ++ bytes) (coded ∙ ap (λ bytes. code_of count ++ bytes) gaps_are)
      ∙ ap₂ (λ (t g : List ℕ). counted t ++ (code_of count ++ (g ++ rest))) (sym text_part) (sym gap_part)
      ∙ sym (append_assoc (counted (slice_range section row.start (row.start + row.size))) (code_of count) (slice_range section row.numbers (row.numbers + row.numbers_size) ++ rest))
      ∙ sym (append_assoc (counted (slice_range section row.start (row.start + row.size)) ++ code_of count) (slice_range section row.numbers (row.numbers + row.numbers_size)) rest)

  row_lies : LiesIn section row
  row_lies = record {
    gram =
        let long : length left ≡ length (counted text) + length behind = ap length found ∙ length-append (counted text) behind in
        let whole : length section ≡ length within.0 + length left = ap length within.1 ∙ length-append within.0 left in
        let size : length (counted text) ≡ length (code_of (length text)) + length text = length-append (code_of (length text)) text in
        omega arith;
    numbers = omega (arith, whole_size, fits);
  }

  row_only : (e : GramEntry) (other : List ℕ) → IsListedGram e → left ≡ gram_bytes e ++ other → (e ≡ gram_in section row) × (other ≡ rest) × IsGramRow section row
  row_only e other listed stands =
      let (gram, _) = same_text e listed left other stands text behind found in
      let (many, bytes) = same_count e listed left other stands text behind found gaps count coded in
      let long = same_size e listed left other stands text behind found gaps count coded size skipped in
      let coded_so : take size gaps ≡ gap_codes e.numbers = ap (λ bs. take size bs) bytes ∙ take_at (gap_codes e.numbers) other size (sym long) in
      let left_so : other ≡ rest = sym (rest_is ∙ ap (λ bs. drop size bs) bytes ∙ drop_at (gap_codes e.numbers) other size (sym long)) in
      let told : Told 0 count (slice_range section row.numbers (row.numbers + row.numbers_size)) e.numbers =
      positions_from 0 count (slice_range section row.numbers (row.numbers + row.numbers_size)) e.numbers listed.ascend (gap_part ∙ coded_so) (sym many) in (
        ap₂ entry (sym gram ∙ sym text_part) (sym told.told),
        left_so,
        record { gram = row_lies.gram; numbers = row_lies.numbers; coded = told.are },
      )

  pub cuts_entry : CutsEntry section left row rest
  cuts_entry = record { bytes = row_bytes; lies = row_lies; only = row_only }

-- ---- the walk over GRAMS

-- the rows so far
pub record AreCutSoFar (section : List ℕ) (rows : List GramRow) (left : List ℕ) : Type 0 where
  pub bytes : section ≡ flat_map (cut_bytes section) rows ++ left
  pub ascending : IsAscending (map (text_in section) rows)
  pub lie : All (LiesIn section) rows
  pub only : (grams : List GramEntry) → All IsListedGram grams → section ≡ grams_section grams → GoesOn gram_bytes (grams_in section rows) grams left × All (IsGramRow section) rows

pub nothing_cut : (section : List ℕ) → AreCutSoFar section [] section
unfolding grams_section
nothing_cut section = record {
  bytes = refl;
  ascending = ascending_none;
  lie = All-nil (LiesIn section);
  only = λ grams listed same. (record { more = grams; whole = refl; rest = same }, All-nil (IsGramRow section));
}

next_entry : (done xs : List GramEntry) (left : List ℕ) → 0 < length left → GoesOn gram_bytes done xs left → HasNext gram_bytes done xs left
next_entry done xs left some g = at g.more g.whole g.rest
  where
    at : (more : List GramEntry) → xs ≡ done ++ more → left ≡ flat_map gram_bytes more → HasNext gram_bytes done xs left
    at [] whole rest = absurd (omega (arith, some, ap length rest))
    at (x ∷ more) whole rest = record { next = x; more = more; whole = whole ∙ sym (append_assoc done (x ∷ []) more); stands = rest }

some_entry_byte : (x : GramEntry) → 0 < length (gram_bytes x)
some_entry_byte x =
    omega (arith, some_code_byte (length x.numbers), length-append (counted x.gram ++ code_of (length x.numbers)) (gap_codes x.numbers), length-append (counted x.gram) (code_of (length x.numbers)))

no_more : (done xs : List GramEntry) (left : List ℕ) → length left ≡ 0 → GoesOn gram_bytes done xs left → xs ≡ done
no_more done xs left none g = at g.more g.whole g.rest
  where
    at : (more : List GramEntry) → xs ≡ done ++ more → left ≡ flat_map gram_bytes more → xs ≡ done
    at [] whole rest = whole ∙ append-nil done
    at (x ∷ more) whole rest = absurd (omega (arith, none, ap length rest, some_entry_byte x, length-append (gram_bytes x) (flat_map gram_bytes more)))

module _ (section : List ℕ) (rows : List GramRow) (left : List ℕ) (r : AreCutSoFar section rows left) (some : 0 < length left) where
  -- grams whose section this is
  module _ (grams : List GramEntry) (listed : All IsListedGram grams) (same : section ≡ grams_section grams) where
    next_here : HasNext gram_bytes (grams_in section rows) grams left
    next_here = next_entry (grams_in section rows) grams left some (r.only grams listed same).0

    next_listed : IsListedGram next_here.next
    next_listed =
        All-contains IsListedGram (grams_in section rows ++ next_here.next ∷ []) next_here.next (All-front IsListedGram (grams_in section rows ++ next_here.next ∷ []) next_here.more (subst (All IsListedGram) next_here.whole listed))
        (Contains-push (grams_in section rows) next_here.next)

    pub no_next_entry : ((entry : GramEntry) (rest : List ℕ) → IsListedGram entry → left ≢ gram_bytes entry ++ rest) → ⊥
    no_next_entry refused = refused next_here.next (flat_map gram_bytes next_here.more) next_listed next_here.stands

    module _ (row : GramRow) (rest : List ℕ) (cut : CutsEntry section left row rest) where
      first_is : (next_here.next ≡ gram_in section row) × (flat_map gram_bytes next_here.more ≡ rest) × IsGramRow section row
      first_is = cut.only next_here.next (flat_map gram_bytes next_here.more) next_listed next_here.stands

      grams_are : grams ≡ (grams_in section rows ++ gram_in section row ∷ []) ++ next_here.more
      grams_are = next_here.whole ∙ ap (λ (e : GramEntry). (grams_in section rows ++ e ∷ []) ++ next_here.more) first_is.0

      goes_on_behind : GoesOn gram_bytes (grams_in section (rows ++ row ∷ [])) grams rest × All (IsGramRow section) (rows ++ row ∷ [])
      goes_on_behind = (
        record {
          more = next_here.more;
          whole = grams_are ∙ ap (λ (gs : List GramEntry). gs ++ next_here.more) (sym (grams_push section rows row));
          rest = sym first_is.1;
        },
        All-push (IsGramRow section) rows row (r.only grams listed same).1 first_is.2,
      )

      -- the gram that was cut off is the next, so it stands above the one before
      pub cut_above : IsAscending (map (λ (e : GramEntry). e.gram) grams) → (before : Option (Bor GramRow)) → option_copied before ≡ slice_get rows (length rows - 1) → MayFollowBorrowed (text_in section) (text_in section row) before
      cut_above up before last =
          let texts : map (λ (e : GramEntry). e.gram) grams ≡ (map (text_in section) rows ++ text_in section row ∷ []) ++ map (λ (e : GramEntry). e.gram) next_here.more =
          ap (map (λ (e : GramEntry). e.gram)) grams_are ∙ map-append (λ (e : GramEntry). e.gram) (grams_in section rows ++ gram_in section row ∷ []) next_here.more
          ∙ ap (λ ts. ts ++ map (λ (e : GramEntry). e.gram) next_here.more) (map-append (λ (e : GramEntry). e.gram) (grams_in section rows) (gram_in section row ∷ []) ∙ ap (λ ts. ts ++ text_in section row ∷ []) (texts_in section rows)) in
          to_borrowed (text_in section) (text_in section row) before
          (followed (text_in section) (text_in section row) rows (option_copied before) last
          (ascending_front (map (text_in section) rows ++ text_in section row ∷ []) (map (λ (e : GramEntry). e.gram) next_here.more) (subst IsAscending texts up)))

  -- one row more
  pub more_cut : (row : GramRow) (rest : List ℕ) (before : Option (Bor GramRow)) → option_copied before ≡ slice_get rows (length rows - 1) → CutsEntry section left row rest
      → MayFollowBorrowed (text_in section) (text_in section row) before → AreCutSoFar section (rows ++ row ∷ []) rest
  more_cut row rest before last cut may = record {
    bytes = read_more (cut_bytes section) section rows row left rest r.bytes cut.bytes;
    ascending =
        subst IsAscending (sym (map-append (text_in section) rows (row ∷ [])))
        (follows (text_in section) (text_in section row) rows (option_copied before) last r.ascending (from_borrowed (text_in section) (text_in section row) before may));
    lie = All-push (LiesIn section) rows row r.lie cut.lies;
    only = λ grams listed same. goes_on_behind grams listed same row rest cut;
  }

-- at the end
pub all_cut : (section : List ℕ) (rows : List GramRow) (left : List ℕ) → AreCutSoFar section rows left → length left ≡ 0 → AreCutRows section rows
all_cut section rows left r none = record {
  bytes = r.bytes ∙ ap (λ bytes. flat_map (cut_bytes section) rows ++ bytes) (nil_from_length left none) ∙ append-nil (flat_map (cut_bytes section) rows);
  ascending = r.ascending;
  lie = r.lie;
  only = λ grams listed same. (no_more (grams_in section rows) grams left none (r.only grams listed same).0, (r.only grams listed same).1);
}
