-- The terms are walked, and each gram of a term lists it next.
use Rattle.std.proofs.Common.{◌≡◌, ◌≢◌, ℕ, zero, suc, ◌+◌, ◌-◌, ◌^◌, ◌<◌, ◌≤◌, List, [], ◌∷◌, ◌++◌, map, length, set, get_or, take, slice_get, Some, None, All, Contains, IsUtf8, Result, Ok, Err, Less, Equal, Greater, inl, inr, refl, sym, ap, subst, ◌∙◌, ⊎_elim, append_assoc, arith, length-append}
use Rattle.std.specs.List.{AllByRecursion, AllZip}
use Rattle.std.specs.List.Sorted.{IsBinarySearchResult, IsNonDecreasingBy, IsPartitionPoint, IsSearchInRange, IsStrictlySortedBy}
use Rattle.std.specs.Cmp.Lexicographic.{slice_cmp}
use Rattle.std.specs.Ordering.{nat_cmp, ordering_index}
use Rattle.std.specs.Result.{result_ok}
use Rattle.std.proofs.lemmas.Bool.{cases_lt}
use Rattle.std.proofs.lemmas.Bool.Decides.{nat_tests}
use Rattle.std.proofs.lemmas.Cmp.{ranked}
use Rattle.std.proofs.lemmas.List.{append-nil, nil_from_length, take_more}
use Rattle.std.proofs.lemmas.List.Elements.{All-contains, All-nil, All-push, Contains-append_left, Contains-append_right, Contains-get_or, Contains-push, Contains-push_cases}
use Rattle.std.proofs.lemmas.List.Sorted.{IsNonDecreasingBy-from_default}
use Rattle.std.proofs.lemmas.Option.{get_or_from_slice_get, slice_get-get_or, slice_get_within}
use Rattle.ix_text.proofs.AscendingLists.{contains_cases, contains_first, contains_later, contains_none}
use Rattle.ix_text.specs.ByteOrder.{IsAscending}
use Rattle.ix_text.specs.Windows.{grams_of}
use Rattle.ix_vbyte.specs.Code.{code_of}
use Rattle.ix_vbyte.specs.Gaps.{Ascends, gaps_from, next_after}
use Rattle.ix_vbyte.specs.Postings.{codes_of}
use Rattle.ix_vbyte.proofs.Gaps.{Ascends-push, Ascends-within, next_after-push}
use Rattle.ix_file.specs.declared.open.gram_walk.Cursor.{Cursor}
use Rattle.ix_file.specs.declared.open.grams.GramRow.{GramRow}
use Rattle.ix_file.specs.declared.open.sides.Side.{Side}
use Rattle.ix_index_text.specs.declared.windows.Gram.{Gram}
use Rattle.ix_file.specs.GramSides.{AreChars, IsKeyOf, IsOn, gram_key}
use Rattle.ix_index_text.specs.GramTables.{text_of}
use Rattle.ix_file.specs.GramWalks.{AreRowsOn, AreWalked, Finds, HasRead, HaveRead, HasRow, IsAtEnd, IsCursorOf, IsRowOfTerms, IsRowOn, KeysAscend, Reads, gap_bytes}
use Rattle.ix_index_text.specs.Grams.{IsGramOfTerm}
use Rattle.ix_file.specs.OpenedGrams.{LiesIn, gap_codes, gram_in}
use Rattle.ix_index_text.specs.TermWindows.{windows_of_term}
use Rattle.ix_file.proofs.AllLists.{zip_push}
use Rattle.ix_file.proofs.GramNumbers.{GoOn, codes-push, below_next, go_on, last_number, next_is, next_not_below}
use Rattle.ix_file.proofs.GramParting.{key_tells, less_keys, one_key, same_key, window_of, window_there}
use Rattle.ix_file.proofs.GramRows.{row_right}
use Rattle.ix_file.proofs.GramSections.{text_in}

-- ---- one row

module _ (side : Side) (terms : List (List ℕ)) (section : List ℕ) (number : ℕ) (seen : List Gram) (row : GramRow) (old : Cursor) (r : HasRead side terms section number seen row old) where
  -- other grams are seen, and nothing is read
  pub seen_as : (more : List Gram) → ((g : Gram) → Contains more g → gram_key g ≡ old.key → Contains r.numbers number) → HasRead side terms section number more row old
  seen_as more listed = record {
    numbers = r.numbers;
    are = r.are;
    some = r.some;
    counted = r.counted;
    after = r.after;
    low = r.low;
    read = r.read;
    keyed = r.keyed;
    on = r.on;
    all = r.all;
    listed = listed;
  }

  -- the last number that was read
  pub read_again : old.next ≡ number + 1 → (gram : Gram) → HasRead side terms section number (seen ++ gram ∷ []) row old × (old.key ≡ old.key)
  read_again is gram = (seen_as (seen ++ gram ∷ []) (λ g has same. last_number 0 r.numbers number (sym r.after ∙ is) (λ e. absurd (omega (arith, e)))), refl)

  -- the next one
  pub read_next : (new : Cursor) (gap : ℕ) → IsGramOfTerm terms (gram_in section row).gram number → old.next ≤ number → gap ≡ number + 1 - old.next → old.gaps.now ≡ code_of gap ++ new.gaps.now → new.key ≡ old.key → new.next ≡ number + 1 → new.left + 1 ≡ old.left
      → (gram : Gram) → HasRead side terms section number (seen ++ gram ∷ []) row new × (new.key ≡ old.key)
  read_next new gap has low is stands key next left gram =
      let g = (gram_in section row).gram in
      let after : old.next ≡ next_after 0 r.numbers = r.after in
      let gap_is : number + 1 - next_after 0 r.numbers ≡ gap = omega (arith, after, is) in
      let codes : gap_codes (r.numbers ++ number ∷ []) ≡ gap_codes r.numbers ++ code_of gap = codes-push r.numbers number ∙ ap (λ (n : ℕ). gap_codes r.numbers ++ code_of n) gap_is in (
        record {
          numbers = r.numbers ++ number ∷ [];
          are = record {
            ascend = Ascends-push 0 (length terms) r.numbers number r.are.ascend (omega (arith, after, low)) (slice_get_within terms number has.term has.numbered);
            right = All-push (IsGramOfTerm terms g) r.numbers number r.are.right has;
          };
          some = r.some;
          counted = let counted = r.counted in omega (arith, counted, left, length-append r.numbers (number ∷ []));
          after = next ∙ sym (next_after-push 0 r.numbers number);
          low = omega (arith, next);
          read = r.read ∙ ap (λ bytes. gap_codes r.numbers ++ bytes) stands ∙ sym (append_assoc (gap_codes r.numbers) (code_of gap) new.gaps.now) ∙ ap (λ bytes. bytes ++ new.gaps.now) (sym codes);
          keyed = subst (IsKeyOf g) (sym key) r.keyed;
          on = subst (IsOn side) (sym key) r.on;
          all = λ n below of. Contains-append_left r.numbers (number ∷ []) n (r.all n below of);
          listed = λ h there same. Contains-push r.numbers number;
        },
        key,
      )

  -- of a row of the terms
  module _ (w : IsRowOfTerms terms section row) where
    -- what is left is what its numbers go on with
    rest : GoOn 0 r.numbers (gram_in section row).numbers old.gaps.now []
    rest =
        let told = (gram_in section row).numbers in
        let short : length r.numbers ≤ length told = let all = w.right.is.coded.counted in let counted = r.counted in omega (arith, all, counted) in
        go_on 0 (length terms) r.numbers told old.gaps.now [] r.are.ascend w.right.right.numbers.ascend short (sym r.read ∙ w.right.is.coded.coded ∙ sym (append-nil (codes_of (gaps_from 0 told))))

    left_is : old.left ≡ length rest.more
    left_is = let all = w.right.is.coded.counted in let counted = r.counted in omega (arith, all, counted, ap length rest.whole, length-append r.numbers rest.more)

    -- none of them below this one
    all_read : (y : ℕ) → Contains (r.numbers ++ rest.more) y → y < number → Contains r.numbers y
    all_read y has low =
        r.all y low (All-contains (IsGramOfTerm terms (gram_in section row).gram) (gram_in section row).numbers y w.right.right.numbers.right (subst (λ (ns : List ℕ). Contains ns y) (sym rest.whole) has))

    -- a number that was not read is next
    pub next_there : IsGramOfTerm terms (gram_in section row).gram number → old.next ≤ number → (behind : List ℕ) × (0 < old.left) × (old.gaps.now ≡ code_of (number + 1 - old.next) ++ behind)
    next_there has low = at rest.more rest.whole rest.left left_is all_read
      where
        at : (more : List ℕ) → (gram_in section row).numbers ≡ r.numbers ++ more → old.gaps.now ≡ codes_of (gaps_from (next_after 0 r.numbers) more) ++ [] → old.left ≡ length more → ((y : ℕ) → Contains (r.numbers ++ more) y → y < number → Contains r.numbers y)
            → (behind : List ℕ) × (0 < old.left) × (old.gaps.now ≡ code_of (number + 1 - old.next) ++ behind)
        at [] whole left count all =
            let there : Contains r.numbers number = subst (λ (ns : List ℕ). Contains ns number) (whole ∙ append-nil r.numbers) (w.all number has) in
            let after : old.next ≡ next_after 0 r.numbers = r.after in
            absurd (omega (arith, below_next 0 (length terms) r.numbers number r.are.ascend there, after, low))
        at (y ∷ ys) whole left count all =
            let up = subst (λ (ns : List ℕ). Ascends 0 (length terms) ns) whole w.right.right.numbers.ascend in
            let there = subst (λ (ns : List ℕ). Contains ns number) whole (w.all number has) in
            let after : old.next ≡ next_after 0 r.numbers = r.after in
            let is : y ≡ number = next_is (length terms) number r.numbers y ys up (all y (Contains-append_right r.numbers (y ∷ ys) y (contains_first y ys))) (omega (arith, after, low)) there in
            let gap : y + 1 - next_after 0 r.numbers ≡ number + 1 - old.next = omega (arith, after, is) in (
              codes_of (gaps_from (y + 1) ys) ++ [],
              omega (arith, count),
              left ∙ append_assoc (code_of (y + 1 - next_after 0 r.numbers)) (codes_of (gaps_from (y + 1) ys)) [] ∙ ap (λ (n : ℕ). code_of n ++ (codes_of (gaps_from (y + 1) ys) ++ [])) gap,
            )

    -- nothing is left behind the last term
    pub read_done : length terms ≤ number → IsAtEnd old
    read_done end = at rest.more rest.whole rest.left left_is all_read
      where
        at : (more : List ℕ) → (gram_in section row).numbers ≡ r.numbers ++ more → old.gaps.now ≡ codes_of (gaps_from (next_after 0 r.numbers) more) ++ [] → old.left ≡ length more → ((y : ℕ) → Contains (r.numbers ++ more) y → y < number → Contains r.numbers y) → IsAtEnd old
        at [] whole left count all = record { none = count; empty = ap length left }
        at (y ∷ ys) whole left count all =
            let up = subst (λ (ns : List ℕ). Ascends 0 (length terms) ns) whole w.right.right.numbers.ascend in
            let here = Contains-append_right r.numbers (y ∷ ys) y (contains_first y ys) in
            let within = (All-contains (λ (x : ℕ). (0 ≤ x) × (x < length terms)) (r.numbers ++ y ∷ ys) y (Ascends-within 0 (length terms) (r.numbers ++ y ∷ ys) up) here).1 in
            absurd (omega (arith, within, end, next_not_below (length terms) number r.numbers y ys up (all y here)))

  -- at the end the row is one of the terms
  pub row_done : length terms < 2 ^ 32 → LiesIn section row → length terms ≤ number → IsAtEnd old → IsRowOfTerms terms section row
  row_done few lies end done =
      let many : length r.numbers ≡ row.count = let counted = r.counted in omega (arith, counted, done.none) in
      let read : gap_bytes section row ≡ gap_codes r.numbers = r.read ∙ ap (λ (bytes : List ℕ). gap_codes r.numbers ++ bytes) (nil_from_length old.gaps.now done.empty) ∙ append-nil (gap_codes r.numbers) in
      let (right, told) = row_right terms section row r.numbers few lies r.some r.are many read in
      record { right = right; all = λ n of. subst (λ (ns : List ℕ). Contains ns n) (sym told) (r.all n (let within = slice_get_within terms n of.term of.numbered in omega (arith, within, end)) of) }

-- ---- a row and its cursor among others

-- a cursor at a place, and its row
pub zip_at : {X Y : Type 0} (R : X → Y → Type 0) (xs : List X) (ys : List Y) (place : ℕ) (y : Y) → AllZip R xs ys → slice_get ys place ≡ Some y → (x : X) × Contains xs x × R x y
zip_at R [] [] place y all is = absurd cc
zip_at R [] (b ∷ ys) place y all is = absurd all
zip_at R (a ∷ xs) [] place y all is = absurd all
zip_at R (a ∷ xs) (b ∷ ys) zero y all is = let same : b ≡ y = cc in (a, contains_first a xs, subst (R a) same all.0)
zip_at R (a ∷ xs) (b ∷ ys) (suc place) y all is = let (x, among, holds) = zip_at R xs ys place y all.1 is in (x, contains_later a xs x among, holds)

-- a row, and its cursor
pub zip_of : {X Y : Type 0} (R : X → Y → Type 0) (xs : List X) (ys : List Y) (x : X) → AllZip R xs ys → Contains xs x → (y : Y) × Contains ys y × R x y
zip_of R [] ys x all has = absurd (contains_none x has)
zip_of R (a ∷ xs) [] x all has = absurd all
zip_of R (a ∷ xs) (b ∷ ys) x all has =
    elim (contains_cases a xs x has) [
      | inl same ↦ (b, contains_first b ys, subst (λ (z : _). R z b) same all.0)
      | inr later ↦ let (y, among, holds) = zip_of R xs ys x all.1 later in (y, contains_later b ys y among, holds)
    ]

pub zip_map : {X Y : Type 0} (R S : X → Y → Type 0) (xs : List X) (ys : List Y) → AllZip R xs ys → ((i : ℕ) (x : X) (y : Y) → slice_get ys i ≡ Some y → R x y → S x y) → AllZip S xs ys
zip_map R S [] [] all f = tt
zip_map R S [] (b ∷ ys) all f = absurd all
zip_map R S (a ∷ xs) [] all f = absurd all
zip_map R S (a ∷ xs) (b ∷ ys) all f = (f 0 a b refl all.0, zip_map R S xs ys all.1 (λ i x y at holds. f (suc i) x y at holds))

-- one that is put in its place, and the others
pub zip_set : {X Y : Type 0} (R S : X → Y → Type 0) (xs : List X) (ys : List Y) (place : ℕ) (z : Y) → AllZip R xs ys
    → ((i : ℕ) (x : X) (y : Y) → slice_get ys i ≡ Some y → R x y → (i ≡ place → S x z) × (i ≢ place → S x y)) → AllZip S xs (set ys place z)
zip_set R S [] [] place z all f = tt
zip_set R S [] (b ∷ ys) place z all f = absurd all
zip_set R S (a ∷ xs) [] place z all f = absurd all
zip_set R S (a ∷ xs) (b ∷ ys) zero z all f =
    ((f 0 a b refl all.0).0 refl, zip_map R S xs ys all.1 (λ i x y at holds. (f (suc i) x y at holds).1 (λ e. absurd (omega (arith, e)))))
zip_set R S (a ∷ xs) (b ∷ ys) (suc place) z all f = (
  (f 0 a b refl all.0).1 (λ e. absurd (omega (arith, e))),
  zip_set R S xs ys place z all.1 (λ i x y at holds. let g = f (suc i) x y at holds in (λ e. g.0 (ap suc e), λ other. g.1 (λ e. other (omega (arith, e))))),
)

-- one row more
pub have_more : (R : GramRow → Cursor → Type 0) (rows : List GramRow) (cursors : List Cursor) (i : ℕ) (d : GramRow) (cursor : Cursor) → i < length rows → AllZip R (take i rows) cursors → R (get_or rows i d) cursor → AllZip R (take (i + 1) rows) (cursors ++ cursor ∷ [])
have_more R rows cursors i d cursor low have one =
    subst (λ (rs : List GramRow). AllZip R rs (cursors ++ cursor ∷ [])) (sym (take_more rows i d low)) (zip_push R (take i rows) cursors (get_or rows i d) cursor have one)

-- ---- keys

module _ (cursors : List Cursor) (up : KeysAscend cursors) where
  pub keys_apart : (i j : ℕ) (a b : Cursor) → slice_get cursors i ≡ Some a → slice_get cursors j ≡ Some b → i ≢ j → a.key ≢ b.key
  keys_apart i j a b at there apart same =
      let a_is : get_or cursors i a ≡ a = get_or_from_slice_get cursors i a a at in
      let b_is : get_or cursors j a ≡ b = get_or_from_slice_get cursors j b a there in
      let one : (get_or cursors i a).key ≡ (get_or cursors j a).key = ap (λ (c : Cursor). c.key) a_is ∙ same ∙ sym (ap (λ (c : Cursor). c.key) b_is) in
      ⊎_elim (λ (low : i < j). absurd (omega (arith, one, up i j a low (slice_get_within cursors j b there))))
      (λ (high : j ≤ i). absurd (omega (arith, one, up j i a (omega (arith, high, apart)) (slice_get_within cursors i a at))))
      (cases_lt i j)

  keys_rise : (key : ℕ) (d : Cursor) → IsNonDecreasingBy (λ (c : Cursor). ordering_index (nat_cmp c.key key)) cursors
  keys_rise key d =
      IsNonDecreasingBy-from_default (λ (c : Cursor). ordering_index (nat_cmp c.key key)) cursors d
      (λ i j low within.
      let rise : (get_or cursors i d).key ≤ (get_or cursors j d).key = ⊎_elim (λ (less : i < j). omega (arith, up i j d less within)) (λ (not_less : j ≤ i). let same : i ≡ j = omega (arith, low, not_less) in omega (arith, ap (λ (n : ℕ). (get_or cursors n d).key) same)) (cases_lt i j) in
      grind (arith, nat_tests, rise))

  pub none_has_key : (key place : ℕ) → (IsNonDecreasingBy (λ (c : Cursor). ordering_index (nat_cmp c.key key)) cursors → IsPartitionPoint (λ (c : Cursor). nat_cmp c.key key ≡ Less) (λ (c : Cursor). nat_cmp c.key key ≡ Greater) cursors place)
      → All (λ (c : Cursor). c.key ≢ key) cursors
  none_has_key key place parted k d low same =
      let sides = parted (keys_rise key d) in
      ⊎_elim (λ (before : k < place). let less = ranked (get_or cursors k d).key key Less (sym (sides.0 k d (omega arith) before)) in absurd (omega (arith, same, less)))
      (λ (behind : place ≤ k). let more = ranked (get_or cursors k d).key key Greater (sym (sides.1 k d behind low)) in absurd (omega (arith, same, more)))
      (cases_lt k place)

-- what a search by key ends at
pub searched : (cursors : List Cursor) (key : ℕ) (r : Result ℕ ℕ) → IsSearchInRange r (length cursors) → IsBinarySearchResult (λ (c : Cursor). nat_cmp c.key key) cursors r → Finds cursors key (result_ok r)
searched cursors key (Ok place) within equal = at cursors place within equal
  where
    at : (cs : List Cursor) (place : ℕ) → place < length cs → ((d : Cursor) → nat_cmp (get_or cs place d).key key ≡ Equal) → IsCursorOf cs key place
    at [] place low equal = absurd (omega (arith, low))
    at (c ∷ cs) zero low equal = (c, refl, ranked c.key key Equal (sym (equal c)))
    at (c ∷ cs) (suc place) low equal = at cs place (omega (arith, low)) equal
searched cursors key (Err place) within parted = λ up. none_has_key cursors up key place parted

module _ (side : Side) (terms : List (List ℕ)) (section : List ℕ) (number : ℕ) (seen : List Gram) where
  first_below : (text : List ℕ) (key : ℕ) → IsKeyOf text key → (rows : List GramRow) (cursors : List Cursor) → HaveRead side terms section number seen rows cursors → AllByRecursion (λ t. slice_cmp nat_cmp text t ≡ Less) (map (text_in section) rows)
      → (j : ℕ) (d : Cursor) → j < length cursors → key < (get_or cursors j d).key
  first_below text key keyed rows [] have less j d low = absurd (omega (arith, low))
  first_below text key keyed [] (c ∷ cursors) have less j d low = absurd have
  first_below text key keyed (row ∷ rows) (c ∷ cursors) have less zero d low = less_keys text (text_in section row) key c.key keyed have.0.keyed less.0
  first_below text key keyed (row ∷ rows) (c ∷ cursors) have less (suc j) d low = first_below text key keyed rows cursors have.1 less.1 j d (omega (arith, low))

  pub keys_ascend : (rows : List GramRow) (cursors : List Cursor) → HaveRead side terms section number seen rows cursors → IsAscending (map (text_in section) rows) → KeysAscend cursors
  unfolding IsStrictlySortedBy
  keys_ascend rows [] have up i j d less low = absurd (omega (arith, low))
  keys_ascend [] (c ∷ cursors) have up i j d less low = absurd have
  keys_ascend (row ∷ rows) (c ∷ cursors) have up i zero d less low = absurd (omega (arith, less))
  keys_ascend (row ∷ rows) (c ∷ cursors) have up zero (suc j) d less low = first_below (text_in section row) c.key have.0.keyed rows cursors have.1 up.0 j d (omega (arith, low))
  keys_ascend (row ∷ rows) (c ∷ cursors) have up (suc i) (suc j) d less low = keys_ascend rows cursors have.1 up.1 i j d (omega (arith, less)) (omega (arith, low))

-- ---- one gram of a term

module _ (side : Side) (terms : List (List ℕ)) (section : List ℕ) (rows : List GramRow) (number : ℕ) (seen : List Gram) (old : List Cursor) (w : AreWalked side terms section rows number seen old) where
  found_more : (gram : Gram) → (IsOn side (gram_key gram) → HasRow section rows (text_of gram)) → (g : Gram) → Contains (seen ++ gram ∷ []) g → IsOn side (gram_key g) → HasRow section rows (text_of g)
  found_more gram found g has on =
      ⊎_elim (λ (before : Contains seen g). w.found g before on)
      (λ (same : gram ≡ g). subst (λ (h : Gram). HasRow section rows (text_of h)) same (found (subst (λ (h : Gram). IsOn side (gram_key h)) (sym same) on)))
      (Contains-push_cases seen gram g has)

  -- to a cursor of another key nothing happens
  other_gram : (gram : Gram) (row : GramRow) (c : Cursor) → HasRead side terms section number seen row c → c.key ≢ gram_key gram → HasRead side terms section number (seen ++ gram ∷ []) row c
  other_gram gram row c r apart =
      seen_as side terms section number seen row c r (seen ++ gram ∷ [])
      (λ g has same. ⊎_elim (λ (before : Contains seen g). r.listed g before same) (λ (this : gram ≡ g). absurd (apart (sym same ∙ ap gram_key (sym this)))) (Contains-push_cases seen gram g has))

  -- a gram of the other side
  pub passed : (gram : Gram) → ¬ (IsOn side (gram_key gram)) → AreWalked side terms section rows number (seen ++ gram ∷ []) old
  passed gram off = record {
    ascending = w.ascending;
    have = zip_map (HasRead side terms section number seen) (HasRead side terms section number (seen ++ gram ∷ [])) rows old w.have
        (λ i row c at r. other_gram gram row c r (λ same. off (subst (IsOn side) same r.on)));
    before = w.before;
    found = found_more gram (λ on. absurd (off on));
  }

  module _ (gram : Gram) (key : ℕ) (term : List ℕ) (chars : AreChars gram) (keyed : gram_key gram ≡ key) (has : IsGramOfTerm terms (text_of gram) number) where
    text_at : (row : GramRow) (c : Cursor) → HasRead side terms section number seen row c → c.key ≡ key → text_of gram ≡ (gram_in section row).gram
    text_at row c r is = key_tells (gram_in section row).gram c.key gram r.keyed chars (keyed ∙ sym is)

    -- no cursor has its key
    pub no_cursor : (KeysAscend old → All (λ (c : Cursor). c.key ≢ key) old) → IsOn side key → slice_get terms number ≡ Some term → Contains (windows_of_term term) gram → ¬ (AreRowsOn side terms section rows)
    no_cursor none on at among rows_on =
        let h = rows_on.all term gram number at among (subst (IsOn side) (sym keyed) on) in
        let (c, there, r) = zip_of (HasRead side terms section number seen) rows old h.row w.have h.among in
        let own : IsKeyOf (text_in section h.row) (gram_key gram) = record { gram = gram; chars = chars; keyed = refl; spelled = sym h.spelled } in
        All-contains (λ (x : Cursor). x.key ≢ key) old c (none (keys_ascend side terms section number seen rows old w.have w.ascending)) there
        (one_key (text_in section h.row) c.key (gram_key gram) r.keyed own ∙ keyed)

    -- the number is not the next of its cursor
    pub not_next : (place : ℕ) (d : Cursor) → IsCursorOf old key place → Reads (get_or old place d) number None → ¬ (AreRowsOn side terms section rows)
    not_next place d (c, at, is) reads rows_on =
        let same : get_or old place d ≡ c = get_or_from_slice_get old place c d at in
        let (row, among, r) = zip_at (HasRead side terms section number seen) rows old place c w.have at in
        let spelled = text_at row c r is in
        reads side terms section seen row (subst (λ (t : List ℕ). IsGramOfTerm terms t number) spelled has) (subst (HasRead side terms section number seen row) (sym same) r)
        (All-contains (IsRowOfTerms terms section) rows row rows_on.each among)

    -- it is, or was its last
    pub taken : (place : ℕ) (d new : Cursor) → IsCursorOf old key place → Reads (get_or old place d) number (Some new) → AreWalked side terms section rows number (seen ++ gram ∷ []) (set old place new)
    taken place d new (c, at, is) reads =
        let same : get_or old place d ≡ c = get_or_from_slice_get old place c d at in
        let up = keys_ascend side terms section number seen rows old w.have w.ascending in
        let (row, among, r) = zip_at (HasRead side terms section number seen) rows old place c w.have at in
        record {
          ascending = w.ascending;
          have = zip_set (HasRead side terms section number seen) (HasRead side terms section number (seen ++ gram ∷ [])) rows old place new w.have
              (λ i x y here holds. (
                λ this.
                    let one : y ≡ c = one_at i y here this in
                    let own : HasRead side terms section number seen x c = subst (HasRead side terms section number seen x) one holds in
                    (reads side terms section seen x (subst (λ (t : List ℕ). IsGramOfTerm terms t number) (text_at x c own is) has) (subst (HasRead side terms section number seen x) (sym same) own) gram).0,
                λ other. other_gram gram x y holds (λ equal. keys_apart old up i place y c here at other (equal ∙ keyed ∙ sym is)),
              ));
          before = w.before;
          found = found_more gram (λ on. record { row = row; among = among; spelled = sym (text_at row c r is) });
        }
      where
        one_at : (i : ℕ) (y : Cursor) → slice_get old i ≡ Some y → i ≡ place → y ≡ c
        one_at i y here this = let there : slice_get old place ≡ Some y = ap (slice_get old) (sym this) ∙ here in cc

-- ---- the terms

module _ (side : Side) (terms : List (List ℕ)) (section : List ℕ) (rows : List GramRow) (number : ℕ) (cursors : List Cursor) where
  -- a term whose grams were all seen was walked
  pub term_walked : (term : List ℕ) → IsUtf8 term → slice_get terms number ≡ Some term → AreWalked side terms section rows number (windows_of_term term) cursors → AreWalked side terms section rows (number + 1) [] cursors
  term_walked term text at w = record {
    ascending = w.ascending;
    have = zip_map (HasRead side terms section number (windows_of_term term)) (HasRead side terms section (number + 1) []) rows cursors w.have
        (λ i row c here r. record {
          numbers = r.numbers;
          are = r.are;
          some = r.some;
          counted = r.counted;
          after = r.after;
          low = let low = r.low in omega (arith, low);
          read = r.read;
          keyed = r.keyed;
          on = r.on;
          all = λ n below of.
              ⊎_elim (λ (before : n < number). r.all n before of)
              (λ (not_before : number ≤ n).
              let last : n ≡ number = omega (arith, below, not_before) in
              let same : of.term ≡ term = one_term of.term (sym of.numbered ∙ ap (slice_get terms) last ∙ at) in
              let (window, among, spelled) = window_of term (text_in section row) text (subst (λ (t : List ℕ). Contains (grams_of t) (text_in section row)) same of.windowed) in
              let key : gram_key window ≡ c.key = same_key window r.keyed.gram (spelled ∙ sym r.keyed.spelled) ∙ r.keyed.keyed in
              subst (λ (m : ℕ). Contains r.numbers m) (sym last) (r.listed window among key))
              (cases_lt n number);
          listed = λ g has. absurd (contains_none g has);
        });
    before = λ t gram n below is has on.
        ⊎_elim (λ (before : n < number). w.before t gram n before is has on)
        (λ (not_before : number ≤ n).
        let last : n ≡ number = omega (arith, below, not_before) in
        let same : t ≡ term = one_term t (sym is ∙ ap (slice_get terms) last ∙ at) in
        w.found gram (subst (λ (u : List ℕ). Contains (windows_of_term u) gram) same has) on)
        (cases_lt n number);
    found = λ g has. absurd (contains_none g has);
  }
    where
      one_term : (t : List ℕ) → Some t ≡ Some term → t ≡ term
      one_term t e = cc

  module _ (w : AreWalked side terms section rows number [] cursors) (end : length terms ≤ number) where
    -- nothing is left of rows of the terms
    pub all_at_end : AreRowsOn side terms section rows → All IsAtEnd cursors
    all_at_end on k d low =
        let (row, among, r) = zip_at (HasRead side terms section number []) rows cursors k (get_or cursors k d) w.have (slice_get-get_or cursors k d low) in
        read_done side terms section number [] row (get_or cursors k d) r (All-contains (IsRowOfTerms terms section) rows row on.each among) end

    -- and if nothing is left, they are
    pub all_walked : length terms < 2 ^ 32 → All (LiesIn section) rows → All IsAtEnd cursors → AreRowsOn side terms section rows
    all_walked few lie done = record {
      each = λ k d low.
          let row = get_or rows k d in
          let among = Contains-get_or rows k d low in
          let (c, there, r) = zip_of (HasRead side terms section number []) rows cursors row w.have among in
          row_done side terms section number [] row c r few (All-contains (LiesIn section) rows row lie among) end (All-contains IsAtEnd cursors c done there);
      all = λ term gram n at has on. w.before term gram n (let within = slice_get_within terms n term at in omega (arith, within, end)) at has on;
    }

-- the next window of a term is a gram of it
pub window_next : (terms : List (List ℕ)) (number : ℕ) (term : List ℕ) (seen left : List Gram) (gram : Gram) (next : List Gram) → IsUtf8 term → slice_get terms number ≡ Some term → seen ++ left ≡ windows_of_term term → left ≡ gram ∷ next
    → Contains (windows_of_term term) gram × IsGramOfTerm terms (text_of gram) number
window_next terms number term seen left gram next text at whole is =
    let first : Contains left gram = subst (λ (gs : List Gram). Contains gs gram) (sym is) (contains_first gram next) in
    let among = subst (λ (gs : List Gram). Contains gs gram) whole (Contains-append_right seen left gram first) in
    (among, record { term = term; numbered = at; windowed = window_there term gram text among })

-- before the first term
pub walked_none : (side : Side) (terms : List (List ℕ)) (section : List ℕ) (rows : List GramRow) (cursors : List Cursor) → IsAscending (map (text_in section) rows) → HaveRead side terms section 0 [] rows cursors → AreWalked side terms section rows 0 [] cursors
walked_none side terms section rows cursors up have = record { ascending = up; have = have; before = λ term gram n low. absurd (omega (arith, low)); found = λ g has. absurd (contains_none g has) }

-- a cursor before its first number
pub none_read : (side : Side) (terms : List (List ℕ)) (section : List ℕ) (row : GramRow) (cursor : Cursor) → IsRowOn side section row → IsKeyOf (text_in section row) cursor.key → ¬ (row.count ≡ 0) → cursor.next ≡ 0 → cursor.left ≡ row.count → cursor.gaps.now ≡ gap_bytes section row
    → HasRead side terms section 0 [] row cursor
none_read side terms section row cursor on keyed some next left gaps = record {
  numbers = [];
  are = record { ascend = tt; right = All-nil (IsGramOfTerm terms (text_in section row)) };
  some = omega (arith, some);
  counted = omega (arith, left);
  after = next;
  low = omega (arith, next);
  read = sym gaps;
  keyed = keyed;
  on = on cursor.key keyed;
  all = λ n low. absurd (omega (arith, low));
  listed = λ g has. absurd (contains_none g has);
}
