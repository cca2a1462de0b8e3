-- A key tells which gram it is of, keys ascend as the grams do, and the rows on two sides of a key are all rows.
use Rattle.std.proofs.Common.{◌≡◌, true, ℕ, ◌^◌, ◌<◌, ◌≤◌, List, [], ◌∷◌, ◌++◌, map, length, get_or, slice_get, Some, All, Contains, IsUtf8, Less, inl, inr, refl, sym, ap, subst, ◌∙◌, ⊎_elim, arith}
use Rattle.std.specs.Char.{encode_utf8}
use Rattle.std.specs.Cmp.{first_so, second_so}
use Rattle.std.specs.Cmp.Lexicographic.{slice_cmp}
use Rattle.std.specs.List.Sorted.{IsStrictlySortedBy}
use Rattle.std.specs.Ordering.{nat_cmp}
use Rattle.std.specs.Str.{encode_utf8_all}
use Rattle.std.proofs.Math.Utf8.{scalar, scalar_cases}
use Rattle.std.proofs.lemmas.Bool.{cases_lt}
use Rattle.std.proofs.lemmas.Cmp.{nat_list_cmp_total}
use Rattle.std.proofs.lemmas.List.{map-append}
use Rattle.std.proofs.lemmas.List.Elements.{All-nil, All-cons, All-append, All-contains, Contains-append_left, Contains-append_right, Contains-append_cases, Contains-get_or}
use Rattle.ix_text.proofs.AscendingLists.{all_below, contained_from_map, contains_first, contains_map, not_below_itself}
use Rattle.ix_text.specs.ByteOrder.{IsAscending}
use Rattle.ix_text.specs.Windows.{grams_of}
use Rattle.ix_file.specs.declared.open.grams.GramRow.{GramRow}
use Rattle.ix_file.specs.declared.open.sides.Side.TheVariants.{Below, From}
use Rattle.ix_index_text.specs.declared.windows.GramPair.{GramPair}
use Rattle.ix_index_text.specs.declared.windows.Gram.{Gram}
use Rattle.ix_file.specs.GramSides.{AreChars, IsKeyOf, gram_key}
use Rattle.ix_index_text.specs.GramTables.{text_of}
use Rattle.ix_file.specs.GramWalks.{AreRowsOn, HasRow, IsRowKey, IsRowOfTerms, IsRowOn}
use Rattle.ix_index_text.specs.TermWindows.{windows_of_term}
use Rattle.ix_index_text.specs.WindowPairs.{gram_of, pairs_of_term}
use Rattle.ix_file.proofs.AscendingLemmas.{ascending_front}
use Rattle.ix_file.proofs.GramReading.{text_is}
use Rattle.ix_file.proofs.GramSections.{text_in}
use Rattle.ix_file.proofs.GramTexts.{HasCharacters, gram_characters}
use Rattle.ix_index_text.proofs.GramOrder.{less_character, less_front}
use Rattle.ix_index_text.proofs.HeldLemmas.{term_has}
use Rattle.ix_index_text.proofs.PairGrams.{gram_tells}
use Rattle.ix_index_text.proofs.TermPairs.{paired, windows-paired}

-- ---- keys

-- grams of one text are of the same characters
pub same_key : (g h : Gram) → text_of g ≡ text_of h → gram_key g ≡ gram_key h
same_key g h same =
    let (a, b, c) = gram_tells (paired 0 g) (paired 0 h) same in
    λ i. gram_key (record { first = a i; second = b i; third = c i })

pub one_key : (text : List ℕ) (k l : ℕ) → IsKeyOf text k → IsKeyOf text l → k ≡ l
one_key text k l p q = sym p.keyed ∙ same_key p.gram q.gram (p.spelled ∙ sym q.spelled) ∙ q.keyed

pub key_tells : (text : List ℕ) (key : ℕ) (gram : Gram) → IsKeyOf text key → AreChars gram → gram_key gram ≡ key → text_of gram ≡ text
key_tells text key gram k chars keyed =
    let same : gram_key gram ≡ gram_key k.gram = keyed ∙ sym k.keyed in
    let gs = chars in
    let hs = k.chars in
    let first : gram.first ≡ k.gram.first = omega (arith, gs.first, gs.second, gs.third, hs.first, hs.second, hs.third, same) in
    let second : gram.second ≡ k.gram.second = omega (arith, gs.second, gs.third, hs.second, hs.third, same, first) in
    let third : gram.third ≡ k.gram.third = omega (arith, same, first, second) in
    (λ i. encode_utf8_all (first i ∷ second i ∷ third i ∷ [])) ∙ k.spelled

less_same : (c d : ℕ) (xs ys : List ℕ) → c ≡ d → slice_cmp nat_cmp xs ys ≡ Less → slice_cmp nat_cmp (encode_utf8 c ++ xs) (encode_utf8 d ++ ys) ≡ Less
less_same c d xs ys same less = subst (λ (e : ℕ). slice_cmp nat_cmp (encode_utf8 c ++ xs) (encode_utf8 e ++ ys) ≡ Less) same (less_front (encode_utf8 c) xs ys less)

less_text : (g h : Gram) → AreChars g → AreChars h → gram_key g < gram_key h → slice_cmp nat_cmp (text_of g) (text_of h) ≡ Less
less_text g h gs hs low =
    ⊎_elim (λ (a : g.first < h.first). less_character g.first h.first _ _ a)
    (λ (a : h.first ≤ g.first).
    let first : g.first ≡ h.first = omega (arith, a, gs.second, gs.third, hs.second, hs.third, low) in
    less_same g.first h.first _ _ first
    (⊎_elim (λ (b : g.second < h.second). less_character g.second h.second _ _ b)
    (λ (b : h.second ≤ g.second).
    let second : g.second ≡ h.second = omega (arith, b, first, gs.third, hs.third, low) in
    less_same g.second h.second _ _ second (less_character g.third h.third [] [] (omega (arith, first, second, low))))
    (cases_lt g.second h.second)))
    (cases_lt g.first h.first)

-- keys ascend as the grams do
pub less_keys : (s t : List ℕ) (k l : ℕ) → IsKeyOf s k → IsKeyOf t l → slice_cmp nat_cmp s t ≡ Less → k < l
less_keys s t k l p q less =
    ⊎_elim (λ (low : k < l). low)
    (λ (high : l ≤ k).
    ⊎_elim (λ (other : l < k).
    let back : slice_cmp nat_cmp (text_of q.gram) (text_of p.gram) ≡ Less = less_text q.gram p.gram q.chars p.chars (omega (arith, other, p.keyed, q.keyed)) in
    let turned : slice_cmp nat_cmp t s ≡ Less = subst (λ (u : List ℕ). slice_cmp nat_cmp u s ≡ Less) q.spelled (subst (λ (u : List ℕ). slice_cmp nat_cmp (text_of q.gram) u ≡ Less) p.spelled back) in
    absurd (not_below_itself nat_list_cmp_total s (nat_list_cmp_total.trans s t s less turned)))
    (λ (not_other : k ≤ l).
    let same : text_of p.gram ≡ t = key_tells t l p.gram q p.chars (omega (arith, p.keyed, high, not_other)) in
    absurd (not_below_itself nat_list_cmp_total s (subst (λ (u : List ℕ). slice_cmp nat_cmp s u ≡ Less) (sym same ∙ p.spelled) less)))
    (cases_lt l k))
    (cases_lt k l)

small : (c : ℕ) → scalar c ≡ true → c < 2 ^ 21
small c so = ⊎_elim (λ (low : c < 55296). omega (arith, low)) (λ (high : (57344 ≤ c) × (c < 1114112)). omega (arith, high.1)) (scalar_cases c so)

-- a gram of three characters has a key
pub key_from : (text : List ℕ) (gram : Gram) → HasCharacters text → text_of gram ≡ text → IsKeyOf text (gram_key gram)
key_from text gram h spelled =
    let (a, b, c) = gram_tells (paired 0 gram) h.pair (spelled ∙ sym h.spelled) in
    record {
      gram = gram;
      chars = record {
        first = small gram.first (scalar_at gram.first h.pair.first a (first_so _ _ h.are));
        second = small gram.second (scalar_at gram.second h.pair.second b (first_so _ _ (second_so _ _ h.are)));
        third = small gram.third (scalar_at gram.third h.pair.third c (first_so _ _ (second_so _ _ (second_so _ _ h.are))));
      };
      keyed = refl;
      spelled = spelled;
    }
  where
    scalar_at : (c d : ℕ) → c ≡ d → scalar d ≡ true → scalar c ≡ true
    scalar_at c d same so = subst (λ (e : ℕ). scalar e ≡ true) (sym same) so

-- ---- the windows of a term

-- each of them is a gram of the term
pub window_there : (term : List ℕ) (gram : Gram) → IsUtf8 term → Contains (windows_of_term term) gram → Contains (grams_of term) (text_of gram)
window_there term gram text has =
    let among : Contains (pairs_of_term 0 term) (paired 0 gram) =
    subst (λ (ps : List GramPair). Contains ps (paired 0 gram)) (windows-paired 0 term) (contains_map (paired 0) (windows_of_term term) gram has) in
    ((term_has 0 term (text_of gram) 0 text).0 (record { pair = paired 0 gram; among = among; spelled = refl; numbered = refl })).1

-- and each gram is one of them
pub window_of : (term g : List ℕ) → IsUtf8 term → Contains (grams_of term) g → (window : Gram) × Contains (windows_of_term term) window × (text_of window ≡ g)
window_of term g text has =
    let held = (term_has 0 term g 0 text).1 (refl, has) in
    let there : Contains (map (paired 0) (windows_of_term term)) held.pair = subst (λ (ps : List GramPair). Contains ps held.pair) (sym (windows-paired 0 term)) held.among in
    let (window, among, is) = contained_from_map (paired 0) (windows_of_term term) held.pair there in
    let spelled : gram_of (paired 0 window) ≡ gram_of held.pair = λ i. gram_of (is i) in
    (window, among, spelled ∙ held.spelled)

-- ---- sides

module _ (section : List ℕ) where
  ascending_behind : (front back : List GramRow) → IsAscending (map (text_in section) (front ++ back)) → IsAscending (map (text_in section) back)
  unfolding IsStrictlySortedBy
  ascending_behind [] back up = up
  ascending_behind (f ∷ front) back up = ascending_behind front back up.1

  module _ (pivot : ℕ) where
    all_under : (front : List GramRow) (row : GramRow) (rest : List GramRow) → IsAscending (map (text_in section) (front ++ row ∷ rest)) → IsKeyOf (text_in section row) pivot → All (IsRowOn (Below pivot) section) front
    unfolding IsStrictlySortedBy
    all_under [] row rest up keyed = All-nil (IsRowOn (Below pivot) section)
    all_under (f ∷ front) row rest up keyed =
        let there = contains_map (text_in section) (front ++ row ∷ rest) row (Contains-append_right front (row ∷ rest) row (contains_first row rest)) in
        let less = all_below (slice_cmp nat_cmp) (text_in section f) (map (text_in section) (front ++ row ∷ rest)) (text_in section row) up.0 there in
        All-cons (IsRowOn (Below pivot) section) f front (λ key k. less_keys (text_in section f) (text_in section row) key pivot k keyed less) (all_under front row rest up.1 keyed)

    all_from : (row : GramRow) (rest : List GramRow) → IsAscending (map (text_in section) (row ∷ rest)) → IsKeyOf (text_in section row) pivot → All (IsRowOn (From pivot) section) (row ∷ rest)
    unfolding IsStrictlySortedBy
    all_from row rest up keyed =
        All-cons (IsRowOn (From pivot) section) row rest (λ key k. omega (arith, one_key (text_in section row) pivot key keyed k))
        (λ i d low key k.
        let there = contains_map (text_in section) rest (get_or rest i d) (Contains-get_or rest i d low) in
        let less = all_below (slice_cmp nat_cmp) (text_in section row) (map (text_in section) rest) (text_in section (get_or rest i d)) up.0 there in
        omega (arith, less_keys (text_in section row) (text_in section (get_or rest i d)) pivot key keyed k less))

  -- ascending rows in two parts, before a row and from it on
  pub record ArePartedAt (pivot : ℕ) (front back : List GramRow) : Type 0 where
    pub front_up : IsAscending (map (text_in section) front)
    pub back_up : IsAscending (map (text_in section) back)
    pub under : All (IsRowOn (Below pivot) section) front
    pub over : All (IsRowOn (From pivot) section) back

  pub parted_at : (pivot : ℕ) (front back : List GramRow) (row : GramRow) → IsAscending (map (text_in section) (front ++ back)) → slice_get (front ++ back) (length front) ≡ Some row → IsKeyOf (text_in section row) pivot → ArePartedAt pivot front back
  parted_at pivot front back row up at keyed = record {
    front_up = ascending_front (map (text_in section) front) (map (text_in section) back) (subst IsAscending (map-append (text_in section) front back) up);
    back_up = ascending_behind front back up;
    under = under back at up;
    over = over back at (ascending_behind front back up);
  }
    where
      first_behind : (front back : List GramRow) → slice_get (front ++ back) (length front) ≡ slice_get back 0
      first_behind [] back = refl
      first_behind (f ∷ front) back = first_behind front back

      under : (back : List GramRow) → slice_get (front ++ back) (length front) ≡ Some row → IsAscending (map (text_in section) (front ++ back)) → All (IsRowOn (Below pivot) section) front
      under [] at up = absurd (let none = first_behind front [] in cc)
      under (b ∷ back) at up =
          let same : b ≡ row = let first = first_behind front (b ∷ back) in cc in
          all_under pivot front b back up (subst (λ (r : GramRow). IsKeyOf (text_in section r) pivot) (sym same) keyed)

      over : (back : List GramRow) → slice_get (front ++ back) (length front) ≡ Some row → IsAscending (map (text_in section) back) → All (IsRowOn (From pivot) section) back
      over [] at up = All-nil (IsRowOn (From pivot) section)
      over (b ∷ back) at up =
          let same : b ≡ row = let first = first_behind front (b ∷ back) in cc in
          all_from pivot b back up (subst (λ (r : GramRow). IsKeyOf (text_in section r) pivot) (sym same) keyed)

  pub parted_rows : (pivot middle : ℕ) (rows front back : List GramRow) → IsAscending (map (text_in section) rows) → rows ≡ front ++ back → length front ≡ middle → IsRowKey section rows middle pivot → ArePartedAt pivot front back
  parted_rows pivot middle rows front back up whole many key =
      parted_at pivot front back key.row (subst (λ (rs : List GramRow). IsAscending (map (text_in section) rs)) whole up)
      (subst (λ (rs : List GramRow). slice_get rs (length front) ≡ Some key.row) whole (ap (slice_get rows) many ∙ key.at)) key.keyed

  all_among : (P : GramRow → Type 0) (rows more : List GramRow) → ((row : GramRow) → Contains rows row → Contains more row) → All P more → All P rows
  all_among P rows more within all k d low = All-contains P more (get_or rows k d) all (within (get_or rows k d) (Contains-get_or rows k d low))

  pub all_parted : (P : GramRow → Type 0) (rows front back : List GramRow) → rows ≡ front ++ back → All P rows → All P front × All P back
  all_parted P rows front back whole all =
      let both = subst (All P) whole all in
      (all_among P front (front ++ back) (λ row. Contains-append_left front back row) both, all_among P back (front ++ back) (λ row. Contains-append_right front back row) both)

  among_more : (rows more : List GramRow) (g : List ℕ) → ((row : GramRow) → Contains rows row → Contains more row) → HasRow section rows g → HasRow section more g
  among_more rows more g within h = record { row = h.row; among = within h.row h.among; spelled = h.spelled }

  module _ (terms : List (List ℕ)) (front back : List GramRow) (key : ℕ) where
    pub both_sides : AreRowsOn (Below key) terms section front → AreRowsOn (From key) terms section back → AreRowsOn (From 0) terms section (front ++ back)
    both_sides below from = record {
      each = All-append (IsRowOfTerms terms section) front back below.each from.each;
      all = λ term gram number at has on.
          ⊎_elim (λ (low : gram_key gram < key). among_more front (front ++ back) (text_of gram) (λ row. Contains-append_left front back row) (below.all term gram number at has low))
          (λ (high : key ≤ gram_key gram). among_more back (front ++ back) (text_of gram) (λ row. Contains-append_right front back row) (from.all term gram number at has high))
          (cases_lt (gram_key gram) key);
    }

    module _ (texts : All IsUtf8 terms) (whole : AreRowsOn (From 0) terms section (front ++ back)) where
      -- the key of a gram of the terms
      key_of : (term : List ℕ) (gram : Gram) (number : ℕ) → slice_get terms number ≡ Some term → Contains (windows_of_term term) gram → IsKeyOf (text_of gram) (gram_key gram)
      key_of term gram number at has =
          let text = text_is terms number term texts at in
          key_from (text_of gram) gram (gram_characters term (text_of gram) text (window_there term gram text has)) refl

      pub below_side : All (IsRowOn (From key) section) back → AreRowsOn (Below key) terms section front
      below_side over = record {
        each = (all_parted (IsRowOfTerms terms section) (front ++ back) front back refl whole.each).0;
        all = λ term gram number at has low.
            let h = whole.all term gram number at has (omega arith) in
            elim (Contains-append_cases front back h.row h.among) [
              | inl there ↦ record { row = h.row; among = there; spelled = h.spelled }
              | inr other ↦
                  let high : key ≤ gram_key gram = All-contains (IsRowOn (From key) section) back h.row over other (gram_key gram) (subst (λ (g : List ℕ). IsKeyOf g (gram_key gram)) (sym h.spelled) (key_of term gram number at has)) in
                  absurd (omega (arith, low, high))
            ];
      }

      pub from_side : All (IsRowOn (Below key) section) front → AreRowsOn (From key) terms section back
      from_side under = record {
        each = (all_parted (IsRowOfTerms terms section) (front ++ back) front back refl whole.each).1;
        all = λ term gram number at has high.
            let h = whole.all term gram number at has (omega arith) in
            elim (Contains-append_cases front back h.row h.among) [
              | inl other ↦
                  let low : gram_key gram < key = All-contains (IsRowOn (Below key) section) front h.row under other (gram_key gram) (subst (λ (g : List ℕ). IsKeyOf g (gram_key gram)) (sym h.spelled) (key_of term gram number at has)) in
                  absurd (omega (arith, low, high))
              | inr there ↦ record { row = h.row; among = there; spelled = h.spelled }
            ];
      }
