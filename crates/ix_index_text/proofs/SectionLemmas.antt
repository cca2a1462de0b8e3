-- The GRAMS section, entry by entry, of lists of numbers in the order of their grams.
use Rattle.std.proofs.Common.{◌≡◌, ℕ, suc, ◌<◌, ◌≤◌, Bool, false, cond, List, [], ◌∷◌, ◌++◌, map, length, take, All, Contains, Option, None, Some, Result, Ok, Err, OnOk, Less, take-take, slice_get, refl, sym, ap, ap₂, subst, ◌∙◌, inl, inr, arith, append_assoc, append-nil, length-append}
use Rattle.std.proofs.lemmas.Cmp.{nat_cmp_total, on_total, then_total}
use Rattle.std.proofs.lemmas.Grind.{flat_map-append}
use Rattle.std.proofs.lemmas.List.{take_at}
use Rattle.std.proofs.lemmas.List.Elements.{All-nil, All-cons}
use Rattle.std.proofs.lemmas.List.Kept.{IsStrictlySortedBy-dedup}
use Rattle.std.proofs.lemmas.Map.Entries.{lookup_from_place, place_from_lookup}
use Rattle.std.proofs.lemmas.Option.{slice_get_within, get_or_from_slice_get}
use Rattle.std.specs.Cmp.{IsTotalOrder, both_tied, unsigned_ties}
use Rattle.std.specs.Cmp.Lexicographic.{slice_cmp}
use Rattle.std.specs.HashMap.{HashMap, get, keys, IsReordered, IsUnique}
use Rattle.std.specs.List.{AllByRecursion, IsDistinct, dedup, dedup_from}
use Rattle.std.specs.List.Sorted.{IsSorted, IsStrictlySortedBy}
use Rattle.std.specs.Map.{keys_of}
use Rattle.std.specs.Ordering.{eq_by_cmp, nat_cmp}
use Rattle.std.specs.Str.{chars, encode_utf8_all}
use Rattle.ix_vbyte.specs.Gaps.{gaps_of}
use Rattle.ix_vbyte.specs.Code.{code_of}
use Rattle.ix_vbyte.specs.Postings.{codes_of}
use Rattle.ix_vbyte.specs.Texts.{counted}
use Rattle.ix_vbyte.proofs.Gaps.{Ascends-rising}
use Rattle.ix_text.proofs.AscendingLists.{contains_cases, contains_none, contains_map, contained_from_map}
use Rattle.ix_text.specs.ByteOrder.{IsAscending}
use Rattle.ix_text.specs.Parts.{GramEntry, IsGramEntry}
use Rattle.ix_text.specs.Windows.{grams_of, trigram_list, windows_of_three}
use Rattle.ix_index_text.specs.declared.windows.Gram.{Gram}
use Rattle.ix_index_text.specs.declared.writer.grams.GramList.{GramList}
use Rattle.ix_index_text.specs.Grams.{AppendsGrams, AreGramsOfTerms, IsGramOfTerm}
use Rattle.ix_index_text.specs.GramTables.{AreListed, HoldsRelation, IsListOf, ListsNumbers, all_listed_bytes, entry, gram_cmp, gram_eq, listed_bytes, text_of}
use Rattle.ix_index_text.specs.Sections.{grams_section}
use Rattle.ix_index_text.proofs.GramNotes.{gram_eq_equiv, gram_exact}
use Rattle.ix_index_text.proofs.PairGrams.{gram_below}

-- the bytes of an entry
abbrev line : GramEntry → List ℕ
line e = counted e.gram ++ code_of (length e.numbers) ++ codes_of (gaps_of e.numbers)

-- a section is that of its first entry and that of the others
section-cons : (e : GramEntry) (es : List GramEntry) → grams_section (e ∷ es) ≡ grams_section (e ∷ []) ++ grams_section es
unfolding grams_section
section-cons e es = ap (λ (xs : List ℕ). xs ++ grams_section es) (sym (append-nil (line e)))

section-none : grams_section [] ≡ []
unfolding grams_section
section-none = refl

-- ---- one entry

on_ok_then : {T E P Q : Type 0} (result : Result T E) → (P → Q) → OnOk result P → OnOk result Q
on_ok_then (Ok value) f p = f p
on_ok_then (Err error) f p = tt

-- ---- the walk over the lists

-- the lists before what is left are appended
pub record AreAppended (before : List ℕ) (all rest : List (Gram × GramList)) (now : List ℕ) : Type 0 where
  pub done : List (Gram × GramList)
  pub parts : all ≡ done ++ rest
  pub grown : now ≡ before ++ all_listed_bytes done

pub appended-more : (before : List ℕ) (all rest next : List (Gram × GramList)) (now new : List ℕ) (gram : Gram) (list : GramList) → AreAppended before all rest now → rest ≡ (gram, list) ∷ next → new ≡ now ++ listed_bytes gram list
    → AreAppended before all next new
appended-more before all rest next now new gram list so_far is appended = record {
  done = so_far.done ++ (gram, list) ∷ [];
  parts = so_far.parts ∙ ap (λ (ls : List (Gram × GramList)). so_far.done ++ ls) is ∙ sym (append_assoc so_far.done ((gram, list) ∷ []) next);
  grown =
      appended ∙ ap (λ (xs : List ℕ). xs ++ listed_bytes gram list) so_far.grown ∙ append_assoc before (all_listed_bytes so_far.done) (listed_bytes gram list)
      ∙ ap (λ (xs : List ℕ). before ++ xs)
      (ap (λ (xs : List ℕ). all_listed_bytes so_far.done ++ xs) (sym (append-nil (listed_bytes gram list))) ∙ sym (flat_map-append (λ (l : Gram × GramList). listed_bytes l.0 l.1) so_far.done ((gram, list) ∷ [])));
}

-- what stood before still stands at the front
pub appended-begun : (before : List ℕ) (all rest : List (Gram × GramList)) (now new : List ℕ) → AreAppended before all rest now → take (length now) new ≡ now → take (length before) new ≡ before
appended-begun before all rest now new so_far front =
    let shorter : length before ≤ length now = omega (arith, ap length so_far.grown, length-append before (all_listed_bytes so_far.done)) in
    sym (take-take (length before) (length now) new shorter) ∙ ap (take (length before)) front
    ∙ ap (take (length before)) so_far.grown ∙ take_at before (all_listed_bytes so_far.done) (length before) refl

-- ---- the entries of the lists

listed_line : (gram : Gram) (list : GramList) (e : GramEntry) → e.gram ≡ text_of gram → IsListOf list e.numbers → listed_bytes gram list ≡ line e
listed_line gram list e same is =
    ap₂ (λ (xs ys : List ℕ). xs ++ ys) (ap₂ (λ (text : List ℕ) (n : ℕ). counted text ++ code_of n) (sym same) is.count) is.gaps

section-line : (x : GramEntry) → line x ++ [] ≡ grams_section (x ∷ [])
unfolding grams_section
section-line x = refl

pub section_listed : (lists : List (Gram × GramList)) (entries : List GramEntry) → AreListed lists entries → all_listed_bytes lists ≡ grams_section entries
section_listed [] [] listed = sym section-none
section_listed [] (e ∷ entries) listed = absurd listed
section_listed (l ∷ lists) [] listed = absurd listed
section_listed (l ∷ lists) (e ∷ entries) listed =
    ap₂ (λ (xs ys : List ℕ). xs ++ ys) (listed_line l.0 l.1 e listed.0 listed.1 ∙ sym (append-nil (line e)) ∙ section-line e) (section_listed lists entries listed.2) ∙ sym (section-cons e entries)

-- ---- keys in order

gram_cmp_total : IsTotalOrder gram_cmp
gram_cmp_total = then_total (on_total (λ (g : Gram). g.first) nat_cmp_total) (then_total (on_total (λ (g : Gram). g.second) nat_cmp_total) (on_total (λ (g : Gram). g.third) nat_cmp_total))

ties : (g h : Gram) → gram_eq g h ≡ eq_by_cmp gram_cmp g h
ties g h = both_tied _ _ _ _ (unsigned_ties g.first h.first) (both_tied _ _ _ _ (unsigned_ties g.second h.second) (unsigned_ties g.third h.third))

-- a list without equal elements loses none
distinct_dedup_from : (g : Gram) (gs : List Gram) → IsDistinct gram_eq (g ∷ gs) → dedup_from gram_eq g gs ≡ g ∷ gs
unfolding IsDistinct
distinct_dedup_from g [] distinct = refl
distinct_dedup_from g (next ∷ gs) distinct =
    let apart : gram_eq next g ≡ false = gram_eq_equiv.symm next g ∙ distinct.0.0 in
    ap (λ (b : Bool). cond b (dedup_from gram_eq g gs) (g ∷ dedup_from gram_eq next gs)) apart
    ∙ ap (λ (rest : List Gram). g ∷ rest) (distinct_dedup_from next gs distinct.1)

distinct_dedup : (gs : List Gram) → IsDistinct gram_eq gs → dedup gram_eq gs ≡ gs
distinct_dedup [] distinct = refl
distinct_dedup (g ∷ gs) distinct = distinct_dedup_from g gs distinct

rising_keys : (gs : List Gram) → IsSorted gram_cmp gs → IsDistinct gram_eq gs → IsStrictlySortedBy gram_cmp gs
rising_keys gs up distinct = subst (IsStrictlySortedBy gram_cmp) (distinct_dedup gs distinct) (IsStrictlySortedBy-dedup gram_cmp_total ties gs up)

all_above : (g : Gram) (gs : List Gram) → AllByRecursion (λ h. gram_cmp g h ≡ Less) gs → AllByRecursion (λ t. slice_cmp nat_cmp (text_of g) t ≡ Less) (map text_of gs)
all_above g [] all = tt
all_above g (h ∷ gs) all = (gram_below g h all.0, all_above g gs all.1)

ascending_texts : (gs : List Gram) → IsStrictlySortedBy gram_cmp gs → IsAscending (map text_of gs)
unfolding IsStrictlySortedBy
ascending_texts [] up = tt
ascending_texts (g ∷ gs) up = (all_above g gs up.0, ascending_texts gs up.1)

-- ---- sorted lists are the grams of the terms

-- a gram of a term is three characters
three_of : (cs w : List ℕ) → Contains (windows_of_three cs) w → (g : Gram) × (encode_utf8_all w ≡ text_of g)
three_of [] w has = absurd (contains_none w has)
three_of (a ∷ []) w has = absurd (contains_none w has)
three_of (a ∷ b ∷ []) w has = absurd (contains_none w has)
three_of (a ∷ b ∷ c ∷ cs) w has =
    elim (contains_cases (a ∷ b ∷ c ∷ []) (windows_of_three (b ∷ c ∷ cs)) w has) [
      | inl first ↦ (record { first = a; second = b; third = c }, ap encode_utf8_all (sym first))
      | inr later ↦ three_of (b ∷ c ∷ cs) w later
    ]

gram_of_window : (term gram : List ℕ) → Contains (grams_of term) gram → (g : Gram) × (gram ≡ text_of g)
unfolding grams_of trigram_list
gram_of_window term gram has =
    let (w, there, is) = contained_from_map encode_utf8_all (windows_of_three (chars (36 ∷ (term ++ 36 ∷ [])))) gram has in
    let (g, spelled) = three_of (chars (36 ∷ (term ++ 36 ∷ []))) w there in
    (g, sym is ∙ spelled)

none_there : (numbers : List ℕ) (n : ℕ) → numbers ≡ [] → Contains numbers n → ⊥
none_there numbers n none has = contains_none n (subst (λ (ns : List ℕ). Contains ns n) none has)

texts_of_entries : (f : Gram → List ℕ) (lists : List (Gram × GramList)) → map (λ (e : GramEntry). e.gram) (map (λ (l : Gram × GramList). entry (text_of l.0) (f l.0)) lists) ≡ map text_of (keys_of lists)
texts_of_entries f [] = refl
texts_of_entries f (l ∷ lists) = ap (λ (ts : List (List ℕ)). text_of l.0 ∷ ts) (texts_of_entries f lists)

all_entries : (f : Gram → List ℕ) (lists : List (Gram × GramList)) → ((i : ℕ) (l : Gram × GramList) → slice_get lists i ≡ Some l → IsGramEntry (entry (text_of l.0) (f l.0)))
    → All IsGramEntry (map (λ (l : Gram × GramList). entry (text_of l.0) (f l.0)) lists)
all_entries f [] each = All-nil IsGramEntry
all_entries f (l ∷ lists) each =
    All-cons IsGramEntry (entry (text_of l.0) (f l.0)) (map (λ (l : Gram × GramList). entry (text_of l.0) (f l.0)) lists) (each 0 l refl) (all_entries f lists (λ i m at. each (suc i) m at))

module _ {S : Type 0} (old sorted : HashMap Gram GramList S) (terms : List (List ℕ)) (held : HoldsRelation old (length terms) (IsGramOfTerm terms))
    (up : IsSorted gram_cmp (keys sorted)) (unique : IsUnique gram_eq sorted) (reordered : IsReordered gram_eq old sorted) where
  abbrev numbers_under : Gram → List ℕ
  numbers_under gram = (held.each gram).numbers

  abbrev entry_of : Gram × GramList → GramEntry
  entry_of l = entry (text_of l.0) (numbers_under l.0)

  abbrev held_entries : List GramEntry
  held_entries = map (λ (l : Gram × GramList). entry (text_of l.0) (numbers_under l.0)) sorted.entries

  found_at : (i : ℕ) (l : Gram × GramList) → slice_get sorted.entries i ≡ Some l → get gram_eq old l.0 ≡ Some l.1
  found_at i l at = sym (reordered.2 l.0) ∙ lookup_from_place gram_eq_equiv sorted.entries i l.0 l.1 unique at

  list_at : (i : ℕ) (l : Gram × GramList) → slice_get sorted.entries i ≡ Some l → IsListOf l.1 (numbers_under l.0) × (0 < length (numbers_under l.0))
  list_at i l at = let P : Option GramList → Type 0 = λ o. ListsNumbers o (numbers_under l.0) in subst P (found_at i l at) (held.each l.0).listed

  listed_from : (lists : List (Gram × GramList)) → ((i : ℕ) (l : Gram × GramList) → slice_get lists i ≡ Some l → IsListOf l.1 (numbers_under l.0)) → AreListed lists (map (λ (l : Gram × GramList). entry (text_of l.0) (numbers_under l.0)) lists)
  listed_from [] each = tt
  listed_from (l ∷ lists) each = (refl, each 0 l refl, listed_from lists (λ i m at. each (suc i) m at))

  are_listed : AreListed sorted.entries held_entries
  are_listed = listed_from sorted.entries (λ i l at. (list_at i l at).0)

  is_entry : (i : ℕ) (l : Gram × GramList) → slice_get sorted.entries i ≡ Some l → IsGramEntry (entry (text_of l.0) (numbers_under l.0))
  is_entry i l at = ((list_at i l at).1, Ascends-rising 0 (length terms) (numbers_under l.0) (held.each l.0).are.ascend)

  -- a gram of the terms has a list
  has_list : (g : Gram) (n : ℕ) → IsGramOfTerm terms (text_of g) n → Contains held_entries (entry (text_of g) (numbers_under g))
  has_list g n is = by (get gram_eq old g) refl
    where
      by : (found : Option GramList) → get gram_eq old g ≡ found → Contains held_entries (entry (text_of g) (numbers_under g))
      by None absent =
          let P : Option GramList → Type 0 = λ o. ListsNumbers o (numbers_under g) in
          absurd (none_there (numbers_under g) n (subst P absent (held.each g).listed) (((held.each g).are.exact n).1 is))
      by (Some list) there =
          let (i, k, at, tie) = place_from_lookup (gram_eq g) sorted.entries list (reordered.2 g ∙ there) in
          let same : g ≡ k = gram_exact g k tie in
          let has : Contains sorted.entries (k, list) = (i, slice_get_within sorted.entries i (k, list) at, get_or_from_slice_get sorted.entries i (k, list) (k, list) at) in
          subst (λ (h : Gram). Contains held_entries (entry (text_of h) (numbers_under h))) (sym same) (contains_map (λ (l : Gram × GramList). entry (text_of l.0) (numbers_under l.0)) sorted.entries (k, list) has)

  of_terms : AreGramsOfTerms terms held_entries
  of_terms = record {
    ascending = subst IsAscending (sym (texts_of_entries numbers_under sorted.entries)) (ascending_texts (keys sorted) (rising_keys (keys sorted) up unique));
    each = all_entries numbers_under sorted.entries is_entry;
    related = λ g n. (
      λ has.
          let (l, there, is) = contained_from_map (λ (l : Gram × GramList). entry (text_of l.0) (numbers_under l.0)) sorted.entries (entry g has.numbers) has.among in
          let listed : Contains (numbers_under l.0) n = subst (λ (e : GramEntry). Contains e.numbers n) (sym is) has.listed in
          subst (λ (e : GramEntry). IsGramOfTerm terms e.gram n) is (((held.each l.0).are.exact n).0 listed),
      λ is.
          let (gram, spelled) = gram_of_window is.term g is.windowed in
          let here : IsGramOfTerm terms (text_of gram) n = subst (λ (t : List ℕ). IsGramOfTerm terms t n) spelled is in
          record {
            numbers = numbers_under gram;
            among = subst (λ (t : List ℕ). Contains held_entries (entry t (numbers_under gram))) (sym spelled) (has_list gram n here);
            listed = ((held.each gram).are.exact n).1 here;
          },
    );
  }

  pub section_held : {T E : Type 0} (result : Result T E) (before new : List ℕ) → OnOk result (new ≡ before ++ all_listed_bytes sorted.entries) → OnOk result (AppendsGrams terms before new)
  section_held result before new appended =
      on_ok_then result
      (λ (is : new ≡ before ++ all_listed_bytes sorted.entries).
      record {
        grams = held_entries;
        of_terms = of_terms;
        appended = is ∙ ap (λ (bytes : List ℕ). before ++ bytes) (section_listed sorted.entries held_entries are_listed);
      })
      appended
