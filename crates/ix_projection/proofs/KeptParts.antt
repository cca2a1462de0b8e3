-- The parts and the index text of a collection with fewer terms.
use Rattle.std.proofs.Common.{◌≡◌, ℕ, Bool, true, false, cond, List, [], ◌∷◌, get_or, All, Contains, refl, sym, ◌∙◌, ap, subst, inl, inr}
use Rattle.std.proofs.lemmas.List.Elements.{All-contains, All-filter, Contains-get_or, filter_passes}
use Rattle.std.proofs.lemmas.List.Kept.{IsStrictlySortedBy-filter}
use Rattle.std.specs.Cmp.Lexicographic.{slice_cmp}
use Rattle.std.specs.List.{filter}
use Rattle.std.specs.Ordering.{nat_cmp}
use Rattle.ix_text.specs.Collections.{Collection, IsLawful, IsVocabulary}
use Rattle.ix_text.specs.Parts.{Parts, DictionaryEntry, GramEntry, ArePartsOf, IsEntryOf, terms_of}
use Rattle.ix_text.proofs.AscendingLists.{contains_cases, contains_first, contains_later, contains_none}
use Rattle.ix_index_text.specs.Grams.{AreGramsOfTerms}
use Rattle.ix_index_text.specs.IndexText.{IsIndexText, layout}
use Rattle.ix_index_text.specs.Sections.{Version}
use Rattle.ix_index_text.proofs.GramLists.{of_collection}
use Rattle.ix_projection.specs.Kept.{Test, kept_collection, kept_entries, kept_parts}
use Rattle.ix_projection.proofs.KeptLemmas.{lawful_kept, posting_kept, rows_kept}

-- ---- what a filter contains

module _ {X : Type 0} (test : X → Bool) where
  passes_from : (xs : List X) (x : X) → Contains (filter test xs) x → Contains xs x × (test x ≡ true)
  passes_from xs x has = (
    All-contains (Contains xs) (filter test xs) x (All-filter test (Contains xs) xs (λ k d below. Contains-get_or xs k d below)) has,
    All-contains (λ y. test y ≡ true) (filter test xs) x (filter_passes test xs) has,
  )

  first_passes : (x : X) (xs : List X) (passes : Bool) → passes ≡ true → Contains (cond passes (x ∷ xs) xs) x
  first_passes x xs true is = contains_first x xs
  first_passes x xs false is = absurd (cc)

  later_passes : (y : X) (xs : List X) (x : X) (passes : Bool) → Contains xs x → Contains (cond passes (y ∷ xs) xs) x
  later_passes y xs x true has = contains_later y xs x has
  later_passes y xs x false has = has

  passes_to : (xs : List X) (x : X) → Contains xs x → test x ≡ true → Contains (filter test xs) x
  passes_to [] x has is = absurd (contains_none x has)
  passes_to (y ∷ xs) x has is =
      elim (contains_cases y xs x has) [
        | inl same ↦ subst (Contains (filter test (y ∷ xs))) same (first_passes y (filter test xs) (test y) (ap test same ∙ is))
        | inr later ↦ later_passes y (filter test xs) x (test y) (passes_to xs x later is)
      ]

-- ---- the dictionary

terms_by : (entry : DictionaryEntry) (entries : List DictionaryEntry) (terms : List (List ℕ)) (kept : Bool) → terms_of entries ≡ terms → terms_of (cond kept (entry ∷ entries) entries) ≡ cond kept (entry.term ∷ terms) terms
terms_by entry entries terms true is = ap (λ (ts : List (List ℕ)). entry.term ∷ ts) is
terms_by entry entries terms false is = is

-- the terms of the smaller dictionary are the kept ones of the whole one
pub terms_kept : (keeps : Test) (entries : List DictionaryEntry) → terms_of (kept_entries keeps entries) ≡ filter keeps (terms_of entries)
unfolding kept_entries
terms_kept keeps [] = refl
terms_kept keeps (entry ∷ entries) =
    terms_by entry (filter (λ (e : DictionaryEntry). keeps e.term) entries) (filter keeps (terms_of entries)) (keeps entry.term) (terms_kept keeps entries)

vocabulary_kept : (keeps : Test) (collection : Collection) (terms : List (List ℕ)) → IsVocabulary collection terms → IsVocabulary (kept_collection keeps collection) (filter keeps terms)
vocabulary_kept keeps collection terms is = record {
  ascending = IsStrictlySortedBy-filter (slice_cmp nat_cmp) keeps terms is.ascending;
  posted = λ term has.
      let (among, kept) = passes_from keeps terms term has in
      let (number, (position, posting)) = is.posted term among in
      (number, (position, (posting_kept keeps collection term number position).1 (posting, kept)));
  complete = λ term number position has.
      let (posting, kept) = (posting_kept keeps collection term number position).0 has in
      passes_to keeps terms term (is.complete term number position posting) kept;
}

entry_kept : (keeps : Test) (collection : Collection) (entry : DictionaryEntry) → IsEntryOf collection entry → keeps entry.term ≡ true → IsEntryOf (kept_collection keeps collection) entry
entry_kept keeps collection entry is kept = record {
  ordered = is.ordered;
  posted = λ number position. (
    λ has. (posting_kept keeps collection entry.term number position).1 ((is.posted number position).0 has, kept),
    λ posting. (is.posted number position).1 ((posting_kept keeps collection entry.term number position).0 posting).0,
  );
}

entries_kept : (keeps : Test) (collection : Collection) (entries : List DictionaryEntry) → All (IsEntryOf collection) entries → All (IsEntryOf (kept_collection keeps collection)) (kept_entries keeps entries)
unfolding kept_entries
entries_kept keeps collection entries all =
    let test : DictionaryEntry → Bool = λ entry. keeps entry.term in
    let those = All-filter test (IsEntryOf collection) entries all in
    let passing = filter_passes test entries in
    λ k d below. entry_kept keeps collection (get_or (filter test entries) k d) (those k d below) (passing k d below)

-- ---- the parts

pub parts_kept : (keeps : Test) (collection : Collection) (parts : Parts) → ArePartsOf collection parts → ArePartsOf (kept_collection keeps collection) (kept_parts keeps parts)
unfolding kept_collection kept_parts
parts_kept keeps collection parts are = record {
  stop = are.stop;
  rows = are.rows ∙ sym (rows_kept keeps collection);
  vocabulary = subst (IsVocabulary (kept_collection keeps collection)) (sym (terms_kept keeps parts.entries)) (vocabulary_kept keeps collection (terms_of parts.entries) are.vocabulary);
  entries = entries_kept keeps collection parts.entries are.entries;
}

pub index_text_kept : (keeps : Test) (version : Version) (collection : Collection) (parts : Parts) (grams : List GramEntry) → IsLawful collection → ArePartsOf collection parts
    → AreGramsOfTerms (terms_of (kept_entries keeps parts.entries)) grams → IsIndexText version (kept_collection keeps collection) (layout version (kept_parts keeps parts) grams)
unfolding kept_parts
index_text_kept keeps version collection parts grams lawful are of_terms =
    let fewer = parts_kept keeps collection parts are in
    record {
      lawful = lawful_kept keeps collection lawful;
      parts = kept_parts keeps parts;
      grams = grams;
      of_collection = fewer;
      grams_of_collection = of_collection (kept_collection keeps collection) (kept_parts keeps parts) grams fewer of_terms;
      spelled = refl;
    }
