-- Terms that were found are the kept entries, for the test whether a term was found.
use Rattle.std.proofs.Common.{◌≡◌, ℕ, ◌+◌, ◌-◌, ◌≤◌, ◌↔◌, Bool, true, false, cond, List, [], ◌∷◌, ◌++◌, inl, inr, flat_map, length, drop, get_or, All, Contains, slice_range, string_bytes, refl, sym, ap, ap₂, ◌∙◌, subst, arith}
use Rattle.std.proofs.lemmas.List.{length-take-le, length-drop}
use Rattle.std.proofs.lemmas.List.Elements.{All-contains, All-cons, All-head, All-tail, Contains-get_or}
use Rattle.ix_text.specs.Parts.{DictionaryEntry, terms_of}
use Rattle.ix_text.specs.TokenLists.{is_stop_term}
use Rattle.ix_text.proofs.AscendingLists.{contains_cases, contains_first, contains_later, contains_map, contains_none}
use Rattle.ix_text.proofs.TokenLemmas.{is_stop_term-Decides}
use Rattle.ix_vbyte.specs.Code.{code_of}
use Rattle.ix_vbyte.specs.Postings.{list_bytes}
use Rattle.ix_vbyte.specs.Texts.{counted}
use Rattle.ix_index_text.specs.Sections.{Plain, dictionary_section, entry_counts, postings_section}
use Rattle.ix_lookup.specs.FoundEntries.{AreFoundEntries, IsFoundEntry}
use Rattle.ix_lookup.specs.declared.found_term.FoundTerm.{FoundTerm}
use Rattle.ix_projection.specs.Kept.{Test, kept_entries}
use Rattle.ix_extract.specs.Assembled.{found_dictionary, found_entry}
use Rattle.ix_extract.specs.FoundTexts.{found_texts}

abbrev pub text_of : FoundTerm → List ℕ
text_of one = string_bytes one.term

-- its list is in POSTINGS
abbrev pub IsWithin : ℕ → FoundTerm → Type 0
IsWithin size one = one.start + one.size ≤ size

-- the lists of the terms, in POSTINGS
abbrev pub found_lists : List ℕ → List FoundTerm → List ℕ
found_lists postings found = flat_map (λ one. slice_range postings one.start (one.start + one.size)) found

-- each term that was found is wanted
pub found_wanted : (wants : List ℕ → Type 0) (postings : List ℕ) (entries : List DictionaryEntry) (found : List FoundTerm) → AreFoundEntries wants postings entries found → All wants (found_texts found)
found_wanted wants postings [] found are = subst (λ (fs : List FoundTerm). All wants (found_texts fs)) (sym are) (λ k d h. absurd (omega arith))
found_wanted wants postings (entry ∷ entries) found (inl add) =
    let (one, others, is, same, rest) = add.1 in
    subst (λ (fs : List FoundTerm). All wants (found_texts fs)) (sym is)
    (All-cons wants (text_of one) (found_texts others) (subst wants (sym same.term) add.0) (found_wanted wants postings entries others rest))
found_wanted wants postings (entry ∷ entries) found (inr none) = found_wanted wants postings entries found none.1

-- each term of the dictionary that is wanted was found
pub wanted_found : (wants : List ℕ → Type 0) (postings : List ℕ) (entries : List DictionaryEntry) (found : List FoundTerm) (term : List ℕ) → AreFoundEntries wants postings entries found → Contains (terms_of entries) term → wants term → Contains (found_texts found) term
wanted_found wants postings [] found term are has wanted = absurd (contains_none term has)
wanted_found wants postings (entry ∷ entries) found term (inl add) has wanted =
    let (one, others, is, same, rest) = add.1 in
    let there : Contains (found_texts (one ∷ others)) term =
    elim (contains_cases entry.term (terms_of entries) term has) [
      | inl first ↦ subst (λ (t : List ℕ). Contains (found_texts (one ∷ others)) t) (same.term ∙ first) (contains_first (text_of one) (found_texts others))
      | inr later ↦ contains_later (text_of one) (found_texts others) term (wanted_found wants postings entries others term rest later wanted)
    ] in
    subst (λ (fs : List FoundTerm). Contains (found_texts fs) term) (sym is) there
wanted_found wants postings (entry ∷ entries) found term (inr none) has wanted =
    elim (contains_cases entry.term (terms_of entries) term has) [
      | inl first ↦ absurd (none.0 (subst wants (sym first) wanted))
      | inr later ↦ wanted_found wants postings entries found term none.1 later wanted
    ]

-- whether a term was found
abbrev pub among : List FoundTerm → Test
among found = λ term. is_stop_term (found_texts found) term

pub among_found : (found : List FoundTerm) (term : List ℕ) → (among found term ≡ true) ↔ Contains (found_texts found) term
among_found found term =
    let decides = is_stop_term-Decides (found_texts found) term in
    (λ is. decides.0 is, λ has. decides.1 has)

-- the test keeps exactly the terms of the dictionary that are wanted
pub keeps_wanted : (wants : List ℕ → Type 0) (postings : List ℕ) (entries : List DictionaryEntry) (found : List FoundTerm) → AreFoundEntries wants postings entries found → All (λ entry. (among found entry.term ≡ true) ↔ wants entry.term) entries
keeps_wanted wants postings entries found are = λ k d h.
    let entry = get_or entries k d in
    let here = contains_map (λ (e : DictionaryEntry). e.term) entries entry (Contains-get_or entries k d h) in (
      λ kept. All-contains wants (found_texts found) entry.term (found_wanted wants postings entries found are) ((among_found found entry.term).0 kept),
      λ wanted. (among_found found entry.term).1 (wanted_found wants postings entries found entry.term are here wanted),
    )

-- ---- what the found terms say

pub record AreChosen (keeps : Test) (postings : List ℕ) (entries : List DictionaryEntry) (found : List FoundTerm) : Type 0 where
  pub texts : found_texts found ≡ terms_of (kept_entries keeps entries)
  pub dictionary : found_dictionary found ≡ dictionary_section Plain (kept_entries keeps entries)
  pub lists : found_lists postings found ≡ postings_section (kept_entries keeps entries)

kept_first : (keeps : Test) (entry : DictionaryEntry) (entries : List DictionaryEntry) → keeps entry.term ≡ true → kept_entries keeps (entry ∷ entries) ≡ entry ∷ kept_entries keeps entries
unfolding kept_entries
kept_first keeps entry entries is = ap (λ b. cond b (entry ∷ kept_entries keeps entries) (kept_entries keeps entries)) is

kept_later : (keeps : Test) (entry : DictionaryEntry) (entries : List DictionaryEntry) → keeps entry.term ≡ false → kept_entries keeps (entry ∷ entries) ≡ kept_entries keeps entries
unfolding kept_entries
kept_later keeps entry entries is = ap (λ b. cond b (entry ∷ kept_entries keeps entries) (kept_entries keeps entries)) is

not_true : (b : Bool) → (b ≡ true → ⊥) → b ≡ false
not_true b never = settle b refl
  where
    settle : (v : Bool) → b ≡ v → b ≡ false
    settle true is = absurd (never is)
    settle false is = is

-- the list has as many bytes as the term says
list_size : (postings : List ℕ) (entry : DictionaryEntry) (one : FoundTerm) → IsWithin (length postings) one → IsFoundEntry postings entry one → one.size ≡ length (list_bytes entry.postings)
list_size postings entry one within is =
    let behind = drop one.start postings in
    let size : one.start + one.size - one.start ≡ one.size = omega arith in
    omega (arith, within, size, length-drop one.start postings, length-take-le (one.start + one.size - one.start) behind (omega (arith, within, length-drop one.start postings)), ap length is.list)

entry_is : (postings : List ℕ) (entry : DictionaryEntry) (one : FoundTerm) → IsWithin (length postings) one → IsFoundEntry postings entry one → found_entry one ≡ counted entry.term ++ entry_counts entry
entry_is postings entry one within is =
    ap₂ (λ (xs : List ℕ) (ys : List ℕ). xs ++ ys) (ap counted is.term)
    (ap₂ (λ (xs : List ℕ) (ys : List ℕ). xs ++ ys) (ap code_of is.documents) (ap code_of (list_size postings entry one within is)))

chosen_first : (keeps : Test) (postings : List ℕ) (entry : DictionaryEntry) (entries : List DictionaryEntry) (one : FoundTerm) (others : List FoundTerm) → keeps entry.term ≡ true → IsWithin (length postings) one → IsFoundEntry postings entry one
    → AreChosen keeps postings entries others → AreChosen keeps postings (entry ∷ entries) (one ∷ others)
unfolding postings_section dictionary_section found_dictionary
chosen_first keeps postings entry entries one others kept within is rest =
    let kept_are = kept_first keeps entry entries kept in
    record {
      texts = ap₂ (λ (t : List ℕ) (ts : List (List ℕ)). t ∷ ts) is.term rest.texts ∙ ap terms_of (sym kept_are);
      dictionary = ap₂ (λ (xs : List ℕ) (ys : List ℕ). xs ++ ys) (entry_is postings entry one within is) rest.dictionary ∙ ap (dictionary_section Plain) (sym kept_are);
      lists = ap₂ (λ (xs : List ℕ) (ys : List ℕ). xs ++ ys) is.list rest.lists ∙ ap postings_section (sym kept_are);
    }

chosen_later : (keeps : Test) (postings : List ℕ) (entry : DictionaryEntry) (entries : List DictionaryEntry) (found : List FoundTerm) → keeps entry.term ≡ false
    → AreChosen keeps postings entries found → AreChosen keeps postings (entry ∷ entries) found
chosen_later keeps postings entry entries found kept rest =
    let kept_are = kept_later keeps entry entries kept in
    record {
      texts = rest.texts ∙ ap terms_of (sym kept_are);
      dictionary = rest.dictionary ∙ ap (dictionary_section Plain) (sym kept_are);
      lists = rest.lists ∙ ap postings_section (sym kept_are);
    }

chosen_none : (keeps : Test) (postings : List ℕ) → AreChosen keeps postings [] []
unfolding postings_section dictionary_section found_dictionary kept_entries
chosen_none keeps postings = record { texts = refl; dictionary = refl; lists = refl }

pub are_chosen : (keeps : Test) (wants : List ℕ → Type 0) (postings : List ℕ) (entries : List DictionaryEntry) (found : List FoundTerm) → All (λ entry. (keeps entry.term ≡ true) ↔ wants entry.term) entries → All (IsWithin (length postings)) found
    → AreFoundEntries wants postings entries found → AreChosen keeps postings entries found
are_chosen keeps wants postings [] found each within are = subst (AreChosen keeps postings []) (sym are) (chosen_none keeps postings)
are_chosen keeps wants postings (entry ∷ entries) found each within (inl add) =
    let P = λ (e : DictionaryEntry). (keeps e.term ≡ true) ↔ wants e.term in
    let (one, others, is, same, rest) = add.1 in
    let inside = subst (All (IsWithin (length postings))) is within in
    subst (AreChosen keeps postings (entry ∷ entries)) (sym is)
    (chosen_first keeps postings entry entries one others ((All-head P entry entries each).1 add.0) (All-head (IsWithin (length postings)) one others inside) same
    (are_chosen keeps wants postings entries others (All-tail P entry entries each) (All-tail (IsWithin (length postings)) one others inside) rest))
are_chosen keeps wants postings (entry ∷ entries) found each within (inr none) =
    let P = λ (e : DictionaryEntry). (keeps e.term ≡ true) ↔ wants e.term in
    chosen_later keeps postings entry entries found (not_true (keeps entry.term) (λ is. none.0 ((All-head P entry entries each).0 is)))
    (are_chosen keeps wants postings entries found (All-tail P entry entries each) within none.1)
