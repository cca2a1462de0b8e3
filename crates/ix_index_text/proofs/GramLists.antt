-- A list of grams with numbers is told by which gram lists which number.
use Rattle.std.proofs.Common.{◌≡◌, ℕ, ◌↔◌, List, map, get_or, slice_get, Some, All, Contains, sym, ap₂, subst}
use Rattle.std.proofs.lemmas.Cmp.{nat_cmp_total, nat_list_cmp_total}
use Rattle.std.proofs.lemmas.List.Elements.{All-contains, Contains-get_or}
use Rattle.std.proofs.lemmas.Map.Keys.{sorted_from_strictly_increasing}
use Rattle.ix_text.proofs.AscendingLists.{contains_map, contained_from_map, one_ascending}
use Rattle.ix_text.proofs.OneByKey.{one_by_keys, one_of_key}
use Rattle.ix_text.proofs.OneParts.{one_vocabulary}
use Rattle.ix_text.specs.ByteOrder.{IsAscending}
use Rattle.ix_text.specs.Collections.{Collection}
use Rattle.ix_text.specs.Parts.{Parts, ArePartsOf, AreGramsOf, GramEntry, HasNumber, IsGramEntry, terms_of}
use Rattle.ix_index_text.specs.Grams.{AreGramsOfTerms}

abbrev pub gram_of : GramEntry → List ℕ
gram_of entry = entry.gram

-- under ascending grams an entry is told by its gram
pub one_entry : (grams : List GramEntry) → IsAscending (map gram_of grams) → (e f : GramEntry) → Contains grams e → Contains grams f → e.gram ≡ f.gram → e ≡ f
one_entry = one_of_key gram_of nat_list_cmp_total

-- each gram of the one list is a gram of the other
grams_there : (one other : List GramEntry) → All IsGramEntry one → ((gram : List ℕ) (number : ℕ) → HasNumber one gram number → HasNumber other gram number) → (gram : List ℕ) → Contains (map gram_of one) gram → Contains (map gram_of other) gram
grams_there one other each moves gram has =
    let (entry, there, is) = contained_from_map gram_of one gram has in
    let some = (All-contains IsGramEntry one entry each there).0 in
    let number = get_or entry.numbers 0 0 in
    let listed : HasNumber one entry.gram number = record { numbers = entry.numbers; among = there; listed = Contains-get_or entry.numbers 0 0 some } in
    let moved = moves entry.gram number listed in
    subst (λ (g : List ℕ). Contains (map gram_of other) g) is (contains_map gram_of other (record { gram = entry.gram; numbers = moved.numbers }) moved.among)

-- each number of a gram in the one list is one in the other
numbers_there : (one other : List GramEntry) → IsAscending (map gram_of other) → ((gram : List ℕ) (number : ℕ) → HasNumber one gram number → HasNumber other gram number)
    → (e f : GramEntry) → Contains one e → Contains other f → e.gram ≡ f.gram → (number : ℕ) → Contains e.numbers number → Contains f.numbers number
numbers_there one other up moves e f has also same number in_e =
    let moved = moves e.gram number (record { numbers = e.numbers; among = has; listed = in_e }) in
    let is : record { gram = e.gram; numbers = moved.numbers } ≡ f = one_entry other up (record { gram = e.gram; numbers = moved.numbers }) f moved.among also same in
    subst (λ (entry : GramEntry). Contains entry.numbers number) is moved.listed

-- which gram lists which number tells the list
pub one_gram_list : (one other : List GramEntry) → IsAscending (map gram_of one) → IsAscending (map gram_of other) → All IsGramEntry one → All IsGramEntry other
    → ((gram : List ℕ) (number : ℕ) → HasNumber one gram number ↔ HasNumber other gram number) → one ≡ other
one_gram_list one other up_one up_other each_one each_other same =
    let there = λ (g : List ℕ) (n : ℕ). (same g n).0 in
    let back = λ (g : List ℕ) (n : ℕ). (same g n).1 in
    let grams = one_ascending nat_list_cmp_total (map gram_of one) (map gram_of other) up_one up_other (λ g. (grams_there one other each_one there g, grams_there other one each_other back g)) in
    one_by_keys gram_of one other grams (λ e f has also alike.
    let sorted = λ (xs : List GramEntry) (x : GramEntry) (all : All IsGramEntry xs) (in_xs : Contains xs x). sorted_from_strictly_increasing x.numbers (All-contains IsGramEntry xs x all in_xs).1 in
    let numbers = one_ascending nat_cmp_total e.numbers f.numbers (sorted one e each_one has) (sorted other f each_other also)
    (λ n. (numbers_there one other up_other there e f has also alike n, numbers_there other one up_one back f e also has (sym alike) n)) in
    ap₂ (λ (g : List ℕ) (ns : List ℕ). let entry : GramEntry = record { gram = g; numbers = ns } in entry) alike numbers)

-- the terms tell the list
pub one_of_terms : (terms : List (List ℕ)) (one other : List GramEntry) → AreGramsOfTerms terms one → AreGramsOfTerms terms other → one ≡ other
one_of_terms terms one other p q =
    one_gram_list one other p.ascending q.ascending p.each q.each (λ g n. (λ has. (q.related g n).1 ((p.related g n).0 has), λ has. (p.related g n).1 ((q.related g n).0 has)))

-- the grams of the terms of a collection's dictionary are those of the collection
pub of_collection : (collection : Collection) (parts : Parts) (grams : List GramEntry) → ArePartsOf collection parts → AreGramsOfTerms (terms_of parts.entries) grams → AreGramsOf collection grams
of_collection collection parts grams are of_terms = record {
  ascending = of_terms.ascending;
  each = of_terms.each;
  related = λ g n. (
    λ has.
        let is = (of_terms.related g n).0 has in
        record { terms = terms_of parts.entries; vocabulary = are.vocabulary; term = is.term; numbered = is.numbered; windowed = is.windowed },
    λ has.
        let same = one_vocabulary collection has.terms (terms_of parts.entries) has.vocabulary are.vocabulary in
        (of_terms.related g n).1
        (record { term = has.term; numbered = subst (λ (terms : List (List ℕ)). slice_get terms n ≡ Some has.term) same has.numbered; windowed = has.windowed }),
  );
}
