-- A collection has one vocabulary, and its parts are told by it.
use Rattle.std.proofs.Common.{◌≡◌, ℕ, ◌↔◌, List, map, get_or, All, Contains, sym, ap₂, subst, ◌∙◌}
use Rattle.std.proofs.lemmas.Cmp.{nat_cmp_total, nat_list_cmp_total}
use Rattle.std.proofs.lemmas.List.Elements.{All-contains, Contains-get_or}
use Rattle.std.proofs.lemmas.Map.Keys.{sorted_from_strictly_increasing}
use Rattle.std.specs.List.Sorted.{IsStrictlySortedBy}
use Rattle.std.specs.Ordering.{nat_cmp}
use Rattle.ix_text.proofs.AscendingLists.{contained_from_map, contains_map, one_ascending}
use Rattle.ix_text.proofs.OneByKey.{one_by_keys, one_of_key}
use Rattle.ix_text.proofs.PartsLemmas.{same_entry_fields, same_parts_fields}
use Rattle.ix_text.specs.Collections.{Collection, IsVocabulary}
use Rattle.ix_text.specs.Parts.{ArePartsOf, AreTermPostings, DictionaryEntry, HasPosition, IsEntryOf, IsTermPosting, Parts, Posting, terms_of}

abbrev number_of : Posting → ℕ
number_of posting = posting.0

abbrev AreSorted : List Posting → Type 0
AreSorted postings = IsStrictlySortedBy nat_cmp (map number_of postings)

-- ---- postings

-- each number of the one list is one of the other
numbers_there : (one other : List Posting) → All IsTermPosting one → ((number position : ℕ) → HasPosition one number position → HasPosition other number position)
    → (number : ℕ) → Contains (map number_of one) number → Contains (map number_of other) number
numbers_there one other each moves number has =
    let (posting, there, is) = contained_from_map number_of one number has in
    let some = (All-contains IsTermPosting one posting each there).0 in
    let position = get_or posting.1 0 0 in
    let held : HasPosition one posting.0 position = record { positions = posting.1; among = there; positioned = Contains-get_or posting.1 0 0 some } in
    let moved = moves posting.0 position held in
    subst (λ (n : ℕ). Contains (map number_of other) n) is (contains_map number_of other (posting.0, moved.positions) moved.among)

-- each position of a number in the one list is one in the other
positions_there : (one other : List Posting) → AreSorted other → ((number position : ℕ) → HasPosition one number position → HasPosition other number position)
    → (e f : Posting) → Contains one e → Contains other f → e.0 ≡ f.0 → (position : ℕ) → Contains e.1 position → Contains f.1 position
positions_there one other up moves e f has also same position in_e =
    let moved = moves e.0 position (record { positions = e.1; among = has; positioned = in_e }) in
    let is : (e.0, moved.positions) ≡ f = one_of_key number_of nat_cmp_total other up (e.0, moved.positions) f moved.among also same in
    subst (λ (posting : Posting). Contains posting.1 position) is moved.positioned

-- which number has which position tells the list
one_list : (one other : List Posting) → AreTermPostings one → AreTermPostings other → ((number position : ℕ) → HasPosition one number position ↔ HasPosition other number position) → one ≡ other
one_list one other p q same =
    let there = λ (n k : ℕ). (same n k).0 in
    let back = λ (n k : ℕ). (same n k).1 in
    let up_one = sorted_from_strictly_increasing (map number_of one) p.ascending in
    let up_other = sorted_from_strictly_increasing (map number_of other) q.ascending in
    let numbers = one_ascending nat_cmp_total (map number_of one) (map number_of other) up_one up_other (λ n. (numbers_there one other p.each there n, numbers_there other one q.each back n)) in
    one_by_keys number_of one other numbers (λ e f has also alike.
    let sorted = λ (xs : List Posting) (x : Posting) (all : All IsTermPosting xs) (in_xs : Contains xs x). sorted_from_strictly_increasing x.1 (All-contains IsTermPosting xs x all in_xs).1 in
    let positions = one_ascending nat_cmp_total e.1 f.1 (sorted one e p.each has) (sorted other f q.each also)
    (λ k. (positions_there one other up_other there e f has also alike k, positions_there other one up_one back f e also has (sym alike) k)) in
    ap₂ (λ (n : ℕ) (ps : List ℕ). let posting : Posting = (n, ps) in posting) alike positions)

-- ---- parts

-- a collection has one vocabulary
pub one_vocabulary : (collection : Collection) (one other : List (List ℕ)) → IsVocabulary collection one → IsVocabulary collection other → one ≡ other
one_vocabulary collection one other p q =
    one_ascending nat_list_cmp_total one other p.ascending q.ascending (λ t. (
      λ has. let (number, (position, posting)) = p.posted t has in q.complete t number position posting,
      λ has. let (number, (position, posting)) = q.posted t has in p.complete t number position posting,
    ))

-- the postings of a term in a collection are one list
same_postings : (collection : Collection) (e f : DictionaryEntry) → IsEntryOf collection e → IsEntryOf collection f → e.term ≡ f.term → e ≡ f
same_postings collection e f p q same =
    let again = subst (λ (term : List ℕ). IsEntryOf collection (record { term = term; postings = f.postings })) (sym same) q in
    let postings = one_list e.postings f.postings p.ordered q.ordered (λ n k. (
      λ has. (again.posted n k).1 ((p.posted n k).0 has),
      λ has. (p.posted n k).1 ((again.posted n k).0 has),
    )) in
    same_entry_fields e f same postings

one_dictionary : (collection : Collection) (p q : Parts) → ArePartsOf collection p → ArePartsOf collection q → p.entries ≡ q.entries
one_dictionary collection p q are also =
    let terms = one_vocabulary collection (terms_of p.entries) (terms_of q.entries) are.vocabulary also.vocabulary in
    one_by_keys (λ (entry : DictionaryEntry). entry.term) p.entries q.entries terms (λ e f has there same.
    same_postings collection e f (All-contains (IsEntryOf collection) p.entries e are.entries has) (All-contains (IsEntryOf collection) q.entries f also.entries there) same)

pub one_parts : (collection : Collection) (p q : Parts) → ArePartsOf collection p → ArePartsOf collection q → p ≡ q
one_parts collection p q are also =
    same_parts_fields p q (are.stop ∙ sym also.stop) (are.rows ∙ sym also.rows) (one_dictionary collection p q are also)
