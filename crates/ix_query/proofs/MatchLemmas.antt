-- The documents of the terms that match a pattern.
use Rattle.std.proofs.Common.{◌≡◌, ℕ, ◌+◌, ◌<◌, ◌≤◌, ◌↔◌, ◌⊎◌, inl, inr, List, ◌∷◌, Some, Contains, length, slice_get, sym, ap, ◌∙◌, subst, arith}
use Rattle.std.proofs.lemmas.Bool.{cases_lt}
use Rattle.std.proofs.lemmas.List.{length-map}
use Rattle.std.proofs.lemmas.List.Elements.{All-contains}
use Rattle.std.proofs.lemmas.Option.{slice_get_within, slice_get-get_or, get_or_from_slice_get}
use Rattle.ix_text.proofs.AscendingLists.{contained_from_map, contains_cases, contains_first, contains_later, contains_map}
use Rattle.ix_text.proofs.PartsLemmas.{at_same_place}
use Rattle.ix_text.specs.Parts.{Parts, Posting, DictionaryEntry, IsEntryOf, IsTermPosting, HasPosition, terms_of}
use Rattle.ix_file.proofs.OpenedLemmas.{entry_at}
use Rattle.ix_file.specs.Opened.{lists_of}
use Rattle.ix_gram.specs.Expanding.{AreMatches}
use Rattle.ix_file.specs.Postings.{documents_of}
use Rattle.ix_query_text.specs.declared.tree.Tree.TheVariants as asks
use Rattle.ix_query.specs.Finding.{AreFound}
use Rattle.ix_query.specs.Satisfaction.{HasMatch}
use Rattle.ix_query.proofs.FindLemmas.{asked_at, posting_at, satisfied_below}
use Rattle.ix_query.proofs.SatisfactionLemmas.{satisfies-Pattern}
use Rattle.ix_query.proofs.StreamLemmas.{has_first}

-- what the terms of the numbers before a place have of the documents below the count
abbrev pub ListedBefore : List DictionaryEntry → List ℕ → ℕ → ℕ → ℕ → Type 0
ListedBefore entries numbers count i n =
    (k : ℕ) × (number : ℕ) × (postings : List Posting) × (k < i) × (slice_get numbers k ≡ Some number) × (slice_get (lists_of entries) number ≡ Some postings) × Contains (documents_of postings) n × (n < count)

pub listed_none : (entries : List DictionaryEntry) (numbers : List ℕ) (count : ℕ) (holds : ℕ → Type 0) → ((n : ℕ) → ¬ (holds n)) → (n : ℕ) → holds n ↔ ListedBefore entries numbers count 0 n
listed_none entries numbers count holds none n = (λ has. absurd (none n has), λ (k, number, postings, below, a, b, d, e). absurd (omega arith))

pub listed_more : (entries : List DictionaryEntry) (numbers : List ℕ) (count i number : ℕ) (postings : List Posting) (holds more : ℕ → Type 0) → slice_get numbers i ≡ Some number → slice_get (lists_of entries) number ≡ Some postings
    → ((n : ℕ) → more n ↔ (holds n ⊎ (Contains (documents_of postings) n × (n < count)))) → ((n : ℕ) → holds n ↔ ListedBefore entries numbers count i n) → (n : ℕ) → more n ↔ ListedBefore entries numbers count (i + 1) n
listed_more entries numbers count i number postings holds more at is told before n = (
  λ has. elim ((told n).0 has) [
    | inl was ↦ let (k, other, list, below, here, there, among, low) = (before n).0 was in (k, other, list, omega arith, here, there, among, low)
    | inr (among, low) ↦ (i, number, postings, omega arith, at, is, among, low)
  ],
  λ (k, other, list, below, here, there, among, low). elim (cases_lt k i) [
    | inl less ↦ (told n).1 (inl ((before n).1 (k, other, list, less, here, there, among, low)))
    | inr more_is ↦
        let same : k ≡ i = omega arith in
        let number_is : other ≡ number = let e = ap (slice_get numbers) same in cc in
        let list_is : list ≡ postings = let e = ap (slice_get (lists_of entries)) number_is in cc in
        (told n).1 (inr (subst (λ (l : List Posting). Contains (documents_of l) n) list_is among, low))
  ],
)

-- the place of a text among others
place_of : (xs : List (List ℕ)) (x : List ℕ) → Contains xs x → (k : ℕ) × (slice_get xs k ≡ Some x)
place_of xs x (k, within, is) = (k, slice_get-get_or xs k x within ∙ ap (λ (y : List ℕ). Some y) is)

pub matches_found : (parts : Parts) (pieces : List (List ℕ)) (numbers : List ℕ) (count i : ℕ) (holds : ℕ → Type 0) → AreMatches (terms_of parts.entries) pieces numbers → count ≡ length parts.rows → length numbers ≤ i → ((n : ℕ) → holds n ↔ ListedBefore parts.entries numbers count i n) → AreFound parts (asks.Pattern pieces) holds
matches_found parts pieces numbers count i holds are long all told collection of n =
    let asked = asked_at collection (asks.Pattern pieces) (λ tokens. HasMatch tokens pieces) (λ tokens. satisfies-Pattern tokens pieces) n in (
      λ has.
          let (k, number, postings, below, at, list, among, low) = (told n).0 has in
          let match = (are.exact number).0 (k, slice_get_within numbers k number at, get_or_from_slice_get numbers k number number at) in
          let there = entry_at parts.entries number match.term postings match.numbered list in
          let is = All-contains (IsEntryOf collection) parts.entries (record { term = match.term; postings = postings }) of.entries there in
          let (posting, inside, same) = contained_from_map (λ (p : Posting). p.0) postings n among in
          let (p, positioned) = has_first posting.1 (All-contains IsTermPosting postings posting is.ordered.each inside).0 in
          let has_it = (is.posted n p).0 (subst (λ (d : ℕ). HasPosition postings d p) same (record { positions = posting.1; among = inside; positioned = positioned })) in
          asked.1 (has_it.document, has_it.numbered, (p, match.term, has_it.entry, match.matched)),
      λ satisfied.
          let (document, numbered, found) = asked.0 satisfied in
          let (p, term, stands, matched) = found in
          let posting = (posting_at collection term n p document numbered).1 stands in
          let (number, at_term) = place_of (terms_of parts.entries) term (of.vocabulary.complete term n p posting) in
          let (postings, at_list) = at_same_place (terms_of parts.entries) (lists_of parts.entries) number term (length-map parts.entries (λ (e : DictionaryEntry). e.term) ∙ sym (length-map parts.entries (λ (e : DictionaryEntry). e.postings))) at_term in
          let there = entry_at parts.entries number term postings at_term at_list in
          let is = All-contains (IsEntryOf collection) parts.entries (record { term = term; postings = postings }) of.entries there in
          let position = (is.posted n p).1 posting in
          let (k, within, same) = (are.exact number).1 (record { term = term; numbered = at_term; matched = matched }) in
          (told n).1 (
            k,
            number,
            postings,
            omega arith,
            slice_get-get_or numbers k number within ∙ ap (λ (m : ℕ). Some m) same,
            at_list,
            contains_map (λ (q : Posting). q.0) postings (n, position.positions) position.among,
            let low = satisfied_below collection parts (asks.Pattern pieces) n of satisfied in omega arith,
          ),
    )

-- one more document is marked
pub mark_step : (now more whole : ℕ → Type 0) (count document : ℕ) (rest : List ℕ) → ((n : ℕ) → (now n ⊎ (Contains (document ∷ rest) n × (n < count))) ↔ whole n) → ((n : ℕ) → more n ↔ (now n ⊎ ((n ≡ document) × (document < count)))) → (n : ℕ) → (more n ⊎ (Contains rest n × (n < count))) ↔ whole n
mark_step now more whole count document rest before one n = (
  λ h. elim h [
    | inl marked ↦ elim ((one n).0 marked) [
      | inl was ↦ (before n).0 (inl was)
      | inr (same, low) ↦ (before n).0 (inr (subst (λ m. Contains (document ∷ rest) m) (sym same) (contains_first document rest), omega arith))
    ]
    | inr (later, low) ↦ (before n).0 (inr (contains_later document rest n later, low))
  ],
  λ holds. elim ((before n).1 holds) [
    | inl was ↦ inl ((one n).1 (inl was))
    | inr (has, low) ↦ elim (contains_cases document rest n has) [
      | inl here ↦ inl ((one n).1 (inr (sym here, omega arith)))
      | inr later ↦ inr (later, low)
    ]
  ],
)
