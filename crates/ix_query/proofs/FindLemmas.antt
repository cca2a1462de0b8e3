-- What terms find in a collection that the parts of an index are those of.
use Rattle.std.proofs.Common.{◌≡◌, ℕ, zero, suc, ◌+◌, ◌-◌, ◌^◌, ◌<◌, ◌≤◌, ◌↔◌, ◌⊎◌, inl, inr, List, [], ◌∷◌, ◌++◌, Option, None, Some, Contains, length, get_or, slice_get, refl, sym, ap, ◌∙◌, subst, arith, length-append}
use Rattle.std.proofs.lemmas.Bool.{cases_lt}
use Rattle.std.proofs.lemmas.List.{length-map}
use Rattle.std.proofs.lemmas.List.Elements.{All-contains}
use Rattle.std.proofs.lemmas.Option.{slice_get_within}
use Rattle.ix_text.proofs.AscendingLists.{contains_none, contained_from_map, contains_map}
use Rattle.ix_text.specs.Collections.{Collection, Document, HasPosting}
use Rattle.ix_text.specs.Parts.{Parts, ArePartsOf, IsEntryOf, HasPosition, row_of, terms_of}
use Rattle.ix_text.specs.TokenLists.{Entry}
use Rattle.ix_file.specs.Postings.{Posting, ArePostings, IsPosting, documents_of}
use Rattle.ix_query_text.specs.declared.tree.Tree.{Tree}
use Rattle.ix_query_text.specs.declared.tree.Tree.TheVariants as asks
use Rattle.ix_query.specs.Finding.{AreFound, AnswersNothing, IsNowhere, AreOfTerm, ArePlaced, IsBeyond, AreEvery}
use Rattle.ix_query.specs.Meetings.{HasNear, HasPhraseIn, IsStart}
use Rattle.ix_query.specs.Streams.{Have}
use Rattle.ix_query.specs.Satisfaction.{Satisfies, AreNear, HasPhrase, HasPhraseAt, StandsAt}
use Rattle.ix_query.specs.Scans.{SatisfiesAt}
use Rattle.ix_query.proofs.SatisfactionLemmas.{satisfies-Phrase, satisfies-Near}
use Rattle.ix_query.proofs.StreamLemmas.{has_first, contains_range}

-- ---- documents

-- the document of a number
abbrev pub HasDocument : Collection → ℕ → Type 0
HasDocument collection n = (document : Document) × (slice_get collection.documents n ≡ Some document)

pub document_below : (collection : Collection) (parts : Parts) (n : ℕ) → ArePartsOf collection parts → HasDocument collection n ↔ (n < length parts.rows)
document_below collection parts n of = (
  λ (document, at). let within = slice_get_within collection.documents n document at in omega (arith, long),
  λ below. found (slice_get collection.documents n) refl below,
)
  where
    long : length parts.rows ≡ length collection.documents
    long = ap length of.rows ∙ length-map collection.documents row_of

    found : (o : Option Document) → slice_get collection.documents n ≡ o → n < length parts.rows → HasDocument collection n
    found (Some document) at below = (document, at)
    found None at below = absurd (past collection.documents n at (omega (arith, long)))
      where
        past : (xs : List Document) (k : ℕ) → slice_get xs k ≡ None → k < length xs → ⊥
        past [] k is low = omega arith
        past (x ∷ xs) zero is low = absurd (cc)
        past (x ∷ xs) (suc k) is low = past xs k is (omega arith)

pub satisfied_below : (collection : Collection) (parts : Parts) (query : Tree) (n : ℕ) → ArePartsOf collection parts → SatisfiesAt collection query n → n < length parts.rows
satisfied_below collection parts query n of at = (document_below collection parts n of).0 (at.document, at.numbered)

-- a document that satisfies a query, where it is known what the query asks
pub asked_at : (collection : Collection) (query : Tree) (P : List Entry → Type 0) → ((tokens : List Entry) → Satisfies tokens query ↔ P tokens) → (n : ℕ) → SatisfiesAt collection query n ↔ ((document : Document) × (slice_get collection.documents n ≡ Some document) × P document.tokens)
asked_at collection query P asks n = (
  λ at. (at.document, at.numbered, (asks at.document.tokens).0 at.satisfied),
  λ (document, numbered, holds). record { document = document; numbered = numbered; satisfied = (asks document.tokens).1 holds },
)

-- two postings of one document
same_document : (collection : Collection) (n : ℕ) (one other : Document) → slice_get collection.documents n ≡ Some one → slice_get collection.documents n ≡ Some other → one ≡ other
same_document collection n one other a b = cc

pub posting_at : (collection : Collection) (term : List ℕ) (n p : ℕ) (document : Document) → slice_get collection.documents n ≡ Some document → HasPosting collection term n p ↔ StandsAt document.tokens p term
posting_at collection term n p document at = (
  λ posting. subst (λ (d : Document). slice_get d.tokens p ≡ Some (Some term)) (same_document collection n posting.document document posting.numbered at) posting.entry,
  λ stands. record { document = document; numbered = at; entry = stands },
)

-- ---- terms

pub of_term : (parts : Parts) (term : List ℕ) (postings : List Posting) → Contains parts.entries (record { term = term; postings = postings }) → ArePostings 0 (2 ^ 32 - 1) postings → AreOfTerm parts term postings
of_term parts term postings among lawful = record {
  lawful = lawful;
  posted = λ collection of n p. (All-contains (IsEntryOf collection) parts.entries (record { term = term; postings = postings }) of.entries among).posted n p;
}

pub nowhere : (parts : Parts) (term : List ℕ) → ¬ (Contains (terms_of parts.entries) term) → IsNowhere parts term
nowhere parts term none collection of n p posting = none (of.vocabulary.complete term n p posting)

-- a document of postings has a position there
some_position : (postings : List Posting) (n : ℕ) → ArePostings 0 (2 ^ 32 - 1) postings → Contains (documents_of postings) n → (p : ℕ) × HasPosition postings n p
some_position postings n are has =
    let (posting, among, same) = contained_from_map (λ (p : Posting). p.0) postings n has in
    let each = All-contains (IsPosting (2 ^ 32 - 1)) postings posting are.each among in
    let (p, there) = has_first posting.1 each.some in
    (p, subst (λ (d : ℕ). HasPosition postings d p) same (record { positions = posting.1; among = among; positioned = there }))

pub word_found : (parts : Parts) (term : List ℕ) (postings : List Posting) → AreOfTerm parts term postings → AreFound parts (asks.Phrase (Some term ∷ [])) (λ n. Contains (documents_of postings) n)
word_found parts term postings of_it collection of n =
    let asked = asked_at collection (asks.Phrase (Some term ∷ [])) (λ tokens. HasPhrase tokens (Some term ∷ [])) (λ tokens. satisfies-Phrase tokens (Some term ∷ [])) n in (
      λ has.
          let (p, there) = some_position postings n of_it.lawful has in
          let posting = (of_it.posted collection of n p).0 there in
          asked.1 (posting.document, posting.numbered, (p, stands posting.document.tokens p posting.entry)),
      λ at.
          let (document, numbered, phrase) = asked.0 at in
          let (start, holds) = phrase in
          let position = (of_it.posted collection of n (start + 0)).1 ((posting_at collection term n (start + 0) document numbered).1 (holds 0 term refl)) in
          contains_map (λ (p : Posting). p.0) postings (n, position.positions) position.among,
    )
  where
    stands : (tokens : List Entry) (p : ℕ) → StandsAt tokens p term → HasPhraseAt tokens p (Some term ∷ [])
    stands tokens p at zero other is = let same : term ≡ other = cc in let e : p + 0 ≡ p = omega arith in
        subst (λ (t : List ℕ). StandsAt tokens (p + 0) t) same (subst (λ (k : ℕ). StandsAt tokens k term) (sym e) at)
    stands tokens p at (suc i) other is = absurd (cc)

pub word_nowhere : (parts : Parts) (term : List ℕ) → IsNowhere parts term → AnswersNothing parts (asks.Phrase (Some term ∷ []))
word_nowhere parts term none collection of n at =
    let asked = asked_at collection (asks.Phrase (Some term ∷ [])) (λ tokens. HasPhrase tokens (Some term ∷ [])) (λ tokens. satisfies-Phrase tokens (Some term ∷ [])) n in
    let (document, numbered, phrase) = asked.0 at in
    let (start, holds) = phrase in
    none collection of n (start + 0) ((posting_at collection term n (start + 0) document numbered).1 (holds 0 term refl))

pub near_found : (parts : Parts) (one other : List ℕ) (distance : ℕ) (first second : List Posting) → AreOfTerm parts one first → AreOfTerm parts other second → AreFound parts (asks.Near one other distance) (HasNear first second distance)
near_found parts one other distance first second is_one is_other collection of n =
    let asked = asked_at collection (asks.Near one other distance) (λ tokens. AreNear tokens one other distance) (λ tokens. satisfies-Near tokens one other distance) n in (
      λ near.
          let a = (is_one.posted collection of n near.one).0 near.first_has in
          let b = (is_other.posted collection of n near.other).0 near.second_has in
          asked.1 (a.document, a.numbered, (near.one, near.other, a.entry, (posting_at collection other n near.other a.document a.numbered).0 b, near.apart, near.near)),
      λ at.
          let (document, numbered, near) = asked.0 at in
          let (p, q, here, there, apart, close) = near in
          record {
            one = p;
            other = q;
            first_has = (is_one.posted collection of n p).1 ((posting_at collection one n p document numbered).1 here);
            second_has = (is_other.posted collection of n q).1 ((posting_at collection other n q document numbered).1 there);
            apart = apart;
            near = close;
          },
    )

pub near_nowhere : (parts : Parts) (one other : List ℕ) (distance : ℕ) → IsNowhere parts one ⊎ IsNowhere parts other → AnswersNothing parts (asks.Near one other distance)
near_nowhere parts one other distance none collection of n at =
    let asked = asked_at collection (asks.Near one other distance) (λ tokens. AreNear tokens one other distance) (λ tokens. satisfies-Near tokens one other distance) n in
    let (document, numbered, near) = asked.0 at in
    let (p, q, here, there, apart, close) = near in
    elim none [
      | inl lacks ↦ lacks collection of n p ((posting_at collection one n p document numbered).1 here)
      | inr lacks ↦ lacks collection of n q ((posting_at collection other n q document numbered).1 there)
    ]

-- ---- phrases

-- a phrase of which a term is nowhere is nowhere
pub phrase_nowhere : (parts : Parts) (entries : List (Option (List ℕ))) (place : ℕ) (term : List ℕ) → slice_get entries place ≡ Some (Some term) → IsBeyond parts term place → AnswersNothing parts (asks.Phrase entries)
phrase_nowhere parts entries place term at none collection of n satisfied =
    let asked = asked_at collection (asks.Phrase entries) (λ tokens. HasPhrase tokens entries) (λ tokens. satisfies-Phrase tokens entries) n in
    let (document, numbered, phrase) = asked.0 satisfied in
    let (start, holds) = phrase in
    none collection of n start ((posting_at collection term n (start + place) document numbered).1 (holds place term at))

-- a phrase without a term is in every document
pub holes_found : (parts : Parts) (entries : List (Option (List ℕ))) (there : ℕ → Type 0) → ArePlaced parts entries (length entries) [] [] → AreEvery parts there → AreFound parts (asks.Phrase entries) there
holes_found parts entries there placed every collection of n =
    let asked = asked_at collection (asks.Phrase entries) (λ tokens. HasPhrase tokens entries) (λ tokens. satisfies-Phrase tokens entries) n in (
      λ is.
          let (document, at) = (document_below collection parts n of).1 ((every n).0 is) in
          asked.1 (document, at, (0, λ i term found. absurd (let (k, list, none, at_place, of_it) = placed.complete i term (slice_get_within entries i (Some term) found) found in cc))),
      λ satisfied. (every n).1 (satisfied_below collection parts (asks.Phrase entries) n of satisfied),
    )

pub get_left : {X : Type 0} (xs : List X) (x : X) (k : ℕ) (y : X) → slice_get xs k ≡ Some y → slice_get (xs ++ x ∷ []) k ≡ Some y
get_left [] x k y at = absurd (cc)
get_left (z ∷ xs) x zero y at = at
get_left (z ∷ xs) x (suc k) y at = get_left xs x k y at

pub get_last : {X : Type 0} (xs : List X) (x : X) → slice_get (xs ++ x ∷ []) (length xs) ≡ Some x
get_last [] x = refl
get_last (z ∷ xs) x = get_last xs x

pub get_cases : {X : Type 0} (xs : List X) (x : X) (k : ℕ) (y : X) → slice_get (xs ++ x ∷ []) k ≡ Some y → (slice_get xs k ≡ Some y) ⊎ ((k ≡ length xs) × (x ≡ y))
get_cases [] x zero y at = inr (refl, cc)
get_cases [] x (suc k) y at = absurd (cc)
get_cases (z ∷ xs) x zero y at = inl at
get_cases (z ∷ xs) x (suc k) y at = elim (get_cases xs x k y at) [ inl left ↦ inl left | inr last ↦ inr (ap suc last.0, last.1) ]

pub phrase_found : (parts : Parts) (entries : List (Option (List ℕ))) (first : List Posting) (place : ℕ) (others : List (List Posting)) (places : List ℕ) → length places ≡ length others → ArePlaced parts entries (length entries) (others ++ first ∷ []) (places ++ place ∷ [])
    → AreFound parts (asks.Phrase entries) (HasPhraseIn first place others places)
phrase_found parts entries first place others places long placed collection of n = (
  λ phrase.
      let (term, at, is) = placed.sound (length others) first place (get_last others first) (subst (λ k. slice_get (places ++ place ∷ []) k ≡ Some place) long (get_last places place)) in
      let posting = (is.posted collection of n (phrase.start + place)).0 phrase.first_has in
      asked.1 (
        posting.document,
        posting.numbered,
        (
          phrase.start,
          λ i other found.
              let (k, list, here, here_place, of_other) = placed.complete i other (slice_get_within entries i (Some other) found) found in
              (posting_at collection other n (phrase.start + i) posting.document posting.numbered).0
              ((of_other.posted collection of n (phrase.start + i)).0 (stands phrase k list i here here_place)),
        ),
      ),
  λ satisfied.
      let (document, numbered, phrase) = asked.0 satisfied in
      let (start, holds) = phrase in
      let stood : (k : ℕ) (list : List Posting) (there : ℕ) → slice_get (others ++ first ∷ []) k ≡ Some list → slice_get (places ++ place ∷ []) k ≡ Some there → HasPosition list n (start + there) = λ k list there at at_place.
      let (term, found, is) = placed.sound k list there at at_place in
      (is.posted collection of n (start + there)).1 ((posting_at collection term n (start + there) document numbered).1 (holds there term found)) in
      record {
        start = start;
        first_has = stood (length others) first place (get_last others first) (subst (λ k. slice_get (places ++ place ∷ []) k ≡ Some place) long (get_last places place));
        others_have = λ k list there at at_place. stood k list there (get_left others first k list at) (get_left places place k there at_place);
      },
)
  where
    asked : SatisfiesAt collection (asks.Phrase entries) n ↔ ((document : Document) × (slice_get collection.documents n ≡ Some document) × HasPhrase document.tokens entries)
    asked = asked_at collection (asks.Phrase entries) (λ tokens. HasPhrase tokens entries) (λ tokens. satisfies-Phrase tokens entries) n

    stands : (phrase : HasPhraseIn first place others places n) (k : ℕ) (list : List Posting) (there : ℕ) → slice_get (others ++ first ∷ []) k ≡ Some list → slice_get (places ++ place ∷ []) k ≡ Some there → HasPosition list n (phrase.start + there)
    stands phrase k list there at at_place = elim (get_cases others first k list at) [
      | inl left ↦ elim (get_cases places place k there at_place) [
        | inl left_place ↦ phrase.others_have k list there left left_place
        | inr last ↦ let within = slice_get_within others k list left in absurd (let e = last.0 in omega arith)
      ]
      | inr last ↦ elim (get_cases places place k there at_place) [
        | inl left_place ↦ let within = slice_get_within places k there left_place in absurd (let e = last.0 in omega arith)
        | inr last_place ↦
            subst (λ (l : List Posting). HasPosition l n (phrase.start + there)) last.1
            (subst (λ (m : ℕ). HasPosition first n (phrase.start + m)) last_place.1 phrase.first_has)
      ]
    ]

-- ---- the terms of a phrase, placed one after another

pub placed_term : (parts : Parts) (entries : List (Option (List ℕ))) (i : ℕ) (lists : List (List Posting)) (places : List ℕ) (term : List ℕ) (list : List Posting) → length places ≡ length lists → slice_get entries i ≡ Some (Some term) → AreOfTerm parts term list → ArePlaced parts entries i lists places
    → ArePlaced parts entries (i + 1) (lists ++ list ∷ []) (places ++ i ∷ [])
placed_term parts entries i lists places term list long here is before = record {
  sound = λ k other place at at_place. elim (get_cases lists list k other at) [
    | inl left ↦ elim (get_cases places i k place at_place) [
      | inl left_place ↦ before.sound k other place left left_place
      | inr last ↦ let within = slice_get_within lists k other left in absurd (let e = last.0 in omega arith)
    ]
    | inr last ↦ elim (get_cases places i k place at_place) [
      | inl left_place ↦ let within = slice_get_within places k place left_place in absurd (let e = last.0 in omega arith)
      | inr last_place ↦ (term, subst (λ (m : ℕ). slice_get entries m ≡ Some (Some term)) last_place.1 here, subst (λ (l : List Posting). AreOfTerm parts term l) last.1 is)
    ]
  ];
  complete = λ place other below at. elim (cases_lt place i) [
    | inl less ↦
        let (k, found, there, there_place, of_it) = before.complete place other less at in
        (k, found, get_left lists list k found there, get_left places i k place there_place, of_it)
    | inr more ↦
        let same : place ≡ i = omega arith in
        let term_is : term ≡ other = let e = ap (slice_get entries) same in cc in
        (length lists, list, get_last lists list, subst (λ k. slice_get (places ++ i ∷ []) k ≡ Some place) long (get_last places i ∙ ap (λ (m : ℕ). Some m) (sym same)), subst (λ (t : List ℕ). AreOfTerm parts t list) term_is is)
  ];
}

-- ---- where no position is

pub nowhere_beyond : (parts : Parts) (term : List ℕ) (place : ℕ) → IsNowhere parts term → IsBeyond parts term place
nowhere_beyond parts term place none collection of n start = none collection of n (start + place)

position_below : (postings : List Posting) (n p : ℕ) → ArePostings 0 (2 ^ 32 - 1) postings → HasPosition postings n p → p < 2 ^ 32 - 1
position_below postings n p are has =
    let each = All-contains (IsPosting (2 ^ 32 - 1)) postings (n, has.positions) are.each has.among in
    (contains_range 0 (2 ^ 32 - 1) has.positions p each.positions has.positioned).1

pub too_far : (parts : Parts) (term : List ℕ) (place : ℕ) (list : List Posting) → AreOfTerm parts term list → 2 ^ 32 ≤ place → IsBeyond parts term place
too_far parts term place list is far collection of n start posting =
    let below = position_below list n (start + place) is.lawful ((is.posted collection of n (start + place)).1 posting) in absurd (omega arith)

pub no_position : (parts : Parts) (term : List ℕ) (place offset : ℕ) (list : List Posting) → AreOfTerm parts term list → IsStart list offset None → IsBeyond parts term place
no_position parts term place offset [] is start collection of n begin posting =
    let has = (is.posted collection of n (begin + place)).1 posting in contains_none (n, has.positions) has.among
no_position parts term place offset (p ∷ list) is start collection of n begin posting = let wrong = start.is in absurd (cc)

-- where nothing is found there is nothing
pub none_found : (parts : Parts) (query : Tree) (there : ℕ → Type 0) → AnswersNothing parts query → ((n : ℕ) → ¬ (there n)) → AreFound parts query there
none_found parts query there none lacks collection of n = (λ has. absurd (lacks n has), λ at. absurd (none collection of n at))

-- a number with any place
pub any_place : (parts : Parts) (query : Tree) (there : ℕ → Type 0) → AreFound parts query there → AreFound parts query (Have (λ n place. there n))
any_place parts query there found collection of n = (λ (place, has). (found collection of n).0 has, λ at. (0, (found collection of n).1 at))

pub placed_first : (parts : Parts) (entries : List (Option (List ℕ))) (lists others : List (List Posting)) (first : List Posting) (places offsets : List ℕ) (offset : ℕ) → lists ≡ others ++ first ∷ [] → places ≡ offsets ++ offset ∷ [] → length places ≡ length lists → ArePlaced parts entries (length entries) lists places → AreFound parts (asks.Phrase entries) (HasPhraseIn first offset others offsets)
placed_first parts entries lists others first places offsets offset one two long placed =
    phrase_found parts entries first offset others offsets
    (let a = ap length one ∙ length-append others (first ∷ []) in let b = ap length two ∙ length-append offsets (offset ∷ []) in omega arith)
    (subst (λ (ls : List (List Posting)). ArePlaced parts entries (length entries) ls (offsets ++ offset ∷ [])) one (subst (λ (ps : List ℕ). ArePlaced parts entries (length entries) lists ps) two placed))

pub placed_holes : (parts : Parts) (entries : List (Option (List ℕ))) (lists : List (List Posting)) (places : List ℕ) (there : ℕ → Type 0) → lists ≡ [] → length places ≡ length lists → AreEvery parts there → ArePlaced parts entries (length entries) lists places → AreFound parts (asks.Phrase entries) there
placed_holes parts entries lists [] there none long every placed =
    holes_found parts entries there (subst (λ (ls : List (List Posting)). ArePlaced parts entries (length entries) ls []) none placed) every
placed_holes parts entries lists (p ∷ places) there none long every placed = absurd (let e = ap length none in omega arith)

pub nil_of_length : {X : Type 0} (xs : List X) → length xs ≡ 0 → xs ≡ []
nil_of_length [] e = refl
nil_of_length (x ∷ xs) e = absurd (omega arith)
