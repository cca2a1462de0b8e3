-- A front of a lawful dictionary is lawful.
use Rattle.std.proofs.Common.{◌≡◌, ℕ, ◌+◌, ◌<◌, List, [], ◌∷◌, ◌++◌, length, map, All, Contains, Option, Some, None, refl, sym, ap, subst, ◌∙◌, inl, inr, arith, length-append}
use Rattle.std.proofs.lemmas.Cmp.{nat_list_cmp_total}
use Rattle.std.proofs.lemmas.List.{get_or_append_left, map-append}
use Rattle.std.proofs.lemmas.List.Elements.{All-append, All-nil, All-cons, All-weaker, All-contains, Contains-append_left, Contains-push, Contains-push_cases}
use Rattle.std.proofs.lemmas.Map.Keys.{Less-from_sorted, sorted_from_all_adjacent}
use Rattle.std.specs.Cmp.Lexicographic.{slice_cmp}
use Rattle.std.specs.List.Sorted.{IsStrictlyIncreasing}
use Rattle.std.specs.Ordering.{nat_cmp}
use Rattle.ix_text.specs.ByteOrder.{IsAscending}
use Rattle.ix_text.specs.Parts.{DictionaryEntry, Posting, IsTermPosting, HasPosition, terms_of}
use Rattle.ix_text.specs.PartsLaws.{AreLawful, IsLawfulTerm}
use Rattle.ix_run_text.specs.Heads.{Heading, parts_with}
use Rattle.ix_run_text.specs.Sources.{AreWhole, IsLawfulFront, closed, extended}

-- a front of ascending texts ascends
ascending_front : (xs ys : List (List ℕ)) → IsAscending (xs ++ ys) → IsAscending xs
ascending_front xs ys a =
    sorted_from_all_adjacent nat_list_cmp_total xs []
    (λ k up.
    let below = get_or_append_left xs ys [] k (omega arith) in
    let above = get_or_append_left xs ys [] (k + 1) up in
    let less = Less-from_sorted (slice_cmp nat_cmp) (xs ++ ys) k (k + 1) [] a (omega arith) (omega (arith, length-append xs ys)) in
    cc (below, above, less))

-- a front of rising numbers rises
rising_front : (xs ys : List ℕ) → IsStrictlyIncreasing (xs ++ ys) → IsStrictlyIncreasing xs
rising_front xs ys up k within =
    let size = length-append xs ys in
    let low = get_or_append_left xs ys 0 k (omega arith) in
    let high = get_or_append_left xs ys 0 (k + 1) within in
    let less = up k (omega (arith, size)) in omega (arith, low, high, less)

-- what holds of all holds of a front
all_front : {A : Type 0} (P : A → Type 0) (xs ys : List A) → All P (xs ++ ys) → All P xs
all_front P xs ys all k d within =
    let same = get_or_append_left xs ys d k within in
    subst P same (all k d (omega (arith, length-append xs ys)))

-- fewer entries under a heading
lawful_front : (heading : Heading) (xs ys : List DictionaryEntry) → AreLawful (parts_with heading (xs ++ ys)) → AreLawful (parts_with heading xs)
lawful_front heading xs ys lawful = record {
  stop_terms = lawful.stop_terms;
  stop_ascending = lawful.stop_ascending;
  few_stop_terms = lawful.few_stop_terms;
  names = lawful.names;
  few_documents = lawful.few_documents;
  few_tokens = lawful.few_tokens;
  ascending = ascending_front (terms_of xs) (terms_of ys) (subst IsAscending (map-append (λ entry. entry.term) xs ys) lawful.ascending);
  terms = all_front (IsLawfulTerm (parts_with heading xs)) xs ys
      (All-weaker (IsLawfulTerm (parts_with heading (xs ++ ys))) (IsLawfulTerm (parts_with heading xs))
      (λ entry is. record { term = is.term; no_stop = is.no_stop; ordered = is.ordered; in_range = is.in_range }) (xs ++ ys) lawful.terms);
  apart = λ one other number position a b p q. lawful.apart one other number position (Contains-append_left xs ys one a) (Contains-append_left xs ys other b) p q;
}

pub whole_front : (heading : Heading) (xs ys : List DictionaryEntry) → AreWhole heading (xs ++ ys) → AreWhole heading xs
whole_front heading xs ys whole = record { lawful = lawful_front heading xs ys whole.lawful; within = whole.within }

-- a position of a front of postings is one of the postings
position_front : (given left : List Posting) (number position : ℕ) → HasPosition given number position → HasPosition (given ++ left) number position
position_front given left number position has = record {
  positions = has.positions;
  among = Contains-append_left given left (number, has.positions) has.among;
  positioned = has.positioned;
}

-- an entry of a dictionary whose last one has fewer postings is one of the dictionary, with fewer postings perhaps
record IsShorter (finished : List DictionaryEntry) (entry : DictionaryEntry) (left : List Posting) (one : DictionaryEntry) : Type 0 where
  whole : DictionaryEntry
  among : Contains (finished ++ extended entry left ∷ []) whole
  same : whole.term ≡ one.term
  more : (number position : ℕ) → HasPosition one.postings number position → HasPosition whole.postings number position

shorter : (finished : List DictionaryEntry) (entry : DictionaryEntry) (left : List Posting) (one : DictionaryEntry) → Contains (finished ++ entry ∷ []) one → IsShorter finished entry left one
shorter finished entry left one has = elim (Contains-push_cases finished entry one has) [
  | inl before ↦ record { whole = one; among = Contains-append_left finished (extended entry left ∷ []) one before; same = refl; more = λ number position p. p }
  | inr same ↦ record {
    whole = extended entry left;
    among = Contains-push finished (extended entry left);
    same = ap (λ e. e.term) same;
    more = λ number position p. position_front entry.postings left number position (let P : DictionaryEntry → Type 0 = λ e. HasPosition e.postings number position in subst P (sym same) p);
  }
]

-- the last entry with fewer postings, but some
shorter_whole : (heading : Heading) (finished : List DictionaryEntry) (entry : DictionaryEntry) (left : List Posting) → 0 < length entry.postings
    → AreWhole heading (finished ++ extended entry left ∷ []) → AreWhole heading (finished ++ entry ∷ [])
shorter_whole heading finished entry left some whole =
    let lawful = whole.lawful in
    let longer : List DictionaryEntry = finished ++ extended entry left ∷ [] in
    let is : IsLawfulTerm (parts_with heading longer) (extended entry left) = All-contains (IsLawfulTerm (parts_with heading longer)) longer (extended entry left) lawful.terms (Contains-push finished (extended entry left)) in
    let same : terms_of longer ≡ terms_of (finished ++ entry ∷ []) =
    map-append (λ e. e.term) finished (extended entry left ∷ []) ∙ sym (map-append (λ e. e.term) finished (entry ∷ [])) in
    record {
      lawful = record {
        stop_terms = lawful.stop_terms;
        stop_ascending = lawful.stop_ascending;
        few_stop_terms = lawful.few_stop_terms;
        names = lawful.names;
        few_documents = lawful.few_documents;
        few_tokens = lawful.few_tokens;
        ascending = subst IsAscending same lawful.ascending;
        terms =
            All-append (IsLawfulTerm (parts_with heading (finished ++ entry ∷ []))) finished (entry ∷ [])
            (All-weaker (IsLawfulTerm (parts_with heading longer)) (IsLawfulTerm (parts_with heading (finished ++ entry ∷ [])))
            (λ e i. record { term = i.term; no_stop = i.no_stop; ordered = i.ordered; in_range = i.in_range }) finished
            (all_front (IsLawfulTerm (parts_with heading longer)) finished (extended entry left ∷ []) lawful.terms))
            (All-cons (IsLawfulTerm (parts_with heading (finished ++ entry ∷ []))) entry []
            (record {
              term = is.term;
              no_stop = is.no_stop;
              ordered = record {
                some = some;
                ascending = rising_front (map (λ p. p.0) entry.postings) (map (λ p. p.0) left) (subst IsStrictlyIncreasing (map-append (λ p. p.0) entry.postings left) is.ordered.ascending);
                each = all_front IsTermPosting entry.postings left is.ordered.each;
              };
              in_range = λ number position has. is.in_range number position (position_front entry.postings left number position has);
            })
            (All-nil (IsLawfulTerm (parts_with heading (finished ++ entry ∷ [])))));
        apart = λ one other number position a b p q.
            let one' = shorter finished entry left one a in
            let other' = shorter finished entry left other b in
            sym one'.same ∙ lawful.apart one'.whole other'.whole number position one'.among other'.among (one'.more number position p) (other'.more number position q) ∙ other'.same;
      };
      within = whole.within;
    }

-- what was given of a lawful dictionary
pub front_lawful : (heading : Heading) (finished : List DictionaryEntry) (at_hand : Option DictionaryEntry) (postings : List Posting) (rest : List DictionaryEntry)
    → AreWhole heading (closed finished at_hand postings ++ rest) → IsLawfulFront heading finished at_hand
front_lawful heading finished None postings rest whole = record { whole = whole_front heading finished rest whole; begun = tt }
front_lawful heading finished (Some entry) postings rest whole =
    let last = whole_front heading (finished ++ extended entry postings ∷ []) rest whole in
    let longer : List DictionaryEntry = finished ++ extended entry postings ∷ [] in
    let is : IsLawfulTerm (parts_with heading longer) (extended entry postings) = All-contains (IsLawfulTerm (parts_with heading longer)) longer (extended entry postings) last.lawful.terms (Contains-push finished (extended entry postings)) in
    let same : terms_of longer ≡ terms_of (finished ++ entry ∷ []) =
    map-append (λ e. e.term) finished (extended entry postings ∷ []) ∙ sym (map-append (λ e. e.term) finished (entry ∷ [])) in
    record {
      whole = whole_front heading finished (extended entry postings ∷ []) last;
      begun = record {
        term = is.term;
        no_stop = is.no_stop;
        ascending = subst IsAscending same last.lawful.ascending;
        posted = λ some. shorter_whole heading finished entry postings some last;
      };
    }
