-- What a reader of a run text may have given, step by step.
use Rattle.std.proofs.Common.{◌≡◌, ℕ, suc, ◌+◌, ◌-◌, ◌<◌, ◌≤◌, List, [], ◌∷◌, ◌++◌, length, get_or, All, Contains, Option, Some, None, IfSome, Less, refl, sym, ap, subst, ◌∙◌, inl, inr, arith, length-append}
use Rattle.std.proofs.lemmas.List.{append_assoc, append-nil, get_or_append_left, get_or_default, map-append}
use Rattle.std.proofs.Math.Seq.{get_or-append_right}
use Rattle.std.proofs.lemmas.Bool.{cases_lt}
use Rattle.std.proofs.lemmas.List.Elements.{All-nil, All-push, All-weaker, All-contains, Contains-push, Contains-push_cases}
use Rattle.std.specs.Cmp.Lexicographic.{slice_cmp}
use Rattle.std.specs.List.Sorted.{IsStrictlyIncreasing}
use Rattle.std.specs.Ordering.{nat_cmp}
use Rattle.ix_text.specs.ByteOrder.{IsAscending}
use Rattle.ix_text.specs.Parts.{DictionaryEntry, DocumentRow, Posting, IsTermPosting, HasPosition, terms_of}
use Rattle.ix_text.specs.PartsLaws.{AreLawful, IsLawfulTerm, IsInRange}
use Rattle.ix_text.specs.Terms.{IsTerm}
use Rattle.ix_text.specs.TokenLaws.{AreInOrder}
use Rattle.ix_text.specs.TokenNumbers.{AreDistinct, numbers_of_entries, numbers_of_posting, numbers_of_postings}
use Rattle.ix_text.proofs.PartsLemmas.{same_entry_fields}
use Rattle.ix_text.proofs.TokensApart.{lawful_if_distinct, lawful_in_order, numbers_of_entries-push, numbers_of_postings-append}
use Rattle.ix_vbyte.specs.Gaps.{next_after}
use Rattle.ix_vbyte.specs.Postings.{documents_of}
use Rattle.ix_run_text.specs.Heads.{Heading, parts_with}
use Rattle.ix_run_text.specs.Orders.{StandsAbove}
use Rattle.ix_postings.specs.NextPostings.{PostingFits}
use Rattle.ix_run_text.specs.ReadTerms.{TermFits}
use Rattle.ix_run_text.specs.Reading.{last_text}
use Rattle.ix_run_text.specs.Sources.{AreWhole, IsBegun, IsLawfulFront, closed, entry_with, extended}
use Rattle.ix_run_text.proofs.OrderLemmas.{ascends-push}

-- ---- one posting more

pub extended-nil : (entry : DictionaryEntry) → extended entry [] ≡ entry
extended-nil entry = same_entry_fields (extended entry []) entry refl (append-nil entry.postings)

pub closed-none : (finished : List DictionaryEntry) (entry : DictionaryEntry) → closed finished (Some entry) [] ≡ finished ++ entry ∷ []
closed-none finished entry = ap (λ (e : DictionaryEntry). finished ++ e ∷ []) (extended-nil entry)

-- the terms of a dictionary with one entry more
pub terms_push : (finished : List DictionaryEntry) (entry : DictionaryEntry) → terms_of (finished ++ entry ∷ []) ≡ terms_of finished ++ entry.term ∷ []
terms_push finished entry = map-append (λ (e : DictionaryEntry). e.term) finished (entry ∷ [])

-- the tokens of a dictionary with more postings of the last entry
pub numbers_more : (rows : List DocumentRow) (finished : List DictionaryEntry) (entry : DictionaryEntry) (postings : List Posting)
    → numbers_of_entries rows (closed finished (Some entry) postings) ≡ numbers_of_entries rows (closed finished (Some entry) []) ++ numbers_of_postings rows postings
numbers_more rows finished entry postings =
    numbers_of_entries-push rows finished (extended entry postings)
    ∙ ap (λ (ns : List ℕ). numbers_of_entries rows finished ++ ns) (numbers_of_postings-append rows entry.postings postings)
    ∙ sym (append_assoc (numbers_of_entries rows finished) (numbers_of_postings rows entry.postings) (numbers_of_postings rows postings))
    ∙ ap (λ (ns : List ℕ). ns ++ numbers_of_postings rows postings) (sym (numbers_of_entries-push rows finished entry) ∙ sym (ap (numbers_of_entries rows) (closed-none finished entry)))

-- one above the last number
next_after-last : (next : ℕ) (xs : List ℕ) → 0 < length xs → next_after next xs ≡ get_or xs (length xs - 1) 0 + 1
next_after-last next [] some = absurd (omega arith)
next_after-last next (x ∷ []) some = refl
next_after-last next (x ∷ y ∷ ys) some =
    let place : length (x ∷ y ∷ ys) - 1 ≡ suc (length (y ∷ ys) - 1) = omega arith in
    next_after-last (x + 1) (y ∷ ys) (omega arith) ∙ ap (λ (n : ℕ). get_or (x ∷ y ∷ ys) n 0 + 1) (sym place)

-- a number from there on may come next
rising_push : (xs : List ℕ) (x : ℕ) → IsStrictlyIncreasing xs → next_after 0 xs ≤ x → IsStrictlyIncreasing (xs ++ x ∷ [])
rising_push xs x rising above k within = elim (cases_lt (k + 1) (length xs)) [
  | inl before ↦
      let low = get_or_append_left xs (x ∷ []) 0 k (omega arith) in
      let high = get_or_append_left xs (x ∷ []) 0 (k + 1) before in
      let less = rising k before in omega (arith, low, high, less)
  | inr last ↦
      let size = length-append xs (x ∷ []) in
      let low = get_or_append_left xs (x ∷ []) 0 k (omega arith) in
      let place : (k + 1) - length xs ≡ 0 = omega arith in
      let high = get_or-append_right xs (x ∷ []) (k + 1) 0 last ∙ ap (λ (n : ℕ). get_or (x ∷ []) n 0) place in
      let end : length xs - 1 ≡ k = omega arith in
      let same = ap (λ (n : ℕ). get_or xs n 0) end in
      omega (arith, low, high, same, next_after-last 0 xs (omega arith))
]

-- and a number of a rising list is from there on
pub rising_next : (xs : List ℕ) (x : ℕ) (more : List ℕ) → IsStrictlyIncreasing (xs ++ x ∷ more) → next_after 0 xs ≤ x
rising_next [] x more rising = omega arith
rising_next (y ∷ ys) x more rising =
    let xs : List ℕ = y ∷ ys in
    let size = length-append xs (x ∷ more) in
    let end : (length xs - 1) + 1 ≡ length xs = omega arith in
    let place : length xs - length xs ≡ 0 = omega arith in
    let low = get_or_append_left xs (x ∷ more) 0 (length xs - 1) (omega arith) in
    let high = ap (λ (n : ℕ). get_or (xs ++ x ∷ more) n 0) end ∙ get_or-append_right xs (x ∷ more) (length xs) 0 (omega arith) ∙ ap (λ (n : ℕ). get_or (x ∷ more) n 0) place in
    let less = rising (length xs - 1) (omega arith) in
    omega (arith, low, high, less, next_after-last 0 xs (omega arith))

-- what the postings of a term in lawful parts are, also where there is none yet
pub record AreRising (rows : List DocumentRow) (postings : List Posting) : Type 0 where
  pub ascending : IsStrictlyIncreasing (documents_of postings)
  pub each : All IsTermPosting postings
  pub in_range : (number position : ℕ) → HasPosition postings number position → IsInRange rows number position

rising-none : (rows : List DocumentRow) → AreRising rows []
rising-none rows = record {
  ascending = λ k within. absurd (omega arith);
  each = All-nil IsTermPosting;
  in_range = λ number position has. absurd (omega (arith, has.among.1));
}

rising-push : (rows : List DocumentRow) (postings : List Posting) (posting : Posting) → AreRising rows postings → PostingFits rows (next_after 0 (documents_of postings)) posting → AreRising rows (postings ++ posting ∷ [])
rising-push rows postings posting are fits = record {
  ascending = subst IsStrictlyIncreasing (sym (map-append (λ (p : Posting). p.0) postings (posting ∷ []))) (rising_push (documents_of postings) posting.0 are.ascending fits.above);
  each = All-push IsTermPosting postings posting are.each fits.is.is;
  in_range = λ number position has. elim (Contains-push_cases postings posting (number, has.positions) has.among) [
    | inl before ↦ are.in_range number position (record { positions = has.positions; among = before; positioned = has.positioned })
    | inr same ↦
        let P : Posting → Type 0 = λ p. Contains p.1 position → IsInRange rows p.0 position in
        subst P same (fits.is.in_range position) has.positioned
  ];
}

pub rising_of : (heading : Heading) (entries : List DictionaryEntry) (entry : DictionaryEntry) → AreLawful (parts_with heading entries) → Contains entries entry → AreRising heading.rows entry.postings
rising_of heading entries entry lawful among =
    let is : IsLawfulTerm (parts_with heading entries) entry = All-contains (IsLawfulTerm (parts_with heading entries)) entries entry lawful.terms among in
    record { ascending = is.ordered.ascending; each = is.ordered.each; in_range = is.in_range }

rising_at_hand : (heading : Heading) (finished : List DictionaryEntry) (term : List ℕ) (postings : List Posting) → IsBegun heading finished (entry_with term postings) → AreRising heading.rows postings
rising_at_hand heading finished term [] begun = rising-none heading.rows
rising_at_hand heading finished term (p ∷ ps) begun =
    rising_of heading (finished ++ entry_with term (p ∷ ps) ∷ []) (entry_with term (p ∷ ps)) (begun.posted (omega arith)).lawful (Contains-push finished (entry_with term (p ∷ ps)))

-- finished entries and a begun one with its first postings, in order
in_order : (heading : Heading) (finished : List DictionaryEntry) (entry : DictionaryEntry) → AreWhole heading finished → IsTerm entry.term → ¬ (Contains heading.stop entry.term)
    → IsAscending (terms_of (finished ++ entry ∷ [])) → 0 < length entry.postings → AreRising heading.rows entry.postings → AreInOrder (parts_with heading (finished ++ entry ∷ []))
in_order heading finished entry whole term no_stop ascending some are = record {
  without_terms = (lawful_in_order (parts_with heading finished) whole.lawful).without_terms;
  ascending = ascending;
  terms =
      All-push (IsLawfulTerm (parts_with heading (finished ++ entry ∷ []))) finished entry
      (All-weaker (IsLawfulTerm (parts_with heading finished)) (IsLawfulTerm (parts_with heading (finished ++ entry ∷ [])))
      (λ e is. record { term = is.term; no_stop = is.no_stop; ordered = is.ordered; in_range = is.in_range }) finished whole.lawful.terms)
      (record {
        term = term;
        no_stop = no_stop;
        ordered = record { some = some; ascending = are.ascending; each = are.each };
        in_range = are.in_range;
      });
}

-- a posting that fits is given
pub front_more : (heading : Heading) (finished : List DictionaryEntry) (entry : DictionaryEntry) (posting : Posting) → IsLawfulFront heading finished (Some entry)
    → PostingFits heading.rows (next_after 0 (documents_of entry.postings)) posting → AreDistinct (numbers_of_entries heading.rows (closed finished (Some entry) []) ++ numbers_of_posting heading.rows posting)
    → IsLawfulFront heading finished (Some (extended entry (posting ∷ [])))
front_more heading finished entry posting front fits free =
    let begun = front.begun in
    let more : DictionaryEntry = extended entry (posting ∷ []) in
    let ascending : IsAscending (terms_of (finished ++ more ∷ [])) = subst IsAscending (terms_push finished entry ∙ sym (terms_push finished more)) begun.ascending in
    let some : 0 < length more.postings = omega (arith, length-append entry.postings (posting ∷ [])) in
    let told : numbers_of_entries heading.rows (closed finished (Some entry) []) ++ numbers_of_posting heading.rows posting ≡ numbers_of_entries heading.rows (finished ++ more ∷ []) =
    ap (λ (ns : List ℕ). numbers_of_entries heading.rows (closed finished (Some entry) []) ++ ns) (sym (append-nil (numbers_of_posting heading.rows posting))) ∙ sym (numbers_more heading.rows finished entry (posting ∷ [])) in
    record {
      whole = front.whole;
      begun = record {
        term = begun.term;
        no_stop = begun.no_stop;
        ascending = ascending;
        posted = λ _. record {
          lawful =
              lawful_if_distinct (parts_with heading (finished ++ more ∷ []))
              (in_order heading finished more front.whole begun.term begun.no_stop ascending some
              (rising-push heading.rows entry.postings posting (rising_at_hand heading finished entry.term entry.postings begun) fits))
              (subst AreDistinct told free);
          within = front.whole.within;
        };
      };
    }

-- ---- one term more

-- what was given of a term is finished
whole_closed : (heading : Heading) (finished : List DictionaryEntry) (at_hand : Option DictionaryEntry) → IsLawfulFront heading finished at_hand → IfSome at_hand (λ entry. 0 < length entry.postings)
    → AreWhole heading (closed finished at_hand [])
whole_closed heading finished None front some = front.whole
whole_closed heading finished (Some entry) front some = subst (AreWhole heading) (sym (closed-none finished entry)) (front.begun.posted some)

-- the end
pub front_closed : (heading : Heading) (finished : List DictionaryEntry) (at_hand : Option DictionaryEntry) → IsLawfulFront heading finished at_hand → IfSome at_hand (λ entry. 0 < length entry.postings)
    → IsLawfulFront heading (closed finished at_hand []) None
front_closed heading finished at_hand front some = record { whole = whole_closed heading finished at_hand front some; begun = tt }

pub last_text-push : (texts : List (List ℕ)) (text : List ℕ) → last_text (texts ++ text ∷ []) ≡ text
last_text-push texts text =
    let place : length (texts ++ text ∷ []) - 1 ≡ length texts = omega (arith, length-append texts (text ∷ [])) in
    let none : length texts - length texts ≡ 0 = omega arith in
    ap (λ (n : ℕ). get_or (texts ++ text ∷ []) n []) place ∙ get_or-append_right texts (text ∷ []) (length texts) [] (omega arith) ∙ ap (λ (n : ℕ). get_or (text ∷ []) n []) none

above_last : (texts : List (List ℕ)) (text : List ℕ) → slice_cmp nat_cmp (last_text texts) text ≡ Less → StandsAbove texts text
above_last texts text less none some = subst (λ (last : List ℕ). slice_cmp nat_cmp last text ≡ Less) (get_or_default texts (length texts - 1) [] none (omega arith)) less

-- the next term
pub front_begun : (heading : Heading) (finished : List DictionaryEntry) (at_hand : Option DictionaryEntry) (term : List ℕ) (documents bytes : ℕ) → IsLawfulFront heading finished at_hand
    → IfSome at_hand (λ entry. 0 < length entry.postings) → TermFits heading.stop (last_text (terms_of (closed finished at_hand []))) term documents bytes
    → IsLawfulFront heading (closed finished at_hand []) (Some (entry_with term []))
front_begun heading finished at_hand term documents bytes front some fits =
    let whole = whole_closed heading finished at_hand front some in
    let before : List DictionaryEntry = closed finished at_hand [] in
    record {
      whole = whole;
      begun = record {
        term = fits.text.is;
        no_stop = fits.text.no_stop;
        ascending = subst IsAscending (sym (terms_push before (entry_with term []))) (ascends-push (terms_of before) term whole.lawful.ascending (above_last (terms_of before) term fits.text.above));
        posted = λ none. absurd (omega arith);
      };
    }
