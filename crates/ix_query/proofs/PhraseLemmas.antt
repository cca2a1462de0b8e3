-- The terms of a phrase in a document that all of them have.
use Rattle.std.proofs.Common.{◌≡◌, ℕ, ◌+◌, ◌<◌, ◌≤◌, ◌↔◌, IsTrue, Option, None, Some, List, [], ◌∷◌, Contains, inl, inr, length, slice_get, set, refl, sym, ap, ◌∙◌, subst, arith}
use Rattle.std.proofs.lemmas.Bool.{cases_lt}
use Rattle.std.proofs.lemmas.Option.{slice_get_within}
use Rattle.std.specs.Prelude.{is_some}
use Rattle.ix_text.proofs.PartsLemmas.{at_same_place}
use Rattle.ix_text.specs.Parts.{HasPosition}
use Rattle.ix_file.specs.Postings.{Posting}
use Rattle.ix_query.specs.Meetings.{HasPhraseIn, Starts, StartsAt, IsStart, AreStarts, HaveNoStart}
use Rattle.ix_query.specs.Streams.{Pairs, Have, HaveBoth, IsFirst, Reaches, IsPassed, ArePassed, IsCommon}
use Rattle.ix_query.proofs.PassLemmas.{get_set_same, get_set_other}
use Rattle.ix_query.proofs.SiftLemmas.{IsCandidate}
use Rattle.ix_query.proofs.StreamLemmas.{first_posting_is, none_first}

-- whether a stream has a number is told by the first that it answers
pub answered : (old new : Pairs) (answer : Option ℕ) → Reaches old new 0 answer → IsTrue (is_some answer) ↔ ((n : ℕ) × Have old n)
answered old new None reached = (λ wrong. absurd (cc), λ (n, (place, has)). absurd (reached.found n place ((reached.kept n place).1 (has, omega arith))))
answered old new (Some n) reached = (λ _. let (place, has) = reached.found.holds in (n, (place, ((reached.kept n place).0 has).0)), λ _. refl)

-- where a term lets the phrase start in a document is where it stands there
term_starts : (postings : List Posting) (place n : ℕ) (start : Starts) → IsStart postings place (Some start) → IsFirst (HasPosition postings) n → (s : ℕ) → Contains start.1 (s + start.0) ↔ HasPosition postings n (s + place)
term_starts [] place n start is first s = absurd (none_first n first)
term_starts ((d, ps) ∷ rest) place n start is first s =
    let here : start ≡ (place, ps) = let same = is.is in cc in
    let P : Starts → Type 0 = λ x. Contains x.1 (s + x.0) ↔ HasPosition ((d, ps) ∷ rest) n (s + place) in
    let there = first_posting_is d n ps rest is.lawful first (s + place) in
    subst P (sym here) (λ has. there.1 has, λ has. there.0 has)

pub phrase_told : (first : List Posting) (place : ℕ) (others : List (List Posting)) (places : List ℕ) (start : Starts) (starts : List Starts) → length places ≡ length others → length starts ≡ length others
    → IsStart first place (Some start) → AreStarts others places starts → (n : ℕ) → IsFirst (HasPosition first) n → ((k : ℕ) (list : List Posting) → slice_get others k ≡ Some list → IsFirst (HasPosition list) n)
    → ((s : ℕ) × Have (λ m p. HaveBoth StartsAt start starts m) s) ↔ HasPhraseIn first place others places n
phrase_told first place others places start starts placed started is are n first_is others_are = (
  λ (s, (_, (one, all))). record {
    start = s;
    first_has = (term_starts first place n start is first_is s).0 one.1;
    others_have = λ k list there at at_place.
        let (other, found) = at_same_place others starts k list (sym started) at in
        let one_is = subst (λ (o : Option Starts). IsStart list there o) found (are k list there at at_place) in
        let (p, has) = all k other found in
        (term_starts list there n other one_is (others_are k list at) s).0 has;
  },
  λ phrase. (
    phrase.start,
    (
      0,
      (
        (0, (term_starts first place n start is first_is phrase.start).1 phrase.first_has),
        λ k other found.
            let (list, at) = at_same_place starts others k other started found in
            let (there, at_place) = at_same_place others places k list (sym placed) at in
            let one_is = subst (λ (o : Option Starts). IsStart list there o) found (are k list there at at_place) in
            (0, (term_starts list there n other one_is (others_are k list at) phrase.start).1 (phrase.others_have k list there at at_place)),
      ),
    ),
  ),
)

-- a term that is in no document stands at none
pub no_start : (others : List (List Posting)) (n : ℕ) → HaveNoStart others → ¬ ((k : ℕ) (list : List Posting) → slice_get others k ≡ Some list → IsFirst (HasPosition list) n)
no_start others n (k, at) are = none_first n (are k [] at)

pub no_first_start : (postings : List Posting) (place n : ℕ) → IsStart postings place None → ¬ (IsFirst (HasPosition postings) n)
no_first_start [] place n is first = none_first n first
no_first_start (p ∷ rest) place n is first = let wrong = is.is in absurd (cc)

-- ---- a document that all terms have is a candidate

pub phrase_passed : (first first_new : List Posting) (place : ℕ) (others news : List (List Posting)) (places : List ℕ) (number : ℕ) → length news ≡ length others → IsPassed (HasPosition first) (HasPosition first_new) number → ArePassed HasPosition others news number
    → IsPassed (λ n p. HasPhraseIn first place others places n) (λ n p. HasPhraseIn first_new place news places n) number
phrase_passed first first_new place others news places number long one all n p = (
  λ now. (
    record {
      start = now.start;
      first_has = ((one n (now.start + place)).0 now.first_has).0;
      others_have = λ k list there at at_place.
          let (new, found) = at_same_place others news k list (sym long) at in
          ((all k list new at found n (now.start + there)).0 (now.others_have k new there found at_place)).0;
    },
    ((one n (now.start + place)).0 now.first_has).1,
  ),
  λ (was, far). record {
    start = was.start;
    first_has = (one n (was.start + place)).1 (was.first_has, far);
    others_have = λ k new there found at_place.
        let (list, at) = at_same_place news others k new long found in
        (all k list new at found n (was.start + there)).1 (was.others_have k list there at at_place, far);
  },
)

pub phrase_both : (first : List Posting) (place : ℕ) (others : List (List Posting)) (places : List ℕ) (number : ℕ) → length places ≡ length others → HasPhraseIn first place others places number → HaveBoth HasPosition first others number
phrase_both first place others places number placed phrase = (
  (phrase.start + place, phrase.first_has),
  λ k list at. let (there, at_place) = at_same_place others places k list (sym placed) at in (phrase.start + there, phrase.others_have k list there at at_place),
)

pub phrase_candidate : (first first_new : List Posting) (place : ℕ) (others news : List (List Posting)) (places : List ℕ) (least number : ℕ) → length places ≡ length others → length news ≡ length others
    → Reaches (λ n p. HaveBoth HasPosition first others n) (λ n p. HaveBoth HasPosition first_new news n) least (Some number) → IsCommon HasPosition first first_new others news number
    → IsCandidate (λ n p. HasPhraseIn first place others places n) (λ n p. HasPhraseIn first_new place news places n) least number
phrase_candidate first first_new place others news places least number placed long reached common = record {
  above = let (p, has) = reached.found.holds in ((reached.kept number p).0 has).1;
  passed = phrase_passed first first_new place others news places number long common.first common.others;
  first = λ n p phrase far. reached.found.first n p ((reached.kept n p).1 (phrase_both first place others places n placed phrase, far));
  below = reached.found.below;
}

-- and all terms stand there first
pub all_first : {N : Type 0} (has : N → Pairs) (first first_new : N) (others news : List N) (least number : ℕ) → length news ≡ length others
    → Reaches (λ n p. HaveBoth has first others n) (λ n p. HaveBoth has first_new news n) least (Some number) → IsCommon has first first_new others news number
    → IsFirst (has first_new) number × ((k : ℕ) (list : N) → slice_get news k ≡ Some list → IsFirst (has list) number)
all_first has first first_new others news least number long reached common =
    let (place, both) = reached.found.holds in (
      record { holds = both.0; first = λ n p has. ((common.first n p).0 has).1; below = reached.found.below },
      λ k list at.
          let (old, was) = at_same_place news others k list long at in
          record { holds = both.1 k list at; first = λ n p has. ((common.others k old list was at n p).0 has).1; below = reached.found.below },
    )

-- ---- the starts of the terms, put down one after another

abbrev pub StartsBefore : List (List Posting) → List ℕ → List Starts → ℕ → Type 0
StartsBefore lists places starts i =
    (k : ℕ) (list : List Posting) (place : ℕ) → k < i → slice_get lists k ≡ Some list → slice_get places k ≡ Some place → IsStart list place (slice_get starts k)

pub starts_more : (lists : List (List Posting)) (places : List ℕ) (starts : List Starts) (i : ℕ) (list : List Posting) (place : ℕ) (start : Starts) → i < length starts → slice_get lists i ≡ Some list → slice_get places i ≡ Some place → IsStart list place (Some start) → StartsBefore lists places starts i → StartsBefore lists places (set starts i start) (i + 1)
starts_more lists places starts i list place start within at at_place is before k other there below found found_place = elim (cases_lt k i) [
  | inl less ↦ subst (λ (o : Option Starts). IsStart other there o) (sym (get_set_other starts i k start (omega arith))) (before k other there less found found_place)
  | inr more ↦
      let here : k ≡ i = omega arith in
      let list_is : list ≡ other = let e = ap (slice_get lists) here in cc in
      let place_is : place ≡ there = let e = ap (slice_get places) here in cc in
      let same : slice_get (set starts i start) k ≡ Some start = ap (slice_get (set starts i start)) here ∙ get_set_same starts i start within in
      subst (λ (o : Option Starts). IsStart other there o) (sym same)
      (subst (λ (l : List Posting). IsStart l there (Some start)) list_is (subst (λ (n : ℕ). IsStart list n (Some start)) place_is is))
]

pub starts_all : (lists : List (List Posting)) (places : List ℕ) (starts : List Starts) (i : ℕ) → length lists ≤ i → StartsBefore lists places starts i → AreStarts lists places starts
starts_all lists places starts i all before k list place at at_place = before k list place (let within = slice_get_within lists k list at in omega arith) at at_place

pub none_starts : (lists : List (List Posting)) (place i : ℕ) (list : List Posting) → slice_get lists i ≡ Some list → IsStart list place None → HaveNoStart lists
none_starts lists place i [] at is = (i, at)
none_starts lists place i (p ∷ rest) at is = let wrong = is.is in absurd (cc)
