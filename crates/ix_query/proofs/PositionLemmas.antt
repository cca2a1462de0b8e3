-- Positions: what one more token says of phrases, of terms that are near, and of matches.
use Rattle.std.proofs.Common.{◌≡◌, ℕ, zero, suc, ◌+◌, ◌-◌, ◌<◌, ◌≤◌, inl, inr, Bool, true, false, cond, List, [], ◌∷◌, Option, Some, None, map, take, drop, length, get_or, refl, sym, ◌∙◌, ap, subst, arith}
use Rattle.std.proofs.lemmas.Bool.{cases_lt}
use Rattle.std.proofs.lemmas.List.{length-map, take_rest}
use Rattle.std.proofs.lemmas.Option.{slice_get-map, slice_get_read, slice_get_within}
use Rattle.std.specs.Prelude.{slice_get, option_map, MatchOption, IsSomeAnd, IsTrue, ◌↔◌}
use Rattle.ix_text.specs.TokenLists.{Entry}
use Rattle.ix_gram.specs.Patterns.{Matches}
use Rattle.ix_query.specs.Satisfaction.{StandsAt, HasPhraseAt, HasPhrase, AreNear, HasMatch, distance_between}

-- the entry of a token that was read
pub entry_at : {X : Type 0} (f : X → Entry) (xs : List X) (i : ℕ) (x : X) → i < length xs → x ≡ get_or xs i x → slice_get (map f xs) i ≡ Some (f x)
entry_at f xs i x below is = slice_get-map f xs i ∙ ap (option_map f) (slice_get_read xs (length xs) i x refl below is)

-- a term stands where its entry is
pub stands_here : (tokens : List Entry) (i : ℕ) (entry : Entry) (term : List ℕ) → slice_get tokens i ≡ Some entry → (entry ≡ Some term) ↔ StandsAt tokens i term
stands_here tokens i entry term here = (λ e. here ∙ ap Some e, λ stands. cc)

-- what stands at a position lies within the list
pub stands_within : (tokens : List Entry) (i : ℕ) (term : List ℕ) → StandsAt tokens i term → i < length tokens
stands_within tokens i term stands = slice_get_within tokens i (Some term) stands

-- ---- phrases

slice_get-drop : {X : Type 0} (n i : ℕ) (xs : List X) → slice_get (drop n xs) i ≡ slice_get xs (n + i)
slice_get-drop zero i xs = let e : 0 + i ≡ i = omega arith in ap (slice_get xs) (sym e)
slice_get-drop (suc n) i [] = refl
slice_get-drop (suc n) i (x ∷ xs) = let e : suc n + i ≡ suc (n + i) = omega arith in slice_get-drop n i xs ∙ ap (slice_get (x ∷ xs)) (sym e)

map-drop : {X Y : Type 0} (f : X → Y) (n : ℕ) (xs : List X) → map f (drop n xs) ≡ drop n (map f xs)
map-drop f zero xs = refl
map-drop f (suc n) [] = refl
map-drop f (suc n) (x ∷ xs) = map-drop f n xs

-- a phrase at the front of what follows a position is one at the position
pub phrase_from : {X : Type 0} (f : X → Entry) (xs : List X) (start : ℕ) (parts : List (Option (List ℕ))) → HasPhraseAt (map f (take (length xs - start) (drop start xs))) 0 parts ↔ HasPhraseAt (map f xs) start parts
phrase_from f xs start parts = (
  λ h i term at. sym (same i) ∙ h i term at,
  λ h i term at. same i ∙ h i term at,
)
  where
    same : (i : ℕ) → slice_get (map f (take (length xs - start) (drop start xs))) (0 + i) ≡ slice_get (map f xs) (start + i)
    same i = let e : 0 + i ≡ i = omega arith in ap (λ r. slice_get (map f r) (0 + i)) (take_rest xs start) ∙ ap (slice_get (map f (drop start xs))) e ∙ ap (λ r. slice_get r i) (map-drop f start xs) ∙ slice_get-drop start i (map f xs)

-- a phrase that stands nowhere up to the end stands nowhere
pub no_phrase : {X : Type 0} (f : X → Entry) (xs : List X) (parts : List (Option (List ℕ))) (last : ℕ) → length xs + 1 ≤ last → ((start : ℕ) → start < last → HasPhraseAt (map f xs) start parts → ⊥) → HasPhrase (map f xs) parts → ⊥
no_phrase f xs parts last all none (start, h) =
    let size = length-map xs f in elim (cases_lt start last) [
      | inl below ↦ none start below h
      | inr past ↦ none (length xs) (omega arith) (λ i term at. absurd (let within = stands_within (map f xs) (start + i) term (h i term at) in omega arith))
    ]

-- the parts before a place stand at the front
abbrev pub BeginsBefore : List Entry → List (Option (List ℕ)) → ℕ → Type 0
BeginsBefore tokens parts place = (i : ℕ) (term : List ℕ) → i < place → slice_get parts i ≡ Some (Some term) → StandsAt tokens i term

-- ---- terms that are near

-- the last position before i at which the term stands
abbrev pub IsLast : List Entry → List ℕ → ℕ → Option ℕ → Type 0
IsLast tokens term i last = MatchOption last ((k : ℕ) → k < i → ¬ (StandsAt tokens k term)) (λ p. (p < i) × StandsAt tokens p term × ((k : ℕ) → p < k → k < i → ¬ (StandsAt tokens k term)))

pub last_first : (tokens : List Entry) (term : List ℕ) → IsLast tokens term 0 None
last_first tokens term k below = absurd (omega arith)

pub last_more : (tokens : List Entry) (term : List ℕ) (i : ℕ) (here : Bool) (last : Option ℕ) → IsTrue here ↔ StandsAt tokens i term → IsLast tokens term i last → IsLast tokens term (i + 1) (cond here (Some i) last)
last_more tokens term i true last is was = (omega arith, is.0 refl, λ k above below. absurd (omega arith))
last_more tokens term i false None is was = λ k below stands. elim (cases_lt k i) [
  | inl less ↦ was k less stands
  | inr more ↦ let same : k ≡ i = omega arith in let P : ℕ → Type 0 = λ j. StandsAt tokens j term in absurd (let wrong = is.1 (subst P same stands) in cc)
]
last_more tokens term i false (Some p) is was = (
  omega arith,
  was.1,
  λ k above below stands. elim (cases_lt k i) [
    | inl less ↦ was.2 k above less stands
    | inr more ↦ let same : k ≡ i = omega arith in let P : ℕ → Type 0 = λ j. StandsAt tokens j term in absurd (let wrong = is.1 (subst P same stands) in cc)
  ],
)

-- no two positions before i are near
abbrev pub NoneNear : List Entry → List ℕ → List ℕ → ℕ → ℕ → Type 0
NoneNear tokens first second limit i = (p q : ℕ) → p < i → q < i → StandsAt tokens p first → StandsAt tokens q second → 1 ≤ distance_between p q → distance_between p q ≤ limit → ⊥

-- what a test at i says, of one of the terms and the last position of the other
abbrev pub Met : List Entry → List ℕ → ℕ → Option ℕ → ℕ → Type 0
Met tokens here i other limit = StandsAt tokens i here × IsSomeAnd other (λ p. i - p ≤ limit)

-- an earlier position of the other term is not after its last one
not_met : (tokens : List Entry) (here other : List ℕ) (i limit q : ℕ) (last : Option ℕ) → IsLast tokens other i last → ¬ (Met tokens here i last limit) → StandsAt tokens i here → StandsAt tokens q other → q < i → i - q ≤ limit → ⊥
not_met tokens here other i limit q None was fails at stands below near = was q below stands
not_met tokens here other i limit q (Some p) was fails at stands below near = elim (cases_lt p q) [
  | inl less ↦ was.2 q less below stands
  | inr more ↦ fails (at, omega arith)
]

pub near_more : (tokens : List Entry) (first second : List ℕ) (limit i : ℕ) (last_first last_second : Option ℕ) → IsLast tokens first i last_first → IsLast tokens second i last_second → ¬ (Met tokens first i last_second limit) → ¬ (Met tokens second i last_first limit) → NoneNear tokens first second limit i → NoneNear tokens first second limit (i + 1)
near_more tokens first second limit i last_first last_second was_first was_second no_first no_second none p q p_below q_below p_stands q_stands apart near =
    elim (cases_lt p i) [
      | inl p_less ↦ elim (cases_lt q i) [
        | inl q_less ↦ none p q p_less q_less p_stands q_stands apart near
        | inr q_more ↦
            let same : q ≡ i = omega arith in
            let P : ℕ → Type 0 = λ j. StandsAt tokens j second in
            not_met tokens second first i limit p last_first was_first no_second (subst P same q_stands) p_stands p_less (omega arith)
      ]
      | inr p_more ↦
          let same : p ≡ i = omega arith in
          let P : ℕ → Type 0 = λ j. StandsAt tokens j first in
          not_met tokens first second i limit q last_second was_second no_first (subst P same p_stands) q_stands (omega arith) (omega arith)
    ]

pub near_all : {X : Type 0} (f : X → Entry) (xs : List X) (first second : List ℕ) (limit i : ℕ) → length xs ≤ i → NoneNear (map f xs) first second limit i → AreNear (map f xs) first second limit → ⊥
near_all f xs first second limit i all none (p, q, p_stands, q_stands, apart, near) =
    let size = length-map xs f in
    let p_within = stands_within (map f xs) p first p_stands in
    let q_within = stands_within (map f xs) q second q_stands in
    none p q (omega arith) (omega arith) p_stands q_stands apart near

-- what the loop over the positions keeps
pub record Searched (tokens : List Entry) (first second : List ℕ) (limit i : ℕ) (last_first last_second : Option ℕ) : Type 0 where
  pub last_of_first : IsLast tokens first i last_first
  pub last_of_second : IsLast tokens second i last_second
  pub none_near : NoneNear tokens first second limit i

-- a test for a term and an earlier one
abbrev pub Tests : Bool → Bool → Option ℕ → ℕ → ℕ → Type 0
Tests met here earlier i limit = IsTrue met ↔ (IsTrue here × IsSomeAnd earlier (λ p. i - p ≤ limit))

unmet : (tokens : List Entry) (term : List ℕ) (i limit : ℕ) (earlier : Option ℕ) (met here : Bool) → IsTrue here ↔ StandsAt tokens i term → Tests met here earlier i limit → met ≡ false → ¬ (Met tokens term i earlier limit)
unmet tokens term i limit earlier met here is tests fails (stands, near) = absurd (let holds = tests.1 (is.1 stands, near) in cc)

pub searched_more : (tokens : List Entry) (first second : List ℕ) (limit i : ℕ) (last_first last_second next_first next_second : Option ℕ) (is_first is_second met_first met_second : Bool) (entry : Entry) → slice_get tokens i ≡ Some entry → IsTrue is_first ↔ (entry ≡ Some first) → IsTrue is_second ↔ (entry ≡ Some second) → Tests met_first is_first last_second i limit → met_first ≡ false → Tests met_second is_second last_first i limit → met_second ≡ false → next_first ≡ cond is_first (Some i) last_first → next_second ≡ cond is_second (Some i) last_second → Searched tokens first second limit i last_first last_second → Searched tokens first second limit (i + 1) next_first next_second
searched_more tokens first second limit i last_first last_second next_first next_second is_first is_second met_first met_second entry here first_is second_is tests_first fails_first tests_second fails_second first_next second_next was =
    let first_here = stands_here tokens i entry first here in
    let second_here = stands_here tokens i entry second here in
    let first_stands : IsTrue is_first ↔ StandsAt tokens i first = (λ t. first_here.0 (first_is.0 t), λ s. first_is.1 (first_here.1 s)) in
    let second_stands : IsTrue is_second ↔ StandsAt tokens i second = (λ t. second_here.0 (second_is.0 t), λ s. second_is.1 (second_here.1 s)) in
    let F : Option ℕ → Type 0 = IsLast tokens first (i + 1) in
    let S : Option ℕ → Type 0 = IsLast tokens second (i + 1) in record {
      last_of_first = subst F (sym first_next) (last_more tokens first i is_first last_first first_stands was.last_of_first);
      last_of_second = subst S (sym second_next) (last_more tokens second i is_second last_second second_stands was.last_of_second);
      none_near = near_more tokens first second limit i last_first last_second was.last_of_first was.last_of_second
          (unmet tokens first i limit last_second met_first is_first first_stands tests_first fails_first)
          (unmet tokens second i limit last_first met_second is_second second_stands tests_second fails_second)
          was.none_near;
    }

-- ---- matches

-- no token before i matches
abbrev pub NoneMatches : List Entry → List (List ℕ) → ℕ → Type 0
NoneMatches tokens pieces i = (k : ℕ) (term : List ℕ) → k < i → StandsAt tokens k term → Matches term pieces → ⊥

pub matches_more : (tokens : List Entry) (pieces : List (List ℕ)) (i : ℕ) (entry : Entry) → slice_get tokens i ≡ Some entry → ¬ (IsSomeAnd entry (λ term. Matches term pieces)) → NoneMatches tokens pieces i → NoneMatches tokens pieces (i + 1)
matches_more tokens pieces i entry here not none k term below stands h = elim (cases_lt k i) [
  | inl less ↦ none k term less stands h
  | inr more ↦
      let same : k ≡ i = omega arith in
      let P : ℕ → Type 0 = λ j. StandsAt tokens j term in
      let Q : Entry → Type 0 = λ e. IsSomeAnd e (λ t. Matches t pieces) in
      not (subst Q (sym ((stands_here tokens i entry term here).1 (subst P same stands))) h)
]

pub matches_all : {X : Type 0} (f : X → Entry) (xs : List X) (pieces : List (List ℕ)) (i : ℕ) → length xs ≤ i → NoneMatches (map f xs) pieces i → HasMatch (map f xs) pieces → ⊥
matches_all f xs pieces i all none (k, term, stands, h) =
    let size = length-map xs f in
    let within = stands_within (map f xs) k term stands in none k term (omega arith) stands h
