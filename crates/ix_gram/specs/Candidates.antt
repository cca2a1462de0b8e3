-- Numbers of terms among which those of all matching terms are.
use Rattle.std.specs.Prelude.{◌≡◌, ℕ, ◌<◌, ◌↔◌, List, ◌++◌, length, slice_get, Some, All, Contains}
use Rattle.std.specs.List.Sorted.{IsStrictlyIncreasing}
use Rattle.ix_text.specs.Windows.{grams_of, trigram_list}
use Rattle.ix_gram.specs.Expanding.{IsMatch}

-- ascending numbers of terms, among them each whose term matches
pub record AreCandidates (terms pieces : List (List ℕ)) (numbers : List ℕ) : Type 0 where
  pub ascending : IsStrictlyIncreasing numbers
  pub within : (number : ℕ) → Contains numbers number → number < length terms
  pub complete : (number : ℕ) → IsMatch terms pieces number → Contains numbers number

-- no term matches
abbrev pub HasNoMatch : List (List ℕ) → List (List ℕ) → Type 0
HasNoMatch terms pieces = (number : ℕ) → ¬ (IsMatch terms pieces number)

-- the term has each trigram of the text among its grams
abbrev pub HasTrigrams : List ℕ → List ℕ → Type 0
HasTrigrams text term = (gram : List ℕ) → Contains (trigram_list text) gram → Contains (grams_of term) gram

-- no term has them all
abbrev pub IsOfNoTerm : List (List ℕ) → List ℕ → Type 0
IsOfNoTerm terms text = (number : ℕ) (term : List ℕ) → slice_get terms number ≡ Some term → ¬ (HasTrigrams text term)

-- ascending numbers of terms, among them each whose term has each trigram of the text
pub record HoldTerms (terms : List (List ℕ)) (text numbers : List ℕ) : Type 0 where
  pub ascending : IsStrictlyIncreasing numbers
  pub within : (number : ℕ) → Contains numbers number → number < length terms
  pub complete : (number : ℕ) (term : List ℕ) → slice_get terms number ≡ Some term → HasTrigrams text term → Contains numbers number

-- behind the lists that there were stand some that hold the terms with the trigrams of the text
pub record AddsLists (terms : List (List ℕ)) (text : List ℕ) (old new : List (List ℕ)) : Type 0 where
  pub added : List (List ℕ)
  pub held : All (HoldTerms terms text) added
  pub appended : new ≡ old ++ added

-- the numbers that both lists have
abbrev pub AreCommon : List ℕ → List ℕ → List ℕ → Type 0
AreCommon numbers others common = (number : ℕ) → Contains common number ↔ (Contains numbers number × Contains others number)
