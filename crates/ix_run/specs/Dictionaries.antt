-- The dictionary of a block while it is inverted: each term has a number, and each token that of its term.
use Rattle.std.specs.Prelude.{◌≡◌, ℕ, ◌+◌, ◌^◌, ◌<◌, ◌≤◌, ◌==◌, List, [], ◌∷◌, Some, None, MatchOption, Contains, String, ◌++◌, bytes_eq, length, if◌then◌else◌}
use Rattle.std.specs.HashMap.{HashMap, get_by_text}
use Rattle.std.specs.List.{AllZip}
use Rattle.std.specs.Map.{update}
use Rattle.ix_text.specs.Collections.{Document}
use Rattle.ix_text.specs.TokenLists.{Entry}
use Rattle.ix_run.specs.DocumentEnds.{ends_of}
use Rattle.ix_run.specs.declared.dictionary.TheConstants.{NOTHING}

-- the places of a term among tokens, the first of which stands at that place
abbrev pub places_of : List ℕ → ℕ → List Entry → List ℕ
places_of term place [] = []
places_of term place (None ∷ tokens) = places_of term (place + 1) tokens
places_of term place (Some other ∷ tokens) = if bytes_eq other term then place ∷ places_of term (place + 1) tokens else places_of term (place + 1) tokens

-- the places of a number among those of tokens, the first of which stands at that place
abbrev pub places_with : ℕ → ℕ → List ℕ → List ℕ
places_with number place [] = []
places_with number place (token ∷ tokens) = if token == number then place ∷ places_with number (place + 1) tokens else places_with number (place + 1) tokens

-- a token has the number of its term, and NOTHING where it is nothing
abbrev pub IsNumbered : {Y S : Type 0} → HashMap (String Y) ℕ S → Entry → ℕ → Type 0
IsNumbered numbers None token = token ≡ NOTHING
IsNumbered numbers (Some term) token = get_by_text numbers term ≡ Some token

-- Each token has the number of its term. Exactly the terms that occur have one, below how many they are, each its own.
pub record HoldsTokens {Y S : Type 0} (numbers : HashMap (String Y) ℕ S) (tokens : List ℕ) (entries : List Entry) : Type 0 where
  pub numbered : AllZip (IsNumbered numbers) entries tokens
  pub occurs : (term : List ℕ) (number : ℕ) → get_by_text numbers term ≡ Some number → Contains entries (Some term)
  pub below : (term : List ℕ) (number : ℕ) → get_by_text numbers term ≡ Some number → number < length numbers.entries
  pub own : (term other : List ℕ) (number : ℕ) → get_by_text numbers term ≡ Some number → get_by_text numbers other ≡ Some number → term ≡ other
  pub few : length numbers.entries ≤ length tokens

-- The term has that number now: the one it had, or where it had none the next, and all others have what they had.
abbrev pub IsNumberedAfter : {Y S : Type 0} → HashMap (String Y) ℕ S → HashMap (String Y) ℕ S → List ℕ → ℕ → Type 0
IsNumberedAfter old new term number =
    MatchOption (get_by_text old term)
    ((number ≡ length old.entries) × (length new.entries ≡ length old.entries + 1) × ((other : List ℕ) → get_by_text new other ≡ update bytes_eq (get_by_text old) term (Some number) other))
    (λ before. (number ≡ before) × (new ≡ old))

-- the tokens of documents, one behind another
abbrev pub tokens_in : List Document → List Entry
tokens_in [] = []
tokens_in (document ∷ documents) = document.tokens ++ tokens_in documents

-- the dictionary of some documents, within the limits
pub record IsInverted {Y S : Type 0} (numbers : HashMap (String Y) ℕ S) (tokens ends : List ℕ) : Type 0 where
  pub documents : List Document
  pub held : HoldsTokens numbers tokens (tokens_in documents)
  pub ended : ends ≡ ends_of 0 documents
  pub few_tokens : length tokens ≤ 2 ^ 28
  pub few_documents : length documents ≤ 2 ^ 28
