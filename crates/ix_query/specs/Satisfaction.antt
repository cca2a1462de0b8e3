-- Satisfaction: what a query asks of a token list (IIR 1.3, 2.4.2, 3.2).
use Rattle.std.specs.Prelude.{◌≡◌, ℕ, ◌+◌, ◌-◌, ◌≤◌, ◌⊎◌, List, [], ◌∷◌, Option, Some, slice_get}
use Rattle.std.specs.List.{AllByRecursion}
use Rattle.ix_text.specs.TokenLists.{Entry}
use Rattle.ix_gram.specs.Patterns.{Matches}
use Rattle.ix_query_text.specs.declared.tree.Tree.{Tree}
use Rattle.ix_query_text.specs.declared.tree.Tree.TheOpen.{Tree-F}
use Rattle.ix_query_text.specs.declared.tree.Tree.TheFolds.{rec-Tree}

-- the entry at the position is the term
abbrev pub StandsAt : List Entry → ℕ → List ℕ → Type 0
StandsAt tokens position term = slice_get tokens position ≡ Some (Some term)

-- from a position on each entry is the term in its place, and a hole stands for any entry
abbrev pub HasPhraseAt : List Entry → ℕ → List (Option (List ℕ)) → Type 0
HasPhraseAt tokens start parts = (i : ℕ) (term : List ℕ) → slice_get parts i ≡ Some (Some term) → StandsAt tokens (start + i) term

-- the phrase is somewhere
abbrev pub HasPhrase : List Entry → List (Option (List ℕ)) → Type 0
HasPhrase tokens parts = (start : ℕ) × HasPhraseAt tokens start parts

-- how far two positions are from each other, either way round
abbrev pub distance_between : ℕ → ℕ → ℕ
distance_between p q = (p - q) + (q - p)

-- the two terms are at two positions that differ by no more than the limit
abbrev pub AreNear : List Entry → List ℕ → List ℕ → ℕ → Type 0
AreNear tokens first second limit =
    (p : ℕ) × (q : ℕ) × StandsAt tokens p first × StandsAt tokens q second × (1 ≤ distance_between p q) × (distance_between p q ≤ limit)

-- some entry matches the pattern
abbrev pub HasMatch : List Entry → List (List ℕ) → Type 0
HasMatch tokens pieces = (position : ℕ) × (term : List ℕ) × StandsAt tokens position term × Matches term pieces

-- the fact holds of one of the parts
abbrev pub HoldsOfOne : {X : Type 0} → (X → Type 0) → List X → Type 0
HoldsOfOne P [] = ⊥
HoldsOfOne P (x ∷ xs) = P x ⊎ HoldsOfOne P xs

-- what a query asks, if it is known what each of its parts asks
abbrev pub IsAsked : List Entry → (X : Type 0) → (X → Tree) → (X → Type 0) → Tree-F X → Type 0
IsAsked tokens X whole asked (Tree-F.Phrase parts) = HasPhrase tokens parts
IsAsked tokens X whole asked (Tree-F.Near first second limit) = AreNear tokens first second limit
IsAsked tokens X whole asked (Tree-F.Pattern pieces) = HasMatch tokens pieces
IsAsked tokens X whole asked (Tree-F.And parts) = AllByRecursion asked parts
IsAsked tokens X whole asked (Tree-F.Or parts) = HoldsOfOne asked parts
IsAsked tokens X whole asked (Tree-F.Not part) = ¬ (asked part)

-- the token list is one that the query asks for
abbrev pub Satisfies : List Entry → Tree → Type 0
Satisfies tokens = rec-Tree (Type 0) (IsAsked tokens)
