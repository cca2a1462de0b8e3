-- The terms that a query asks about: its words, and every term that one of its patterns matches (IIR 1.3, 2.4.2, 3.2).
use Rattle.std.specs.Prelude.{◌≡◌, ℕ, ◌⊎◌, List, Some, true, Contains}
use Rattle.ix_text.specs.Collections.{Collection, HasPosting}
use Rattle.ix_gram.specs.Patterns.{Matches}
use Rattle.ix_query_text.specs.declared.tree.Tree.{Tree}
use Rattle.ix_query_text.specs.declared.tree.Tree.TheOpen.{Tree-F}
use Rattle.ix_query_text.specs.declared.tree.Tree.TheFolds.{rec-Tree}
use Rattle.ix_query.specs.Satisfaction.{HoldsOfOne}
use Rattle.ix_projection.specs.Kept.{Test}

-- whether a query asks about the term, if it is known which of its parts do
abbrev pub IsNamed : List ℕ → (X : Type 0) → (X → Tree) → (X → Type 0) → Tree-F X → Type 0
IsNamed term X whole named (Tree-F.Phrase parts) = Contains parts (Some term)
IsNamed term X whole named (Tree-F.Near first second limit) = (first ≡ term) ⊎ (second ≡ term)
IsNamed term X whole named (Tree-F.Pattern pieces) = Matches term pieces
IsNamed term X whole named (Tree-F.And parts) = HoldsOfOne named parts
IsNamed term X whole named (Tree-F.Or parts) = HoldsOfOne named parts
IsNamed term X whole named (Tree-F.Not part) = named part

-- the term is one of which the query asks whether, or where, it is in a document
abbrev pub AsksAbout : List ℕ → Tree → Type 0
AsksAbout term = rec-Tree (Type 0) (IsNamed term)

-- each term of the collection that the query asks about is kept
abbrev pub KeepsAsked : Test → Collection → Tree → Type 0
KeepsAsked keeps collection query =
    (term : List ℕ) (number position : ℕ) → HasPosting collection term number position → AsksAbout term query → keeps term ≡ true
