-- A query that asks about no term that is left out means the same without these terms, and has the same scan.
use Rattle.std.specs.Prelude.{◌≡◌, ◌↔◌, ℕ, List, true}
use Rattle.ix_text.specs.Collections.{Collection}
use Rattle.ix_text.specs.TokenLists.{Entry}
use Rattle.ix_query_text.specs.declared.tree.Tree.{Tree}
use Rattle.ix_query.specs.Satisfaction.{Satisfies, StandsAt}
use Rattle.ix_query.specs.Scans.{IsScan}
use Rattle.ix_projection.specs.Asked.{AsksAbout, KeepsAsked}
use Rattle.ix_projection.specs.Kept.{Test, kept_collection, kept_tokens}

-- each term of the token list that the query asks about is kept
abbrev pub KeepsNamed : Test → List Entry → Tree → Type 0
KeepsNamed keeps tokens query =
    (term : List ℕ) (position : ℕ) → StandsAt tokens position term → AsksAbout term query → keeps term ≡ true

-- the query asks the same of a token list and of the kept one
pub record IsAlike (query : Tree) : Type 0 where
  pub asks : (keeps : Test) (tokens : List Entry) → KeepsNamed keeps tokens query → Satisfies (kept_tokens keeps tokens) query ↔ Satisfies tokens query

-- the query has the same scan in a collection and in the kept one
pub record ScansAlike (query : Tree) : Type 0 where
  pub scans : (keeps : Test) (collection : Collection) (numbers : List ℕ) → KeepsAsked keeps collection query
      → IsScan (kept_collection keeps collection) query numbers ↔ IsScan collection query numbers
