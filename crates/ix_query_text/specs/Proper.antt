-- Proper trees: those that a query may have. They are in the shape that the grammar gives, and 64 brackets and NOTs that
-- are open at once are enough to write them.
use Rattle.std.specs.Prelude.{◌≢◌, ℕ, suc, ◌≤◌, max, List, [], ◌∷◌, ◌++◌, map, length, None}
use Rattle.std.specs.List.{AllByRecursion}
use Rattle.ix_text.specs.TokenLists.{Entry}
use Rattle.ix_query_text.specs.declared.tree.Tree.{Tree}
use Rattle.ix_query_text.specs.declared.tree.Tree.TheOpen.{Tree-F}
use Rattle.ix_query_text.specs.declared.tree.Tree.TheFolds.{rec-Tree, fold-Tree}

-- terms and holes of which there is one, with no hole at an end
pub record IsPhrase (entries : List Entry) : Type 0 where
  pub some : entries ≢ []
  pub first : (rest : List Entry) → entries ≢ None ∷ rest
  pub last : (front : List Entry) → entries ≢ front ++ None ∷ []

-- the shape of a tree, where it is known which of its parts are in shape
abbrev pub IsShapedOf : (X : Type 0) → (X → Tree) → (X → Type 0) → Tree-F X → Type 0
IsShapedOf X whole shaped (Tree-F.Phrase entries) = IsPhrase entries
IsShapedOf X whole shaped (Tree-F.Near first second distance) = (1 ≤ distance) × (distance ≤ 65535)
IsShapedOf X whole shaped (Tree-F.Pattern pieces) = Unit {0}
IsShapedOf X whole shaped (Tree-F.And parts) = (2 ≤ length parts) × AllByRecursion shaped parts
IsShapedOf X whole shaped (Tree-F.Or parts) = (2 ≤ length parts) × AllByRecursion shaped parts
IsShapedOf X whole shaped (Tree-F.Not part) = shaped part

-- The tree and all its parts are in shape: phrases begin and end with a term, NEAR is of 1 to 65535, and AND and OR join
-- two parts or more.
abbrev pub IsShaped : Tree → Type 0
IsShaped = rec-Tree (Type 0) IsShapedOf

-- How many brackets and NOTs are open at once where a tree is written with as few as can be: where nothing stands around
-- it, where it stands between ORs, and where it is an operand of AND or NOT. They differ, since AND binds tighter than OR
-- and NOT tighter than both.
pub record Depths : Type 0 where
  pub alone : ℕ
  pub between_ors : ℕ
  pub operand : ℕ

-- the greatest of the numbers
abbrev pub deepest : List ℕ → ℕ
deepest [] = 0
deepest (depth ∷ depths) = max depth (deepest depths)

abbrev pub depths_of : Tree-F Depths → Depths
depths_of (Tree-F.And parts) =
    let d = deepest (map (λ part. part.operand) parts) in
    record { alone = d; between_ors = d; operand = suc d }
depths_of (Tree-F.Or parts) =
    let d = deepest (map (λ part. part.between_ors) parts) in
    record { alone = d; between_ors = suc d; operand = suc d }
depths_of (Tree-F.Not part) =
    record { alone = suc part.operand; between_ors = suc part.operand; operand = suc part.operand }
depths_of leaf = record { alone = 0; between_ors = 0; operand = 0 }

-- The depths of a tree, from those of its parts.
abbrev pub depths : Tree → Depths
depths = fold-Tree Depths depths_of

-- The tree is one that a query may have.
pub record IsProper (tree : Tree) : Type 0 where
  pub shaped : IsShaped tree
  pub shallow : (depths tree).alone ≤ 64
