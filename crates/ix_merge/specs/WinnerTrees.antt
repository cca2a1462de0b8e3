-- A tree of winners: each node holds the place of the least key below it, so that the root holds the least of all.
use Rattle.std.specs.Prelude.{◌≡◌, ℕ, zero, suc, ◌+◌, ◌*◌, ◌/◌, ◌<◌, ◌≤◌, ◌⊎◌, Bool, List, length, Option, None, IsSome, MatchOption, ⊤, slice_index_or, slice_set, is_some}
use Rattle.std.specs.Bool.{then_some}
use Rattle.std.specs.Option.{option_and_then}
use Rattle.ix_merge.specs.Keys.{Key, ComesFirst, key_at}

-- the key at the place that a node holds
abbrev pub key_under : List (Option Key) → Option ℕ → Option Key
key_under keys holder = option_and_then (key_at keys) holder

-- what a node of the tree holds
abbrev pub holder_at : List (Option ℕ) → ℕ → Option ℕ
holder_at tree node = slice_index_or tree node None

-- the leaf of a place: the place, if it has a key
abbrev pub leaf_of : List (Option Key) → ℕ → Option ℕ
leaf_of keys place = then_some (is_some (key_at keys place)) place

-- no place, or one that has a key
abbrev pub HasKey : List (Option Key) → Option ℕ → Type 0
HasKey keys holder = MatchOption holder ⊤ (λ place. (place < length keys) × IsSome (key_at keys place))

-- The one is one of the two others, and comes first of them.
pub record IsWinner (keys : List (Option Key)) (one left right : Option ℕ) : Type 0 where
  pub of_two : (one ≡ left) ⊎ (one ≡ right)
  pub first : ComesFirst (key_under keys one) (key_under keys left)
  pub first_too : ComesFirst (key_under keys one) (key_under keys right)

-- the node that is this many levels above another
abbrev pub above : ℕ → ℕ → ℕ
above zero node = node
above (suc levels) node = above levels node / 2

-- one node is another, or above it
abbrev pub IsOver : ℕ → ℕ → Type 0
IsOver high low = (levels : ℕ) × (above levels low ≡ high)

-- This is the place of the least key of the leaves below a node, or none if they have no key.
pub record Wins (keys : List (Option Key)) (node : ℕ) (holder : Option ℕ) : Type 0 where
  pub has_key : HasKey keys holder
  pub below : MatchOption holder ⊤ (λ place. IsOver node (length keys + place))
  pub first : (place : ℕ) → place < length keys → IsOver node (length keys + place) → ComesFirst (key_under keys holder) (key_at keys place)

-- Each node holds the winner of its leaves, but perhaps those above this node.
pub record IsSettledBut (keys : List (Option Key)) (tree : List (Option ℕ)) (low : ℕ) : Type 0 where
  pub sized : length tree ≡ 2 * length keys
  pub settled : (node : ℕ) → 1 ≤ node → node < 2 * length keys → (IsOver node low → node ≡ low) → Wins keys node (holder_at tree node)

-- Each node holds the winner of its leaves.
pub record IsWinnerTree (keys : List (Option Key)) (tree : List (Option ℕ)) : Type 0 where
  pub sized : length tree ≡ 2 * length keys
  pub settled : (node : ℕ) → 1 ≤ node → node < 2 * length keys → Wins keys node (holder_at tree node)

-- The same, but that the key at this place was another one; now it has one, or has none.
pub record HasAdvanced (keys : List (Option Key)) (tree : List (Option ℕ)) (place : ℕ) (more : Bool) : Type 0 where
  pub within : place < length keys
  pub more_is : more ≡ is_some (key_at keys place)
  pub before : Option Key
  pub settled : IsWinnerTree (slice_set keys place before) tree
