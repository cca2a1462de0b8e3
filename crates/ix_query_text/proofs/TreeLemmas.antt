-- Facts and numbers that are defined by recursion over a tree, at each kind of tree.
use Rattle.std.proofs.Common.{◌≡◌, ℕ, zero, suc, ◌+◌, ◌-◌, ◌≤◌, Bool, true, List, [], ◌∷◌, map, length, refl, sym, ◌∙◌, ap, subst, arith}
use Rattle.std.specs.Prelude.{All, ◌↔◌}
use Rattle.std.specs.List.{AllByRecursion}
use Rattle.ix_text.specs.TokenLists.{Entry}
use Rattle.ix_query_text.specs.declared.tree.Tree.{Tree}
use Rattle.ix_query_text.specs.declared.tree.Tree.TheOpen.{Tree-F}
use Rattle.ix_query_text.specs.declared.tree.Tree.TheFolds.{rec-roll-Tree, fold-roll-Tree, map-Tree}
use Rattle.ix_query_text.specs.declared.tree.Tree.TheVariants.{Phrase, Near, Pattern, And, Or, Not, rolls-Phrase, rolls-Near, rolls-Pattern, rolls-And, rolls-Or, rolls-Not}
use Rattle.ix_query_text.specs.declared.proper.Place.{Place}
use Rattle.ix_query_text.specs.declared.proper.Place.TheVariants.{Alone, BetweenOrs, Operand}
use Rattle.ix_query_text.specs.Places.{depth_at, brackets_of_and, brackets_of_or}
use Rattle.ix_query_text.specs.Proper.{IsPhrase, IsShaped, IsShapedOf, Depths, deepest, depths, depths_of}

-- two facts that are one hold together
pub along : (A B : Type 0) → A ≡ B → A ↔ B
along A B e = (λ a. coe 0 1 (i. e i) a, λ b. coe 1 0 (i. e i) b)

-- what holds of each part is the same where the parts are seen by a function
pub every_seen : {X Y : Type 0} (v : X → Y) (k : Y → Type 0) (xs : List X) → AllByRecursion (λ x. k (v x)) xs ≡ AllByRecursion k (map v xs)
every_seen v k [] = refl
every_seen v k (x ∷ xs) = ap (λ (rest : Type 0). k (v x) × rest) (every_seen v k xs)

-- each part, in std's words
every_at : {X : Type 0} (P : X → Type 0) (x : X) (xs : List X) → P x → All P xs → All P (x ∷ xs)
every_at P x xs here there zero d below = here
every_at P x xs here there (suc k) d below = there k d (omega arith)

pub every_part : {X : Type 0} (P : X → Type 0) (xs : List X) → AllByRecursion P xs ↔ All P xs
every_part P [] = (λ _ k d below. absurd (omega arith), λ _. tt)
every_part P (x ∷ xs) = (
  λ h. every_at P x xs h.0 ((every_part P xs).0 h.1),
  λ all. (all 0 x (omega arith), (every_part P xs).1 (λ k d below. all (suc k) d (omega arith))),
)

pub both_through : {A B C : Type 0} → B ↔ C → A ↔ B → A ↔ C
both_through g f = (λ a. g.0 (f.0 a), λ c. f.1 (g.1 c))

-- an answer to what holds of a tree in one form is one for the tree
pub judged : (P : Tree → Type 0) (whole form : Tree) (answer : Bool) {F : Type 0} → whole ≡ form → P form ↔ F → (answer ≡ true) ↔ F → (answer ≡ true) ↔ P whole
judged P whole form answer is known told =
    (λ t. subst P (sym is) (known.1 (told.0 t)), λ h. told.1 (known.0 (subst P is h)))

-- ---- shape

length_seen : {X Y : Type 0} (v : X → Y) (xs : List X) → length xs ≡ length (map v xs)
length_seen v [] = refl
length_seen v (x ∷ xs) = ap suc (length_seen v xs)

joined_seen : {X Y : Type 0} (v : X → Y) (k : Y → Type 0) (xs : List X) →
    ((2 ≤ length xs) × AllByRecursion (λ x. k (v x)) xs) ≡ ((2 ≤ length (map v xs)) × AllByRecursion k (map v xs))
joined_seen v k xs =
    ap (λ n. (2 ≤ n) × AllByRecursion (λ x. k (v x)) xs) (length_seen v xs)
    ∙ ap (λ (each : Type 0). (2 ≤ length (map v xs)) × each) (every_seen v k xs)

natural : (X : Type 0) (v : X → Tree) (k : Tree → Type 0) (x : Tree-F X) → IsShapedOf X v (λ p. k (v p)) x ≡ IsShapedOf Tree (λ y. y) k (map-Tree X Tree v x)
natural X v k (Tree-F.Phrase entries) = refl
natural X v k (Tree-F.Near first second distance) = refl
natural X v k (Tree-F.Pattern pieces) = refl
natural X v k (Tree-F.And parts) = joined_seen v k parts
natural X v k (Tree-F.Or parts) = joined_seen v k parts
natural X v k (Tree-F.Not part) = refl

joined_parts : (parts : List Tree) → ((2 ≤ length parts) × AllByRecursion IsShaped parts) ↔ ((2 ≤ length parts) × All IsShaped parts)
joined_parts parts = let each = every_part IsShaped parts in (λ h. (h.0, each.0 h.1), λ h. (h.0, each.1 h.1))

pub shaped-Phrase : (entries : List Entry) → IsShaped (Phrase entries) ↔ IsPhrase entries
shaped-Phrase entries = along _ _ (ap IsShaped (sym (rolls-Phrase entries)) ∙ rec-roll-Tree (Type 0) IsShapedOf natural (Tree-F.Phrase entries))

pub shaped-Near : (first second : List ℕ) (distance : ℕ) → IsShaped (Near first second distance) ↔ ((1 ≤ distance) × (distance ≤ 65535))
shaped-Near first second distance = along _ _ (ap IsShaped (sym (rolls-Near first second distance)) ∙ rec-roll-Tree (Type 0) IsShapedOf natural (Tree-F.Near first second distance))

pub shaped-Pattern : (pieces : List (List ℕ)) → IsShaped (Pattern pieces) ↔ Unit {0}
shaped-Pattern pieces = along _ _ (ap IsShaped (sym (rolls-Pattern pieces)) ∙ rec-roll-Tree (Type 0) IsShapedOf natural (Tree-F.Pattern pieces))

pub shaped-And : (parts : List Tree) → IsShaped (And parts) ↔ ((2 ≤ length parts) × All IsShaped parts)
shaped-And parts = both_through (joined_parts parts) (along _ _ (ap IsShaped (sym (rolls-And parts)) ∙ rec-roll-Tree (Type 0) IsShapedOf natural (Tree-F.And parts)))

pub shaped-Or : (parts : List Tree) → IsShaped (Or parts) ↔ ((2 ≤ length parts) × All IsShaped parts)
shaped-Or parts = both_through (joined_parts parts) (along _ _ (ap IsShaped (sym (rolls-Or parts)) ∙ rec-roll-Tree (Type 0) IsShapedOf natural (Tree-F.Or parts)))

pub shaped-Not : (part : Tree) → IsShaped (Not part) ↔ IsShaped part
shaped-Not part = along _ _ (ap IsShaped (sym (rolls-Not part)) ∙ rec-roll-Tree (Type 0) IsShapedOf natural (Tree-F.Not part))

-- ---- depths

abbrev pub even : ℕ → Depths
even n = record { alone = n; between_ors = n; operand = n }

-- the greatest depth of the parts at a place
abbrev pub deepest_at : Place → List Tree → ℕ
deepest_at place parts = deepest (map (depth_at place) (map depths parts))

pub depths-Phrase : (entries : List Entry) → depths (Phrase entries) ≡ even 0
depths-Phrase entries = ap depths (sym (rolls-Phrase entries)) ∙ fold-roll-Tree Depths depths_of (Tree-F.Phrase entries)

pub depths-Near : (first second : List ℕ) (distance : ℕ) → depths (Near first second distance) ≡ even 0
depths-Near first second distance = ap depths (sym (rolls-Near first second distance)) ∙ fold-roll-Tree Depths depths_of (Tree-F.Near first second distance)

pub depths-Pattern : (pieces : List (List ℕ)) → depths (Pattern pieces) ≡ even 0
depths-Pattern pieces = ap depths (sym (rolls-Pattern pieces)) ∙ fold-roll-Tree Depths depths_of (Tree-F.Pattern pieces)

pub depths-And : (parts : List Tree) → depths (And parts) ≡ record { alone = deepest_at Operand parts; between_ors = deepest_at Operand parts; operand = suc (deepest_at Operand parts) }
depths-And parts = ap depths (sym (rolls-And parts)) ∙ fold-roll-Tree Depths depths_of (Tree-F.And parts)

pub depths-Or : (parts : List Tree) → depths (Or parts) ≡ record { alone = deepest_at BetweenOrs parts; between_ors = suc (deepest_at BetweenOrs parts); operand = suc (deepest_at BetweenOrs parts) }
depths-Or parts = ap depths (sym (rolls-Or parts)) ∙ fold-roll-Tree Depths depths_of (Tree-F.Or parts)

pub depths-Not : (part : Tree) → depths (Not part) ≡ even (suc (depths part).operand)
depths-Not part = ap depths (sym (rolls-Not part)) ∙ fold-roll-Tree Depths depths_of (Tree-F.Not part)

-- the parts fit where the deepest does
each_fits : (place : Place) (room : ℕ) (parts : List Tree) → (deepest_at place parts ≤ room) ↔ AllByRecursion (λ part. depth_at place (depths part) ≤ room) parts
each_fits place room [] = (λ _. tt, λ _. omega arith)
each_fits place room (part ∷ parts) =
    let rest = each_fits place room parts in
    (λ h. (omega (arith, h), rest.0 (omega (arith, h))), λ h. let deep = rest.1 h.1 in let here = h.0 in omega arith)

pub all_fit : (place : Place) (room : ℕ) (parts : List Tree) → (deepest_at place parts ≤ room) ↔ All (λ part. depth_at place (depths part) ≤ room) parts
all_fit place room parts = both_through (every_part (λ part. depth_at place (depths part) ≤ room) parts) (each_fits place room parts)

pub and_depth : (place : Place) (parts : List Tree) → depth_at place (depths (And parts)) ≡ brackets_of_and place + deepest_at Operand parts
and_depth Alone parts = ap (λ d. d.alone) (depths-And parts) ∙ omega arith
and_depth BetweenOrs parts = ap (λ d. d.between_ors) (depths-And parts) ∙ omega arith
and_depth Operand parts = ap (λ d. d.operand) (depths-And parts) ∙ omega arith

pub or_depth : (place : Place) (parts : List Tree) → depth_at place (depths (Or parts)) ≡ brackets_of_or place + deepest_at BetweenOrs parts
or_depth Alone parts = ap (λ d. d.alone) (depths-Or parts) ∙ omega arith
or_depth BetweenOrs parts = ap (λ d. d.between_ors) (depths-Or parts) ∙ omega arith
or_depth Operand parts = ap (λ d. d.operand) (depths-Or parts) ∙ omega arith

-- what is left of the room inside brackets
within : (whole brackets inside room : ℕ) {F : Type 0} → whole ≡ brackets + inside → brackets ≤ room → (inside ≤ room - brackets) ↔ F → (whole ≤ room) ↔ F
within whole brackets inside room is some known = (λ h. known.0 (omega arith), λ f. let h = known.1 f in omega arith)

pub room-And : (place : Place) (room : ℕ) (parts : List Tree) → brackets_of_and place ≤ room →
    (depth_at place (depths (And parts)) ≤ room) ↔ All (λ part. (depths part).operand ≤ room - brackets_of_and place) parts
room-And place room parts some = within _ _ _ room (and_depth place parts) some (all_fit Operand (room - brackets_of_and place) parts)

pub room-Or : (place : Place) (room : ℕ) (parts : List Tree) → brackets_of_or place ≤ room →
    (depth_at place (depths (Or parts)) ≤ room) ↔ All (λ part. (depths part).between_ors ≤ room - brackets_of_or place) parts
room-Or place room parts some = within _ _ _ room (or_depth place parts) some (all_fit BetweenOrs (room - brackets_of_or place) parts)
