-- What each kind of query asks, as one equation.
use Rattle.std.proofs.Common.{◌≡◌, ℕ, zero, suc, ◌<◌, ◌≤◌, Bool, true, false, not, ◌⊎◌, inl, inr, List, [], ◌∷◌, Option, map, length, get_or, refl, sym, ◌∙◌, ap, subst, arith}
use Rattle.std.specs.Prelude.{All, Any, ◌↔◌}
use Rattle.ix_text.specs.TokenLists.{Entry}
use Rattle.ix_query_text.specs.declared.tree.Tree.{Tree}
use Rattle.ix_query_text.specs.declared.tree.Tree.TheOpen.{Tree-F}
use Rattle.ix_query_text.specs.declared.tree.Tree.TheFolds.{rec-roll-Tree, map-Tree}
use Rattle.ix_query_text.specs.declared.tree.Tree.TheVariants.{Phrase, Near, Pattern, And, Or, Not, rolls-Phrase, rolls-Near, rolls-Pattern, rolls-And, rolls-Or, rolls-Not}
use Rattle.ix_query_text.proofs.EachBefore.{EachBefore}
use Rattle.ix_query_text.proofs.TreeLemmas.{along, every_seen, every_part, both_through}
use Rattle.ix_query.specs.Satisfaction.{Satisfies, IsAsked, HoldsOfOne, HasPhrase, AreNear, HasMatch}

-- what holds of one part is the same where the parts are seen by a function
pub one_seen : {X Y : Type 0} (v : X → Y) (k : Y → Type 0) (xs : List X) → HoldsOfOne (λ x. k (v x)) xs ≡ HoldsOfOne k (map v xs)
one_seen v k [] = refl
one_seen v k (x ∷ xs) = ap (λ (rest : Type 0). k (v x) ⊎ rest) (one_seen v k xs)

natural : (tokens : List Entry) (X : Type 0) (v : X → Tree) (k : Tree → Type 0) (x : Tree-F X) → IsAsked tokens X v (λ p. k (v p)) x ≡ IsAsked tokens Tree (λ y. y) k (map-Tree X Tree v x)
natural tokens X v k (Tree-F.Phrase parts) = refl
natural tokens X v k (Tree-F.Near first second limit) = refl
natural tokens X v k (Tree-F.Pattern pieces) = refl
natural tokens X v k (Tree-F.And parts) = every_seen v k parts
natural tokens X v k (Tree-F.Or parts) = one_seen v k parts
natural tokens X v k (Tree-F.Not part) = refl

-- one part, in std's words
one_behind : {X : Type 0} (P : X → Type 0) (x : X) (xs : List X) → Any P xs → Any P (x ∷ xs)
one_behind P x xs (k, y, below, is, p) = (suc k, y, omega arith, is, p)

one_among : {X : Type 0} (P : X → Type 0) (x : X) (xs : List X) → (Any P xs → HoldsOfOne P xs) → Any P (x ∷ xs) → P x ⊎ HoldsOfOne P xs
one_among P x xs more (zero, y, below, is, p) = inl (subst P (sym is) p)
one_among P x xs more (suc k, y, below, is, p) = inr (more (k, y, omega arith, is, p))

pub one_part : {X : Type 0} (P : X → Type 0) (xs : List X) → HoldsOfOne P xs ↔ Any P xs
one_part P [] = (λ h. absurd h, λ (k, x, below, is, p). absurd (omega arith))
one_part P (x ∷ xs) = (
  λ h. elim h [ inl p ↦ (0, x, omega arith, refl, p) | inr more ↦ one_behind P x xs ((one_part P xs).0 more) ],
  λ any. one_among P x xs (one_part P xs).1 any,
)

pub satisfies-Phrase : (tokens : List Entry) (parts : List (Option (List ℕ))) → Satisfies tokens (Phrase parts) ↔ HasPhrase tokens parts
satisfies-Phrase tokens parts = along _ _ (ap (Satisfies tokens) (sym (rolls-Phrase parts)) ∙ rec-roll-Tree (Type 0) (IsAsked tokens) (natural tokens) (Tree-F.Phrase parts))

pub satisfies-Near : (tokens : List Entry) (first second : List ℕ) (limit : ℕ) → Satisfies tokens (Near first second limit) ↔ AreNear tokens first second limit
satisfies-Near tokens first second limit = along _ _ (ap (Satisfies tokens) (sym (rolls-Near first second limit)) ∙ rec-roll-Tree (Type 0) (IsAsked tokens) (natural tokens) (Tree-F.Near first second limit))

pub satisfies-Pattern : (tokens : List Entry) (pieces : List (List ℕ)) → Satisfies tokens (Pattern pieces) ↔ HasMatch tokens pieces
satisfies-Pattern tokens pieces = along _ _ (ap (Satisfies tokens) (sym (rolls-Pattern pieces)) ∙ rec-roll-Tree (Type 0) (IsAsked tokens) (natural tokens) (Tree-F.Pattern pieces))

pub satisfies-And : (tokens : List Entry) (parts : List Tree) → Satisfies tokens (And parts) ↔ All (Satisfies tokens) parts
satisfies-And tokens parts = both_through (every_part (Satisfies tokens) parts) (along _ _ (ap (Satisfies tokens) (sym (rolls-And parts)) ∙ rec-roll-Tree (Type 0) (IsAsked tokens) (natural tokens) (Tree-F.And parts)))

pub satisfies-Or : (tokens : List Entry) (parts : List Tree) → Satisfies tokens (Or parts) ↔ Any (Satisfies tokens) parts
satisfies-Or tokens parts = both_through (one_part (Satisfies tokens) parts) (along _ _ (ap (Satisfies tokens) (sym (rolls-Or parts)) ∙ rec-roll-Tree (Type 0) (IsAsked tokens) (natural tokens) (Tree-F.Or parts)))

pub satisfies-Not : (tokens : List Entry) (part : Tree) → Satisfies tokens (Not part) ↔ ¬ (Satisfies tokens part)
satisfies-Not tokens part = along _ _ (ap (Satisfies tokens) (sym (rolls-Not part)) ∙ rec-roll-Tree (Type 0) (IsAsked tokens) (natural tokens) (Tree-F.Not part))

-- the other answer is one to the other question
pub negated : (answer : Bool) {P : Type 0} → (answer ≡ true) ↔ P → (not answer ≡ true) ↔ ¬ P
negated true told = (λ wrong. absurd (cc), λ lacks. absurd (lacks (told.0 refl)))
negated false told = (λ _ p. let wrong = told.1 p in absurd (cc), λ _. refl)
