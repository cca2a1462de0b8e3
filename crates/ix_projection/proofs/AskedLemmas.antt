-- The terms that each kind of query asks about, as one equation, and one more part of a query.
use Rattle.std.proofs.Common.{◌≡◌, ◌↔◌, ℕ, zero, suc, ◌⊎◌, inl, inr, List, [], ◌∷◌, Option, Some, map, refl, sym, ◌∙◌, ap, subst, arith}
use Rattle.std.specs.Prelude.{Any, Contains}
use Rattle.ix_gram.specs.Patterns.{Matches}
use Rattle.ix_query_text.specs.declared.tree.Tree.{Tree}
use Rattle.ix_query_text.specs.declared.tree.Tree.TheOpen.{Tree-F}
use Rattle.ix_query_text.specs.declared.tree.Tree.TheFolds.{rec-roll-Tree, map-Tree}
use Rattle.ix_query_text.specs.declared.tree.Tree.TheVariants.{Phrase, Near, Pattern, And, Or, Not, rolls-Phrase, rolls-Near, rolls-Pattern, rolls-And, rolls-Or, rolls-Not}
use Rattle.ix_query_text.proofs.TreeLemmas.{along, both_through}
use Rattle.ix_query.specs.Satisfaction.{HoldsOfOne}
use Rattle.ix_projection.specs.Asked.{AsksAbout, IsNamed}

-- what holds of one part is the same if the parts are seen by a function
one_seen : {X Y : Type 0} (v : X → Y) (k : Y → Type 0) (xs : List X) → HoldsOfOne (λ x. k (v x)) xs ≡ HoldsOfOne k (map v xs)
one_seen v k [] = refl
one_seen v k (x ∷ xs) = ap (λ (rest : Type 0). k (v x) ⊎ rest) (one_seen v k xs)

natural : (term : List ℕ) (X : Type 0) (v : X → Tree) (k : Tree → Type 0) (x : Tree-F X) → IsNamed term X v (λ p. k (v p)) x ≡ IsNamed term Tree (λ y. y) k (map-Tree X Tree v x)
natural term X v k (Tree-F.Phrase parts) = refl
natural term X v k (Tree-F.Near first second limit) = refl
natural term X v k (Tree-F.Pattern pieces) = refl
natural term X v k (Tree-F.And parts) = one_seen v k parts
natural term X v k (Tree-F.Or parts) = one_seen v k parts
natural term X v k (Tree-F.Not part) = refl

-- one part, in std's words
one_behind : {X : Type 0} (P : X → Type 0) (x : X) (xs : List X) → Any P xs → Any P (x ∷ xs)
one_behind P x xs (k, y, below, is, p) = (suc k, y, omega arith, is, p)

one_among : {X : Type 0} (P : X → Type 0) (x : X) (xs : List X) → (Any P xs → HoldsOfOne P xs) → Any P (x ∷ xs) → P x ⊎ HoldsOfOne P xs
one_among P x xs more (zero, y, below, is, p) = inl (subst P (sym is) p)
one_among P x xs more (suc k, y, below, is, p) = inr (more (k, y, omega arith, is, p))

one_part : {X : Type 0} (P : X → Type 0) (xs : List X) → HoldsOfOne P xs ↔ Any P xs
one_part P [] = (λ h. absurd h, λ any. let (k, y, below, is, p) = any in absurd (omega arith))
one_part P (x ∷ xs) = (
  λ h. elim h [ inl p ↦ (0, x, omega arith, refl, p) | inr more ↦ one_behind P x xs ((one_part P xs).0 more) ],
  λ any. one_among P x xs (one_part P xs).1 any,
)

pub asks-Phrase : (term : List ℕ) (parts : List (Option (List ℕ))) → AsksAbout term (Phrase parts) ↔ Contains parts (Some term)
asks-Phrase term parts = along _ _ (ap (AsksAbout term) (sym (rolls-Phrase parts)) ∙ rec-roll-Tree (Type 0) (IsNamed term) (natural term) (Tree-F.Phrase parts))

pub asks-Near : (term first second : List ℕ) (limit : ℕ) → AsksAbout term (Near first second limit) ↔ ((first ≡ term) ⊎ (second ≡ term))
asks-Near term first second limit = along _ _ (ap (AsksAbout term) (sym (rolls-Near first second limit)) ∙ rec-roll-Tree (Type 0) (IsNamed term) (natural term) (Tree-F.Near first second limit))

pub asks-Pattern : (term : List ℕ) (pieces : List (List ℕ)) → AsksAbout term (Pattern pieces) ↔ Matches term pieces
asks-Pattern term pieces = along _ _ (ap (AsksAbout term) (sym (rolls-Pattern pieces)) ∙ rec-roll-Tree (Type 0) (IsNamed term) (natural term) (Tree-F.Pattern pieces))

pub asks-And : (term : List ℕ) (parts : List Tree) → AsksAbout term (And parts) ↔ Any (AsksAbout term) parts
asks-And term parts = both_through (one_part (AsksAbout term) parts) (along _ _ (ap (AsksAbout term) (sym (rolls-And parts)) ∙ rec-roll-Tree (Type 0) (IsNamed term) (natural term) (Tree-F.And parts)))

pub asks-Or : (term : List ℕ) (parts : List Tree) → AsksAbout term (Or parts) ↔ Any (AsksAbout term) parts
asks-Or term parts = both_through (one_part (AsksAbout term) parts) (along _ _ (ap (AsksAbout term) (sym (rolls-Or parts)) ∙ rec-roll-Tree (Type 0) (IsNamed term) (natural term) (Tree-F.Or parts)))

pub asks-Not : (term : List ℕ) (part : Tree) → AsksAbout term (Not part) ↔ AsksAbout term part
asks-Not term part = along _ _ (ap (AsksAbout term) (sym (rolls-Not part)) ∙ rec-roll-Tree (Type 0) (IsNamed term) (natural term) (Tree-F.Not part))
