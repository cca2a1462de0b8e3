-- What several matchers look for.
use Rattle.std.specs.Prelude.{◌≡◌, ℕ, ◌<◌, ◌↔◌, List, length, slice_index_or, Option, None, Some, All, Any}
use Rattle.ix_text.specs.Terms.{IsTerm}

module _ {M : Type 0} (wants : M → List ℕ → Type 0) where
  -- Each matcher looks for the same terms as before.
  pub record KeepsWants (old new : List M) : Type 0 where
    pub count : length new ≡ length old
    pub each : (place : ℕ) (none : M) (term : List ℕ) → place < length old → wants (slice_index_or new place none) term ↔ wants (slice_index_or old place none) term

  -- One of the matchers before a place looks for the term, the one that was found, or none of them.
  abbrev pub HasFoundPlace : List M → List ℕ → ℕ → Option ℕ → Type 0
  HasFoundPlace matchers term place None = (before : ℕ) (none : M) → before < place → ¬ (wants (slice_index_or matchers before none) term)
  HasFoundPlace matchers term place (Some found) = (found < place) × ((none : M) → wants (slice_index_or matchers found none) term)

-- Each matcher has come to the term, and if one looks for it, the one that was found does.
pub record AreAt {M : Type 0} (wants is_at : M → List ℕ → Type 0) (matchers : List M) (found : ℕ) (term : List ℕ) : Type 0 where
  pub each : All (λ one. is_at one term) matchers
  pub held : IsTerm term → Any (λ one. wants one term) matchers → (found < length matchers) × ((none : M) → wants (slice_index_or matchers found none) term)
