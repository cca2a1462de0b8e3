-- Terms held close together in memory: the texts one behind another, where each of them begins, and where the lists stand.
use Rattle.std.specs.Prelude.{◌≡◌, ℕ, ◌+◌, List, [], ◌∷◌, map, length, drop, flat_map, get_or, slice_range, All, IsUtf8}
use Rattle.ix_file.specs.PlacedTerms.{PlacedTerm, list_place, placed_at, terms_in}
use Rattle.ix_file.specs.declared.open.terms.ListPlace.{ListPlace}

-- texts one behind another
abbrev pub joined : List (List ℕ) → List ℕ
joined texts = flat_map (λ text. text) texts

-- where each of the texts begins, the first of them at this place, and where the last one ends
abbrev pub starts_from : ℕ → List (List ℕ) → List ℕ
starts_from place [] = place ∷ []
starts_from place (text ∷ texts) = place ∷ starts_from (place + length text) texts

-- the terms whose lists stand at these places, and whose texts begin at these
abbrev pub terms_told : List ℕ → List ℕ → List ListPlace → List PlacedTerm
terms_told bytes starts [] = []
terms_told bytes starts (place ∷ places) =
    placed_at (slice_range bytes (get_or starts 0 0) (get_or starts 1 0)) place ∷ terms_told bytes (drop 1 starts) places

-- These are the texts of the terms and the places of their lists, and nothing else.
pub record HoldTerms (bytes starts : List ℕ) (places : List ListPlace) (terms : List PlacedTerm) : Type 0 where
  pub of_texts : bytes ≡ joined (terms_in terms)
  pub of_starts : starts ≡ starts_from 0 (terms_in terms)
  pub of_places : places ≡ map list_place terms
  pub each : All IsUtf8 (terms_in terms)
