-- A text without a byte has no character.
use Rattle.std.proofs.Common.{◌≡◌, ℕ, List, [], ◌∷◌, length, arith}
use Rattle.std.proofs.lemmas.Str.{chars-nil}
use Rattle.std.specs.Str.{chars}

pub no_chars : (text : List ℕ) → length text ≡ 0 → chars text ≡ []
no_chars [] none = chars-nil
no_chars (b ∷ text) none = absurd (omega arith)
