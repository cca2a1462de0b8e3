-- Terms that begin with a text.
use Rattle.std.specs.Prelude.{◌≡◌, ℕ, List, ◌++◌, length}
use Rattle.ix_lookup.specs.Words.{IsAtTerm}
use Rattle.ix_lookup.specs.declared.word.Word.{Word}

-- The term begins with the text.
abbrev pub HasFront : List ℕ → List ℕ → Type 0
HasFront front term = (rest : List ℕ) × (term ≡ front ++ rest)

-- The text knows how many of its bytes are the term's, and if they are all, the term is held.
pub record IsHeld (front : Word) (held term : List ℕ) : Type 0 where
  pub at : IsAtTerm front term
  pub kept : front.common ≡ length front.text.now → held ≡ term
