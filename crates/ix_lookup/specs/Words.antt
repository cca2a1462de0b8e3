-- How far the scan of a word, and of several, has come.
use Rattle.std.specs.Prelude.{◌≡◌, ℕ, ◌+◌, ◌<◌, ◌≤◌, false, List, [], map, length, nat_eq, slice_index_or}
use Rattle.std.specs.List.{common_prefix_len}
use Rattle.std.specs.Ordering.{nat_cmp, is_lt}
use Rattle.std.specs.Cmp.Lexicographic.{slice_cmp}
use Rattle.ix_lookup.specs.TermOrder.{IsBelow}
use Rattle.ix_lookup.specs.declared.word.Word.{Word}
use Rattle.ix_lookup.specs.declared.words.Words.{Words}

-- The word knows how many of its first bytes are the term's, and whether it is below the term.
pub record IsAtTerm (word : Word) (term : List ℕ) : Type 0 where
  pub common : word.common ≡ common_prefix_len nat_eq term word.text.now
  pub below : word.is_below ≡ is_lt (slice_cmp nat_cmp word.text.now term)

-- The words that are looked for.
abbrev pub texts_of : Words → List (List ℕ)
texts_of words = map (λ text. text.now) words.texts.items

-- No text is below the one before it.
abbrev pub AreSorted : List (List ℕ) → Type 0
AreSorted texts = (before : ℕ) → before + 1 < length texts → ¬ (IsBelow (slice_index_or texts (before + 1) []) (slice_index_or texts before []))

-- The word is one of the texts, is not below the term, and has come to it.
pub record IsNext (texts : List (List ℕ)) (place : ℕ) (word : Word) (term : List ℕ) : Type 0 where
  pub text : word.text.now ≡ slice_index_or texts place []
  pub reached : word.is_below ≡ false
  pub at : IsAtTerm word term

-- The texts before a place are below the term.
abbrev pub HasPassed : List (List ℕ) → ℕ → List ℕ → Type 0
HasPassed texts place term = (before : ℕ) → before < place → IsBelow (slice_index_or texts before []) term

-- Words are sorted, those before a place are below the term, and the one there is next.
pub record AreAtTerm (words : Words) (term : List ℕ) : Type 0 where
  pub sorted : AreSorted (texts_of words)
  pub passed : HasPassed (texts_of words) words.place term
  pub within : words.place ≤ length (texts_of words)
  pub next : words.place < length (texts_of words) → IsNext (texts_of words) words.place words.word term
