-- Words that were looked up, each known by the numbers that its bytes make, with the number of its token.
use Rattle.std.specs.Prelude.{◌≡◌, ℕ, ◌+◌, ◌*◌, ◌<◌, List, [], ◌∷◌, Some, None, String, drop, length, slice_get, take, ⊤, ◌⊎◌}
use Rattle.std.specs.HashMap.{HashMap}
use Rattle.ix_text.specs.Terms.{term_of_word}
use Rattle.ix_text.specs.TokenLists.{Entry, entry_of_term}
use Rattle.ix_run.specs.Dictionaries.{IsNumbered, IsNumberedAfter}
use Rattle.ix_run.specs.declared.dictionary.TheConstants.{NOTHING}
use Rattle.ix_run.specs.declared.seen_words.SeenWord.{SeenWord}
use Rattle.ix_run.specs.declared.seen_words.WordKey.{WordKey}

-- the number that bytes make, of which the first counts least
abbrev pub number_of_bytes : List ℕ → ℕ
number_of_bytes [] = 0
number_of_bytes (byte ∷ bytes) = byte + 256 * number_of_bytes bytes

-- each is the number of a byte
abbrev pub AreBytes : List ℕ → Type 0
AreBytes [] = ⊤
AreBytes (byte ∷ bytes) = (byte < 256) × AreBytes bytes

-- The key is that of the word, which is not empty.
pub record IsKeyOf (key : WordKey) (word : List ℕ) : Type 0 where
  pub some : 0 < length word
  pub bytes : AreBytes word
  pub size : key.size ≡ length word
  pub front : key.front ≡ number_of_bytes (take 8 word)
  pub back : key.back ≡ number_of_bytes (drop 8 word)

-- it is one of the words
abbrev pub IsHeld : List SeenWord → SeenWord → Type 0
IsHeld words word = (place : ℕ) × (slice_get words place ≡ Some word)

-- none of the words has a byte
pub record AreNoWords (words : List SeenWord) : Type 0 where
  pub each : (word : SeenWord) → IsHeld words word → word.key.size ≡ 0

-- each of the new words is an old one or that one
pub record AreHeldWith (old new : List SeenWord) (word : SeenWord) : Type 0 where
  pub each : (held : SeenWord) → IsHeld new held → IsHeld old held ⊎ (held ≡ word)

-- each word has the number that its token has
pub record AreSeen {Y S : Type 0} (stop : List (List ℕ)) (numbers : HashMap (String Y) ℕ S) (words : List SeenWord) : Type 0 where
  pub each : (held : SeenWord) (word : List ℕ) → IsHeld words held → IsKeyOf held.key word → IsNumbered numbers (entry_of_term stop (term_of_word word)) held.number

-- A token has that number now: where it is nothing it has NOTHING, and no term has got one; else its term has it.
abbrev pub IsNumberedNow : {Y S : Type 0} → HashMap (String Y) ℕ S → HashMap (String Y) ℕ S → Entry → ℕ → Type 0
IsNumberedNow old new None number = (number ≡ NOTHING) × (new ≡ old)
IsNumberedNow old new (Some term) number = IsNumberedAfter old new term number
