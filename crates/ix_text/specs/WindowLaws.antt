-- The list of trigrams, place by place.
use Rattle.std.specs.Prelude.{◌≡◌, ℕ, ◌+◌, List, length, take, drop, chars, encode_utf8_all, nat_lt, slice_get, Some, None, if◌then◌else◌}
use Rattle.ix_text.specs.Windows.{trigram_list}

-- the trigram at a place is the text's three characters from that place on, where it has so many
abbrev pub TrigramsStandByPlace : Type 0
TrigramsStandByPlace =
    (text : List ℕ) (place : ℕ)
    → slice_get (trigram_list text) place ≡ (if nat_lt (place + 2) (length (chars text)) then Some (encode_utf8_all (take 3 (drop place (chars text)))) else None)
