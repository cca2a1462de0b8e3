-- The lists of terms that were found, and STOP, where the bytes of an index text have them.
use Rattle.std.specs.Prelude.{ℕ, ◌+◌, List, take, drop, flat_map}
use Rattle.ix_lookup.specs.declared.found_term.FoundTerm.{FoundTerm}
use Rattle.ix_extract.specs.declared.trailer.Trailer.{Trailer}

-- this many bytes from a place on
abbrev pub list_at : List ℕ → ℕ → ℕ → List ℕ
list_at bytes start size = take size (drop start bytes)

-- each term's list, one behind another: POSTINGS begins behind the eight bytes of the mark
unfoldable pub lists_at : List ℕ → List FoundTerm → List ℕ
lists_at bytes found = flat_map (λ one. list_at bytes (8 + one.start) one.size) found

-- STOP, behind POSTINGS
abbrev pub stop_at : List ℕ → Trailer → List ℕ
stop_at bytes trailer = list_at bytes (8 + trailer.postings) trailer.stop
