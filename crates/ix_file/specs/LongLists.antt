-- The places at which the long lists of POSTINGS may be entered.
use Rattle.std.specs.Prelude.{◌≡◌, ℕ, ◌+◌, ◌*◌, ◌<◌, ◌≤◌, List, Some, length, slice_get, sum_by, take}
use Rattle.ix_vbyte.specs.Skips.{AreSkipsIn}
use Rattle.ix_file.specs.ReadListings.{listings_in, sizes_sum}
use Rattle.ix_file.specs.ReadLists.{list_in}
use Rattle.ix_file.specs.PlacedTerms.{PlacedTerm}
use Rattle.ix_file.specs.declared.open.tables.LongList.{LongList}

-- It has some places, and they are those of the list of the term of the number.
pub record IsLongIn (section : List ℕ) (terms : List PlacedTerm) (long : LongList) : Type 0 where
  pub some : 0 < length long.skips.items
  pub places : (row : PlacedTerm) → slice_get terms long.number ≡ Some row → AreSkipsIn row.documents (list_in section row) long.skips.items

-- how many entries these are: one for each list, and one for each of its places
abbrev pub place_count : List LongList → ℕ
place_count longs = sum_by (λ long. 1 + length long.skips.items) longs

-- how many bytes of POSTINGS stand before the list of the term of the number
abbrev pub bytes_before : List PlacedTerm → ℕ → ℕ
bytes_before terms number = sizes_sum (listings_in (take number terms))

-- For each of the places the list has 128 bytes, and if there is an end, 128 more behind it.
pub record HasRoomFor (bytes places end : ℕ) : Type 0 where
  pub few : 128 * places ≤ bytes
  pub more : 0 < end → 128 * places + end + 128 ≤ bytes
