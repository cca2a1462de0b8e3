-- What is read of the files of an archive.
use Rattle.std.specs.Prelude.{◌≡◌, ◌≢◌, List, ℕ, Option, None, Some}
use Rattle.ix_files.specs.Slots.{Entry, Kept, Nothing, bytes_of}
use Rattle.ix_manifest.specs.ManifestText.{IsManifest, ManifestView, manifest_text}

-- There is no file, or these are its bytes, if it is one that nobody writes.
abbrev pub IsWhole : Entry → Option (List ℕ) → Type 0
IsWhole entry None = entry ≡ Nothing
IsWhole entry (Some bytes) = (entry ≢ Nothing) × ((kept : List ℕ) → bytes_of entry ≡ Some kept → bytes ≡ kept)

-- There is no manifest, or it is this one, if it is a lawful one.
abbrev pub IsManifestOf : Entry → Option ManifestView → Type 0
IsManifestOf entry None = entry ≡ Nothing
IsManifestOf entry (Some view) = (entry ≢ Nothing) × ((kept : ManifestView) → IsManifest kept → entry ≡ Kept (manifest_text kept) → view ≡ kept)
