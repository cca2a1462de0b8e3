-- What is read of files that are there.
use Rattle.std.proofs.Common.{◌≡◌, ◌∙◌, ◌++◌, List, [], ℕ, Option, None, Some, ap, arith, drop, length, subst, take}
use Rattle.std.specs.Prelude.{option_map}
use Rattle.std.proofs.lemmas.List.{take_all}
use Rattle.ix_files.specs.Opened.{IsFoundAt}
use Rattle.ix_files.specs.Slots.{Entry, Kept, Nothing, bytes_of}
use Rattle.ix_manifest.specs.ManifestText.{IsManifest, ManifestView, manifest_text}
use Rattle.ix_archive_writer.specs.Readings.{IsManifestOf, IsWhole}

-- an open file has the bytes that are there
pub opened_there : {S : Type 0} (contents : S → Option (List ℕ)) (entry : Entry) (found : Option S) (source : S) (text : List ℕ) → found ≡ Some source → IsFoundAt entry (option_map contents found) → entry ≡ Kept text
    → contents source ≡ Some text
opened_there contents entry found source text is at kept = (subst (λ (o : Option _). IsFoundAt entry (option_map contents o)) is at).1 text (ap bytes_of kept)

pub none_there : {S : Type 0} (contents : S → Option (List ℕ)) (entry : Entry) (found : Option S) → found ≡ None → IsFoundAt entry (option_map contents found) → entry ≡ Nothing
none_there contents entry found is at = subst (λ (o : Option _). IsFoundAt entry (option_map contents o)) is at

-- all of its bytes are read
pub read_there : {S : Type 0} (contents : S → Option (List ℕ)) (entry : Entry) (found : Option S) (source : S) (none read : List ℕ) (size : ℕ) → found ≡ Some source → IsFoundAt entry (option_map contents found) → none ≡ []
    → ((bytes : List ℕ) → contents source ≡ Some bytes → size ≡ length bytes) → ((bytes : List ℕ) → contents source ≡ Some bytes → read ≡ none ++ take size (drop 0 bytes)) → IsWhole entry (Some read)
read_there contents entry found source none read size is at empty sized told =
    let there = subst (λ (o : Option _). IsFoundAt entry (option_map contents o)) is at in (
      there.0,
      λ kept known.
          let held = there.1 kept known in
          told kept held ∙ ap (λ (l : List ℕ). l ++ take size kept) empty ∙ take_all size kept (omega (arith, sized kept held)),
    )

-- the manifest of the text that is there
pub manifest_there : (entry : Entry) (text given : List ℕ) (view : ManifestView) → IsWhole entry (Some text) → given ≡ text → ((kept : ManifestView) → IsManifest kept → given ≡ manifest_text kept → view ≡ kept) → IsManifestOf entry (Some view)
manifest_there entry text given view whole same read = (whole.0, λ kept lawful is. read kept lawful (same ∙ whole.1 (manifest_text kept) (ap bytes_of is)))
