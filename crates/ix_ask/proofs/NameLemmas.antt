-- The lines of names, one more; and where the names of documents stand.
use Rattle.std.proofs.Common.{◌≡◌, ℕ, ◌+◌, ◌<◌, List, [], ◌∷◌, ◌++◌, map, length, take, get_or, Some, slice_get, refl, sym, ap, ◌∙◌, append-nil}
use Rattle.std.proofs.lemmas.Grind.{flat_map-append}
use Rattle.std.proofs.lemmas.List.{take_more}
use Rattle.std.proofs.lemmas.Option.{same_Some, slice_get-get_or, slice_get-map, slice_get_read}
use Rattle.std.specs.List.{flat_map}
use Rattle.std.specs.Option.{option_map}
use Rattle.ix_text.specs.Collections.{Collection, Document, NamedText}
use Rattle.ix_text.specs.Parts.{ArePartsOf, Parts, row_of}
use Rattle.ix_file.specs.Opened.{names_of}
use Rattle.ix_ask.specs.NameLines.{all_name_lines, name_line, name_lines, names_indexed, names_read}

-- the line of a name more
pub name_lines_more : (names : List (List ℕ)) (numbers : List ℕ) (i : ℕ) (name : List ℕ) → i < length numbers → slice_get names (get_or numbers i 0) ≡ Some name
    → name_lines names (take (i + 1) numbers) ≡ name_lines names (take i numbers) ++ name_line (Some name)
name_lines_more names numbers i name within found =
    let line = λ (number : ℕ). name_line (slice_get names number) in
    ap (flat_map line) (take_more numbers i 0 within) ∙ flat_map-append line (take i numbers) _ ∙ ap (λ xs. flat_map line (take i numbers) ++ xs) (append-nil _ ∙ ap name_line found)

-- the name of a document that the caller read from its own list
pub name_of_read : {X : Type 0} (view : X → NamedText) (documents : List X) (number : ℕ) (document : X) → number < length documents → document ≡ get_or documents number document
    → slice_get (names_read (map view documents)) number ≡ Some (view document).name
name_of_read view documents number document known is =
    let name = λ (d : NamedText). d.name in
    slice_get-map name (map view documents) number ∙ ap (option_map name) (slice_get-map view documents number ∙ ap (option_map view) (slice_get_read documents (length documents) number document refl known is))

names_of_rows : (documents : List Document) → names_of (map row_of documents) ≡ names_indexed documents
names_of_rows [] = refl
names_of_rows (d ∷ documents) = ap (λ (names : List (List ℕ)). d.name ∷ names) (names_of_rows documents)

-- the names that an index tells are those of its collection
pub names_told : (collection : Collection) (parts : Parts) → ArePartsOf collection parts → names_of parts.rows ≡ names_indexed collection.documents
names_told collection parts are = ap names_of are.rows ∙ names_of_rows collection.documents

-- one more of all names
pub all_name_lines_more : (names : List (List ℕ)) (i : ℕ) (name : List ℕ) → i < length names → slice_get names i ≡ Some name
    → all_name_lines (take (i + 1) names) ≡ all_name_lines (take i names) ++ name_line (Some name)
all_name_lines_more names i name within found =
    let line = λ (name : List ℕ). name_line (Some name) in
    let same : get_or names i [] ≡ name = same_Some (get_or names i []) name (sym (slice_get-get_or names i [] within) ∙ found) in
    ap (flat_map line) (take_more names i [] within) ∙ flat_map-append line (take i names) _ ∙ ap (λ xs. flat_map line (take i names) ++ xs) (append-nil _ ∙ ap line same)
