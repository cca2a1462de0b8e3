-- What an index text without terms says of the documents.
use Rattle.std.proofs.Common.{◌≡◌, ◌∙◌, List, [], ◌∷◌, ℕ, ap, refl}
use Rattle.std.specs.Prelude.{map}
use Rattle.ix_text.specs.Collections.{Document}
use Rattle.ix_text.specs.Parts.{DocumentRow, Parts, ArePartsOf, row_of}
use Rattle.ix_file.specs.Opened.{names_of}
use Rattle.ix_projection.specs.Kept.{Test, kept_collection, kept_document}
use Rattle.ix_scan.specs.ScansWithout.{of_documents}
use Rattle.ix_archive_writer.specs.Changes.{names_in}

names_kept : (keeps : Test) (documents : List Document) → names_of (map row_of (map (kept_document keeps) documents)) ≡ names_in documents
names_kept keeps [] = refl
names_kept keeps (document ∷ documents) = ap (λ (names : List (List ℕ)). document.name ∷ names) (names_kept keeps documents)

-- the names are those of the documents
pub names_projected : (keeps : Test) (stop : List (List ℕ)) (documents : List Document) (parts : Parts) → ArePartsOf (kept_collection keeps (of_documents stop documents)) parts → names_of parts.rows ≡ names_in documents
unfolding kept_collection
names_projected keeps stop documents parts are = ap (λ (rows : List DocumentRow). names_of rows) are.rows ∙ names_kept keeps documents

-- and the stop terms are those of the collection
pub stop_projected : (keeps : Test) (stop : List (List ℕ)) (documents : List Document) (parts : Parts) → ArePartsOf (kept_collection keeps (of_documents stop documents)) parts → parts.stop ≡ stop
unfolding kept_collection
stop_projected keeps stop documents parts are = are.stop
