-- A writer at the beginning of a merge.
use Rattle.std.specs.Prelude.{◌≡◌, ℕ, List, [], All, Option}
use Rattle.ix_text.specs.Parts.{DocumentRow}
use Rattle.ix_file.specs.Told.{told_first}
use Rattle.ix_file.specs.Writers.{WasTold}
use Rattle.ix_file.specs.WriterSections.{WriterSections}
use Rattle.ix_file.specs.IndexWriter.{IndexWriter}
use Rattle.ix_run.specs.Heads.{Heading}

-- The writer was given these rows and the stop terms that all headings have, none if there is no heading, and no term.
pub record BeginsWith {W : Type 0} (contents : W → Option (List ℕ)) (before : Option (List ℕ)) (writer : IndexWriter W WriterSections)
    (headings : List Heading) (rows : List DocumentRow) : Type 0 where
  pub stop : List (List ℕ)
  pub same : All (λ heading. heading.stop ≡ stop) headings
  pub none : headings ≡ [] → stop ≡ []
  pub was : WasTold contents before writer (told_first stop rows)
