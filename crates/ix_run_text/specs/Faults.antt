-- Which errors the calls of sources answer with.
use Rattle.std.specs.Prelude.{◌≡◌, ℕ, ⊤, List, Option}
use Rattle.ix_text.specs.Parts.{DictionaryEntry, Posting}
use Rattle.ix_run_text.specs.Reading.{Faces, HasFailed, IsEnded}
use Rattle.ix_run_text.specs.RunTextErrors.{IsRefusal}
use Rattle.ix_run_text.specs.declared.listed.ListError.{ListError}
use Rattle.ix_run_text.specs.declared.listed.ListError.TheVariants.{Memory, Source}
use Rattle.ix_run_text.specs.declared.run_reader.RunReader.{RunReader}
use Rattle.ix_run_text.specs.declared.run_text_error.RunTextError.{RunTextError}
use Rattle.ix_run_text.specs.declared.run_text_error.RunTextError.TheVariants.{Failed}

-- no room for a list, or one of these errors of its source
abbrev pub IsListFault : {Error : Type 0} → (Error → Type 0) → ListError Error → Type 0
IsListFault may Memory = ⊤
IsListFault may (Source error) = may error

-- An error with which a reader may answer: none at its end, `Failed` alone once a call was refused, and where a lawful
-- dictionary lies ahead in its bytes, a refused read or memory alone.
pub record MayFault {R : Type 0} (remaining : R → Option (List ℕ)) (reader : RunReader R) (error : RunTextError) : Type 0 where
  pub going : ¬ (IsEnded reader)
  pub failed : HasFailed reader → error ≡ Failed
  pub refused : (postings : List Posting) (entries : List DictionaryEntry) → Faces remaining reader postings entries → IsRefusal error
