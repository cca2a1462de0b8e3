-- A query is read under the stop list that a source has.
use Rattle.std.proofs.Common.{◌≡◌, inl, inr, ℕ, List, sym, ◌∙◌, subst}
use Rattle.ix_text.specs.Collections.{Collection}
use Rattle.ix_index_text.specs.Sections.{Plain}
use Rattle.ix_file.specs.Opened.{IsIndexOf, Opened}
use Rattle.ix_file.specs.declared.open_error.OpenError.{OpenError}
use Rattle.ix_file.specs.declared.open_error.OpenError.TheVariants as opening
use Rattle.ix_query_text.specs.Machine.{query_of}
use Rattle.ix_query_text.specs.QueryErrors.{Fails}
use Rattle.ix_query_text.specs.declared.error.QueryError.{QueryError}
use Rattle.ix_extract.specs.ErrorsHandedUp.{IsOfOpen}
use Rattle.ix_extract.specs.Projections.{without_documents}
use Rattle.ix_extract.specs.Refusals.{IsQueryRefused}
use Rattle.ix_extract.specs.declared.extract_error.ExtractError.{ExtractError}
use Rattle.ix_extract.specs.declared.extract_error.ExtractError.TheVariants.{Query}

-- out of memory in opening an index text
pub open_refused : (collection : Collection) (query : List ℕ) (given : OpenError) (error : ExtractError) → IsOfOpen given error → given ≡ opening.Memory → IsQueryRefused collection query error
open_refused collection query given error (inl memory) is = subst (IsQueryRefused collection query) (sym memory.1) tt
open_refused collection query given error (inr fault) is = absurd (fault.0 is)

-- the stop list of the index is that of the collection
pub same_stop : (index : Opened) (collection : Collection) (stop : List (List ℕ)) → stop ≡ index.parts.stop → IsIndexOf index Plain (without_documents collection) → stop ≡ collection.stop
same_stop index collection stop is of = is ∙ of.parts.stop

-- a fault of the query
pub parse_refused : (collection : Collection) (query : List ℕ) (stop : List (List ℕ)) (fault : QueryError) (error : ExtractError) → error ≡ Query fault → stop ≡ collection.stop → Fails fault (query_of stop query) → IsQueryRefused collection query error
parse_refused collection query stop fault error is same fails =
    subst (IsQueryRefused collection query) (sym is) (subst (λ (s : List (List ℕ)). Fails fault (query_of s query)) same fails)
