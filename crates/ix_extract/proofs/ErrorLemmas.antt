-- Errors that are handed up.
use Rattle.std.proofs.Common.{◌≡◌, ◌≢◌, inl, inr, ℕ, List, Option, Result, Ok, Err, IsErrAnd, IfErr, refl, sym, subst}
use Rattle.ix_text.specs.Collections.{Collection}
use Rattle.ix_index_text.specs.Sections.{Version}
use Rattle.ix_file.specs.declared.open_error.OpenError.{OpenError}
use Rattle.ix_file.specs.declared.open_error.OpenError.TheVariants as opening
use Rattle.ix_lookup.specs.declared.lookup_error.LookupError.{LookupError}
use Rattle.ix_lookup.specs.declared.lookup_error.LookupError.TheVariants as lookup
use Rattle.ix_extract.specs.ErrorsHandedUp.{IsOfOpen, error_of_lookup}
use Rattle.ix_extract.specs.Projections.{HasIndexText, IsOfNone}
use Rattle.ix_extract.specs.Refusals.{IsQueryRefused, IsReadFault}
use Rattle.ix_extract.specs.declared.extract_error.ExtractError.{ExtractError}

-- an error that is what a claim wants
pub handed_up : {T : Type 0} (Of P : ExtractError → Type 0) (result : Result T ExtractError) → IsErrAnd result Of → ((error : ExtractError) → Of error → P error) → IfErr result P
handed_up Of P (Ok x) is wanted = tt
handed_up Of P (Err error) is wanted = wanted error is

pub err_weaker : {T : Type 0} (result : Result T ExtractError) (P Q : ExtractError → Type 0) → ((told : ExtractError) → P told → Q told) → IfErr result P → IfErr result Q
err_weaker (Ok x) P Q weaker holds = tt
err_weaker (Err told) P Q weaker holds = weaker told holds

module _ (contents : Option (List ℕ)) where
  -- an error of the reader
  pub open_fault : (given : OpenError) (error : ExtractError) → IsOfOpen given error → (given ≢ opening.Memory → IsOfNone contents) → IsReadFault contents error
  open_fault given error (inl memory) none = inl (inl memory.1)
  open_fault given error (inr fault) none = inr ((given, fault.1), none fault.0)

  -- an error of a look-up
  pub lookup_fault : (given : LookupError) (error : ExtractError) → error ≡ error_of_lookup given → (given ≡ lookup.Malformed → IsOfNone contents) → IsReadFault contents error
  lookup_fault lookup.Memory error is none = inl (inl is)
  lookup_fault lookup.Read error is none = inl (inr is)
  lookup_fault lookup.Malformed error is none = inr ((_, is), none refl)

  -- it is no fault of the query
  pub read_refused : (version : Version) (collection : Collection) (query : List ℕ) (error : ExtractError) → HasIndexText contents version collection → IsReadFault contents error → IsQueryRefused collection query error
  read_refused version collection query error has (inl (inl memory)) = subst (IsQueryRefused collection query) (sym memory) tt
  read_refused version collection query error has (inl (inr read)) = subst (IsQueryRefused collection query) (sym read) tt
  read_refused version collection query error has (inr fault) = absurd (fault.1 version collection has)
