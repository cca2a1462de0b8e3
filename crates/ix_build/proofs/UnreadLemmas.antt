-- Why a place is told whose run was saved: its run was not given back, or what came back of it may not be read to its end.
use Rattle.std.proofs.Common.{◌≡◌, ◌≢◌, ℕ, List, [], ◌++◌, Option, Result, Ok, Err, IfErr, refl, sym, subst, inl, inr, ⊎_elim}
use Rattle.std.specs.Prelude.{None, Some, IfSome, IsErrAnd, IsSome}
use Rattle.std.specs.Io.KnownBytes.{Keeps}
use Rattle.std.proofs.lemmas.Option.{IfSome_then}
use Rattle.ix_text.specs.Collections.{Collection}
use Rattle.ix_text.specs.Parts.{DictionaryEntry}
use Rattle.ix_run.specs.Faults.{MayFault}
use Rattle.ix_run.specs.Heads.{Heading, IsLawfulHeading, parts_with}
use Rattle.ix_run.specs.Reading.{HasRead, IsSure, MayYield}
use Rattle.ix_run.specs.RunReaders.{heading_read}
use Rattle.ix_run.specs.RunText.{IsRunText, heading_bytes, run_layout}
use Rattle.ix_run.specs.RunTextErrors.{IsRefusal}
use Rattle.ix_run.specs.Sources.{IsUnread}
use Rattle.ix_run.specs.RunReader.{RunReader}
use Rattle.ix_run.specs.RunTextError.{RunTextError}
use Rattle.ix_merge.specs.Refusals.{MayFaultAt, TellsFault}
use Rattle.ix_merge.specs.declared.merge_error.MergeError.{MergeError}
use Rattle.ix_merge.specs.declared.merge_error.MergeError.TheVariants as merge
use Rattle.ix_build.specs.declared.build_error.BuildError.{BuildError}
use Rattle.ix_build.specs.declared.build_error.BuildError.TheVariants.{Thread, Spill, Write, Memory}
use Rattle.ix_build.specs.ReadBack.{AreReadBack, IsNotGivenBack, IsOfBytes, MayNotRead, TellBytes, TellsCause, TellsNotGivenBack, TellsUnread, told_of_read_merge, told_of_reading}
use Rattle.ix_build.proofs.ReadBackLemmas.{heading_at, of_more, told_holds}

-- an error that is passed on
pub passed_on : {T : Type 0} (P : BuildError → Type 0) (result : Result T BuildError) (told : BuildError) → IsErrAnd result (λ error. error ≡ told) → P told → IfErr result P
passed_on P (Ok x) told is holds = tt
passed_on P (Err error) told is holds = subst P (sym is) holds

module _ {R : Type 0} (remaining : R → Option (List ℕ)) where
  -- the bytes of an opened run, if its reader tells them
  pub of_bytes : (may_come : List ℕ → Type 0) (reader : R) (run : RunReader R) → IfSome (remaining reader) may_come
      → ((bytes : List ℕ) (entries : List DictionaryEntry) → remaining reader ≡ Some bytes → MayYield remaining run [] entries → bytes ≡ run_layout (heading_read run).first (parts_with (heading_read run) entries))
      → ((first : ℕ) (collection : Collection) (bytes : List ℕ) → IsRunText first collection bytes → remaining reader ≡ Some bytes → IsSure remaining run)
      → TellBytes remaining → IsOfBytes remaining may_come run
  of_bytes may_come reader run came yields sure tell = by (remaining reader) refl came (tell reader)
    where
      by : (known : Option (List ℕ)) → remaining reader ≡ known → IfSome known may_come → IsSome known → IsOfBytes remaining may_come run
      by None is here told = absurd (cc told)
      by (Some bytes) is here told = record { bytes = bytes; came = here; spelled = λ entries yielded. yields bytes entries is yielded; sure = λ first collection of_text. sure first collection bytes of_text is }

  -- what was opened gave no run
  pub no_run : (refused : Type 0) (kept : ℕ → Heading → Type 0) (back : ℕ → List ℕ → Type 0) (place : ℕ) (reader : R) (error : RunTextError) → IfSome (remaining reader) (back place)
      → ((heading : Heading) (rest : List ℕ) → IsLawfulHeading heading → remaining reader ≡ Some (heading_bytes heading ++ rest) → IsRefusal error)
      → TellsNotGivenBack remaining refused kept back (told_of_reading place error)
  no_run refused kept back place reader error came fault =
      told_holds (TellsNotGivenBack remaining refused kept back) place error tt (λ spills. inr (inl (record { reader = reader; came = came; error = error; fault = fault; spills = spills })))

  -- it gave another run
  pub other_run : (refused : Type 0) (kept : ℕ → Heading → Type 0) (back : ℕ → List ℕ → Type 0) (place : ℕ) (reader : RunReader R) (heading : Heading) → IsUnread HasRead reader
      → (TellBytes remaining → IsOfBytes remaining (back place) reader) → kept place heading → heading_read reader ≢ heading → IsNotGivenBack remaining refused kept back place
  other_run refused kept back place reader heading unread told is_kept other = inr (inr (record { reader = reader; unread = unread; told = told; heading = heading; is_kept = is_kept; other = other }))

  unread_later : (back given : ℕ → List ℕ → Type 0) (place : ℕ) → ((bytes : List ℕ) → back place bytes → given place bytes) → MayNotRead remaining back place → MayNotRead remaining given place
  unread_later back given place gives may = record {
    reader = may.reader;
    unread = may.unread;
    told = λ tell. of_more remaining (back place) (given place) may.reader gives (may.told tell);
    error = may.error;
    may = may.may;
    spills = may.spills;
  }

  -- of files that may give more back
  pub tells_unread : (back given : ℕ → List ℕ → Type 0) → ((place : ℕ) (bytes : List ℕ) → back place bytes → given place bytes) → (before now : Option (List ℕ)) (error : BuildError)
      → TellsUnread remaining back before now error → TellsUnread remaining given before now error
  tells_unread back given gives before now (Thread worker) told = tt
  tells_unread back given gives before now (Spill place) told = ⊎_elim inl (λ may. inr (unread_later back given place (gives place) may)) told
  tells_unread back given gives before now Write told = tt
  tells_unread back given gives before now Memory told = tt

  module _ (was later : Type 0) (kept known : ℕ → Heading → Type 0) (back given : ℕ → List ℕ → Type 0)
      (refused : was → later) (place : ℕ) (same : (heading : Heading) → kept place heading → known place heading) (gives : (bytes : List ℕ) → back place bytes → given place bytes) where
    -- of a weaker cause
    not_given : IsNotGivenBack remaining was kept back place → IsNotGivenBack remaining later known given place
    not_given = ⊎_elim
        (λ by. inl (refused by))
        (⊎_elim
        (λ no. inr (inl (record { reader = no.reader; came = IfSome_then (remaining no.reader) no.came gives; error = no.error; fault = no.fault; spills = no.spills })))
        (λ other.
        inr (inr (record {
          reader = other.reader;
          unread = other.unread;
          told = λ tell. of_more remaining (back place) (given place) other.reader gives (other.told tell);
          heading = other.heading;
          is_kept = same other.heading other.is_kept;
          other = other.other;
        }))))

  module _ (was later : Type 0) (kept known : ℕ → Heading → Type 0) (back given : ℕ → List ℕ → Type 0)
      (refused : was → later) (same : (place : ℕ) (heading : Heading) → kept place heading → known place heading) (gives : (place : ℕ) (bytes : List ℕ) → back place bytes → given place bytes) where
    pub tells_not_given : (error : BuildError) → TellsNotGivenBack remaining was kept back error → TellsNotGivenBack remaining later known given error
    tells_not_given (Thread worker) told = tt
    tells_not_given (Spill place) told = not_given was later kept known back given refused place (same place) (gives place) told
    tells_not_given Write told = tt
    tells_not_given Memory told = tt

    pub tells_cause : (before now : Option (List ℕ)) (error : BuildError) → TellsCause remaining was kept back before now error → TellsCause remaining later known given before now error
    tells_cause before now (Thread worker) told = tt
    tells_cause before now (Spill place) told =
        ⊎_elim (λ early. inl (early.0, not_given was later kept known back given refused place (same place) (gives place) early.1))
        (λ may. inr (unread_later back given place (gives place) may)) told
    tells_cause before now Write told = tt
    tells_cause before now Memory told = tt

  module _ (refused : Type 0) (kept : ℕ → Heading → Type 0) (back : ℕ → List ℕ → Type 0) (before now : Option (List ℕ)) where
    -- before a byte was written
    pub told_unwritten : (error : BuildError) → Keeps before now → TellsNotGivenBack remaining refused kept back error → TellsCause remaining refused kept back before now error
    told_unwritten (Thread worker) keeps told = tt
    told_unwritten (Spill place) keeps told = inl (keeps, told)
    told_unwritten Write keeps told = tt
    told_unwritten Memory keeps told = tt

    -- the cause left out
    pub told_unread : (error : BuildError) → TellsCause remaining refused kept back before now error → TellsUnread remaining back before now error
    told_unread (Thread worker) told = tt
    told_unread (Spill place) told = ⊎_elim (λ early. inl early.0) (λ may. inr may) told
    told_unread Write told = tt
    told_unread Memory told = tt

    module _ (headings : List Heading) (readers : List (RunReader R)) (read : AreReadBack remaining back headings readers) where
      may_not : (place : ℕ) (error : RunTextError) → MayFaultAt (MayFault remaining) readers place error → told_of_reading place error ≡ Spill place → MayNotRead remaining back place
      may_not place error fault spills =
          let heading = heading_at remaining back headings readers read place fault.source fault.is in
          let is = read.each place heading.0 fault.source heading.1 fault.is in
          record { reader = fault.source; unread = is.unread; told = is.told; error = error; may = fault.may; spills = spills }

      -- a merge tells the place of a reader that may answer so
      pub told_of_merge_fault : (error : MergeError RunTextError) → TellsFault (MayFault remaining) readers error → TellsCause remaining refused kept back before now (told_of_read_merge error)
      told_of_merge_fault (merge.Gap number) fault = tt
      told_of_merge_fault (merge.Overlap number) fault = tt
      told_of_merge_fault merge.StopDiffers fault = tt
      told_of_merge_fault (merge.Source place error) fault = told_holds (TellsCause remaining refused kept back before now) place error tt (λ spills. inr (may_not place error fault spills))
      told_of_merge_fault merge.TooLarge fault = tt
      told_of_merge_fault merge.Write fault = tt
      told_of_merge_fault merge.Memory fault = tt
