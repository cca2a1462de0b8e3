-- With which errors a reader may answer, from what its calls say one by one.
use Rattle.std.proofs.Common.{◌≡◌, ◌⊎◌, inl, inr, refl, ℕ, List, [], Bool, true, false, MatchBool, Option, IsSome}
use Rattle.ix_text.specs.Parts.{DictionaryEntry, Posting}
use Rattle.ix_run_text.specs.Faults.{MayFault}
use Rattle.ix_run_text.specs.Reading.{BeginsFirst, Faces, HasFailed, IsEnded, term_of}
use Rattle.ix_run_text.specs.RunTextErrors.{IsRefusal}
use Rattle.ix_run_text.specs.Sources.{KeepsFaults}
use Rattle.ix_run_text.specs.declared.run_reader.Place.TheVariants.{Begun, AtTerm}
use Rattle.ix_run_text.specs.declared.run_reader.RunReader.{RunReader}
use Rattle.ix_run_text.specs.declared.run_text_error.RunTextError.{RunTextError}
use Rattle.ix_run_text.specs.declared.run_text_error.RunTextError.TheVariants as fault

module _ {R : Type 0} (remaining : R → Option (List ℕ)) (old : RunReader R) where
  -- a reader with a term at hand is not at its end
  pub going_at_term : IsSome (term_of old) → ¬ (IsEnded old)
  going_at_term some ended = let wrong : false ≡ true = rw ended at some in cc

  -- after a refusal nothing lies ahead
  pub failed_fault : ¬ (IsEnded old) → HasFailed old → MayFault remaining old fault.Failed
  failed_fault going failed = record { going = going; failed = λ again. refl; refused = λ postings entries faces. absurd (faces.going failed) }

  -- one that has begun or has a term at hand is at no end, and no call was refused
  pub going_begun : (old.place ≡ Begun) ⊎ (old.place ≡ AtTerm) → ¬ (IsEnded old)
  going_begun (inl begun) ended = cc
  going_begun (inr here) ended = cc

  pub well_begun : (old.place ≡ Begun) ⊎ (old.place ≡ AtTerm) → ¬ (HasFailed old)
  well_begun (inl begun) failed = cc
  well_begun (inr here) failed = cc

  module _ (going : ¬ (IsEnded old)) (well : ¬ (HasFailed old)) where
    pub may_fault : (error : RunTextError) → ((postings : List Posting) (entries : List DictionaryEntry) → Faces remaining old postings entries → IsRefusal error) → MayFault remaining old error
    may_fault error refused = record { going = going; failed = λ bad. absurd (well bad); refused = refused }

    -- where a lawful dictionary lay ahead, and what is left of it does
    pub keeps_faults : (new : RunReader R)
        → ((postings : List Posting) (entries : List DictionaryEntry) → Faces remaining old postings entries → (left : List Posting) × ((behind : List DictionaryEntry) × Faces remaining new left behind))
        → KeepsFaults (MayFault remaining) old new
    keeps_faults new ahead error may = record {
      going = going;
      failed = λ bad. absurd (well bad);
      refused = λ postings entries faces. let next = ahead postings entries faces in may.refused next.0 next.1.0 next.1.1;
    }

    -- or its end was found
    pub keeps_faults_over : (new : RunReader R) → IsEnded new → KeepsFaults (MayFault remaining) old new
    keeps_faults_over new over error may = absurd (may.going over)

    pub keeps_faults_on : (new : RunReader R) (more : Bool) (More Over : Type 0) → MatchBool more More (IsEnded new × Over)
        → ((entries : List DictionaryEntry) (postings : List Posting) → Faces remaining old postings entries → MatchBool more (BeginsFirst remaining new entries) (entries ≡ []))
        → KeepsFaults (MayFault remaining) old new
    keeps_faults_on new true More Over begun accepted =
        keeps_faults new (λ postings entries faces. let first = accepted entries postings faces in (first.entry.postings, (first.rest, first.ahead)))
    keeps_faults_on new false More Over begun accepted = keeps_faults_over new begun.0
