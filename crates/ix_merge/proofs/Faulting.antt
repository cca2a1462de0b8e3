-- An error with which a source answers is one with which it might have answered before anything was asked.
use Rattle.std.proofs.Common.{◌≡◌, ℕ, ◌<◌, List, length, get_or, set, inl, inr, sym, subst, ◌∙◌, arith, length-set}
use Rattle.std.proofs.lemmas.Bool.{cases_eq}
use Rattle.std.proofs.lemmas.List.{get_or_default, get_or-set_same, get_or-set_other}
use Rattle.std.proofs.lemmas.Option.{slice_get-get_or}
use Rattle.ix_run.specs.Sources.{Faulting, KeepsFaults}
use Rattle.ix_run.specs.Heads.{Heading}
use Rattle.ix_merge.specs.Headings.{IsCoverFault, IsOfHeadings}
use Rattle.ix_merge.specs.Merging.{IsOfWriter, IsRefusalAt, IsRefusalOf, KeepFaults}
use Rattle.ix_merge.specs.Refusals.{MayFaultAt, TellsFault}
use Rattle.ix_merge.specs.declared.merge_error.MergeError.{MergeError}
use Rattle.ix_merge.specs.declared.merge_error.MergeError.TheVariants.{Gap, Overlap, StopDiffers, Source, TooLarge, Write, Memory}

-- a number that is not covered once
pub cover_of_headings : {E : Type 0} (headings : List Heading) (error : MergeError E) → IsCoverFault headings error → IsOfHeadings error
cover_of_headings headings (Gap n) is = tt
cover_of_headings headings (Overlap n) is = tt
cover_of_headings headings StopDiffers is = absurd is
cover_of_headings headings (Source told error) is = absurd is
cover_of_headings headings TooLarge is = absurd is
cover_of_headings headings Write is = absurd is
cover_of_headings headings Memory is = absurd is

module _ {S E : Type 0} (faults : Faulting S E) where
  -- what an error tells of a source
  pub tells_fault : (sources : List S) (error : MergeError E) → IsRefusalOf faults sources error → TellsFault faults sources error
  tells_fault sources (Gap n) is = tt
  tells_fault sources (Overlap n) is = tt
  tells_fault sources StopDiffers is = tt
  tells_fault sources (Source place error) is = is
  tells_fault sources TooLarge is = tt
  tells_fault sources Write is = tt
  tells_fault sources Memory is = tt

  pub headings_tell_none : (sources : List S) (error : MergeError E) → IsOfHeadings error → TellsFault faults sources error
  headings_tell_none sources (Gap n) is = tt
  headings_tell_none sources (Overlap n) is = tt
  headings_tell_none sources StopDiffers is = tt
  headings_tell_none sources (Source place error) is = absurd is
  headings_tell_none sources TooLarge is = tt
  headings_tell_none sources Write is = tt
  headings_tell_none sources Memory is = tt

  pub writer_tells_none : (sources : List S) (error : MergeError E) → IsOfWriter error → TellsFault faults sources error
  writer_tells_none sources (Gap n) is = tt
  writer_tells_none sources (Overlap n) is = tt
  writer_tells_none sources StopDiffers is = tt
  writer_tells_none sources (Source place error) is = absurd is
  writer_tells_none sources TooLarge is = tt
  writer_tells_none sources Write is = tt
  writer_tells_none sources Memory is = tt

  module _ (old now : List S) (place : ℕ) (source : S) (as_many : length now ≡ length old) (keep : KeepFaults faults old now) (within : place < length now) (here : get_or now place source ≡ source) where
    -- one of the sources is asked
    pub keep_more : (new : S) → KeepsFaults faults source new → KeepFaults faults old (set now place new)
    keep_more new keeps other d error low may =
        elim (cases_eq other place) [
          | inl same ↦
              let is : get_or (set now place new) other d ≡ new = subst (λ (k : ℕ). get_or (set now place new) k d ≡ new) (sym same) (get_or-set_same now place new d within) in
              let at : get_or now other d ≡ source = subst (λ (k : ℕ). get_or now k d ≡ source) (sym same) (get_or_default now place d source within ∙ here) in
              keep other d error (omega arith) (subst (λ (s : S). faults s error) (sym at) (keeps error (subst (λ (s : S). faults s error) is may)))
          | inr differ ↦
              keep other d error (omega (arith, length-set now place new)) (subst (λ (s : S). faults s error) (get_or-set_other now place other new d differ) may)
        ]

    -- and fails
    pub fault_at : (error : E) → faults source error → MayFaultAt faults old place error
    fault_at error may = record {
      source = get_or old place source;
      is = slice_get-get_or old place source (omega arith);
      may = keep place source error within (subst (λ (s : S). faults s error) (sym here) may);
    }

    pub refusal_at : (error : MergeError E) → IsRefusalAt place (faults source) error → IsRefusalOf faults old error
    refusal_at (Gap n) is = absurd is
    refusal_at (Overlap n) is = absurd is
    refusal_at StopDiffers is = absurd is
    refusal_at (Source told error) is = subst (λ (n : ℕ). MayFaultAt faults old n error) (sym is.0) (fault_at error is.1)
    refusal_at TooLarge is = absurd is
    refusal_at Write is = tt
    refusal_at Memory is = tt
