-- Headings have one fault at most, and none where they are mergeable.
use Rattle.std.proofs.Common.{◌≡◌, ℕ, ◌⊎◌, List, Result, Ok, Err, IfErr, OnOk, refl, ap, arith, inl, inr}
use Rattle.std.proofs.lemmas.Bool.{cases_lt, cases_order}
use Rattle.ix_run.specs.Heads.{Heading}
use Rattle.ix_merge.specs.Covers.{Cover, IsGap, IsOverlap, times_covered}
use Rattle.ix_merge.specs.Refusals.{AreCompatible, AreMergeable, AreTooLarge, DifferInStop, IsOrMemory, IsRefusal}
use Rattle.ix_merge.specs.declared.merge_error.MergeError.{MergeError}
use Rattle.ix_merge.specs.declared.merge_error.MergeError.TheVariants.{Gap, Overlap, StopDiffers, Source, TooLarge, Write, Memory}

module _ (hs : List Heading) where
  gap_uncovered : (n count : ℕ) → IsGap hs n → Cover hs count → ⊥
  gap_uncovered n count gap cover =
      elim (cases_lt n count) [
        | inl below ↦ omega (arith, gap.none, cover.once n below)
        | inr behind ↦ omega (arith, gap.covered, cover.no_other gap.greater (omega (arith, behind, gap.behind)))
      ]

  overlap_uncovered : (n count : ℕ) → IsOverlap hs n → Cover hs count → ⊥
  overlap_uncovered n count overlap cover =
      elim (cases_lt n count) [
        | inl below ↦ omega (arith, overlap.several, cover.once n below)
        | inr behind ↦ omega (arith, overlap.several, cover.no_other n behind)
      ]

  one_gap : (n m : ℕ) → IsGap hs n → IsGap hs m → n ≡ m
  one_gap n m one other =
      elim (cases_order n m) [
        | inl same ↦ same
        | inr (inl less) ↦ absurd (omega (arith, one.none, other.before n less))
        | inr (inr more) ↦ absurd (omega (arith, other.none, one.before m more))
      ]

  one_overlap : (n m : ℕ) → IsOverlap hs n → IsOverlap hs m → n ≡ m
  one_overlap n m one other =
      elim (cases_order n m) [
        | inl same ↦ same
        | inr (inl less) ↦ absurd (omega (arith, one.several, other.before n less))
        | inr (inr more) ↦ absurd (omega (arith, other.several, one.before m more))
      ]

  not_both : (n m : ℕ) → IsGap hs n → IsOverlap hs m → ⊥
  not_both n m gap overlap =
      elim (cases_order n m) [
        | inl same ↦ omega (arith, gap.none, overlap.several, ap (times_covered hs) same)
        | inr (inl less) ↦ omega (arith, gap.none, overlap.before n less)
        | inr (inr more) ↦ omega (arith, overlap.several, gap.before m more)
      ]

  not_different : DifferInStop hs → AreCompatible hs → ⊥
  not_different differ compatible = differ.stops.differ (compatible.stop differ.stops.one differ.stops.other differ.stops.among differ.stops.among_too)

  not_large : AreTooLarge hs → AreMergeable hs → ⊥
  not_large large mergeable = omega (arith, large.many, mergeable.few)

module _ {E : Type 0} (hs : List Heading) where
  at_gap : (n : ℕ) → IsGap hs n → (error : MergeError E) → IsRefusal hs error → (error ≡ Gap n) ⊎ (error ≡ Memory)
  at_gap n gap (Gap m) is = inl (ap Gap (one_gap hs m n is gap))
  at_gap n gap (Overlap m) is = absurd (not_both hs n m gap is)
  at_gap n gap StopDiffers is = absurd (gap_uncovered hs n is.count gap is.cover)
  at_gap n gap (Source place error) is = absurd (gap_uncovered hs n is.0.compatible.count gap is.0.compatible.cover)
  at_gap n gap TooLarge is = absurd (gap_uncovered hs n is.compatible.count gap is.compatible.cover)
  at_gap n gap Write is = absurd (gap_uncovered hs n is.compatible.count gap is.compatible.cover)
  at_gap n gap Memory is = inr refl

  at_overlap : (n : ℕ) → IsOverlap hs n → (error : MergeError E) → IsRefusal hs error → (error ≡ Overlap n) ⊎ (error ≡ Memory)
  at_overlap n overlap (Gap m) is = absurd (not_both hs m n is overlap)
  at_overlap n overlap (Overlap m) is = inl (ap Overlap (one_overlap hs m n is overlap))
  at_overlap n overlap StopDiffers is = absurd (overlap_uncovered hs n is.count overlap is.cover)
  at_overlap n overlap (Source place error) is = absurd (overlap_uncovered hs n is.0.compatible.count overlap is.0.compatible.cover)
  at_overlap n overlap TooLarge is = absurd (overlap_uncovered hs n is.compatible.count overlap is.compatible.cover)
  at_overlap n overlap Write is = absurd (overlap_uncovered hs n is.compatible.count overlap is.compatible.cover)
  at_overlap n overlap Memory is = inr refl

  at_difference : DifferInStop hs → (error : MergeError E) → IsRefusal hs error → (error ≡ StopDiffers) ⊎ (error ≡ Memory)
  at_difference differ (Gap m) is = absurd (gap_uncovered hs m differ.count is differ.cover)
  at_difference differ (Overlap m) is = absurd (overlap_uncovered hs m differ.count is differ.cover)
  at_difference differ StopDiffers is = inl refl
  at_difference differ (Source place error) is = absurd (not_different hs differ is.0.compatible)
  at_difference differ TooLarge is = absurd (not_different hs differ is.compatible)
  at_difference differ Write is = absurd (not_different hs differ is.compatible)
  at_difference differ Memory is = inr refl

  at_size : AreTooLarge hs → (error : MergeError E) → IsRefusal hs error → (error ≡ TooLarge) ⊎ (error ≡ Memory)
  at_size large (Gap m) is = absurd (gap_uncovered hs m large.compatible.count is large.compatible.cover)
  at_size large (Overlap m) is = absurd (overlap_uncovered hs m large.compatible.count is large.compatible.cover)
  at_size large StopDiffers is = absurd (not_different hs is large.compatible)
  at_size large (Source place error) is = absurd (not_large hs large is.0)
  at_size large TooLarge is = inl refl
  at_size large Write is = absurd (not_large hs large is)
  at_size large Memory is = inr refl

  -- what comes where a fault is told in some way, and nothing goes well
  told_or_memory : {T : Type 0} (result : Result T (MergeError E)) (fault : MergeError E) → ((error : MergeError E) → IsRefusal hs error → (error ≡ fault) ⊎ (error ≡ Memory)) → (AreMergeable hs → ⊥) → OnOk result (AreMergeable hs) → IfErr result (IsRefusal hs) → IsOrMemory result fault
  told_or_memory (Ok value) fault one none mergeable refused = absurd (none mergeable)
  told_or_memory (Err error) fault one none mergeable refused = elim (one error refused) [ inl same ↦ inl (ap Err same) | inr same ↦ inr (ap Err same) ]

  module _ {T : Type 0} (result : Result T (MergeError E)) (mergeable : OnOk result (AreMergeable hs)) (refused : IfErr result (IsRefusal hs)) where
    pub gap_told : (n : ℕ) → IsGap hs n → IsOrMemory result (Gap n)
    gap_told n gap = told_or_memory result (Gap n) (at_gap n gap) (λ is. gap_uncovered hs n is.compatible.count gap is.compatible.cover) mergeable refused

    pub overlap_told : (n : ℕ) → IsOverlap hs n → IsOrMemory result (Overlap n)
    overlap_told n overlap = told_or_memory result (Overlap n) (at_overlap n overlap) (λ is. overlap_uncovered hs n is.compatible.count overlap is.compatible.cover) mergeable refused

    pub difference_told : DifferInStop hs → IsOrMemory result StopDiffers
    difference_told differ = told_or_memory result StopDiffers (at_difference differ) (λ is. not_different hs differ is.compatible) mergeable refused

    pub size_told : AreTooLarge hs → IsOrMemory result TooLarge
    size_told large = told_or_memory result TooLarge (at_size large) (not_large hs large) mergeable refused
