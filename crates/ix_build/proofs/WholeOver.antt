-- Building over stores the blocks of a cut: what it writes, which errors come, and what they leave.
use Rattle.std.proofs.Common.{◌≡◌, ℕ, ◌+◌, ◌≤◌, ◌^◌, List, [], ◌∷◌, length, map, Option, refl, sym, subst, ◌∙◌, inl, inr, arith}
use Rattle.std.specs.Prelude.{None, Some, slice_get, slice_range, slice_set}
use Rattle.std.specs.Io.KnownBytes.{Keeps}
use Rattle.std.proofs.lemmas.Option.{none-some}
use Rattle.ix_board.proofs.Closings.{got-map}
use Rattle.ix_text.specs.Collections.{NamedText, collection_of, token_total}
use Rattle.ix_text.specs.Sizes.{AreSmall}
use Rattle.ix_text.proofs.SizeLemmas.{tokens_no_more_than_bytes}
use Rattle.ix_merge.specs.Endings.{WritesIndexText}
use Rattle.ix_run.specs.Heads.{Heading, heading_of}
use Rattle.ix_run.specs.RunHead.{RunHead}
use Rattle.ix_merge.specs.Pieces.{LeavesFront}
use Rattle.ix_build.specs.AlikeFronts.{LeavesAlikeFront, WritesAlike}
use Rattle.ix_build.specs.Blocks.{AreBounds}
use Rattle.ix_build.specs.BuiltOver.{AreBlocksSaved, FailsOver}
use Rattle.ix_build.specs.GivenBack.{GivesBlocksBack}
use Rattle.ix_build.specs.KeptHeadings.{IsHeadingOfBlock}
use Rattle.ix_build.specs.OwnParts.{LeavesOwnPart}
use Rattle.ix_build.specs.ReadBack.{ComesOfMerging, GivesRunsBack, LeavesReadBackPart, MayBeMerged, TellBytes, TellsCause, WritesReadBack}
use Rattle.ix_build.specs.SavedBlocks.{AreHeadsOf, FailsToSave}
use Rattle.ix_build.specs.SavingMakers.{HasSaved}
use Rattle.ix_build.specs.SavingLaws.{counts_since}
use Rattle.ix_build.specs.Stores.{AreSaved, CountsMore, HasRefused}
use Rattle.ix_build.specs.declared.build_error.BuildError.{BuildError}
use Rattle.ix_build.specs.declared.build_error.BuildError.TheVariants.{Thread, Spill, Write, Memory}
use Rattle.ix_build.specs.declared.plan.Cut.{Cut}
use Rattle.ix_build.proofs.BlockCounts.{block_place, blocks_counted}
use Rattle.ix_build.proofs.OverBlocks.{alike_written, exactly_written, heads_left, heads_merge, own_left}
use Rattle.ix_build.proofs.SavedWork.{saved_in_part, saved_on_first}
use Rattle.ix_build.proofs.WholeBuild.{some_block}

pub keeps_itself : (known : Option (List ℕ)) → Keeps known known
keeps_itself None = tt
keeps_itself (Some bytes) = refl

set_first : {T : Type 0} (after : List T) (store new : T) → slice_get after 0 ≡ Some store → slice_get (slice_set after 0 new) 0 ≡ Some new
set_first [] store new at = absurd (none-some store at)
set_first (first ∷ rest) store new at = refl

-- small documents have few tokens
pub few_tokens : (stop : List (List ℕ)) (texts : List NamedText) → AreSmall texts → token_total (collection_of stop texts) ≤ 2 ^ 28
few_tokens stop texts small =
    let few = tokens_no_more_than_bytes stop texts in
    let short = small.short in
    omega (arith, few, short)

module _ (cut : Cut) (texts : List NamedText) (bounds : List ℕ) (are : AreBounds cut texts bounds) (count : ℕ) (size : count + 1 ≡ length bounds) where
  module _ {T : Type 0} (places : T → List ℕ) (refusals : T → ℕ) (back : T → ℕ → List ℕ → Type 0) where
    -- an error of the saving, before anything is written
    pub fails_saving : (stores after : List T) (before now : Option (List ℕ)) (error : BuildError) → Keeps before now → FailsToSave places refusals back stores count after error
        → FailsOver places refusals back cut texts stores after before now error
    fails_saving stores after before now (Thread worker) keeps fails = (fails, keeps)
    fails_saving stores after before now (Spill place) keeps fails = (block_place cut texts bounds are count size place fails.0, inl (record { in_part = fails.1; lowest = fails.2; refused = fails.3; unwritten = keeps }))
    fails_saving stores after before now Write keeps fails = absurd fails
    fails_saving stores after before now Memory keeps fails = fails

    -- a place that was not saved was refused by a store
    pub saving_caused : {R : Type 0} (remaining : R → Option (List ℕ)) (kept : ℕ → Heading → Type 0) (given : ℕ → List ℕ → Type 0) (stores after : List T) (before : Option (List ℕ)) (error : BuildError)
        → FailsToSave places refusals back stores count after error → TellsCause remaining (HasRefused refusals stores after) kept given before before error
    saving_caused remaining kept given stores after before (Thread worker) fails = tt
    saving_caused remaining kept given stores after before (Spill place) fails = inl (keeps_itself before, inl fails.3)
    saving_caused remaining kept given stores after before Write fails = tt
    saving_caused remaining kept given stores after before Memory fails = tt

    -- the first store, which all runs were read back from
    module _ (stores after : List T) (store new : T) (at : slice_get after 0 ≡ Some store) (saved : AreSaved places refusals back stores count after) (read : HasSaved places refusals back store new []) where
      in_the_end : AreSaved places refusals back stores count (slice_set after 0 new)
      in_the_end = saved_on_first places refusals back stores count after store new at read saved

      pub blocks_saved : AreBlocksSaved places refusals back cut texts stores (slice_set after 0 new)
      blocks_saved = record {
        blocks = are.blocks;
        of_cut = are.of_cut;
        saved = subst (λ (n : ℕ). AreSaved places refusals back stores n (slice_set after 0 new)) (blocks_counted cut texts bounds are count size) in_the_end;
      }

      pub fails_merging : (before now : Option (List ℕ)) (error : BuildError) → ComesOfMerging count error → FailsOver places refusals back cut texts stores (slice_set after 0 new) before now error
      fails_merging before now (Thread worker) comes = absurd comes
      fails_merging before now (Spill place) comes = (block_place cut texts bounds are count size place comes, inr blocks_saved)
      fails_merging before now Write comes = blocks_saved
      fails_merging before now Memory comes = saved_in_part places refusals back stores count (slice_set after 0 new) in_the_end

      -- a refusal of the first store as it is read
      pub refused_reading : (first : T) → slice_get stores 0 ≡ Some first → CountsMore (refusals store) (refusals new) → HasRefused refusals stores (slice_set after 0 new)
      refused_reading first is_first more = record {
        w = 0;
        old = first;
        new = new;
        was = is_first;
        is = set_first after store new at;
        counted = counts_since (refusals first) (refusals store) (refusals new) (saved.came_back.each 0 first store is_first at).counted read.counted more;
      }

      -- what may come back was settled before
      pub gives_as_before : (stop : List (List ℕ)) (first : T) → slice_get stores 0 ≡ Some first → GivesBlocksBack cut texts stop (back first) → GivesBlocksBack cut texts stop (back store)
      gives_as_before stop first is_first gives found place bytes of_cut within came =
          gives found place bytes of_cut within (((saved.came_back.each 0 first store is_first at).keeps place bytes).0 came)

  module _ (stop : List (List ℕ)) (heads : List RunHead) (of_blocks : AreHeadsOf texts stop bounds heads) (before now : Option (List ℕ)) where
    long : length heads ≡ length are.blocks
    long = let many = of_blocks.as_many in let blocks = blocks_counted cut texts bounds are count size in omega (arith, many, blocks, size)

    pub as_many_heads : length heads ≡ count
    as_many_heads = let many = of_blocks.as_many in omega (arith, many, size)

    -- the headings that were kept are those of the blocks
    pub kept_of_blocks : (place : ℕ) (heading : Heading) → slice_get (map heading_of heads) place ≡ Some heading → IsHeadingOfBlock cut texts stop place heading
    kept_of_blocks place heading at =
        let head = got-map heading_of heads place heading at in
        let is = of_blocks.each place head.0 head.1 in
        record { bounds = bounds; of_cut = are; run = is.run; of_block = is.of_block; of_run = sym head.2 ∙ is.headed }

    pub over_merge : token_total (collection_of stop texts) ≤ 2 ^ 28 → MayBeMerged (map heading_of heads)
    over_merge few = heads_merge texts stop bounds are.blocks are.of_cut.whole are.bounds_are (some_block cut texts bounds are) heads long of_blocks.each before now few

    pub over_left : LeavesFront (map heading_of heads) before now → LeavesAlikeFront (collection_of stop texts) before now
    over_left = heads_left texts stop bounds are.blocks are.of_cut.whole are.bounds_are (some_block cut texts bounds are) heads long of_blocks.each before now

    -- what comes back of their places is run texts, if it is the runs of the blocks
    pub over_runs : (back : ℕ → List ℕ → Type 0) → GivesBlocksBack cut texts stop back → GivesRunsBack back (length heads)
    over_runs back gives place bytes within came =
        let many = of_blocks.as_many in
        let is = gives bounds place bytes are (omega (arith, within, many)) came in
        record { first = is.from; collection = collection_of stop (slice_range texts is.from is.to); is = is.of_block }

    module _ {R : Type 0} (remaining : R → Option (List ℕ)) (back : ℕ → List ℕ → Type 0) where
      pub over_alike : WritesReadBack remaining back (map heading_of heads) before now → WritesAlike (collection_of stop texts) before now
      over_alike = alike_written texts stop bounds are.blocks are.of_cut.whole are.bounds_are (some_block cut texts bounds are) heads long of_blocks.each before now remaining back

      module _ (tell : TellBytes remaining) (gives : GivesBlocksBack cut texts stop back) where
        pub over_exact : WritesReadBack remaining back (map heading_of heads) before now → WritesIndexText before now (collection_of stop texts)
        over_exact =
            exactly_written texts stop bounds are.blocks are.of_cut.whole are.bounds_are (some_block cut texts bounds are) heads long of_blocks.each before now remaining back
            tell (λ place bytes within came. gives bounds place bytes are within came) of_blocks.as_many

        pub over_unfinished : (if_whole : Type 0) → LeavesReadBackPart remaining back (map heading_of heads) before now if_whole → LeavesOwnPart (collection_of stop texts) before now if_whole
        over_unfinished =
            own_left texts stop bounds are.blocks are.of_cut.whole are.bounds_are (some_block cut texts bounds are) heads long of_blocks.each before now remaining back
            tell (λ place bytes within came. gives bounds place bytes are within came) of_blocks.as_many
