-- Work on the blocks of a cut by makers of them: whose runs it comes to, and which errors come.
use Rattle.std.proofs.Common.{◌≡◌, ℕ, ◌+◌, ◌<◌, ◌≤◌, ◌^◌, List, [], ◌∷◌, length, Option, All, ap, subst, sym, inl, arith, length-append}
use Rattle.ix_text.specs.Collections.{NamedText, collection_of, token_total}
use Rattle.ix_run.specs.Runs.{RunValue}
use Rattle.ix_merge.specs.Endings.{WritesIndexText}
use Rattle.ix_build.specs.Blocks.{AreBounds, bounds_from}
use Rattle.ix_build.specs.BlockMakers.{IsMakerOf}
use Rattle.ix_build.specs.BlockRuns.{GivesRun, StaysMakerOf}
use Rattle.ix_build.specs.BuildErrors.{MayComeOfBuilding, MayComeOfWork, told_of_building}
use Rattle.ix_build.specs.Built.{FailsToBuild, IsBuilt}
use Rattle.ix_build.specs.declared.build_error.BuildError.TheVariants as build
use Rattle.ix_build.specs.declared.by_makers.ByError.{ByError}
use Rattle.ix_build.specs.declared.by_makers.ByError.TheVariants as by
use Rattle.ix_pool.specs.Outcomes.{Fails, IsMade}
use Rattle.ix_build.specs.OwnParts.{LeavesOwnPart}
use Rattle.ix_build.specs.RunPieces.{AreRunsOfTexts}
use Rattle.ix_build.specs.declared.block_maker.BlockMaker.{BlockMaker}
use Rattle.ix_pool.specs.declared.maker.MakeError.TheVariants as make
use Rattle.ix_pool.specs.declared.pool.WorkError.{WorkError}
use Rattle.ix_pool.specs.declared.pool.WorkError.TheVariants.{Thread, Make, Memory}
use Rattle.ix_build.specs.declared.plan.Cut.{Cut}
use Rattle.ix_build.proofs.BlockMaking.{asked_of, made_between, none_refused}
use Rattle.ix_build.proofs.BuiltBlocks.{runs_of_blocks}
use Rattle.ix_build.proofs.MergedParts.{parts_refused, parts_unfinished, parts_written}

-- there is one bound more than blocks
pub bounds_counted : (first : ℕ) (blocks : List (List NamedText)) → length (bounds_from first blocks) ≡ length blocks + 1
bounds_counted first [] = omega arith
bounds_counted first (block ∷ blocks) = let rest = bounds_counted (first + length block) blocks in omega (arith, rest)

-- the bounds that were found are those of the plan's cut of the collection
pub bounds_found : (cut other : Cut) (texts given : List NamedText) (bounds found : List ℕ) → cut ≡ other → texts ≡ given → found ≡ bounds → AreBounds cut texts bounds → AreBounds other given found
bounds_found cut other texts given bounds found same_cut same_texts same are =
    subst (λ c. AreBounds c given found) same_cut (subst (λ t. AreBounds cut t found) same_texts (subst (AreBounds cut texts) (sym same) are))

module _ (cut : Cut) (texts : List NamedText) (bounds : List ℕ) (are : AreBounds cut texts bounds) where
  pub some_bound : 0 < length bounds
  some_bound = let size = bounds_counted 0 are.blocks in let same = ap length are.bounds_are in omega (arith, size, same)

  pub some_block : 0 < length are.blocks
  some_block =
      let in_order = ap length are.of_cut.in_order in
      let more = length-append are.of_cut.before (are.of_cut.last ∷ []) in
      omega (arith, in_order, more)

  module _ {V : Type 0} (stop : List (List ℕ)) (makers after : List (BlockMaker V)) (each : All (IsMakerOf texts stop bounds) makers) (count : ℕ) (size : count + 1 ≡ length bounds) where
    pub all_inverted : (runs : List RunValue) → IsMade asked_of GivesRun StaysMakerOf makers count after runs → AreRunsOfTexts stop texts runs
    all_inverted runs made =
        let counted = bounds_counted 0 are.blocks in
        let same = ap length are.bounds_are in
        let many = made.as_many in
        let long : length runs ≡ length are.blocks = omega (arith, many, size, counted, same) in
        record {
          parts = are.blocks;
          some = some_block;
          whole = are.of_cut.whole;
          of_parts = runs_of_blocks texts stop bounds are.blocks are.of_cut.whole are.bounds_are some_block runs long (made_between texts stop bounds makers after each count runs made);
        }

    pub may_come : (error : WorkError) → Fails asked_of GivesRun StaysMakerOf makers count after error → MayComeOfWork error
    may_come (Thread worker) fails = tt
    may_come (Make place make.Refused) fails = none_refused texts stop bounds makers after each count place size fails
    may_come (Make place make.Memory) fails = tt
    may_come Memory fails = tt

    -- building by them
    module _ (before now : Option (List ℕ)) where
      pub all_written : IsBuilt asked_of GivesRun StaysMakerOf makers count after before now → WritesIndexText before now (collection_of stop texts)
      all_written built = parts_written stop texts built.runs before now (all_inverted built.runs built.made) built.written

      pub may_come_of_building : token_total (collection_of stop texts) ≤ 2 ^ 28 → (error : ByError) → FailsToBuild asked_of GivesRun StaysMakerOf makers count after before now error → MayComeOfBuilding error
      may_come_of_building few (by.Thread worker) fails = tt
      may_come_of_building few (by.Make place make.Refused) fails = none_refused texts stop bounds makers after each count place size fails.0
      may_come_of_building few (by.Make place make.Memory) fails = tt
      may_come_of_building few (by.Merge error) fails = parts_refused stop texts fails.runs before now (all_inverted fails.runs fails.made) few error fails.refused.refusal
      may_come_of_building few by.Memory fails = tt

      pub all_unfinished : (error : ByError) → FailsToBuild asked_of GivesRun StaysMakerOf makers count after before now error → LeavesOwnPart (collection_of stop texts) before now (told_of_building error ≡ build.Write)
      all_unfinished (by.Thread worker) fails = inl fails.1
      all_unfinished (by.Make place error) fails = inl fails.1
      all_unfinished (by.Merge error) fails = parts_unfinished stop texts fails.runs before now (all_inverted fails.runs fails.made) error fails.refused.unfinished
      all_unfinished by.Memory fails = inl fails.1
