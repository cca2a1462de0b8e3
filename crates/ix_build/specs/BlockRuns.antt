-- Runs of blocks, and makers of them.
use Rattle.std.specs.Prelude.{◌≡◌, ◌≢◌, ℕ, ◌+◌, ◌<◌, List, ◌++◌, map, length, All, Some, slice_get, slice_range}
use Rattle.ix_text.specs.Collections.{NamedText, collection_of}
use Rattle.ix_text.specs.Docs.{named_text}
use Rattle.ix_run.specs.Runs.{RunValue, IsRunOf}
use Rattle.ix_build.specs.declared.block_maker.BlockMaker.{BlockMaker}
use Rattle.ix_pool.specs.declared.maker.MakeError.TheVariants.{Refused}
use Rattle.ix_pool.specs.declared.maker.Asked.{Asked}
use Rattle.ix_pool.specs.Shares.{gained}

-- The run is that of a block under the stop set: of the texts from the bound of that place up to the next one, numbered
-- from that bound.
pub record IsRunOfBlock (texts : List NamedText) (stop : List (List ℕ)) (bounds : List ℕ) (place : ℕ) (run : RunValue) : Type 0 where
  pub from : ℕ
  pub to : ℕ
  pub begins : slice_get bounds place ≡ Some from
  pub ends : slice_get bounds (place + 1) ≡ Some to
  pub of_block : IsRunOf run from (collection_of stop (slice_range texts from to))

-- a run that a maker of blocks may give for a place
abbrev pub GivesRun : {V : Type 0} → BlockMaker V → ℕ → RunValue → Type 0
GivesRun maker place run = IsRunOfBlock (map named_text maker.docs.now) maker.stop.now maker.bounds.now place run

-- not a refused block: the place has none, or the error is another
abbrev pub RefusesNoBlock : List ℕ → Asked → Type 0
RefusesNoBlock bounds asked = asked.place + 1 < length bounds → asked.error ≢ Some Refused

-- The same maker, later: of the same documents, stop list and bounds, with further askings that refused no block.
pub record StaysMakerOf {V : Type 0} (old new : BlockMaker V) : Type 0 where
  pub docs : new.docs.now ≡ old.docs.now
  pub stop : new.stop.now ≡ old.stop.now
  pub bounds : new.bounds.now ≡ old.bounds.now
  pub grown : new.asked.items ≡ old.asked.items ++ gained old.asked.items new.asked.items
  pub none_refused : All (RefusesNoBlock old.bounds.now) (gained old.asked.items new.asked.items)
