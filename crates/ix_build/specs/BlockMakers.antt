-- Makers of the blocks of one list of texts.
use Rattle.std.specs.Prelude.{◌≡◌, ℕ, List, map}
use Rattle.ix_text.specs.Collections.{NamedText}
use Rattle.ix_text.specs.Docs.{named_text}
use Rattle.ix_build.specs.declared.block_maker.BlockMaker.{BlockMaker}

-- The maker makes the blocks of these texts between these bounds, under this stop set.
pub record IsMakerOf {V : Type 0} (texts : List NamedText) (stop : List (List ℕ)) (bounds : List ℕ) (maker : BlockMaker V) : Type 0 where
  pub texts_are : map named_text maker.docs.now ≡ texts
  pub stop_is : maker.stop.now ≡ stop
  pub bounds_are : maker.bounds.now ≡ bounds
