use Rattle.ix_live.proofs.Agreeing.{reads}
use Rattle.ix_live.proofs.show.take_edition.Goals as goal

pub enter_as-requires : goal.enter_as-requires
enter_as-requires c = reads _ _
