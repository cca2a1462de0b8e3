use Rattle.std.proofs.Common.{◌≡◌}
use Rattle.ix_live.specs.Identities.{shown_in}
use Rattle.ix_live.proofs.Agreeing.{goes_on_same, turns}
use Rattle.ix_live.proofs.show.open_copies.Goals as goal

pub publish_as-writer-requires : goal.publish_as-writer-requires
publish_as-writer-requires g c next is =
    let writer = c.in_ok-writer.writer in
    let same : shown_in next ≡ shown_in writer.desk.shown.value = rw c.in_ok-writer.ensures.1 at is in
    turns _ _ writer.desk.shown.value next (goes_on_same (shown_in writer.desk.shown.value) (shown_in next) same)
