use Rattle.std.proofs.Common.{All, List, sym, subst}
use Rattle.std.proofs.lemmas.List.Elements.{All-push}
use Rattle.ix_run.specs.Reading.{HasRead}
use Rattle.ix_run.specs.Sources.{IsUnread}
use Rattle.ix_run.specs.RunReader.{RunReader}
use Rattle.ix_tests_merge.proofs.merging.opened.Goals as goal

pub loop-reader-preserved : goal.loop-reader-preserved
loop-reader-preserved g c =
    let P : List (RunReader g.row.R.Denot) → Type 0 = λ sources. All (IsUnread HasRead) sources in
    subst P (sym c.in_ok-push.ensures.items) (All-push (IsUnread HasRead) c.loop-reader.sources.items c.in_ok-open.field-0 c.loop-reader.invariant c.in_ok-open.ensures.unread)
