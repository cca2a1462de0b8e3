-- A command that was entered is one of those matched above.
use Rattle.std.proofs.Common.{codes}
use Rattle.ix_line.specs.Commands.{ix_app, ix_built}
use Rattle.ix_line.proofs.Rows.{another, not_entered}
use Rattle.ix_line.proofs.line.line_of.Goals as goal

pub unreachable-requires : goal.unreachable-requires
unfolding ix_app
unreachable-requires c = not_entered ix_built c.args.name.now _ (another (codes "ask") _ c.in_default.not-ask, (another (codes "search") _ c.in_default.not-search, (another (codes "terms") _ c.in_default.not-terms, (another (codes "check") _ c.in_default.not-check, (another (codes "run") _ c.in_default.not-run, (another (codes "merge") _ c.in_default.not-merge, (another (codes "upgrade") _ c.in_default.not-upgrade, (another (codes "build") _ c.in_default.not-build, (another (codes "add") _ c.in_default.not-add, (another (codes "remove") _ c.in_default.not-remove, (another (codes "live") _ c.in_default.not-live, tt))))))))))) c.requires
