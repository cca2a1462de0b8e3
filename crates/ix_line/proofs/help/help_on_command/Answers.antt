-- A name of no command has the help on the program.
use Rattle.std.proofs.Common.{codes, sym, ◌∙◌}
use Rattle.ix_line.specs.Help.{help_on_command}
use Rattle.ix_line.specs.declared.help.TheConstants.{HELP, HELP_ON_ADD, HELP_ON_ASK, HELP_ON_BUILD, HELP_ON_CHECK, HELP_ON_LIVE, HELP_ON_MERGE, HELP_ON_REMOVE, HELP_ON_RUN, HELP_ON_SEARCH, HELP_ON_TERMS, HELP_ON_UPGRADE}
use Rattle.ix_line.proofs.HelpLemmas.{otherwise}
use Rattle.ix_line.proofs.help.help_on_command.Goals as goal

pub returns-in_default : goal.returns-in_default
unfolding help_on_command
returns-in_default c =
    let name = c.args.name.now in
    sym (otherwise name (codes "ask") HELP_ON_ASK.now _ c.in_default.not-ask ∙ otherwise name (codes "search") HELP_ON_SEARCH.now _ c.in_default.not-search
    ∙ otherwise name (codes "terms") HELP_ON_TERMS.now _ c.in_default.not-terms
    ∙ otherwise name (codes "check") HELP_ON_CHECK.now _ c.in_default.not-check
    ∙ otherwise name (codes "run") HELP_ON_RUN.now _ c.in_default.not-run
    ∙ otherwise name (codes "merge") HELP_ON_MERGE.now _ c.in_default.not-merge ∙ otherwise name (codes "upgrade") HELP_ON_UPGRADE.now _ c.in_default.not-upgrade
    ∙ otherwise name (codes "build") HELP_ON_BUILD.now _ c.in_default.not-build
    ∙ otherwise name (codes "add") HELP_ON_ADD.now _ c.in_default.not-add
    ∙ otherwise name (codes "remove") HELP_ON_REMOVE.now _ c.in_default.not-remove
    ∙ otherwise name (codes "live") HELP_ON_LIVE.now HELP.now c.in_default.not-live)
