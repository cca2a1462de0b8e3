-- Help: which words ask for it, and what is printed.
use Rattle.std.specs.Prelude.{List, [], ◌∷◌, ◌++◌, codes, if◌then◌else◌}
use Rattle.std.specs.Str.{bytes_eq}
use Rattle.clap.specs.Walk.{Text}
use Rattle.clap.specs.Faults.{fault_of}
use Rattle.clap.specs.Words.{IsAmong}
use Rattle.clap.specs.declared.error.kind.ErrorKind.TheVariants.{DisplayHelp}
use Rattle.ix_line.specs.Commands.{ix_app}
use Rattle.ix_line.specs.declared.help.TheConstants.{HELP, HELP_ON_ADD, HELP_ON_ASK, HELP_ON_BUILD, HELP_ON_CHECK, HELP_ON_LIVE, HELP_ON_MERGE, HELP_ON_REMOVE, HELP_ON_RUN, HELP_ON_SEARCH, HELP_ON_TERMS, HELP_ON_UPGRADE}

-- `help X` is `X --help`
abbrev pub as_flag : List Text → List Text
as_flag [] = []
as_flag (first ∷ rest) = if bytes_eq first (codes "help") then rest ++ codes "--help" ∷ [] else first ∷ rest

-- the words ask for help
abbrev pub AsksForHelp : List Text → Type 0
AsksForHelp words = IsAmong DisplayHelp (fault_of ix_app words)

-- the help on the command of this name, and else on the program
unfoldable pub help_on_command : Text → Text
help_on_command name =
    if bytes_eq name (codes "ask") then HELP_ON_ASK.now else
    if bytes_eq name (codes "search") then HELP_ON_SEARCH.now else
    if bytes_eq name (codes "terms") then HELP_ON_TERMS.now else
    if bytes_eq name (codes "check") then HELP_ON_CHECK.now else
    if bytes_eq name (codes "run") then HELP_ON_RUN.now else
    if bytes_eq name (codes "merge") then HELP_ON_MERGE.now else
    if bytes_eq name (codes "upgrade") then HELP_ON_UPGRADE.now else
    if bytes_eq name (codes "build") then HELP_ON_BUILD.now else
    if bytes_eq name (codes "add") then HELP_ON_ADD.now else
    if bytes_eq name (codes "remove") then HELP_ON_REMOVE.now else
    if bytes_eq name (codes "live") then HELP_ON_LIVE.now else HELP.now

-- the help that the first word asks for
unfoldable pub help_of : List Text → Text
help_of [] = HELP.now
help_of (first ∷ rest) = help_on_command first
