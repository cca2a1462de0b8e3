-- Worked rows: the fields of some lines, and the faults of some words that are none.
use Rattle.std.specs.Prelude.{◌≡◌, List, [], ◌∷◌, Option, Some, None, codes, option_map}
use Rattle.clap.specs.Simple.{subcommand_of}
use Rattle.clap.specs.Walk.{Row, Text, all_of, first_of}
use Rattle.clap.specs.Faults.{fault_of}
use Rattle.clap.specs.declared.error.kind.ErrorKind.{ErrorKind}
use Rattle.clap.specs.declared.error.kind.ErrorKind.TheVariants as kind
use Rattle.clap.specs.declared.parser.matches.ValueSource.{ValueSource}
use Rattle.clap.specs.declared.parser.matches.ValueSource.TheVariants.{CommandLine, DefaultValue}
use Rattle.ix_line.specs.Commands.{ix_app}
use Rattle.ix_line.specs.Lines.{source_of}

abbrev pub c : Text
c = codes "c.txt"

abbrev pub q : Text
q = codes "red"

abbrev pub ask : Text
ask = codes "ask"

abbrev pub look : Text
look = codes "search"

abbrev pub trust : Text
trust = codes "--trust"

abbrev pub drop : Text
drop = codes "remove"

abbrev pub list : Text
list = codes "--names=n.txt"

-- the name of the command and the fields of `ask`
abbrev pub ask_fields : Text × List Row → Text × Option Text × Option Text × Option Text
ask_fields named = (
  named.0,
  first_of (codes "stop") named.1,
  first_of (codes "COLLECTION") named.1,
  first_of (codes "QUERY") named.1,
)

-- the name of the command and the fields of `search`
abbrev pub search_fields : Text × List Row → Text × Option ValueSource × Option Text × Option Text
search_fields named = (
  named.0,
  source_of (codes "trust") named.1,
  first_of (codes "INDEX") named.1,
  first_of (codes "QUERY") named.1,
)

-- the name of the command and the fields of `remove`
abbrev pub remove_fields : Text × List Row → Text × Option Text × Option (List Text) × Option Text
remove_fields named = (
  named.0,
  first_of (codes "ARCHIVE") named.1,
  all_of (codes "NAME") named.1,
  first_of (codes "names") named.1,
)

-- the words have no fault, and are `ask` with these fields
abbrev pub IsAsk : List Text → Option Text → Text → Text → Type 0
IsAsk words stop collection query = (fault_of ix_app words ≡ [])
    × (option_map ask_fields (subcommand_of ix_app words)
    ≡ Some (codes "ask", stop, Some collection, Some query))

-- the words have no fault, and are `search` with this index and query, and `--trust` comes from there
abbrev pub IsSearch : List Text → ValueSource → Type 0
IsSearch words source = (fault_of ix_app words ≡ [])
    × (option_map search_fields (subcommand_of ix_app words)
    ≡ Some (look, Some source, Some c, Some q))

-- the words have no fault, and are `remove` of an archive with these names and this file of names
abbrev pub IsRemove : List Text → Option (List Text) → Option Text → Type 0
IsRemove words names path = (fault_of ix_app words ≡ [])
    × (option_map remove_fields (subcommand_of ix_app words)
    ≡ Some (drop, Some c, names, path))

-- the words have a fault, of this kind
abbrev pub IsFault : List Text → ErrorKind → Type 0
IsFault words k = fault_of ix_app words ≡ k ∷ []

-- the option may stand anywhere, with `=` or with a word of its own, and after `--` a word that
-- begins with a hyphen is an operand
pub record WorkedLines : Type 0 where
  pub plain : IsAsk (ask ∷ c ∷ q ∷ []) None c q
  pub equals : IsAsk (ask ∷ codes "--stop=s.txt" ∷ c ∷ q ∷ []) (Some (codes "s.txt")) c q
  pub apart : IsAsk (ask ∷ codes "--stop" ∷ codes "s.txt" ∷ c ∷ q ∷ []) (Some (codes "s.txt")) c q
  pub last : IsAsk (ask ∷ c ∷ q ∷ codes "--stop=s.txt" ∷ []) (Some (codes "s.txt")) c q
  pub hyphen : IsAsk (ask ∷ c ∷ codes "--" ∷ codes "-x" ∷ []) None c (codes "-x")
  pub empty : IsAsk (ask ∷ c ∷ [] ∷ []) None c []

-- the flag may stand anywhere, and without it the line has what the flag's default says
pub record WorkedFlags : Type 0 where
  pub absent : IsSearch (look ∷ c ∷ q ∷ []) DefaultValue
  pub first : IsSearch (look ∷ trust ∷ c ∷ q ∷ []) CommandLine
  pub between : IsSearch (look ∷ c ∷ trust ∷ q ∷ []) CommandLine
  pub last : IsSearch (look ∷ c ∷ q ∷ trust ∷ []) CommandLine

-- names may be left out, and may come with the option or without it
pub record WorkedNames : Type 0 where
  pub one : IsRemove (drop ∷ c ∷ q ∷ []) (Some (q ∷ [])) None
  pub two : IsRemove (drop ∷ c ∷ q ∷ ask ∷ []) (Some (q ∷ ask ∷ [])) None
  pub hyphen : IsRemove (drop ∷ c ∷ codes "--" ∷ codes "-x" ∷ []) (Some (codes "-x" ∷ [])) None
  pub listed : IsRemove (drop ∷ list ∷ c ∷ []) None (Some (codes "n.txt"))
  pub last : IsRemove (drop ∷ c ∷ list ∷ []) None (Some (codes "n.txt"))
  pub both : IsRemove (drop ∷ c ∷ q ∷ list ∷ []) (Some (q ∷ [])) (Some (codes "n.txt"))
  pub neither : IsRemove (drop ∷ c ∷ []) None None

pub record WorkedFaults : Type 0 where
  pub no_words : IsFault [] kind.MissingSubcommand
  pub no_operands : IsFault (ask ∷ []) kind.MissingRequiredArgument
  pub one_operand : IsFault (ask ∷ c ∷ []) kind.MissingRequiredArgument
  pub stray : IsFault (ask ∷ c ∷ q ∷ q ∷ []) kind.UnknownArgument
  pub unknown : IsFault (ask ∷ codes "--all" ∷ c ∷ q ∷ []) kind.UnknownArgument
  pub twice : IsFault (ask ∷ codes "--stop=s" ∷ codes "--stop=s" ∷ c ∷ q ∷ []) kind.ArgumentConflict
  pub no_value : IsFault (ask ∷ c ∷ q ∷ codes "--stop" ∷ []) kind.InvalidValue
  pub flag_twice : IsFault (look ∷ trust ∷ trust ∷ c ∷ q ∷ []) kind.ArgumentConflict
  pub flag_value : IsFault (look ∷ codes "--trust=yes" ∷ c ∷ q ∷ []) kind.TooManyValues
  pub no_archive : IsFault (drop ∷ list ∷ []) kind.MissingRequiredArgument
  pub help : IsFault (codes "--help" ∷ []) kind.DisplayHelp
  pub help_of_ask : IsFault (ask ∷ codes "-h" ∷ []) kind.DisplayHelp
