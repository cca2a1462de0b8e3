-- Which line the words are, by the matches that `clap` defines for them.
use Rattle.std.specs.Prelude.{◌≡◌, ◌↔◌, ◌⊎◌, ◌^◌, ◌<◌, ◌≤◌, ℕ, Bool, List, [], IsSome, IsTrue, Option, None, Some, codes, find, map, option_and_then, option_map, pos}
use Rattle.std.specs.Option.{option_map_or}
use Rattle.std.specs.Str.{bytes_eq}
use Rattle.std.specs.Str.Parse.{digits_value, without_leading_plus}
use Rattle.std.specs.Borrow.{Bor}
use Rattle.clap.specs.Simple.{subcommand_of, subcommand_rows_of}
use Rattle.clap.specs.Lexer.{without_minus}
use Rattle.clap.specs.Values.{IsSignedIn}
use Rattle.clap.specs.Walk.{Row, Text, all_of, first_of, one_of}
use Rattle.clap.specs.Faults.{fault_of}
use Rattle.clap.specs.Words.{IsAmong, kind_of}
use Rattle.clap.specs.declared.parser.matches.ArgMatches.{ArgMatches}
use Rattle.clap.specs.declared.parser.matches.ValueSource.{ValueSource}
use Rattle.clap.specs.declared.parser.matches.ValueSource.TheVariants.{CommandLine}
use Rattle.ix_build.specs.Blocks.{cut_number}
use Rattle.ix_build.specs.Plans.{PlanValue}
use Rattle.ix_build.specs.declared.plan.Cut.{Cut}
use Rattle.ix_build.specs.declared.plan.Cut.TheVariants.{Bytes, Docs}
use Rattle.ix_line.specs.Commands.{ix_app}
use Rattle.ix_line.specs.declared.line.Line.{Line}
use Rattle.ix_line.specs.declared.line.Line.TheVariants.{Add, Ask, Build, Check, Live, Merge, Remove, Run, Search, Terms, Upgrade}
use Rattle.ix_line.specs.declared.removed.Removed.{Removed}
use Rattle.ix_line.specs.declared.removed.Removed.TheVariants as removed
use Rattle.ix_line.specs.declared.error.LineError.{LineError}
use Rattle.ix_line.specs.declared.error.LineError.TheVariants.{Both, Clap, Memory, NamesOrList}

-- the words behind references
abbrev pub texts_of : List (Bor Text) → List Text
texts_of = map (λ word. word.now)

-- ---- one field

-- the text of an option, or none where the words do not give it
abbrev pub HasText : Text → List Row → Option (Bor Text) → Type 0
HasText id rows field = option_map (λ text. text.now) field ≡ first_of id rows

-- the text of an operand
abbrev pub HasOperand : Text → List Row → Bor Text → Type 0
HasOperand id rows field = first_of id rows ≡ Some field.now

-- the texts of an operand that takes the words up to the end
abbrev pub HasOperands : Text → List Row → List (Bor Text) → Type 0
HasOperands id rows fields = all_of id rows ≡ Some (texts_of fields)

-- where the value of an argument comes from, if it has one: the words, or the argument's default
abbrev pub source_of : Text → List Row → Option ValueSource
source_of id rows = option_and_then (λ r. r.source) (find (λ r. bytes_eq r.id id) rows)

-- whether the words give a flag
abbrev pub HasFlag : Text → List Row → Bool → Type 0
HasFlag id rows field = IsTrue field ↔ (source_of id rows ≡ Some CommandLine)

-- the words give names, or the option `--names` with a file of them, and not both
abbrev pub HasRemoved : List Row → Removed → Type 0
HasRemoved rows (removed.Names names) = HasOperands (codes "NAME") rows names.items × (first_of (codes "names") rows ≡ None)
HasRemoved rows (removed.List path) = HasOperand (codes "names") rows path × (all_of (codes "NAME") rows ≡ None)

-- the number that a text is written as
abbrev pub number_of : Text → ℕ
number_of text = digits_value 10 (without_leading_plus text)

-- the number of an option, or this one where the words do not give it
abbrev pub HasNumberOr : Text → ℕ → List Row → ℕ → Type 0
HasNumberOr id otherwise rows field = field ≡ option_map_or number_of (one_of id rows) otherwise

-- The text that `clap` reads is that of a number in some range, which 32 bits hold.
pub record IsNumberText (text : Text) : Type 0 where
  pub word : Text
  pub low : ℕ
  pub high : ℕ
  pub read : text ≡ without_minus word
  pub small : high < 2 ^ 32
  pub in_range : IsSignedIn (pos low) (pos high) word

-- The text is that of a number in this range.
pub record IsNumberIn (low high : ℕ) (text : Text) : Type 0 where
  pub number : IsNumberText text
  pub above : low ≤ number_of text
  pub below : number_of text ≤ high

-- the number of an option, or none where the words do not give it
abbrev pub given_number : Text → List Row → Option ℕ
given_number id rows = option_map number_of (one_of id rows)

-- the cut into blocks by so many documents or by so many bytes, without both by 1024 documents, and none where both are given
abbrev pub cut_of : Option ℕ → Option ℕ → Option Cut
cut_of (Some documents) (Some bytes) = None
cut_of (Some documents) None = Some (Docs documents)
cut_of None (Some bytes) = Some (Bytes bytes)
cut_of None None = Some (Docs 1024)

-- The plan is that of one of the options `--block` and `--bytes`, with at most 2^28 documents or bytes a block, and of `--workers`,
-- else 4, with its runs in this folder, and without one in memory.
pub record HasPlan (rows : List Row) (folder : Option Text) (plan : PlanValue) : Type 0 where
  pub cut : cut_of (given_number (codes "block") rows) (given_number (codes "bytes") rows) ≡ Some plan.cut
  pub few : cut_number plan.cut ≤ 268435456
  pub workers : HasNumberOr (codes "workers") 4 rows plan.workers
  pub folder_is : plan.folder ≡ folder

-- ---- options and operands that exclude each other

-- the words give `--block` and `--bytes`
abbrev pub HasBoth : List Row → Type 0
HasBoth rows = IsSome (one_of (codes "block") rows) × IsSome (one_of (codes "bytes") rows)

-- the words give a name and `--names`, or neither
abbrev pub HasNamesTwiceOrNever : List Row → Type 0
HasNamesTwiceOrNever rows = (IsSome (all_of (codes "NAME") rows) × IsSome (first_of (codes "names") rows))
    ⊎ ((all_of (codes "NAME") rows ≡ None) × (first_of (codes "names") rows ≡ None))

-- the error is a conflict in what the words give to the command of this name
abbrev pub IsConflict : Text → List Row → LineError → Type 0
IsConflict name rows (Clap e) = ⊥
IsConflict name rows Memory = ⊥
IsConflict name rows Both = HasBoth rows
IsConflict name rows NamesOrList = (name ≡ codes "remove") × HasNamesTwiceOrNever rows

-- ---- a line

-- the line is that of the command with this name, and its fields have what the rows have
abbrev pub Holds : Text → List Row → Line → Type 0
Holds name rows (Ask stop plan collection query) = (name ≡ codes "ask")
    × HasText (codes "stop") rows stop
    × HasPlan rows None plan
    × HasOperand (codes "COLLECTION") rows collection
    × HasOperand (codes "QUERY") rows query
Holds name rows (Build stop plan collection index) = (name ≡ codes "build")
    × HasText (codes "stop") rows stop
    × HasPlan rows (first_of (codes "runs") rows) plan
    × HasOperand (codes "COLLECTION") rows collection
    × HasOperand (codes "INDEX") rows index
Holds name rows (Add stop plan archive collection) = (name ≡ codes "add")
    × HasText (codes "stop") rows stop
    × HasPlan rows None plan
    × HasOperand (codes "ARCHIVE") rows archive
    × HasOperand (codes "COLLECTION") rows collection
Holds name rows (Remove archive names) = (name ≡ codes "remove")
    × HasOperand (codes "ARCHIVE") rows archive
    × HasRemoved rows names
Holds name rows (Live stop plan searchers script) = (name ≡ codes "live")
    × HasText (codes "stop") rows stop
    × HasPlan rows None plan
    × HasNumberOr (codes "searchers") 2 rows searchers
    × HasOperand (codes "SCRIPT") rows script
Holds name rows (Search index query trust) = (name ≡ codes "search")
    × HasOperand (codes "INDEX") rows index
    × HasOperand (codes "QUERY") rows query
    × HasFlag (codes "trust") rows trust
Holds name rows (Terms index pattern trust) = (name ≡ codes "terms")
    × HasOperand (codes "INDEX") rows index
    × HasOperand (codes "PATTERN") rows pattern
    × HasFlag (codes "trust") rows trust
Holds name rows (Check paths) = (name ≡ codes "check")
    × HasOperands (codes "INDEX") rows paths.items
Holds name rows (Run stop first collection run) = (name ≡ codes "run")
    × HasText (codes "stop") rows stop
    × HasNumberOr (codes "first") 0 rows first
    × HasOperand (codes "COLLECTION") rows collection
    × HasOperand (codes "RUN") rows run
    × (first ≤ 268435456)
Holds name rows (Merge index inputs) = (name ≡ codes "merge")
    × HasOperand (codes "INDEX") rows index
    × HasOperands (codes "INPUT") rows inputs.items
Holds name rows (Upgrade old new) = (name ≡ codes "upgrade")
    × HasOperand (codes "OLD") rows old
    × HasOperand (codes "NEW") rows new

-- `clap` has no fault to find with the words, and they name a command with these matches
abbrev pub Names : List Text → Text → List Row → Type 0
Names words name rows =
    (fault_of ix_app words ≡ []) × (subcommand_of ix_app words ≡ Some (name, rows))

-- the words name a command, and the error is a conflict in what they give to it
abbrev pub Conflicts : List Text → LineError → Type 0
Conflicts words e = (name : Text) × (rows : List Row) × Names words name rows × IsConflict name rows e

-- the error is why a command's rows are no line: memory ran out, or they have a conflict
abbrev pub RefusesRows : Text → List Row → LineError → Type 0
RefusesRows name rows Memory = Unit {0}
RefusesRows name rows e = IsConflict name rows e

-- the words are the line
abbrev pub Reads : List Text → Line → Type 0
Reads words line =
    (name : Text) × (rows : List Row) × Names words name rows × Holds name rows line

-- the error has one of the kinds of `clap`'s faults of the words, memory ran out, or what they give to a command has a conflict
abbrev pub Refuses : List Text → LineError → Type 0
Refuses words (Clap e) = IsAmong (kind_of e) (fault_of ix_app words)
Refuses words Memory = Unit {0}
Refuses words e = Conflicts words e

-- the matches of words with no fault
abbrev pub IsMatched : List Text → ArgMatches → Type 0
IsMatched words m =
    (fault_of ix_app words ≡ []) × (subcommand_rows_of m ≡ subcommand_of ix_app words)
