-- The commands of the program, with their options and operands, as `clap` reads them.
use Rattle.std.specs.Prelude.{◌∷◌, [], ℤ, List, Some, codes, fold, pos, true}
use Rattle.clap.specs.Lexer.{usize_max}
use Rattle.clap.specs.Simple.{App, Shape, built, new_app, new_rule, new_shape, with_subcommand}
use Rattle.clap.specs.Walk.{Rule, Text}
use Rattle.clap.specs.declared.builder.action.ArgAction.TheVariants.{SetTrue}
use Rattle.clap.specs.declared.builder.value_parser.ValueParser.TheVariants.{Signed}

-- `--name VALUE` or `--name=VALUE`, which may be left out
abbrev pub option_rule : Text → Rule
option_rule name = record (new_rule name) { long = Some name; value_names = 1 }

-- the same, where the value is a number in a range
abbrev pub number_rule : Text → ℤ → ℤ → Rule
number_rule name low high = record (option_rule name) { parser = Some (Signed low high) }

-- `--name`
abbrev pub flag_rule : Text → Rule
flag_rule name = record (new_rule name) { long = Some name; action = Some SetTrue }

-- a word in its place, which may not be left out
abbrev pub operand_rule : Text → Rule
operand_rule name = record (new_rule name) { required = true }

-- the words up to the end, which may all be left out
abbrev pub words_rule : Text → Rule
words_rule name = record (new_rule name) {
  range = Some (record { start_inclusive = 1; end_inclusive = usize_max });
}

-- the words up to the end, of which one may not be left out
abbrev pub operands_rule : Text → Rule
operands_rule name = record (words_rule name) { required = true }

-- these rules behind those of a stop file and of a plan: `[--stop FILE] [--block N] [--bytes N] [--workers W]`
abbrev pub with_plan_rules : List Rule → List Rule
with_plan_rules rest =
    option_rule (codes "stop")
    ∷ number_rule (codes "block") (pos 1) (pos 268435456)
    ∷ number_rule (codes "bytes") (pos 1) (pos 268435456)
    ∷ number_rule (codes "workers") (pos 1) (pos 64)
    ∷ rest

-- `ask [--stop FILE] [--block N] [--bytes N] [--workers W] COLLECTION QUERY`
abbrev pub ask_shape : Shape
ask_shape = record (new_shape (codes "ask")) {
  rules = with_plan_rules (
      operand_rule (codes "COLLECTION")
      ∷ operand_rule (codes "QUERY")
      ∷ []);
}

-- `build [--stop FILE] [--block N] [--bytes N] [--workers W] [--runs FOLDER] COLLECTION INDEX`
abbrev pub build_shape : Shape
build_shape = record (new_shape (codes "build")) {
  rules = with_plan_rules (
      option_rule (codes "runs")
      ∷ operand_rule (codes "COLLECTION")
      ∷ operand_rule (codes "INDEX")
      ∷ []);
}

-- `add [--stop FILE] [--block N] [--bytes N] [--workers W] ARCHIVE COLLECTION`
abbrev pub add_shape : Shape
add_shape = record (new_shape (codes "add")) {
  rules = with_plan_rules (
      operand_rule (codes "ARCHIVE")
      ∷ operand_rule (codes "COLLECTION")
      ∷ []);
}

-- `remove [--names FILE] ARCHIVE [NAME...]`
abbrev pub remove_shape : Shape
remove_shape = record (new_shape (codes "remove")) {
  rules = option_rule (codes "names")
      ∷ operand_rule (codes "ARCHIVE")
      ∷ words_rule (codes "NAME")
      ∷ [];
}

-- `live [--stop FILE] [--block N] [--bytes N] [--workers W] [--searchers S] SCRIPT`
abbrev pub live_shape : Shape
live_shape = record (new_shape (codes "live")) {
  rules = with_plan_rules (
      number_rule (codes "searchers") (pos 1) (pos 64)
      ∷ operand_rule (codes "SCRIPT")
      ∷ []);
}

-- `search [--trust] INDEX QUERY`
abbrev pub search_shape : Shape
search_shape = record (new_shape (codes "search")) {
  rules = flag_rule (codes "trust")
      ∷ operand_rule (codes "INDEX")
      ∷ operand_rule (codes "QUERY")
      ∷ [];
}

-- `terms [--trust] INDEX PATTERN`
abbrev pub terms_shape : Shape
terms_shape = record (new_shape (codes "terms")) {
  rules = flag_rule (codes "trust")
      ∷ operand_rule (codes "INDEX")
      ∷ operand_rule (codes "PATTERN")
      ∷ [];
}

-- `check INDEX...`
abbrev pub check_shape : Shape
check_shape = record (new_shape (codes "check")) { rules = operands_rule (codes "INDEX") ∷ [] }

-- `run [--stop FILE] [--first D] COLLECTION RUN`
abbrev pub run_shape : Shape
run_shape = record (new_shape (codes "run")) {
  rules = option_rule (codes "stop")
      ∷ number_rule (codes "first") (pos 0) (pos 268435456)
      ∷ operand_rule (codes "COLLECTION")
      ∷ operand_rule (codes "RUN")
      ∷ [];
}

-- `merge INDEX INPUT...`
abbrev pub merge_shape : Shape
merge_shape = record (new_shape (codes "merge")) {
  rules = operand_rule (codes "INDEX")
      ∷ operands_rule (codes "INPUT")
      ∷ [];
}

-- `upgrade OLD NEW`
abbrev pub upgrade_shape : Shape
upgrade_shape = record (new_shape (codes "upgrade")) {
  rules = operand_rule (codes "OLD")
      ∷ operand_rule (codes "NEW")
      ∷ [];
}

-- a command with no command below it
abbrev pub leaf : Shape → App
leaf s = record { top = s; subs = [] }

-- the words after the program's name are given, one of its commands has to be named, and there is
-- no command `help`
abbrev pub program : App
program = record (new_app (codes "ix")) {
  top = record (new_shape (codes "ix")) {
    no_binary_name = true;
    disable_help_subcommand = true;
    subcommand_required = true;
  };
}

-- the commands, in their order
abbrev pub ix_shapes : List Shape
ix_shapes =
    ask_shape
    ∷ search_shape
    ∷ terms_shape
    ∷ check_shape
    ∷ run_shape
    ∷ merge_shape
    ∷ upgrade_shape
    ∷ build_shape
    ∷ add_shape
    ∷ remove_shape
    ∷ live_shape
    ∷ []

-- the program with its commands
unfoldable pub ix_app : App
ix_app = fold with_subcommand program ix_shapes

-- the same with the help flag at both levels and what the rules left out
abbrev pub ix_built : App
ix_built = built ix_app
