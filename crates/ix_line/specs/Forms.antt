-- The table of the commands: the rule of an argument, and the command of a row.
use Rattle.std.specs.Prelude.{map}
use Rattle.clap.specs.Simple.{Shape, new_shape}
use Rattle.clap.specs.Walk.{Rule}
use Rattle.ix_line.specs.Commands.{flag_rule, number_rule, operand_rule, operands_rule, option_rule, words_rule}
use Rattle.ix_line.specs.declared.commands.Argument.{Argument}
use Rattle.ix_line.specs.declared.commands.Argument.TheVariants.{Flag, Number, Operand, Operands, Text, Words}
use Rattle.ix_line.specs.declared.commands.Form.{Form}

-- the rule of an argument
abbrev pub rule_of_argument : Argument → Rule
rule_of_argument (Text name) = option_rule name.now
rule_of_argument (Number name low high) = number_rule name.now low high
rule_of_argument (Flag name) = flag_rule name.now
rule_of_argument (Operand name) = operand_rule name.now
rule_of_argument (Operands name) = operands_rule name.now
rule_of_argument (Words name) = words_rule name.now

-- the command of a row, with the rules of its arguments
abbrev pub shape_of_form : Form → Shape
shape_of_form form = record (new_shape form.name.now) { rules = map rule_of_argument form.arguments.now }
