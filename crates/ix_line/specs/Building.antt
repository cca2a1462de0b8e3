-- What the functions that make `clap`'s arguments and commands give.
use Rattle.std.specs.Prelude.{◌≡◌, false}
use Rattle.clap.specs.Simple.{App, app_of}
use Rattle.clap.specs.Walk.{Rule, rule_of}
use Rattle.clap.specs.declared.builder.command.Command.TheViews.{out-Command as fields_of}
use Rattle.clap.specs.declared.builder.arg.Arg.{Arg}
use Rattle.clap.specs.declared.builder.command.Command.{Command}

-- an argument of one command, with this rule
pub record IsArgument (rule : Rule) (a : Arg) : Type 0 where
  pub rule_is : rule_of a ≡ rule
  pub local : a.global ≡ false

-- a command of which a parse reads this
pub record IsCommand (app : App) (c : Command) : Type 0 where
  pub app_is : app_of c ≡ app
  pub local : (fields_of c).has_globals ≡ false
