-- Arguments and commands that are added in turn.
use Rattle.std.proofs.Common.{◌≡◌, ◌∙◌, ℕ, ◌+◌, ◌<◌, ap, ap₂, subst, sym, ◌||◌, List, [], ◌∷◌, ◌++◌, get_or, length, take, append-nil, append_assoc}
use Rattle.std.proofs.lemmas.List.{take_more}
use Rattle.std.specs.Prelude.{fold, map, true}
use Rattle.std.specs.List.{AllZip}
use Rattle.clap.specs.Built.{AddsArg, AddsInTurn, AddsSubcommand}
use Rattle.clap.specs.Simple.{App, app_of, app_of_fields, new_app, on_top, with_rule, with_subcommand}
use Rattle.clap.specs.Walk.{Rule}
use Rattle.clap.specs.declared.builder.arg.Arg.{Arg}
use Rattle.clap.specs.declared.builder.command.Command.{Command}
use Rattle.clap.specs.declared.builder.command.Command.TheViews.{out-Command as fields_of}
use Rattle.ix_line.specs.Building.{IsArgument, IsCommand}
use Rattle.ix_line.specs.Commands.{leaf}
use Rattle.ix_line.specs.Forms.{rule_of_argument, shape_of_form}
use Rattle.ix_line.specs.declared.commands.Argument.{Argument}
use Rattle.ix_line.specs.declared.commands.Form.{Form}

-- one more argument adds its rule
adds_argument : {old new : Command} {a : Arg} {app : App} {rule : Rule} → AddsArg old a new → IsCommand app old → IsArgument rule a → IsCommand (with_rule app rule) new
adds_argument {rule} adds old argument = record {
  app_is = adds.shape argument.local ∙ ap₂ with_rule old.app_is argument.rule_is;
  local = adds.globals ∙ ap₂ (λ x y. x || y) old.local argument.local;
}

-- two lists of which one has what the other asks for, one more
each_push : {X Y : Type 0} (R : X → Y → Type 0) (xs : List X) (ys : List Y) (x : X) (y : Y) → AllZip R xs ys → R x y → AllZip R (xs ++ x ∷ []) (ys ++ y ∷ [])
each_push R [] [] x y all r = (r, tt)
each_push R [] (b ∷ ys) x y all r = absurd all
each_push R (a ∷ xs) [] x y all r = absurd all
each_push R (a ∷ xs) (b ∷ ys) x y all r = (all.0, each_push R xs ys x y all.1 r)

pub each_more : {X Y : Type 0} (R : X → Y → Type 0) (xs : List X) (ys : List Y) (i : ℕ) (d : X) (y : Y) → i < length xs → AllZip R (take i xs) ys → R (get_or xs i d) y → AllZip R (take (i + 1) xs) (ys ++ y ∷ [])
each_more {X} R xs ys i d y within all r =
    subst (λ (zs : List X). AllZip R zs (ys ++ y ∷ [])) (sym (take_more xs i d within)) (each_push R (take i xs) ys (get_or xs i d) y all r)

abbrev pub IsArgumentOf : Argument → Arg → Type 0
IsArgumentOf argument = IsArgument (rule_of_argument argument)

abbrev pub IsCommandOf : Form → Command → Type 0
IsCommandOf form = IsCommand (leaf (shape_of_form form))

-- arguments add their rules
adds_arguments : (arguments : List Argument) (args : List Arg) (old new : Command) (app : App) → AllZip IsArgumentOf arguments args → IsCommand app old → AddsInTurn AddsArg old args new
    → IsCommand (fold with_rule app (map rule_of_argument arguments)) new
adds_arguments [] [] old new app are is adds = subst (IsCommand app) adds is
adds_arguments [] (a ∷ args) old new app are is adds = absurd are
adds_arguments (x ∷ arguments) [] old new app are is adds = absurd are
adds_arguments (x ∷ arguments) (a ∷ args) old new app are is adds =
    adds_arguments arguments args adds.0 new (with_rule app (rule_of_argument x)) are.1 (adds_argument adds.1 is are.0) adds.2

rules_added : (app : App) (rules : List Rule) → fold with_rule app rules ≡ on_top (λ s. record s { rules = s.rules ++ rules }) app
rules_added app [] = ap (λ (rules : List Rule). on_top (λ s. record s { rules = rules }) app) (sym (append-nil app.top.rules))
rules_added app (r ∷ rules) =
    rules_added (with_rule app r) rules ∙ ap (λ (rules : List Rule). on_top (λ s. record s { rules = rules }) app) (append_assoc app.top.rules (r ∷ []) rules)

-- a command with the arguments of its row is the row's
pub is_of_form : (form : Form) (args : List Arg) (old new : Command) → AllZip IsArgumentOf form.arguments.now args → IsCommand (new_app form.name.now) old → AddsInTurn AddsArg old args new → IsCommandOf form new
is_of_form form args old new are is adds =
    let rules = map rule_of_argument form.arguments.now in
    subst (λ (app : App). IsCommand app new) (rules_added (new_app form.name.now) rules) (adds_arguments form.arguments.now args old new (new_app form.name.now) are is adds)

-- one more command below adds its shape
adds_subcommand : {old sub new : Command} {app : App} {below : App} → AddsSubcommand old sub new → app_of old ≡ app → IsCommand below sub → app_of new ≡ with_subcommand app below.top
adds_subcommand adds old below = adds.shape below.local ∙ ap₂ with_subcommand old (ap (λ (a : App). a.top) below.app_is)

-- commands add theirs
pub adds_subcommands : (forms : List Form) (subs : List Command) (old new : Command) (app : App) → AllZip IsCommandOf forms subs → app_of old ≡ app → AddsInTurn AddsSubcommand old subs new
    → app_of new ≡ fold with_subcommand app (map shape_of_form forms)
adds_subcommands [] [] old new app are is adds = subst (λ c. app_of c ≡ app) adds is
adds_subcommands [] (c ∷ subs) old new app are is adds = absurd are
adds_subcommands (x ∷ forms) [] old new app are is adds = absurd are
adds_subcommands (x ∷ forms) (c ∷ subs) old new app are is adds =
    adds_subcommands forms subs adds.0 new (with_subcommand app (shape_of_form x)) are.1 (adds_subcommand adds.1 is are.0) adds.2

-- a setting changes its own field alone, and a parse does not read the texts
pub takes_no_name : (old new : Command) → fields_of new ≡ record (fields_of old) { no_binary_name = true }
    → app_of new ≡ on_top (λ s. record s { no_binary_name = true }) (app_of old)
takes_no_name old new changes = ap app_of_fields changes

pub has_no_command_help : (old new : Command) → fields_of new ≡ record (fields_of old) { disable_help_subcommand = true }
    → app_of new ≡ on_top (λ s. record s { disable_help_subcommand = true }) (app_of old)
has_no_command_help old new changes = ap app_of_fields changes

pub wants_a_command : (old new : Command) → fields_of new ≡ record (fields_of old) { subcommand_required = true }
    → app_of new ≡ on_top (λ s. record s { subcommand_required = true }) (app_of old)
wants_a_command old new changes = ap app_of_fields changes
