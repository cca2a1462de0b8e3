-- Each argument adds its rule.
use Rattle.std.proofs.Common.{◌+◌, List, arith, subst, sym, take}
use Rattle.std.proofs.lemmas.List.{take_all}
use Rattle.std.specs.List.{AllZip}
use Rattle.clap.specs.declared.builder.arg.Arg.{Arg}
use Rattle.ix_line.specs.declared.commands.Argument.{Argument}
use Rattle.ix_line.proofs.Building.{IsArgumentOf, each_more, is_of_form}
use Rattle.ix_line.proofs.commands.command.Goals as goal

pub loop-argument-preserved : goal.loop-argument-preserved
loop-argument-preserved c =
    let arguments = c.args.form.now.arguments.now in
    let i = c.loop-argument.argument-index in
    let more = each_more IsArgumentOf arguments c.loop-argument.arguments.items i _ c.arg.result c.loop-argument-test.true c.loop-argument.invariant c.arg.ensures in
    subst (λ (made : List Arg). AllZip IsArgumentOf (take (i + 1) arguments) made) (sym {A = List Arg} c.in_ok-push.ensures.items) more

pub returns : goal.returns
returns c =
    let arguments = c.args.form.now.arguments.now in
    let all = subst (λ (xs : List Argument). AllZip IsArgumentOf xs c.loop-argument.arguments.items) (take_all c.loop-argument.argument-index arguments (omega (arith, c.loop-argument-test.false))) c.loop-argument.invariant in
    is_of_form c.args.form.now c.loop-argument.arguments.items c.new.result c.in_ok-made.made all (record { app_is = c.new.ensures.app; local = c.new.ensures.local }) c.in_ok-made.ensures
