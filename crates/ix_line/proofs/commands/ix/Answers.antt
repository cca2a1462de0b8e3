-- Each row adds its command.
use Rattle.std.proofs.Common.{◌∙◌, ◌+◌, List, ap, arith, subst, sym, take}
use Rattle.std.proofs.lemmas.List.{take_all}
use Rattle.std.specs.Prelude.{fold}
use Rattle.std.specs.List.{AllZip}
use Rattle.clap.specs.Simple.{with_subcommand}
use Rattle.clap.specs.declared.builder.command.Command.{Command}
use Rattle.ix_line.specs.Commands.{ix_app, program}
use Rattle.ix_line.specs.declared.commands.Form.{Form}
use Rattle.ix_line.proofs.Building.{IsCommandOf, adds_subcommands, each_more}
use Rattle.ix_line.proofs.commands.ix.Goals as goal

pub loop-form-preserved : goal.loop-form-preserved
loop-form-preserved c =
    let forms = c.forms-forms.result.now in
    let i = c.loop-form.form-index in
    let more = each_more IsCommandOf forms c.loop-form.commands.items i _ c.in_ok-command.field-0 c.loop-form-test.true c.loop-form.invariant c.in_ok-command.ensures in
    subst (λ (made : List Command). AllZip IsCommandOf (take (i + 1) forms) made) (sym {A = List Command} c.in_ok-push.ensures.items) more

pub returns : goal.returns
unfolding ix_app
returns c =
    let forms = c.forms-forms.result.now in
    let all = subst (λ (xs : List Form). AllZip IsCommandOf xs c.loop-form.commands.items) (take_all c.loop-form.form-index forms (omega (arith, c.loop-form-test.false))) c.loop-form.invariant in
    adds_subcommands forms c.loop-form.commands.items c.program.result c.in_ok-made.made program all c.program.ensures c.in_ok-made.ensures
    ∙ ap (fold with_subcommand program) c.forms-forms.ensures
