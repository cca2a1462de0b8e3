use Rattle.std.proofs.Common.{◌-◌, ◌^◌, arith}
use Rattle.std.proofs.lemmas.Grind.{common_steps}
use Rattle.ix_vbyte.proofs.GapCodes.{on_err_of, pushed_fits}
use Rattle.ix_vbyte.proofs.appending.append_gaps.Goals as goal

pub returns-in_err-push_code-clause-full : goal.returns-in_err-push_code-clause-full
returns-in_err-push_code-clause-full c =
    let fits = pushed_fits (2 ^ 32 - 1) c.args.out.now.items c.loop-number.out.items c.args.next c.loop-number.after c.args.numbers.now c.loop-number.number-index c.loop-number.invariant.pushed c.loop-number-test.true in
    on_err_of c.from_residual.result (omega (arith, fits, c.in_err-push_code.ensures.full))

-- The check finds it too; with an answer a wrong body that falls here is refused sooner.
pub loop-number-preserved : goal.loop-number-preserved
loop-number-preserved c = grind (arith, common_steps)
