use Rattle.std.proofs.Common.{◌-◌, ◌^◌, ◌++◌, length, arith, ap, ◌∙◌, append_assoc}
use Rattle.ix_vbyte.specs.Code.{code_of}
use Rattle.ix_vbyte.proofs.Gaps.{length-Ascends}
use Rattle.ix_vbyte.proofs.GapCodes.{on_err_begun}
use Rattle.ix_vbyte.proofs.appending.append_posting.Goals as goal

pub overflow_cast-positions : goal.overflow_cast-positions
overflow_cast-positions c = omega (arith, length-Ascends 0 (2 ^ 32 - 1) c.args.positions.now (omega arith) c.requires)

pub returns-clause-err : goal.returns-clause-err
returns-clause-err c =
    on_err_begun _ c.args.out.now.items (code_of c.args.gap ++ code_of (length c.args.positions.now)) _ _
    (c.in_ok-push_code-2.ensures.ok ∙ ap (λ xs. xs ++ code_of (length c.args.positions.now)) c.in_ok-push_code.ensures.ok ∙ append_assoc c.args.out.now.items (code_of c.args.gap) (code_of (length c.args.positions.now)))
    c.append_gaps.ensures.err
