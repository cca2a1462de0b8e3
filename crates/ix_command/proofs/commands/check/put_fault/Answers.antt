-- The text of another fault than that of a file that cannot be read is the refusal's.
use Rattle.std.proofs.Common.{◌≡◌, sym, subst}
use Rattle.std.specs.Prelude.{IfSome}
use Rattle.clap.specs.Walk.{Text}
use Rattle.ix_command.specs.Refusals.{text_of}
use Rattle.ix_command.proofs.CheckLemmas.{gains_fault}
use Rattle.ix_command.proofs.LineLemmas.{ok_map}
use Rattle.ix_command.proofs.commands.check.put_fault.Goals as goal

pub returns-in-Ok : goal.returns-in-Ok
returns-in-Ok c =
    let spelled = subst (λ (text : Text). IfSome (text_of c.args.fault.now) (λ bs. text ≡ bs)) (sym c.as_str.ensures.value) c.in-Ok.ensures.ok in
    record {
      gained = ok_map c.put_line-in-Ok.result (λ gained. gains_fault c.args.fault.now c.as_str.result.now c.args.path.now _ _ c.in_default.not-Read spelled gained) c.put_line-in-Ok.ensures.gained;
      memory = c.put_line-in-Ok.ensures.memory;
    }
