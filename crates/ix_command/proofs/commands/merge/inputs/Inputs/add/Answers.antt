-- What is so of the run, or of the index, is so of the file.
use Rattle.std.proofs.Common.{◌≡◌, ℕ, Result, OnOk, IfErr, subst, sym}
use Rattle.ix_command.specs.MergeInputs.{Adds, RefusesMore}
use Rattle.ix_command.specs.declared.commands.merge.inputs.Input.{Input}
use Rattle.ix_command.specs.declared.commands.merge.inputs.Inputs.{Inputs}
use Rattle.ix_command.specs.declared.refusal.Refusal.{Refusal}
use Rattle.ix_command.proofs.commands.merge.inputs.Inputs.add.Goals as goal

added_of : {R T E : Type 0} (old new : Inputs R) (input made : Input R) (result : Result T E) → input ≡ made → OnOk result (Adds old new made) → OnOk result (Adds old new input)
added_of {R} old new input made result is added = subst (λ (i : Input R). OnOk result (Adds old new i)) (sym is) added

refused_of : {R T : Type 0} (end place : ℕ) (input made : Input R) (result : Result T Refusal) → input ≡ made → IfErr result (RefusesMore end place made) → IfErr result (RefusesMore end place input)
refused_of {R} end place input made result is refused = subst (λ (i : Input R). IfErr result (RefusesMore end place i)) (sym is) refused

pub returns-in-Run : goal.returns-in-Run
returns-in-Run g c = record {
  added = added_of c.args.self.now c.add_run.new.self _ _ c.add_run.result c.in-Run.is c.add_run.ensures.added;
  refused = refused_of _ _ _ _ c.add_run.result c.in-Run.is c.add_run.ensures.refused;
}

pub returns-in-Index : goal.returns-in-Index
returns-in-Index g c = record {
  added = added_of c.args.self.now c.add_index.new.self _ _ c.add_index.result c.in-Index.is c.add_index.ensures.added;
  refused = refused_of _ _ _ _ c.add_index.result c.in-Index.is c.add_index.ensures.refused;
}
