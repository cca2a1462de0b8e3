-- The postings that are passed are all that are left.
use Rattle.std.proofs.Common.{refl, arith}
use Rattle.ix_run_text.specs.Inputs.{bytes_held}
use Rattle.ix_run_text.proofs.ReadSkips.{skips_all, skips_none}
use Rattle.ix_run_text.proofs.SpelledSteps.{nothing_spelled}
use Rattle.ix_run_text.proofs.run_reader.RunReader.skip.Goals as goal

pub returns-then-self-eq0-clause-skipped : goal.returns-then-self-eq0-clause-skipped
returns-then-self-eq0-clause-skipped g c = skips_none g.R.Read.remaining c.args.self.now c.if-self-eq0.true

pub invariant_of-self : goal.invariant_of-self
invariant_of-self g c =
    let self = c.args.self.now in
    record {
      table = self.table;
      few_documents = self.few_documents;
      few_tokens = self.few_tokens;
      narrow = self.narrow;
      room = self.room;
      far = self.far;
      drained = λ not. refl;
      held = omega arith;
      left = nothing_spelled self.after (bytes_held c.pass.new.self);
    }

pub returns-clause-skipped : goal.returns-clause-skipped
returns-clause-skipped g c = skips_all g.R.Read.remaining c.args.self.now _ (omega (arith, c.if-self-eq0.false)) c.pass.ensures.taken c.pass.ensures.held refl
