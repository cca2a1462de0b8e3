use Rattle.std.proofs.Common.{arith}
use Rattle.std.proofs.lemmas.List.{length-map}
use Rattle.ix_run_text.specs.Heads.{row_of_doc}
use Rattle.ix_run.specs.Runs.{IsShort, head_value}
use Rattle.ix_text.specs.Parts.{DocumentRow}
use Rattle.ix_run.proofs.RunSizes.{few_rows, short_lists, short_names, short_terms, run_text}
use Rattle.ix_run.proofs.Writing.{All-from_map}
use Rattle.ix_run.proofs.run.Run.write_to.Goals as goal

pub put_run-requires-clause-few : goal.put_run-requires-clause-few
put_run-requires-clause-few g c =
    let few = few_rows (head_value c.self.inside.head c.self.inside.terms) c.self.invariant in
    let same = length-map c.self.inside.head.docs.items row_of_doc in omega (arith, few, same)

pub put_run-requires-clause-names : goal.put_run-requires-clause-names
put_run-requires-clause-names g c =
    All-from_map (λ (row : DocumentRow). IsShort row.name) row_of_doc c.self.inside.head.docs.items (short_names (head_value c.self.inside.head c.self.inside.terms) c.self.invariant)

pub put_run-requires-clause-terms : goal.put_run-requires-clause-terms
put_run-requires-clause-terms g c = short_terms (head_value c.self.inside.head c.self.inside.terms) c.self.invariant

pub put_run-requires-clause-lists : goal.put_run-requires-clause-lists
put_run-requires-clause-lists g c = short_lists (head_value c.self.inside.head c.self.inside.terms) c.self.invariant

pub returns-clause-text : goal.returns-clause-text
returns-clause-text g c = run_text c.args.self.now
