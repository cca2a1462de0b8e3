use Rattle.std.proofs.Common.{◌≤◌, ◌^◌, length, arith}
use Rattle.std.proofs.lemmas.Grind.{common_steps}
use Rattle.std.proofs.lemmas.List.{length-map}
use Rattle.ix_file.specs.Frames.{texts_in}
use Rattle.ix_file.specs.Tables.{entry_in, parts_in}
use Rattle.ix_file.proofs.OpenedLemmas.{few_terms}
use Rattle.ix_file.proofs.index.Index.term_count.Goals as goal

pub overflow_cast-result : goal.overflow_cast-result
overflow_cast-result c =
    let texts = texts_in c.self.inside.sections in
    let terms = c.tables.result.now.terms in
    let few : length (parts_in texts c.tables.result.now).entries ≤ 2 ^ 28 = few_terms (parts_in texts c.tables.result.now) (rw c.tables.ensures c.self.invariant.lawful) in
    omega (arith, few, c.len.ensures.count, length-map terms (entry_in texts.postings))

-- The check finds it too; with an answer a wrong body that falls here is refused sooner.
pub returns-clause-count : goal.returns-clause-count
returns-clause-count c = grind (arith, common_steps)
