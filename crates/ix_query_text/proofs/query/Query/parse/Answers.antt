-- What is read of the text is what the query asks.
use Rattle.std.proofs.Common.{sym, ◌∙◌}
use Rattle.std.proofs.lemmas.Result.{err_from_is_err_and}
use Rattle.ix_query_text.proofs.GrammarLemmas.{found, only, only_by}
use Rattle.ix_query_text.proofs.ProperLemmas.{reads_proper}
use Rattle.ix_query_text.proofs.query.Query.parse.Goals as goal

exact_fault : goal.returns-in_err-tree-clause-exact
exact_fault c =
    let p = err_from_is_err_and c.from_residual.result c.from_residual.ensures.1 in
    rw (p.1, p.2) c.in_err-tree.ensures

pub returns-in_err-tree-clause-exact : goal.returns-in_err-tree-clause-exact
returns-in_err-tree-clause-exact = exact_fault

pub returns-in_err-tree-clause-only : goal.returns-in_err-tree-clause-only
returns-in_err-tree-clause-only c = only_by c.args.stop.now c.args.text.now c.from_residual.result (exact_fault c)

pub invariant_of-result : goal.invariant_of-result
invariant_of-result c =
    reads_proper c.args.stop.now c.args.text.now c.in_ok-tree.tree
    (found c.args.stop.now c.args.text.now c.in_ok-tree.tree c.in_ok-tree.ensures)

pub returns-clause-found : goal.returns-clause-found
returns-clause-found c = found c.args.stop.now c.args.text.now c.in_ok-tree.tree c.in_ok-tree.ensures

pub returns-clause-only : goal.returns-clause-only
returns-clause-only c = λ query reads. sym (only c.args.stop.now c.args.text.now query reads) ∙ c.in_ok-tree.ensures
