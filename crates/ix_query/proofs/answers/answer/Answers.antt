use Rattle.std.proofs.Common.{sym, ◌∙◌, subst}
use Rattle.ix_query_text.specs.declared.tree.Tree.{Tree}
use Rattle.ix_query.specs.Scans.{SatisfiesAt}
use Rattle.ix_query.proofs.PartLemmas.{ok_more, scan_told, below_count}
use Rattle.ix_query.proofs.answers.answer.Goals as goal

pub returns-in-Near-clause-scan : goal.returns-in-Near-clause-scan
returns-in-Near-clause-scan c =
    ok_more _ _ _ c.near_numbers.ensures.numbers (λ numbers of_it. scan_told c.args.index.now c.args.query.now _ _ (sym c.in-Near.is ∙ c.tree-tree.ensures.same) of_it)

pub returns-in-Near-clause-below : goal.returns-in-Near-clause-below
returns-in-Near-clause-below c =
    ok_more _ _ _ c.near_numbers.ensures.numbers (λ numbers of_it. below_count _ _ _ c.doc_count-documents.ensures.lawful of_it)

pub returns-in-Near-clause-none : goal.returns-in-Near-clause-none
returns-in-Near-clause-none c = λ first second distance version collection form is none.
    c.near_numbers.ensures.none collection is.parts (λ n at. none n (subst (λ (q : Tree). SatisfiesAt collection q n) (sym c.in-Near.is ∙ c.tree-tree.ensures.same) at))

pub returns-in_default : goal.returns-in_default
returns-in_default c = record {
  scan = ok_more _ _ _ c.find_numbers.ensures (λ numbers of_it. scan_told c.args.index.now c.args.query.now _ _ c.tree-tree.ensures.same of_it);
  below = ok_more _ _ _ c.find_numbers.ensures (λ numbers of_it. below_count _ _ _ c.doc_count-documents.ensures.lawful of_it);
  none = λ first second distance version collection form is none. absurd (c.in_default.not-Near first second distance (c.tree-tree.ensures.same ∙ form));
}
