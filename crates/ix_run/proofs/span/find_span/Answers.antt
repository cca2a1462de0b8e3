use Rattle.std.proofs.Common.{◌≡◌, ◌≤◌, get_or, sym, subst, ◌∙◌, arith}
use borrow.Author.Count.{below_more}
use Rattle.ix_run.specs.DocumentEnds.{IsSpan}
use Rattle.ix_run.proofs.SpanLemmas.{IsFound, found_inside, is_found, span_of, start-first, start-other, start_at}
use Rattle.ix_run.proofs.span.find_span.Goals as goal
use Rattle.ix_run.proofs.span.find_span.Goals.{then-document-eq0, else-document-eq0}

pub bounds-ends-document : goal.bounds-ends-document
bounds-ends-document c = found_inside c.args.ends.now c.args.place c.loop-document.document c.requires.within c.loop-document.invariant.before c.loop-document.invariant.within

pub loop-document-smaller : goal.loop-document-smaller
loop-document-smaller c = let inside = found_inside c.args.ends.now c.args.place c.loop-document.document c.requires.within c.loop-document.invariant.before c.loop-document.invariant.within in omega (arith, inside)

pub loop-document-preserved : goal.loop-document-preserved
loop-document-preserved c = record {
  within = let inside = found_inside c.args.ends.now c.args.place c.loop-document.document c.requires.within c.loop-document.invariant.before c.loop-document.invariant.within in omega (arith, inside);
  before = below_more (λ k. get_or c.args.ends.now k 0 ≤ c.args.place) c.loop-document.document c.loop-document.invariant.before c.loop-document-test.true;
}

found : (c : goal.After-shared_slice_known-3-1) → IsFound c.args.ends.now c.args.place c.loop-document.document
found c = is_found c.args.ends.now c.args.place c.loop-document.document c.requires.within c.loop-document.invariant.before c.loop-document.invariant.within c.loop-document-test.false

start : (c : goal.After-shared_slice_known-3-1) → start_at 0 c.args.ends.now c.loop-document.document ≡ c.if-document-eq0.start
start c =
    elim c.if-document-eq0.branch [
      | then-document-eq0 w ↦ start-first c.args.ends.now c.loop-document.document w.if-document-eq0.true ∙ sym w.start-is
      | else-document-eq0 w ↦ start-other c.args.ends.now c.loop-document.document (omega arith) ∙ sym w.start-is
    ]

pub returns-clause-from : goal.returns-clause-from
returns-clause-from c = let from = (found c).from in let same = start c in omega (arith, from, same)

pub returns-clause-low : goal.returns-clause-low
returns-clause-low c = let within = (found c).within in let few = c.requires.spans.few_documents in omega (arith, within, few)

pub returns-clause-span : goal.returns-clause-span
returns-clause-span c =
    subst (λ s. IsSpan c.args.ends.now c.loop-document.document s (get_or c.args.ends.now c.loop-document.document 0)) (start c)
    (span_of c.args.ends.now c.loop-document.document c.requires.spans.ascending (found c).within)
