-- The source of one more part is made.
use Rattle.std.proofs.Common.{ap, arith, length, subst, sym}
use Rattle.std.specs.Vec.Iter.{into_iter_items}
use Rattle.ix_command.proofs.MergedFileLemmas.{MadeSoFar, made_all, made_more, made_none, next_stands}
use Rattle.ix_command.proofs.commands.merge.sources.sources_of.Goals as goal

pub loop-part-init : goal.loop-part-init
loop-part-init g c =
    let gives = c.into_iter-part-iterator.ensures.into_iter_gives in
    let lengths = ap length gives.0 in
    record {
      made = made_none _ _ _ _ (sym gives.0) c.new-sources.ensures.items;
      counted = omega (arith, gives.1, lengths, c.args.parts.ok.0);
    }

pub source_of-requires : goal.source_of-requires
source_of-requires g c = next_stands _ _ _ _ _ _ c.in-Some.ensures.steps.0 c.requires c.loop-part.invariant.made

pub loop-part-preserved : goal.loop-part-preserved
loop-part-preserved g c =
    let steps = c.in-Some.ensures.steps in
    let lengths = ap length steps.0 in
    let counted = c.loop-part.invariant.counted in
    record {
      made =
          subst (MadeSoFar c.args.indexes.now c.args.parts.items (into_iter_items c.next.new.self)) (sym c.in_ok-push.ensures.items)
          (made_more _ _ _ _ _ _ c.in_ok-source.source steps.0 c.in_ok-source.ensures c.loop-part.invariant.made);
      counted = omega (arith, counted, steps.1, lengths);
    }

pub returns : goal.returns
returns g c =
    let counted = c.loop-part.invariant.counted in
    made_all _ _ _ _ (omega (arith, counted, c.in-None.ensures.steps.0)) c.loop-part.invariant.made
