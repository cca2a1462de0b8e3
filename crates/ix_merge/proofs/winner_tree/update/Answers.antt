use Rattle.std.proofs.Common.{◌≡◌, ◌+◌, ℕ, Option, length, length-set, set, sym, subst, arith}
use Rattle.std.proofs.lemmas.List.{length-map}
use Rattle.std.specs.Bool.{then_some}
use Rattle.ix_merge.specs.Keys.{key_of, keys_of}
use Rattle.ix_merge.specs.WinnerTrees.{IsSettledBut}
use Rattle.ix_merge.proofs.WinnerNodes.{first_settled, leaf_settled, next_settled, still_have_keys}
use Rattle.ix_merge.proofs.winner_tree.update.Goals as goal

pub loop-node-init : goal.loop-node-init
loop-node-init g c =
    let keys = keys_of g.S.Source.heading g.S.Source.current c.args.sources.now in
    let place = c.args.place in
    let many : length keys ≡ length c.args.sources.now = length-map c.args.sources.now (key_of g.S.Source.heading g.S.Source.current) in
    let within = c.requires.within in
    let sized = c.requires.settled.sized in
    let others : IsSettledBut keys (set c.args.tree.now (length keys + place) (then_some c.args.more place)) (length keys + place) = leaf_settled keys c.args.tree.now place c.args.more c.requires in (
      omega arith,
      omega (arith, length-set c.args.tree.now (length c.args.sources.now + place) c.then_some.result, length-set keys place c.requires.before),
      subst (λ (leaf : Option ℕ). IsSettledBut keys (set c.args.tree.now (length c.args.sources.now + place) leaf) (length c.args.sources.now + place)) (sym c.then_some.ensures)
          (subst (λ n. IsSettledBut keys (set c.args.tree.now (n + place) (then_some c.args.more place)) (n + place)) many others),
    )

pub winner-requires-clause-left : goal.winner-requires-clause-left
winner-requires-clause-left g c =
    let keys = keys_of g.S.Source.heading g.S.Source.current c.args.sources.now in
    (still_have_keys keys c.loop-node.tree c.loop-node.node c.loop-node.invariant.2 (omega arith) (omega (arith, c.loop-node.invariant.2.sized))).0

pub winner-requires-clause-right : goal.winner-requires-clause-right
winner-requires-clause-right g c =
    let keys = keys_of g.S.Source.heading g.S.Source.current c.args.sources.now in
    (still_have_keys keys c.loop-node.tree c.loop-node.node c.loop-node.invariant.2 (omega arith) (omega (arith, c.loop-node.invariant.2.sized))).1

pub loop-node-preserved : goal.loop-node-preserved
loop-node-preserved g c =
    let keys = keys_of g.S.Source.heading g.S.Source.current c.args.sources.now in (
      omega arith,
      rw length-set (omega arith),
      next_settled keys c.loop-node.tree c.loop-node.node c.winner.result c.loop-node.invariant.2 (omega arith) (omega (arith, c.loop-node.invariant.2.sized)) c.winner.ensures,
    )

pub returns : goal.returns
returns g c =
    first_settled (keys_of g.S.Source.heading g.S.Source.current c.args.sources.now) c.loop-node.tree c.loop-node.node (omega arith) c.loop-node.invariant.2
