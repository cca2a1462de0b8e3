use Rattle.std.proofs.Common.{inr, sym, arith}
use Rattle.ix_file.specs.ReadLists.{AreClaimedLists}
use Rattle.ix_file.proofs.AllLists.{all_claimed, bytes_all, lists_are, lists_are_not}
use Rattle.ix_file.proofs.open.lists.check_lists.Goals as goal

pub returns-then-are_doubled-clause-refused : goal.returns-then-are_doubled-clause-refused
returns-then-are_doubled-clause-refused c =
    inr
    (λ rows lists has are.
    lists_are_not rows c.args.section.now c.args.terms.now c.in_ok-longs.claims c.are_doubled.result lists
    (all_claimed rows c.args.section.now c.args.terms.now c.len.result c.in_ok-longs.claims (sym c.len.ensures.count) (c.in_ok-longs.ensures.found rows has))
    c.are_doubled.ensures c.if-are_doubled.true are)

pub returns-clause-found : goal.returns-clause-found
returns-clause-found c rows has =
    let read : AreClaimedLists rows c.args.section.now c.args.terms.now c.in_ok-longs.claims = all_claimed rows c.args.section.now c.args.terms.now c.len.result c.in_ok-longs.claims (sym c.len.ensures.count) (c.in_ok-longs.ensures.found rows has) in
    (read.lists, lists_are rows c.args.section.now c.args.terms.now c.in_ok-longs.claims c.are_doubled.result read c.are_doubled.ensures (λ twice. cc (twice, c.if-are_doubled.false)))

pub returns-clause-few : goal.returns-clause-few
returns-clause-few c = omega (arith, c.in_ok-longs.ensures.few, bytes_all c.args.terms.now c.len.result (sym c.len.ensures.count), c.requires.whole)
