use Rattle.ix_files.proofs.Drafting.{changed, outside, standing, unchanged, went_on}
use Rattle.ix_files.proofs.draft.remove_left.Goals as goal

pub loop-number-init : goal.loop-number-init
loop-number-init g c = record {
  changes = unchanged _ _ (g.met.F.Files.only_now c.args.files.now);
  goes_on = standing _;
}

pub loop-number-preserved : goal.loop-number-preserved
loop-number-preserved g c = record {
  changes = changed c.loop-number.invariant.changes c.remove_unlocked.ensures.call (λ slots did. outside _ slots c.in_ok-left.ensures did.elsewhere);
  goes_on = went_on c.loop-number.invariant.goes_on c.remove_unlocked.ensures.call;
}

pub returns-then-not-remove_unlocked-clause-changes : goal.returns-then-not-remove_unlocked-clause-changes
returns-then-not-remove_unlocked-clause-changes g c =
    changed c.loop-number.invariant.changes c.remove_unlocked.ensures.call (λ slots did. outside _ slots c.in_ok-left.ensures did.elsewhere)
