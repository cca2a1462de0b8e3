use Rattle.std.proofs.Common.{inl, inr, ⊎_elim, arith, refl, rules}
use Rattle.ix_files.proofs.Drafting.{changed, changed_again, outside, standing, unchanged, went_on, went_on_again}
use Rattle.ix_files.proofs.draft.begin.Goals as goal

pub loop-number-init : goal.loop-number-init
loop-number-init g c = record {
  changes = unchanged _ _ (g.met.F.Files.only_now c.args.files.now);
  goes_on = standing _;
  taken = λ honest. inl refl;
}

pub returns-in_err-remove_left-clause-changes : goal.returns-in_err-remove_left-clause-changes
returns-in_err-remove_left-clause-changes g c =
    changed_again (changed c.loop-number.invariant.changes c.remove_unlocked-removed.ensures.call (λ slots did. outside _ slots c.in_ok-own.ensures did.elsewhere))
    c.remove_left.ensures.changes c.remove_left.ensures.goes_on.honest

pub returns-in_err-remove_left-clause-goes_on : goal.returns-in_err-remove_left-clause-goes_on
returns-in_err-remove_left-clause-goes_on g c =
    went_on_again (went_on c.loop-number.invariant.goes_on c.remove_unlocked-removed.ensures.call) c.remove_left.ensures.goes_on

pub returns-in-Ok-clause-changes : goal.returns-in-Ok-clause-changes
returns-in-Ok-clause-changes g c =
    changed (changed (changed_again (changed c.loop-number.invariant.changes c.remove_unlocked-removed.ensures.call (λ slots did. outside _ slots c.in_ok-own.ensures did.elsewhere))
    c.remove_left.ensures.changes c.remove_left.ensures.goes_on.honest)
    c.create.ensures.call (λ slots did. outside _ slots c.in_ok-own.ensures did.elsewhere))
    c.dress.ensures.call (λ slots did place other. did place)

pub returns-in-Err-clause-changes : goal.returns-in-Err-clause-changes
returns-in-Err-clause-changes g c =
    changed (changed_again (changed c.loop-number.invariant.changes c.remove_unlocked-removed.ensures.call (λ slots did. outside _ slots c.in_ok-own.ensures did.elsewhere))
    c.remove_left.ensures.changes c.remove_left.ensures.goes_on.honest)
    c.create.ensures.call (λ slots did. outside _ slots c.in_ok-own.ensures did.elsewhere)

pub loop-number-preserved : goal.loop-number-preserved
loop-number-preserved g c = record {
  changes = changed (changed_again (changed c.loop-number.invariant.changes c.remove_unlocked-removed.ensures.call (λ slots did. outside _ slots c.in_ok-own.ensures did.elsewhere))
      c.remove_left.ensures.changes c.remove_left.ensures.goes_on.honest)
      c.create.ensures.call (λ slots did. outside _ slots c.in_ok-own.ensures did.elsewhere);
  goes_on = went_on (went_on_again (went_on c.loop-number.invariant.goes_on c.remove_unlocked-removed.ensures.call) c.remove_left.ensures.goes_on) c.create.ensures.call;
  taken = λ honest. inr (record { place = _; named = c.in_ok-own.ensures; there = c.create.ensures.taken honest (search rules) });
}

pub returns-clause-taken : goal.returns-clause-taken
returns-clause-taken g c honest is = ⊎_elim (λ first. absurd (omega arith)) (λ taken. taken) (c.loop-number.invariant.taken honest)

pub returns-in-Err-clause-taken : goal.returns-in-Err-clause-taken
returns-in-Err-clause-taken g c honest is = record { place = _; named = c.in_ok-own.ensures; there = c.create.ensures.taken honest (cc) }
