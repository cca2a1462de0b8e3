use Rattle.std.proofs.Common.{◌≡◌, Some, inl, inr, map, slice_get, sym, subst, ⊎_elim}
use Rattle.ix_files.specs.Locations.{place_of}
use Rattle.ix_files.specs.Slots.{Place}
use Rattle.ix_files.proofs.Drafting.{changed, standing, unchanged, went_on}
use Rattle.ix_files.proofs.Gone.{all_gone, name_at, none_gone, one_more_gone, removed_or_failed}
use Rattle.ix_files.proofs.removing.remove_all.Goals as goal

pub loop-index-init : goal.loop-index-init
loop-index-init g c = record {
  gone = λ honest. inl (none_gone (map place_of c.args.names.now) (g.F.Files.view c.args.files.now).slots);
  changes = unchanged _ _ (g.met.F.Files.only_now c.args.files.now);
  goes_on = standing _;
}

pub loop-index-preserved : goal.loop-index-preserved
loop-index-preserved g c =
    let at = name_at c.args.names.now c.loop-index.index c.index-names-index.result c.loop-index-test.true c.index-names-index.is in
    let called = c.remove-removed.ensures in
    record {
      gone = one_more_gone _ _ _ (g.F.Files.view c.args.files.now) (g.F.Files.view c.loop-index.files) _ at c.loop-index.invariant.gone
          c.loop-index.invariant.goes_on.counted called.call
          (removed_or_failed _ _ _ c.remove-removed.result called.cause called.removed called.call);
      changes = changed c.loop-index.invariant.changes called.call
          (λ slots did place other. did.elsewhere place (λ same. other (c.loop-index.index, subst (λ (p : Place). slice_get (map place_of c.args.names.now) c.loop-index.index ≡ Some p) (sym same) at)));
      goes_on = went_on c.loop-index.invariant.goes_on called.call;
    }

pub returns-clause-gone : goal.returns-clause-gone
returns-clause-gone g c honest = ⊎_elim (λ below. inl (all_gone c.args.names.now (g.F.Files.view c.loop-index.files).slots c.loop-index.index c.loop-index-test.false below)) inr (c.loop-index.invariant.gone honest)
