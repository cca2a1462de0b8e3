-- A lawful collection has a run text, counted from a number, and only one.
use Rattle.std.proofs.Common.{refl, sym, ap, ◌∙◌}
use Rattle.ix_text.proofs.OneParts.{one_parts}
use Rattle.ix_text.proofs.PartsExist.{has_parts}
use Rattle.ix_run_text.specs.Laws.{CollectionHasOneRunText, CollectionHasRunText}
use Rattle.ix_run_text.specs.RunText.{run_layout}

pub one_run_text : CollectionHasOneRunText
one_run_text first collection one other p q = p.spelled ∙ ap (run_layout first) (one_parts collection p.parts q.parts p.of_collection q.of_collection) ∙ sym q.spelled

pub has_run_text : CollectionHasRunText
has_run_text first collection lawful within =
    let is = has_parts collection in (
      run_layout first is.parts,
      record { lawful = lawful; within = within; parts = is.parts; of_collection = is.of_collection; spelled = refl },
    )
