use Rattle.std.proofs.Common.{Err, map, sym, ap, subst, ◌∙◌}
use Rattle.std.proofs.lemmas.Result.{IfErr-at_err, IfOk-at_ok}
use Rattle.ix_text.specs.Docs.{named_text}
use Rattle.ix_pool.specs.Outcomes.{Fails, IsMade}
use Rattle.ix_build.specs.SavedBlocks.{FailsToSave}
use Rattle.ix_build.specs.SavingMakers.{GivesHead, StaysSavingMaker, asked_of_saving, store_of}
use Rattle.ix_build.specs.Stores.{AreSaved, AreSavedInPart}
use Rattle.ix_build.proofs.SavedWork.{all_saved, fails_at, heads_of_blocks, not_begun, stopped_in_part}
use Rattle.ix_build.proofs.save.save_blocks.Goals as goal

pub returns-in_default-clause-failed : goal.returns-in_default-clause-failed
returns-in_default-clause-failed g c = not_begun g.T.RunStore.places g.T.RunStore.refusals g.T.RunStore.back c.args.stores.items

pub returns-in-Ok-clause-saved : goal.returns-in-Ok-clause-saved
returns-in-Ok-clause-saved g c =
    let places = g.T.RunStore.places in
    let refusals = g.T.RunStore.refusals in
    let back = g.T.RunStore.back in
    let stores = c.args.stores.items in
    let makers = c.makers_over-makers.result.items in
    let after = c.work_all-makers.result.makers.items in
    let made = IfOk-at_ok (λ heads. IsMade asked_of_saving GivesHead (StaysSavingMaker places refusals back) makers c.args.count after heads.items) c.in-Ok.is c.work_all-makers.ensures.made in
    subst (AreSaved places refusals back stores c.args.count) (sym c.stores_of.ensures)
    (all_saved places refusals back stores makers after c.makers_over-makers.ensures.stores c.args.count c.in-Ok.heads.items made)

pub returns-in-Ok-clause-heads : goal.returns-in-Ok-clause-heads
returns-in-Ok-clause-heads g c =
    let places = g.T.RunStore.places in
    let refusals = g.T.RunStore.refusals in
    let back = g.T.RunStore.back in
    let stores = c.args.stores.items in
    let makers = c.makers_over-makers.result.items in
    let after = c.work_all-makers.result.makers.items in
    let made = IfOk-at_ok (λ heads. IsMade asked_of_saving GivesHead (StaysSavingMaker places refusals back) makers c.args.count after heads.items) c.in-Ok.is c.work_all-makers.ensures.made in
    heads_of_blocks places refusals back stores makers after c.makers_over-makers.ensures.stores c.args.count
    (map named_text c.args.docs.now) c.args.stop.now c.args.bounds.now c.makers_over-makers.ensures.each c.requires.all c.in-Ok.heads.items made

pub returns-in-Err-Make-clause-failed : goal.returns-in-Err-Make-clause-failed
returns-in-Err-Make-clause-failed g c =
    let places = g.T.RunStore.places in
    let refusals = g.T.RunStore.refusals in
    let back = g.T.RunStore.back in
    let stores = c.args.stores.items in
    let makers = c.makers_over-makers.result.items in
    let after = c.work_all-makers.result.makers.items in
    let Told = Fails asked_of_saving GivesHead (StaysSavingMaker places refusals back) makers c.args.count after in
    let refused = IfErr-at_err Told (c.in-Err-Make.is ∙ ap Err (rw c.in-Err-Make.is at c.in-Err-Make.field-0-is)) c.work_all-makers.ensures.failed in
    let fails =
    fails_at places refusals back stores makers after c.makers_over-makers.ensures.stores c.args.count (map named_text c.args.docs.now) c.args.stop.now c.args.bounds.now c.makers_over-makers.ensures.each c.requires.all
    c.in-Err-Make.place c.in-Err-Make.error refused in
    subst (λ l. FailsToSave places refusals back stores c.args.count l c.unsaved.result) (sym c.stores_of-in-Err-Make.ensures)
    (subst (FailsToSave places refusals back stores c.args.count (map store_of after)) (sym c.unsaved.ensures) fails)

pub returns-in-Err-Memory-clause-failed : goal.returns-in-Err-Memory-clause-failed
returns-in-Err-Memory-clause-failed g c =
    let places = g.T.RunStore.places in
    let refusals = g.T.RunStore.refusals in
    let back = g.T.RunStore.back in
    let stores = c.args.stores.items in
    let makers = c.makers_over-makers.result.items in
    let after = c.work_all-makers.result.makers.items in
    let Told = Fails asked_of_saving GivesHead (StaysSavingMaker places refusals back) makers c.args.count after in
    let stopped = IfErr-at_err Told (c.in-Err-Memory.is ∙ ap Err (rw c.in-Err-Memory.is at c.in-Err-Memory.field-0-is)) c.work_all-makers.ensures.failed in
    subst (AreSavedInPart places refusals back stores) (sym c.stores_of-in-Err-Memory.ensures)
    (stopped_in_part places refusals back stores makers after c.makers_over-makers.ensures.stores c.args.count stopped)
