-- The steps before the place were carried out.
use Rattle.std.proofs.Common.{◌≡◌, false, ◌∙◌, ◌∷◌, [], arith, map, take, drop, subst, sym, suc}
use Rattle.std.proofs.lemmas.List.{take_all}
use Rattle.ix_files.specs.Reading.{held_in}
use Rattle.ix_script.specs.Groups.{is_publish}
use Rattle.ix_script.specs.Runs.{Changes}
use Rattle.ix_script.specs.Steps.{step_of}
use Rattle.ix_script.specs.Stops.{RefusesStep, progress_of}
use Rattle.ix_script.proofs.PrintingLemmas.{next_step}
use Rattle.ix_script.proofs.RunLemmas.{changes_then}
use Rattle.ix_script.proofs.StepLemmas.{cut_at, quiet_at}
use Rattle.ix_script.proofs.change.change_all.Goals as goal

pub loop-place-preserved : goal.loop-place-preserved
loop-place-preserved g c =
    let inv = c.loop-place.invariant in
    let holds = held_in (g.F.Files.view c.args.files.now) in
    let step = c.index-group-place.result in
    let steps = c.args.group.now in
    let place = c.loop-place.place in
    let quiet : is_publish (step_of step) ≡ false = quiet_at steps place step c.loop-place-test.true c.requires c.index-group-place.is in
    let changed = subst (λ stop. Changes holds stop (step_of step ∷ []) (progress_of c.loop-place.indexer) (progress_of c.change.new.indexer)) inv.stop (c.in-Ok.ensures.changed quiet) in
    record {
      within = omega arith;
      stop = c.change.ensures.same.0 ∙ inv.stop;
      book = c.change.ensures.same.1 ∙ inv.book;
      published = c.change.ensures.same.2 ∙ inv.published;
      changed = subst (λ l. Changes holds c.args.indexer.now.stop l (progress_of c.args.indexer.now) (progress_of c.change.new.indexer)) (sym (next_step steps place step c.loop-place-test.true c.index-group-place.is))
          (changes_then holds c.args.indexer.now.stop (map step_of (take place steps)) (step_of step ∷ []) _ _ _ inv.changed changed);
    }

pub returns-in-Err-clause-refused : goal.returns-in-Err-clause-refused
returns-in-Err-clause-refused g c =
    let inv = c.loop-place.invariant in
    let steps = c.args.group.now in
    let place = c.loop-place.place in
    record {
      earlier = map step_of (take place steps);
      step = step_of c.index-group-place.result;
      later = map step_of (drop (suc place) steps);
      now = progress_of c.loop-place.indexer;
      cut = cut_at steps place c.index-group-place.result c.loop-place-test.true c.index-group-place.is;
      changed = inv.changed;
      refused = subst (λ stop. RefusesStep (held_in (g.F.Files.view c.args.files.now)) c.args.plan.now.workers stop (step_of c.index-group-place.result) (progress_of c.loop-place.indexer) c.in-Err.error) inv.stop c.in-Err.ensures.refused;
    }

pub returns-clause-changed : goal.returns-clause-changed
returns-clause-changed g c =
    let all = take_all c.loop-place.place c.args.group.now c.loop-place-test.false in
    rw all at c.loop-place.invariant.changed
