-- One round after another.
use Rattle.std.proofs.Common.{◌-◌, ◌∙◌, arith, drop, length, length-drop, map, take}
use Rattle.std.proofs.lemmas.List.{take_all}
use Rattle.ix_files.specs.Reading.{held_in}
use Rattle.ix_script.specs.Steps.{step_of}
use Rattle.ix_script.proofs.ScriptLemmas.{carries_then, carries_then_stops, handed_on, more_is_published, so_far_published, stretch_more, stretch_rest}
use Rattle.ix_script.proofs.run.run_on.Goals as goal

pub returns-in_err-round-clause-refused : goal.returns-in_err-round-clause-refused
returns-in_err-round-clause-refused g c =
    let inv = c.loop-place.invariant in
    let steps = c.args.steps.now in
    let place = c.loop-place.place in
    let holds = held_in (g.F.Files.view c.args.files.now) in
    let rest = take_all (length steps - place) (drop place steps) (omega (arith, length-drop place steps)) in
    let stops = rw (rest, inv.stop) at c.in_err-round.ensures.refused in
    let all = carries_then_stops holds c.args.indexer.now.stop c.args.plan.now.workers (map step_of (take place steps)) (map step_of (drop place steps)) _ _ _ _ _ c.loop-place.found _
    (so_far_published inv.published (omega (arith, c.loop-place-test.true))) inv.carried stops in
    let whole = stretch_rest step_of steps place in
    handed_on _ c.from_residual.result c.in_err-round.field-0.0 c.from_residual.ensures.1 (rw whole all)

pub loop-place-preserved : goal.loop-place-preserved
loop-place-preserved g c =
    let inv = c.loop-place.invariant in
    let steps = c.args.steps.now in
    let place = c.loop-place.place in
    let count = c.in_ok-round.round.count in
    let holds = held_in (g.F.Files.view c.args.files.now) in
    let rest = take_all (length steps - place) (drop place steps) (omega (arith, length-drop place steps)) in
    let more = stretch_more step_of steps place count in
    let ran = rw (rest, inv.stop) at c.in_ok-round.ensures.ran in
    let counted = rw rest at c.in_ok-round.ensures.count in
    let ends = rw rest at c.in_ok-round.ensures.published in
    record {
      within = omega (arith, counted.1, length-drop place steps, inv.within);
      stop = c.in_ok-round.ensures.same ∙ inv.stop;
      team = c.in_ok-round.ensures.team;
      published = more_is_published step_of steps place count (so_far_published inv.published (omega (arith, c.loop-place-test.true))) ends inv.within;
      carried = rw more (carries_then holds c.args.indexer.now.stop (map step_of (take place steps)) (map step_of (take count (drop place steps))) _ _ _ _ _ _ c.loop-place.found c.in_ok-round.round.found
          inv.carried ran);
    }
