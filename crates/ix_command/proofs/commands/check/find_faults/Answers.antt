-- One more file was looked at.
use Rattle.std.proofs.Common.{arith}
use Rattle.ix_files.specs.Reading.{held_in}
use Rattle.ix_command.proofs.CheckLemmas.{few_faults, looked_more, looked_none}
use Rattle.ix_command.proofs.commands.check.find_faults.Goals as goal

pub loop-path-init : goal.loop-path-init
loop-path-init g c = record {
  looked_at = looked_none (held_in (g.F.Files.view c.args.files.now)) c.new.result.items c.new.ensures.items;
  few = omega arith;
}

pub loop-path-preserved : goal.loop-path-preserved
loop-path-preserved g c =
    let one = c.in_ok-look_at.ensures.looked_at in
    record {
      looked_at = looked_more (held_in (g.F.Files.view c.args.files.now)) c.args.paths.now c.loop-path.path-index _ c.loop-path.lines c.look_at.new.lines c.loop-path-test.true
          c.loop-path.invariant.looked_at one;
      few = few_faults one.found c.loop-path.lines.count c.look_at.new.lines.count c.loop-path.path-index c.loop-path.invariant.few one.counted;
    }
