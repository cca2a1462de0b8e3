use Rattle.std.proofs.Common.{codes, ◌++◌}
use Rattle.std.specs.Int.{to_le_bytes, w32}
use Rattle.ix_output.proofs.SinkLemmas.{appends_then}
use Rattle.ix_run.proofs.Writing.{front_more, front_then, writes_refused, writes_then}
use Rattle.ix_run.proofs.write.put_numbers.Goals as goal

pub returns-in_err-put : goal.returns-in_err-put
returns-in_err-put g c =
    let first = to_le_bytes w32 c.args.first in
    writes_refused _ _ _ _ c.from_residual.ensures.0
    (front_more _ _ (codes "PIIXRUN1" ++ first) (to_le_bytes w32 c.args.count) (front_more _ _ (codes "PIIXRUN1") first c.in_err-put.ensures))

pub returns-in_err-put-2 : goal.returns-in_err-put-2
returns-in_err-put-2 g c =
    let first = to_le_bytes w32 c.args.first in
    writes_refused _ _ _ _ c.from_residual-in_err-put-2.ensures.0
    (front_more _ _ (codes "PIIXRUN1" ++ first) (to_le_bytes w32 c.args.count) (front_then _ _ _ (codes "PIIXRUN1") first c.in_ok-put.ensures (rw c.to_le_bytes.ensures at c.in_err-put-2.ensures)))

pub returns : goal.returns
returns g c =
    let first = to_le_bytes w32 c.args.first in
    writes_then c.put-3.result _ _ _ (codes "PIIXRUN1" ++ first) (to_le_bytes w32 c.args.count)
    (appends_then _ _ _ (codes "PIIXRUN1") first c.in_ok-put.ensures (rw c.to_le_bytes.ensures at c.in_ok-put-2.ensures))
    (rw c.to_le_bytes-2.ensures at c.put-3.ensures)
