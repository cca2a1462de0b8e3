use Rattle.std.proofs.Common.{◌++◌}
use Rattle.std.proofs.lemmas.Result.{IfOk-weaker}
use Rattle.ix_scan.specs.ScansWithout.{of_documents}
use Rattle.ix_live.proofs.volumes.merge_volumes.Goals as goal

pub returns : goal.returns
returns c = IfOk-weaker c.open_volume.result _ _ (λ volume opened stop first second one other. opened (of_documents stop (first ++ second)) (c.in_ok-bytes.ensures stop first second one other)) c.open_volume.ensures
