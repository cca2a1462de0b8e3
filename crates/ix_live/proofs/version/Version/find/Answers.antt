use Rattle.std.specs.Arc.{arc_value}
use Rattle.std.proofs.lemmas.Result.{IfOk-weaker}
use Rattle.ix_live.specs.Findings.{AreFound}
use Rattle.ix_live.specs.Histories.{operations_of}
use Rattle.ix_live.specs.Operations.{state_after}
use Rattle.ix_live.specs.StateScans.{IsStateScan}
use Rattle.ix_live.proofs.VersionLemmas.{state_found}
use Rattle.ix_live.proofs.version.Version.find.Goals as goal

pub returns : goal.returns
returns c =
    let version = c.self.inside in
    let found = rw (c.as_slice.ensures.value, c.as_slice-2.ensures.value) at c.find_documents.ensures in
    rw (← c.self.view_is)
    (IfOk-weaker c.find_documents.result (λ numbers. AreFound version.segments.items version.removed.items c.args.query.now numbers.items)
    (λ numbers. IsStateScan (state_after (arc_value version.stop) (operations_of version.past)) c.args.query.now numbers.items)
    (λ numbers. state_found (arc_value version.stop) version.segments.items version.entries.items version.removed.items version.count version.tokens (operations_of version.past) c.self.invariant c.args.query.now numbers.items) found)
