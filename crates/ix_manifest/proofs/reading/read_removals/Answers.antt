-- The text begins with the line of the removals, so that line is read.
use Rattle.std.proofs.Common.{◌≡◌}
use Rattle.ix_manifest.proofs.ReadingLemmas.{removals_there}
use Rattle.ix_manifest.proofs.reading.read_removals.Goals as goal

pub returns-in-Some-scan_fields : goal.returns-in-Some-scan_fields
returns-in-Some-scan_fields c = λ next segments removals rest bound lawful is behind.
    let there = removals_there next segments c.args.text.now rest c.in-Some.fields.now removals lawful is behind c.in-Some.ensures in
    let read = c.in-Some-scan_fields.ensures.exact next there.one.file there.one.count there.one.bytes there.one.digest rest bound there.are there.before in
    let same : c.in-Some-scan_fields.removals ≡ there.one = read.0 in
    let which = there.is in
    cc

pub returns-in-None : goal.returns-in-None
returns-in-None c = λ next segments removals rest bound lawful is behind.
    let there = removals_there next segments c.args.text.now rest c.in-Some.fields.now removals lawful is behind c.in-Some.ensures in
    absurd (c.in-None.ensures.exact next there.one.file there.one.count there.one.bytes there.one.digest rest bound there.are there.before)
