-- With trust a regular file is read by ranges; what is so of a file that was read as a whole is so of one that is trusted.
use Rattle.ix_files.specs.Reading.{AreKnownOf, held_in}
use Rattle.ix_command.proofs.Doing.{keeps_itself}
use Rattle.ix_command.proofs.FileLemmas.{handed_up}
use Rattle.ix_command.proofs.TrustedLemmas.{err_at, err_not, from_some, ok_at, ok_not, search_done, search_ranged, search_undone, search_unranged, search_unread}
use Rattle.ix_command.proofs.commands.search.search_file.Goals as goal
use Rattle.ix_command.proofs.commands.search.search_file.Goals.{in-Ok, in-Err}

pub returns-in_err-ranges-clause-refused : goal.returns-in_err-ranges-clause-refused
returns-in_err-ranges-clause-refused g c =
    handed_up _ c.from_residual.result c.in_err-ranges.field-0.0 c.from_residual.ensures.1
    (search_unread c.args.trust (held_in (g.F.Files.view c.args.files.now)) c.args.index.now c.args.query.now _ _ c.in_err-ranges.field-0.0 c.if-trust.true c.in_err-ranges.ensures.refused (keeps_itself _))

pub returns-in-Some-clause-answered : goal.returns-in-Some-clause-answered
returns-in-Some-clause-answered g c =
    let holds = held_in (g.F.Files.view c.args.files.now) in
    let known = from_some (λ ranges. AreKnownOf (holds c.args.index.now) (g.F.Ranges.ReadAt.contents ranges)) _ c.in-Some.ranges c.in-Some.is c.in_ok-ranges.ensures.opened in
    elim c.match-search_trusting.branch [
      | in-Ok w ↦ ok_at _ c.match-search_trusting.result w.in-Ok.count w.result-is
          (search_ranged c.args.trust holds c.args.index.now c.args.query.now _ _ w.in-Ok.count _ c.if-trust.true known w.in-Ok.ensures.answered w.in-Ok.ensures.lawful)
      | in-Err w ↦ ok_not _ c.match-search_trusting.result _ w.result-is
    ]

pub returns-in-Some-clause-refused : goal.returns-in-Some-clause-refused
returns-in-Some-clause-refused g c =
    let holds = held_in (g.F.Files.view c.args.files.now) in
    let known = from_some (λ ranges. AreKnownOf (holds c.args.index.now) (g.F.Ranges.ReadAt.contents ranges)) _ c.in-Some.ranges c.in-Some.is c.in_ok-ranges.ensures.opened in
    elim c.match-search_trusting.branch [
      | in-Ok w ↦ err_not _ c.match-search_trusting.result w.in-Ok.count w.result-is
      | in-Err w ↦ err_at _ c.match-search_trusting.result w.of_trusting.result w.result-is
          (search_unranged c.args.trust holds c.args.index.now c.args.query.now _ _ _ w.in-Err.error w.of_trusting.result c.if-trust.true known w.of_trusting.ensures w.in-Err.ensures.refused w.in-Err.ensures.kept)
    ]

pub returns-clause-answered : goal.returns-clause-answered
returns-clause-answered g c = search_done c.args.trust _ _ _ _ _ c.search_whole.result c.search_whole.ensures.answered

pub returns-clause-refused : goal.returns-clause-refused
returns-clause-refused g c = search_undone c.args.trust _ _ _ _ _ c.search_whole.result c.search_whole.ensures.refused
