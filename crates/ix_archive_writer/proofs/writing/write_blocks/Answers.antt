use Rattle.std.specs.Prelude.{Err, IfOk, Ok, Result}
use Rattle.ix_files.proofs.Drafting.{changed_again, went_on_again}
use Rattle.ix_archive_writer.proofs.SegmentLemmas.{written_segment}
use Rattle.ix_archive_writer.proofs.writing.write_blocks.Goals as goal

pub returns-in-Ok-clause-changes : goal.returns-in-Ok-clause-changes
returns-in-Ok-clause-changes g c = changed_again c.begin_file.ensures.changes c.end_segment.ensures.changes c.end_segment.ensures.goes_on.honest

pub returns-in-Ok-clause-goes_on : goal.returns-in-Ok-clause-goes_on
returns-in-Ok-clause-goes_on g c = went_on_again c.begin_file.ensures.goes_on c.end_segment.ensures.goes_on

pub returns-in-Err-clause-changes : goal.returns-in-Err-clause-changes
returns-in-Err-clause-changes g c = changed_again c.begin_file.ensures.changes c.drop_file.ensures.changes c.drop_file.ensures.goes_on.honest

pub returns-in-Err-clause-goes_on : goal.returns-in-Err-clause-goes_on
returns-in-Err-clause-goes_on g c = went_on_again c.begin_file.ensures.goes_on c.drop_file.ensures.goes_on

-- three facts of a segment give one
by_three : {T E : Type 0} {P Q R S : T → Type 0} (result : Result T E) → ((value : T) → P value → Q value → R value → S value) → IfOk result P → IfOk result Q → IfOk result R → IfOk result S
by_three (Ok value) more one other third = more value one other third
by_three (Err error) more one other third = tt

pub returns-in-Ok-clause-written : goal.returns-in-Ok-clause-written
returns-in-Ok-clause-written g c = by_three c.end_segment.result
    (λ segment fit kept digested honest stop texts runs counted.
    written_segment stop texts _ _ segment c.args.file c.args.documents _ (c.in_ok-writer.ensures.empty (c.end_segment.ensures.goes_on.honest honest)) (c.in-Ok.ensures.written stop texts runs) counted fit (kept honest) (digested honest))
    c.end_segment.ensures.fit c.end_segment.ensures.kept c.end_segment.ensures.digested
