-- There are removals, and their line is written.
use Rattle.std.specs.Prelude.{string_bytes}
use Rattle.ix_manifest.proofs.ReadingLemmas.{removals_written}
use Rattle.ix_manifest.proofs.writing.push_removals.Goals as goal

pub returns-in_ok-push_fields : goal.returns-in_ok-push_fields
returns-in_ok-push_fields c =
    removals_written (string_bytes c.args.text.now) (string_bytes c.push_str.new.self) (string_bytes c.push_fields.new.text) c.args.removals.now c.in-Some.removals
    c.in-Some.is c.in_ok-push_str.ensures.bytes c.in_ok-push_fields.ensures
