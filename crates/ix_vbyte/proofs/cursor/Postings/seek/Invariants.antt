use Rattle.std.proofs.Common.{◌≡◌}
use Rattle.ix_vbyte.specs.Walking.{from_document}
use Rattle.ix_vbyte.proofs.cursor.Postings.seek.Given as goal

abbrev pub invariant-loop-posting : goal.invariant-loop-posting
invariant-loop-posting l = record {
  can : (goal.iterator-loop-posting).can_next l.self;
  ends : (goal.iterator-loop-posting).is_finite l.self;
  sought : from_document l.document l.initial.self ≡ from_document l.document l.self;
}
