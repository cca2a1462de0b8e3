-- The NOTs that were taken off are over the part.
use Rattle.std.proofs.Common.{◌≡◌, length}
use Rattle.ix_query_text.specs.Machine.{behind_nots, under_nots}
use Rattle.ix_query_text.specs.Parsing.{frames_of}
use Rattle.ix_query_text.proofs.parser.under_nots.Given as goal

abbrev pub invariant-loop-frames : goal.invariant-loop-frames
invariant-loop-frames l = record {
  frames : behind_nots (frames_of l.frames) ≡ behind_nots (frames_of l.initial.frames);
  part : under_nots (frames_of l.frames) l.part ≡ under_nots (frames_of l.initial.frames) l.initial.part;
}

abbrev pub decreases-loop-frames : goal.decreases-loop-frames
decreases-loop-frames l = length l.frames
