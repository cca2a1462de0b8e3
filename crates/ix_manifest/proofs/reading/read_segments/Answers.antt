-- As long as the text begins with the line of a segment, the next segment is read.
use Rattle.std.proofs.Common.{◌∙◌, ◌++◌, ap, rules, sym}
use Rattle.std.proofs.lemmas.List.{append-nil}
use Rattle.ix_manifest.proofs.ReadingLemmas.{next_segment, no_segment, segment_read}
use Rattle.ix_manifest.proofs.reading.read_segments.Goals as goal

pub returns-in_default-read_segment : goal.returns-in_default-read_segment
returns-in_default-read_segment c = λ next segments rest are.
    let (left, joined, following) = c.loop-fields.invariant.more next segments rest are in
    let more = next_segment next c.loop-fields.left.now left rest c.in-Some.fields.now following c.in-Some.ensures in
    absurd (c.in_default-read_segment.ensures.exact next more.one _ following.bound more.is more.before)

pub loop-fields-preserved : goal.loop-fields-preserved
loop-fields-preserved c =
    record {
      characters = search rules;
      more = λ next segments rest are.
          let (left, joined, following) = c.loop-fields.invariant.more next segments rest are in
          let more = next_segment next c.loop-fields.left.now left rest c.in-Some.fields.now following c.in-Some.ensures in
          let read = c.in-Some-read_segment.ensures.exact next more.one _ following.bound more.is more.before in
          rw c.in_ok-push.ensures.items
          (segment_read next segments c.loop-fields.segments.items left c.in-Some-read_segment.segment c.in-Some-read_segment.rest.now c.in-Some.fields.now rest more joined read.0 read.1);
    }

pub returns : goal.returns
returns c = λ next segments rest are.
    let (left, joined, following) = c.loop-fields.invariant.more next segments rest are in
    let done = no_segment next c.loop-fields.left.now left rest following c.in_default.ensures in
    (sym (joined ∙ ap (λ l. c.loop-fields.segments.items ++ l) done.0 ∙ append-nil c.loop-fields.segments.items), done.1)
