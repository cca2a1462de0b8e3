use Rattle.std.proofs.Common.{sym, subst}
use Rattle.ix_query.specs.DocStreams.{HasNumber}
use Rattle.ix_query.specs.Streams.{Reaches}
use Rattle.ix_query.specs.declared.answers.doc_stream.DocStream.{DocStream}
use Rattle.ix_query.specs.declared.answers.doc_stream.DocStream.TheVariants as found
use Rattle.ix_query.proofs.answers.doc_stream.DocStreamNumbers.seek.Goals as goal

pub returns-in-Word : goal.returns-in-Word
returns-in-Word c = subst (λ (stream : DocStream). Reaches (HasNumber stream) (HasNumber (found.Word c.seek.new.self)) c.args.low c.seek.result) (sym c.in-Word.is) c.seek.ensures

pub returns-in-Near : goal.returns-in-Near
returns-in-Near c = subst (λ (stream : DocStream). Reaches (HasNumber stream) (HasNumber (found.Near c.seek-in-Near.new.self)) c.args.low c.seek-in-Near.result) (sym c.in-Near.is) c.seek-in-Near.ensures

pub returns-in-Phrase : goal.returns-in-Phrase
returns-in-Phrase c = subst (λ (stream : DocStream). Reaches (HasNumber stream) (HasNumber (found.Phrase c.seek-in-Phrase.new.self)) c.args.low c.seek-in-Phrase.result) (sym c.in-Phrase.is) c.seek-in-Phrase.ensures

pub returns-in-DocList : goal.returns-in-DocList
returns-in-DocList c = subst (λ (stream : DocStream). Reaches (HasNumber stream) (HasNumber (found.DocList c.seek-in-DocList.new.self)) c.args.low c.seek-in-DocList.result) (sym c.in-DocList.is) c.seek-in-DocList.ensures

pub returns-in-DocRange : goal.returns-in-DocRange
returns-in-DocRange c = subst (λ (stream : DocStream). Reaches (HasNumber stream) (HasNumber (found.DocRange c.seek-in-DocRange.new.self)) c.args.low c.seek-in-DocRange.result) (sym c.in-DocRange.is) c.seek-in-DocRange.ensures
