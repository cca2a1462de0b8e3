-- The documents that the parts of a query find.
use Rattle.std.specs.Prelude.{ℕ, ◌≤◌, ◌<◌, List, Contains}
use Rattle.ix_query.specs.Meetings.{HasNear, HasPhraseIn}
use Rattle.ix_query.specs.Streams.{HaveBoth, HasOne}
use Rattle.ix_query.specs.declared.answers.doc_stream.DocStream.{DocStream}
use Rattle.ix_query.specs.declared.answers.doc_stream.DocStream.TheVariants as found

-- the document is one that is found
abbrev pub HasNumber : DocStream → ℕ → ℕ → Type 0
HasNumber (found.Word documents) number place = Contains documents number
HasNumber (found.Near near) number place = HasNear near.first near.second near.distance number
HasNumber (found.Phrase phrase) number place = HasPhraseIn phrase.first phrase.offset phrase.others.items phrase.offsets.items number
HasNumber (found.DocList numbers) number place = Contains numbers number
HasNumber (found.DocRange range) number place = (range.next ≤ number) × (number < range.end)

-- the first and each other one find the document, and none of those that are to be absent does
abbrev pub IsInIntersection : DocStream → List DocStream → List DocStream → ℕ → Type 0
IsInIntersection first others absent number = HaveBoth HasNumber first others number × ¬ (HasOne HasNumber absent number)
