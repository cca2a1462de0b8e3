use Rattle.std.proofs.Common.{ℕ, ◌<◌, length, map}
use Rattle.std.proofs.lemmas.List.Elements.{All-get_or}
use Rattle.ix_text.specs.Docs.{named_text}
use Rattle.ix_ask.proofs.NameLemmas.{name_lines_more, name_of_read}
use Rattle.ix_ask.specs.NameLines.{names_read}
use Rattle.ix_ask.proofs.names.name_lines_of.Goals as goal

pub loop-number-preserved : goal.loop-number-preserved
loop-number-preserved c =
    let documents = c.args.documents.now in
    let known = All-get_or (λ (number : ℕ). number < length documents) c.args.numbers.now c.loop-number.number-index 0 c.loop-number-test.true c.requires in
    let found = name_of_read named_text documents _ c.index-documents-number.result known c.index-documents-number.is in
    let more = name_lines_more (names_read (map named_text documents)) c.args.numbers.now c.loop-number.number-index _ c.loop-number-test.true found in
    cc (more, c.in_ok-push_name_line.ensures)
