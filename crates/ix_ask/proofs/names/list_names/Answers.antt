-- One name more, and in the end all of them.
use Rattle.std.proofs.Common.{◌≡◌, ◌∙◌, ◌<◌, length, ap, arith}
use Rattle.std.proofs.lemmas.List.{length-map, take_all}
use Rattle.ix_text.specs.Parts.{row_of}
use Rattle.ix_file.specs.Opened.{names_of}
use Rattle.ix_ask.specs.NameLines.{all_name_lines}
use Rattle.ix_ask.proofs.NameLemmas.{all_name_lines_more, names_told}
use Rattle.ix_ask.proofs.names.list_names.Goals as goal

pub loop-number-preserved : goal.loop-number-preserved
loop-number-preserved c =
    let names = names_of c.args.index.now.parts.rows in
    let within : c.loop-number.number < length names = omega (arith, c.loop-number-test.true, c.doc_count-count.ensures.count, length-map c.args.index.now.parts.rows (λ row. row.name)) in
    let more = all_name_lines_more names c.loop-number.number _ within c.name.ensures in
    cc (more, c.in_ok-push_name_line.ensures, c.loop-number.invariant)

pub returns : goal.returns
returns c = λ version collection index.
    let rows = c.args.index.now.parts.rows in
    let names = names_of rows in
    let whole : length names ≡ c.loop-number.number = omega (arith, c.loop-number-test.false, c.loop-number.auto.number-end, c.doc_count-count.ensures.count, length-map rows (λ row. row.name)) in
    record {
      named = c.loop-number.invariant ∙ ap all_name_lines (take_all c.loop-number.number names (omega (arith, whole)) ∙ names_told collection c.args.index.now.parts index.parts);
      counted = c.doc_count-count.ensures.count ∙ ap length index.parts.rows ∙ length-map collection.documents row_of;
    }
