use Rattle.std.proofs.Common.{arith}
use Rattle.std.proofs.lemmas.List.{length-map}
use Rattle.std.proofs.lemmas.Option.{slice_get_within}
use Rattle.ix_text.specs.Parts.{DocumentRow}
use Rattle.ix_file.specs.Opened.{names_of}
use Rattle.ix_archive.specs.Findings.{IsGoneFrom}
use Rattle.ix_archive.proofs.CountLemmas.{Below, counted_alike, one_less, one_more}
use Rattle.ix_archive.proofs.checking.count_gone.Goals as goal
use Rattle.ix_archive.proofs.checking.count_gone.Goals.{then-is_gone, else-is_gone}

pub loop-number-preserved : goal.loop-number-preserved
loop-number-preserved c =
    let gone = IsGoneFrom c.args.removals.now c.args.first (names_of c.args.index.now.parts.rows) in
    let small = c.loop-number.invariant.0 in
    elim c.if-is_gone.branch [
      | then-is_gone w ↦ rw w.count-is ((omega arith), one_more c.loop-number.number gone c.loop-number.count (rw w.if-is_gone.true at c.is_gone.ensures) c.loop-number.invariant.1)
      | else-is_gone w ↦ rw w.count-is ((omega arith), one_less c.loop-number.number gone c.loop-number.count (rw w.if-is_gone.false at c.is_gone.ensures) c.loop-number.invariant.1)
    ]

pub returns : goal.returns
returns c =
    let rows = c.args.index.now.parts.rows in
    let gone = IsGoneFrom c.args.removals.now c.args.first (names_of rows) in
    counted_alike (Below c.loop-number.number gone) gone c.loop-number.count (λ n. (
      λ (low, has). has,
      λ has. (
        let within = slice_get_within (names_of rows) n has.name has.numbered in
            let same = length-map rows (λ (row : DocumentRow). row.name) in let all = c.loop-number-test.false in let count = c.doc_count-number-end.ensures.count in omega arith,
        has,
      ),
    )) c.loop-number.invariant.1
