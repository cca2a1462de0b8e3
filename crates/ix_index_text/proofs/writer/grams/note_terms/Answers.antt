-- The grams of one term more, whose text stands next.
use Rattle.std.proofs.Common.{ℕ, List, IsUtf8, subst, sym, arith}
use Rattle.ix_index_text.specs.GramTables.{AreTexts}
use Rattle.ix_index_text.proofs.TermTexts.{before, noted_all, noted_none, noted_one, splits, text_left}
use Rattle.ix_index_text.proofs.writer.grams.note_terms.Goals as goal

pub loop-size-init : goal.loop-size-init
loop-size-init c = (c.utf8.texts, λ terms are. noted_none c.new-lists.result c.args.texts.now c.args.sizes.now terms c.new-lists.ensures.empty are)

pub split_at-requires : goal.split_at-requires
split_at-requires c =
    let (terms, are) = c.requires in
    splits c.loop-size.lists c.args.texts.now c.args.sizes.now c.loop-size.rest.now c.loop-size.number c.loop-size.size-index terms are (c.loop-size.invariant.1 terms are) c.loop-size-test.true c.loop-size.invariant.0

pub note_windows-requires-clause-held : goal.note_windows-requires-clause-held
note_windows-requires-clause-held c =
    let (terms, are) = c.requires in
    let so_far = before c.loop-size.lists c.args.texts.now c.args.sizes.now c.loop-size.rest.now c.loop-size.number c.loop-size.size-index terms are (c.loop-size.invariant.1 terms are) c.loop-size-test.true in
    (_, so_far.0, so_far.1)

pub loop-size-preserved : goal.loop-size-preserved
loop-size-preserved c = (
  by c.requires,
  λ terms are.
      let noted = c.loop-size.invariant.1 terms are in
      let so_far = before c.loop-size.lists c.args.texts.now c.args.sizes.now c.loop-size.rest.now c.loop-size.number c.loop-size.size-index terms are noted c.loop-size-test.true in
      noted_one c.loop-size.lists c.args.texts.now c.args.sizes.now c.loop-size.rest.now c.loop-size.number c.loop-size.size-index terms are noted c.loop-size-test.true c.note_windows.new.lists c.split_at.result.0.now c.split_at.result.1.now
      c.split_at.ensures.front c.split_at.ensures.back (c.in_ok-note_windows.ensures _ so_far.0 so_far.1),
)
  where
    by : ((terms : List (List ℕ)) × AreTexts c.args.texts.now c.args.sizes.now terms) → IsUtf8 c.split_at.result.1.now
    by (terms, are) =
        subst IsUtf8 (sym c.split_at.ensures.back)
        (text_left c.loop-size.lists c.args.texts.now c.args.sizes.now c.loop-size.rest.now c.loop-size.number c.loop-size.size-index terms are (c.loop-size.invariant.1 terms are) c.loop-size-test.true c.loop-size.invariant.0)

pub returns : goal.returns
returns c = λ terms are.
    noted_all c.loop-size.lists c.args.texts.now c.args.sizes.now c.loop-size.rest.now c.loop-size.number c.loop-size.size-index terms are (c.loop-size.invariant.1 terms are) (omega (arith, c.loop-size-test.false)) (omega (arith, c.loop-size.auto.size-index-end))
