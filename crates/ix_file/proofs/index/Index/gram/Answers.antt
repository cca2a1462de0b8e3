use Rattle.std.proofs.Common.{All}
use Rattle.ix_file.specs.OpenedGrams.{IsGramRow, grams_in}
use Rattle.ix_file.proofs.GramLookUp.{gram_below, gram_held, no_gram}
use Rattle.ix_file.proofs.index.Index.gram.Goals as goal

pub returns-in_err-place : goal.returns-in_err-place
returns-in_err-place c =
    let section = c.self.inside.sections.grams.now in
    let none = rw c.as_slice-rows.ensures.value at c.in_err-place.ensures.nowhere in
    rw (c.from_residual.ensures, ← c.self.view_is, ← c.tables.ensures)
    (no_gram (grams_in section c.tables.result.now.grams.items) c.args.gram.now none)

pub bounds-rows-place : goal.bounds-rows-place
bounds-rows-place c = gram_below c.self.inside.sections.grams.now c.as_slice-rows.result.now c.args.gram.now c.in_ok-place.place c.in_ok-place.ensures.there

pub new-requires : goal.new-requires
new-requires c =
    let section = c.self.inside.sections.grams.now in
    let gaps : All (IsGramRow section) c.as_slice-rows.result.now = rw (c.as_slice-rows.ensures.value, c.tables.ensures) c.self.invariant.gaps in
    (gaps c.in_ok-place.place _ (gram_below section c.as_slice-rows.result.now c.args.gram.now c.in_ok-place.place c.in_ok-place.ensures.there)).coded

pub returns : goal.returns
returns c =
    let section = c.self.inside.sections.grams.now in
    let held = gram_held section c.as_slice-rows.result.now c.args.gram.now c.in_ok-place.place c.new.result _ c.in_ok-place.ensures.there c.new.ensures in
    rw (← c.self.view_is, ← c.tables.ensures, ← c.as_slice-rows.ensures.value) held
