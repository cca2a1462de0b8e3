use Rattle.std.proofs.Common.{ℕ, ◌+◌, ◌-◌, ◌/◌, ◌<◌, ◌≤◌, length, arith, Less, Equal, Greater}
use Rattle.std.proofs.lemmas.List.{length-map}
use Rattle.ix_file.specs.OpenedGrams.{gram_in, grams_in}
use Rattle.ix_file.proofs.GramFinding.{compared, found-at, found-nowhere, texts_of}
use Rattle.ix_file.proofs.Halving.{between-all, between-higher, between-lower}
use Rattle.ix_file.proofs.open.grams.find_gram.Goals as goal

pub loop-low-init : goal.loop-low-init
loop-low-init c =
    let rows = c.args.rows.now in
    between-all (texts_of (grams_in c.args.section.now rows)) c.args.gram.now (length rows)
    (omega (arith, length-map rows (gram_in c.args.section.now), length-map (grams_in c.args.section.now rows) (λ entry. entry.gram)))

pub loop-low-preserved-in-Less : goal.loop-low-preserved-in-Less
loop-low-preserved-in-Less c =
    let section = c.args.section.now in
    let rows = c.args.rows.now in
    let middle : ℕ = c.loop-low.low + (c.loop-low.high - c.loop-low.low) / 2 in
    let left = c.loop-low-test.true in
    let under : middle < c.loop-low.high = omega arith in
    let high : c.loop-low.high ≤ length (texts_of (grams_in section rows)) = c.loop-low.invariant.within in
    let within : c.loop-low.high ≤ length (grams_in section rows) = omega (arith, high, length-map (grams_in section rows) (λ entry. entry.gram)) in
    between-higher (texts_of (grams_in section rows)) c.args.gram.now c.loop-low.low c.loop-low.high middle c.requires.ascending c.loop-low.invariant under
    (compared section rows c.args.gram.now middle _ c.gram_bytes.result.now c.as_bytes-wanted.result.now c.cmp.result Less (omega (arith, under, within, length-map rows (gram_in section))) c.gram_bytes.ensures c.as_bytes-wanted.ensures.value c.cmp.ensures c.in-Less.is)

pub returns-in-Equal : goal.returns-in-Equal
returns-in-Equal c =
    let section = c.args.section.now in
    let rows = c.args.rows.now in
    let middle : ℕ = c.loop-low.low + (c.loop-low.high - c.loop-low.low) / 2 in
    let left = c.loop-low-test.true in
    let under : middle < c.loop-low.high = omega arith in
    let high : c.loop-low.high ≤ length (texts_of (grams_in section rows)) = c.loop-low.invariant.within in
    let within : c.loop-low.high ≤ length (grams_in section rows) = omega (arith, high, length-map (grams_in section rows) (λ entry. entry.gram)) in
    found-at (grams_in section rows) c.args.gram.now middle (omega arith)
    (compared section rows c.args.gram.now middle _ c.gram_bytes.result.now c.as_bytes-wanted.result.now c.cmp.result Equal (omega (arith, under, within, length-map rows (gram_in section))) c.gram_bytes.ensures c.as_bytes-wanted.ensures.value c.cmp.ensures c.in-Equal.is)

pub loop-low-preserved : goal.loop-low-preserved
loop-low-preserved c =
    let section = c.args.section.now in
    let rows = c.args.rows.now in
    let middle : ℕ = c.loop-low.low + (c.loop-low.high - c.loop-low.low) / 2 in
    let left = c.loop-low-test.true in
    let under : middle < c.loop-low.high = omega arith in
    let high : c.loop-low.high ≤ length (texts_of (grams_in section rows)) = c.loop-low.invariant.within in
    let within : c.loop-low.high ≤ length (grams_in section rows) = omega (arith, high, length-map (grams_in section rows) (λ entry. entry.gram)) in
    between-lower (texts_of (grams_in section rows)) c.args.gram.now c.loop-low.low c.loop-low.high middle c.requires.ascending c.loop-low.invariant (omega arith) under
    (compared section rows c.args.gram.now middle _ c.gram_bytes.result.now c.as_bytes-wanted.result.now c.cmp.result Greater (omega (arith, under, within, length-map rows (gram_in section))) c.gram_bytes.ensures c.as_bytes-wanted.ensures.value c.cmp.ensures c.in-Greater.is)

pub returns : goal.returns
returns c = found-nowhere (grams_in c.args.section.now c.args.rows.now) c.args.gram.now c.loop-low.low c.loop-low.high c.loop-low.invariant c.loop-low-test.false
