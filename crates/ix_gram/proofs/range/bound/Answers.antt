use Rattle.std.proofs.Common.{◌≡◌, ℕ, ◌+◌, ◌-◌, ◌/◌, true, false, sym, ◌∙◌, arith}
use Rattle.ix_text.specs.Parts.{terms_of}
use Rattle.ix_gram.specs.Fronts.{front_side, stands_before}
use Rattle.ix_gram.proofs.FrontLemmas.{between-higher, between-lower}
use Rattle.ix_gram.proofs.range.bound.Goals as goal

pub loop-low-preserved-then-is_before : goal.loop-low-preserved-then-is_before
loop-low-preserved-then-is_before c =
    let middle : ℕ = c.loop-low.low + (c.loop-low.high - c.loop-low.low) / 2 in
    let left = c.loop-low-test.true in
    let is : stands_before c.args.past (front_side c.term.result.now c.args.text.now) ≡ true = sym c.is_before.ensures ∙ c.if-is_before.true in
    between-higher (terms_of c.args.index.now.parts.entries) c.args.text.now c.args.past c.loop-low.low c.loop-low.high middle c.term.result.now c.requires c.term.ensures (omega arith) is c.loop-low.invariant

pub loop-low-preserved : goal.loop-low-preserved
loop-low-preserved c =
    let middle : ℕ = c.loop-low.low + (c.loop-low.high - c.loop-low.low) / 2 in
    let left = c.loop-low-test.true in
    let is : stands_before c.args.past (front_side c.term.result.now c.args.text.now) ≡ false = sym c.is_before.ensures ∙ c.if-is_before.false in
    between-lower (terms_of c.args.index.now.parts.entries) c.args.text.now c.args.past c.loop-low.low c.loop-low.high middle c.term.result.now c.requires c.term.ensures (omega arith) (omega arith) is c.loop-low.invariant
