use Rattle.std.proofs.Common.{ℕ, ◌+◌, ◌-◌, ◌/◌, ◌<◌, ◌≤◌, ◌≡◌, length, ap, Some, ◌∙◌, sym, arith, Less, Equal, Greater}
use Rattle.std.proofs.lemmas.List.{length-map}
use Rattle.ix_text.proofs.StopSetLemmas.{same_from_Equal}
use Rattle.ix_file.specs.PlacedTerms.{terms_in}
use Rattle.ix_file.proofs.Halving.{at_text, between-all, between-higher, between-lower, cmp, no_text}
use Rattle.ix_file.proofs.PlacedLemmas.{text_of}
use Rattle.ix_file.proofs.index.place_of.Goals as goal

pub loop-low-init : goal.loop-low-init
loop-low-init c = between-all (terms_in c.args.terms.now) c.args.term.now c.len-high.result (omega (arith, c.len-high.ensures.count, length-map c.args.terms.now text_of))

pub text-requires : goal.text-requires
text-requires c =
    let left = c.loop-low-test.true in
    let within : c.loop-low.high ≤ length (terms_in c.args.terms.now) = c.loop-low.invariant.within in
    omega (arith, left, within, length-map c.args.terms.now text_of)

pub loop-low-preserved-in-Less : goal.loop-low-preserved-in-Less
loop-low-preserved-in-Less c =
    let texts = terms_in c.args.terms.now in
    let middle : ℕ = c.loop-low.low + (c.loop-low.high - c.loop-low.low) / 2 in
    let left = c.loop-low-test.true in
    let under : middle < c.loop-low.high = omega arith in
    between-higher texts c.args.term.now c.loop-low.low c.loop-low.high middle c.requires c.loop-low.invariant under
    (at_text texts middle c.text.result.now c.args.term.now c.as_bytes.result.now c.as_bytes-wanted.result.now c.cmp.result Less c.text.ensures c.as_bytes.ensures.value c.as_bytes-wanted.ensures.value c.cmp.ensures c.in-Less.is)

pub returns-in-Equal : goal.returns-in-Equal
returns-in-Equal c =
    let tie : cmp c.as_bytes.result.now c.as_bytes-wanted.result.now ≡ Equal = sym c.cmp.ensures ∙ c.in-Equal.is in
    c.text.ensures ∙ ap Some (sym c.as_bytes.ensures.value ∙ same_from_Equal c.as_bytes.result.now c.as_bytes-wanted.result.now tie ∙ c.as_bytes-wanted.ensures.value)

pub loop-low-preserved : goal.loop-low-preserved
loop-low-preserved c =
    let texts = terms_in c.args.terms.now in
    let middle : ℕ = c.loop-low.low + (c.loop-low.high - c.loop-low.low) / 2 in
    let left = c.loop-low-test.true in
    let under : middle < c.loop-low.high = omega arith in
    between-lower texts c.args.term.now c.loop-low.low c.loop-low.high middle c.requires c.loop-low.invariant (omega arith) under
    (at_text texts middle c.text.result.now c.args.term.now c.as_bytes.result.now c.as_bytes-wanted.result.now c.cmp.result Greater c.text.ensures c.as_bytes.ensures.value c.as_bytes-wanted.ensures.value c.cmp.ensures c.in-Greater.is)

pub returns : goal.returns
returns c = no_text (terms_in c.args.terms.now) c.args.term.now c.loop-low.low c.loop-low.high c.loop-low.invariant c.loop-low-test.false
