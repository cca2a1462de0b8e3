-- One more text is cut off, or its size is too much; in the end nothing is left, or the sizes are too little.
use Rattle.std.proofs.Common.{◌≡◌, ◌∙◌, ◌++◌, ◌<◌, length, true, not, ap, ap₂, arith}
use Rattle.std.proofs.lemmas.List.{take-append-drop}
use Rattle.std.specs.Prelude.{is_ok}
use Rattle.ix_c.proofs.CutLemmas.{cut_off, too_little, too_much}
use Rattle.ix_c.proofs.merging.cut.Goals as goal

pub loop-size-preserved : goal.loop-size-preserved
loop-size-preserved c =
    let ok : is_ok c.push.result ≡ true = c.is_err.ensures.negation ∙ ap not c.if-is_err.false in
    let items = rw ok at c.push.ensures.items in
    let split : c.split_at.result.0.now ++ c.split_at.result.1.now ≡ c.loop-size.rest.now =
    ap₂ ◌++◌ c.split_at.ensures.front c.split_at.ensures.back ∙ take-append-drop _ c.loop-size.rest.now in
    let more = cut_off c.args.bytes.now c.args.sizes.now c.loop-size.texts.items c.loop-size.rest.now c.loop-size.size-index c.loop-size.invariant c.split_at.result.0 c.split_at.result.1.now
    c.loop-size-test.true c.split_at.ensures.front_len split in
    rw items more

pub returns-then-size-rest-clause-refused : goal.returns-then-size-rest-clause-refused
returns-then-size-rest-clause-refused c = too_much _ _ _ _ _ c.loop-size.invariant c.loop-size-test.true c.if-size-rest.true

pub returns-clause-refused : goal.returns-clause-refused
returns-clause-refused c =
    let left : 0 < length c.loop-size.rest.now = grind (arith, c.is_empty.ensures, c.if-is_empty.false) in
    too_little _ _ _ _ _ c.loop-size.invariant c.loop-size-test.false left
