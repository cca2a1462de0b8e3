-- One line after another is read, as long as the lines before it are removals.
use Rattle.std.proofs.Common.{◌≡◌, ◌∙◌, ◌<◌, ◌+◌, ◌++◌, length, ap, arith, refl, sym}
use Rattle.std.proofs.lemmas.Bool.{false≢true}
use Rattle.std.proofs.lemmas.Bool.Decides.{nat_tests}
use Rattle.ix_removals.specs.RemovalsText.{removals_text}
use Rattle.ix_removals.proofs.TextLemmas.{fault_here, fault_none, fault_order, no_fault, read_all, same_text, text_more}
use Rattle.ix_removals.proofs.reading.read.Goals as goal

pub returns-in_default-clause-fault : goal.returns-in_default-clause-fault
returns-in_default-clause-fault c =
    let some : 0 < length c.loop-left.left.now = grind (arith, nat_tests, c.is_empty.ensures, c.loop-left-test.true) in
    fault_here c.args.bytes.now c.loop-left.removals c.loop-left.left.now c.len.result c.loop-left.invariant.lawful c.loop-left.invariant.joined c.len.ensures.count some
    (fault_none c.loop-left.removals c.loop-left.left.now c.in_default.ensures.none)

pub returns-in_default-clause-exact : goal.returns-in_default-clause-exact
returns-in_default-clause-exact c = λ removals are is.
    let some : 0 < length c.loop-left.left.now = grind (arith, nat_tests, c.is_empty.ensures, c.loop-left-test.true) in
    absurd (no_fault c.args.bytes.now (c.len.result + 1) removals
    (fault_here c.args.bytes.now c.loop-left.removals c.loop-left.left.now c.len.result c.loop-left.invariant.lawful c.loop-left.invariant.joined c.len.ensures.count some
    (fault_none c.loop-left.removals c.loop-left.left.now c.in_default.ensures.none)) are is)

pub returns-then-not-is_below-clause-fault : goal.returns-then-not-is_below-clause-fault
returns-then-not-is_below-clause-fault c =
    let some : 0 < length c.loop-left.left.now = grind (arith, nat_tests, c.is_empty.ensures, c.loop-left-test.true) in
    let found = c.in-Some.ensures.found in
    fault_here c.args.bytes.now c.loop-left.removals c.loop-left.left.now c.len.result c.loop-left.invariant.lawful c.loop-left.invariant.joined c.len.ensures.count some
    (fault_order c.loop-left.removals c.loop-left.left.now (record { name = c.in-Some.name.now; below = c.in-Some.below }) c.in-Some.rest.now found.0 found.1 (λ above. false≢true (c.if-not-is_below.ensures.1 above)))

pub returns-then-not-is_below-clause-exact : goal.returns-then-not-is_below-clause-exact
returns-then-not-is_below-clause-exact c = λ removals are is.
    let some : 0 < length c.loop-left.left.now = grind (arith, nat_tests, c.is_empty.ensures, c.loop-left-test.true) in
    let found = c.in-Some.ensures.found in
    absurd (no_fault c.args.bytes.now (c.len.result + 1) removals
    (fault_here c.args.bytes.now c.loop-left.removals c.loop-left.left.now c.len.result c.loop-left.invariant.lawful c.loop-left.invariant.joined c.len.ensures.count some
    (fault_order c.loop-left.removals c.loop-left.left.now (record { name = c.in-Some.name.now; below = c.in-Some.below }) c.in-Some.rest.now found.0 found.1 (λ above. false≢true (c.if-not-is_below.ensures.1 above)))) are is)

pub loop-left-preserved : goal.loop-left-preserved
loop-left-preserved c =
    let found = c.in-Some.ensures.found in
    let last = c.in_ok-add.ensures.last (c.if-not-is_below.ensures.0 refl) in
    record {
      lawful = c.in_ok-add.ensures.lawful;
      joined = text_more c.args.bytes.now c.loop-left.removals c.loop-left.left.now (record { name = c.in-Some.name.now; below = c.in-Some.below }) c.in-Some.rest.now c.loop-left.invariant.joined found.1
          ∙ ap (λ removals. removals_text removals ++ c.in-Some.rest.now) (sym last);
    }

pub returns-clause-exact : goal.returns-clause-exact
returns-clause-exact c = λ removals are is.
    let nothing : length c.loop-left.left.now ≡ 0 = grind (arith, nat_tests, c.is_empty.ensures, c.loop-left-test.false) in
    same_text c.loop-left.removals removals c.loop-left.invariant.lawful are (sym (read_all c.args.bytes.now c.loop-left.removals c.loop-left.left.now c.loop-left.invariant.joined nothing) ∙ is)
