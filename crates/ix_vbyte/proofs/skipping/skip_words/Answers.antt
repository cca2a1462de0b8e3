use Rattle.std.proofs.Common.{arith, ap, sym, ◌∙◌}
use Rattle.ix_vbyte.specs.Ends.{end_of}
use Rattle.ix_vbyte.proofs.Ends.{end_of-le, end_of-none, found_in_front, front_more}
use Rattle.ix_vbyte.proofs.skipping.skip_words.Goals as goal

pub returns-then-count-eq0 : goal.returns-then-count-eq0
returns-then-count-eq0 c = sym (ap (λ n. end_of n c.args.bytes.now) c.if-count-eq0.true ∙ end_of-none c.args.bytes.now)

pub overflow_add-result : goal.overflow_add-result
overflow_add-result c =
    let found = found_in_front c.loop-word.left 8 c.loop-word.rest.now c.in-Some.word.now c.in-Ok.end c.in-Some.ensures.cases.0 c.in-Ok.ensures in
    record { fits = omega (arith, found, end_of-le c.loop-word.left c.loop-word.rest.now) }

pub returns-in-Ok : goal.returns-in-Ok
returns-in-Ok c =
    let found = found_in_front c.loop-word.left 8 c.loop-word.rest.now c.in-Some.word.now c.in-Ok.end c.in-Some.ensures.cases.0 c.in-Ok.ensures in
    omega (arith, found, c.loop-word.invariant.passed, c.loop-word.invariant.within)

pub loop-word-preserved : goal.loop-word-preserved
loop-word-preserved c =
    let cases = c.in-Some.ensures.cases in
    record {
      some = omega (arith, c.in-Err.ensures.1);
      within = omega (arith, cases.2);
      passed = omega (arith, cases.2, front_more 8 c.loop-word.rest.now c.in-Some.word.now c.in-Some.behind.now c.loop-word.left c.in-Err.ends (omega (arith, cases.2)) cases.0 cases.1 c.in-Err.ensures.0 c.in-Err.ensures.1);
    }

pub overflow_add-result-2 : goal.overflow_add-result-2
overflow_add-result-2 c = record { fits = omega (arith, c.skip_bytes.ensures, end_of-le c.loop-word.left c.loop-word.rest.now) }
