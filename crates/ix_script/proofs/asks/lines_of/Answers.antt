-- The next step asks, and has the next answer, or does not ask.
use Rattle.std.proofs.Common.{◌∙◌, ◌≡◌, ◌+◌, ◌<◌, ◌||◌, ◌∷◌, [], ◌++◌, ap, ap₂, arith, length, length-append, map, rules, get_or, take, sym}
use Rattle.std.specs.String.{string_bytes}
use Rattle.std.proofs.lemmas.List.{length-map}
use Rattle.ix_script.specs.Answers.{names_in}
use Rattle.ix_script.specs.PrintedAnswers.{answer_lines, answered_with, asked_in, lines_of}
use Rattle.ix_script.specs.Runs.{is_some_name, some_found}
use Rattle.ix_script.specs.Steps.{step_of}
use Rattle.ix_script.proofs.PrintingLemmas.{answer_left, few_asked, found_push, lines_push, mapped_at, next_answered, next_asked, next_quiet, next_unanswered}
use Rattle.ix_script.proofs.asks.lines_of.Goals as goal
use Rattle.ix_script.proofs.asks.lines_of.Goals.{in-Ask+in_ok-push_answer, in_default}

pub offset_bounds-answers-place : goal.offset_bounds-answers-place
offset_bounds-answers-place c =
    let low : c.loop-step.place < length c.args.answers.now =
    omega (arith, answer_left c.args.steps.now c.loop-step.step-index c.step-item.result _ _ (length c.args.answers.now) c.loop-step-test.true c.step-item.is (ap step_of c.in-Ask.is) c.requires, c.loop-step.invariant.place) in
    search rules

pub bounds-answers-place : goal.bounds-answers-place
bounds-answers-place c =
    let left = answer_left c.args.steps.now c.loop-step.step-index c.step-item.result _ _ (length c.args.answers.now) c.loop-step-test.true c.step-item.is (ap step_of c.in-Ask.is) c.requires in
    omega (arith, left, c.loop-step.invariant.place)

pub overflow_add-place : goal.overflow_add-place
overflow_add-place c =
    let low : c.loop-step.place < length c.args.answers.now =
    omega (arith, answer_left c.args.steps.now c.loop-step.step-index c.step-item.result _ _ (length c.args.answers.now) c.loop-step-test.true c.step-item.is (ap step_of c.in-Ask.is) c.requires, c.loop-step.invariant.place) in
    search rules

pub loop-step-preserved : goal.loop-step-preserved
loop-step-preserved c = elim c.match-step.branch [
  | in-Ask+in_ok-push_answer w ↦
      (let steps = c.args.steps.now in
      let at = c.loop-step.step-index in
      let names = map names_in c.args.answers.now in
      let asks = ap step_of w.in-Ask.is in
      let left = answer_left steps at c.step-item.result _ _ (length c.args.answers.now) c.loop-step-test.true c.step-item.is asks c.requires in
      let low : c.loop-step.place < length c.args.answers.now = omega (arith, left, c.loop-step.invariant.place) in
      let found : map string_bytes w.deref.result.now ≡ names_in w.index-answers-place.result = ap (map string_bytes) w.deref.ensures.value in
      let found_2 : map string_bytes w.deref-in-Ask.result.now ≡ names_in w.index-answers-place.result = ap (map string_bytes) w.deref-in-Ask.ensures.value in
      let same : names_in w.index-answers-place.result ≡ get_or names c.loop-step.place (names_in w.index-answers-place.result) =
      ap names_in w.index-answers-place.is ∙ mapped_at names_in c.args.answers.now c.loop-step.place w.index-answers-place.result low in
      let next = next_answered steps names at c.loop-step.place c.step-item.result w.in-Ask.query.now w.in-Ask.field-1 (names_in w.index-answers-place.result) c.loop-step-test.true c.step-item.is asks
      c.loop-step.invariant.place (omega (arith, low, length-map c.args.answers.now names_in)) same in
      record {
        place =
            w.place-is ∙ ap (λ n. n + 1) c.loop-step.invariant.place ∙ sym (ap length (next_asked steps at c.step-item.result w.in-Ask.query.now w.in-Ask.field-1 c.loop-step-test.true c.step-item.is asks)
            ∙ length-append (asked_in (map step_of (take at steps))) (w.in-Ask.field-1 ∷ []));
        lines =
            ap string_bytes w.lines-is ∙ w.in_ok-push_answer.ensures ∙ ap₂ (λ l n. l ++ answer_lines (record { query = w.in-Ask.query.now; names = n })) c.loop-step.invariant.lines found
            ∙ sym (ap lines_of next ∙ lines_push (answered_with (map step_of (take at steps)) names) (record { query = w.in-Ask.query.now; names = names_in w.index-answers-place.result }));
        found =
            w.found-is ∙ ap₂ (λ a b. a || b) c.loop-step.invariant.found (w.has_name-found.ensures ∙ ap is_some_name found_2)
            ∙ sym (ap some_found next ∙ found_push (answered_with (map step_of (take at steps)) names) (record { query = w.in-Ask.query.now; names = names_in w.index-answers-place.result }));
      })
  | in_default w ↦ record {
    place = w.place-is ∙ c.loop-step.invariant.place ∙ ap length (sym (next_quiet c.args.steps.now c.loop-step.step-index c.step-item.result c.loop-step-test.true c.step-item.is w.in_default.not-Ask));
    lines = ap string_bytes w.lines-is ∙ c.loop-step.invariant.lines ∙ ap lines_of (sym (next_unanswered c.args.steps.now (map names_in c.args.answers.now) c.loop-step.step-index c.step-item.result c.loop-step-test.true c.step-item.is w.in_default.not-Ask
        (few_asked c.args.steps.now c.loop-step.step-index _ (length-map c.args.answers.now names_in ∙ c.requires))));
    found = w.found-is ∙ c.loop-step.invariant.found ∙ ap some_found (sym (next_unanswered c.args.steps.now (map names_in c.args.answers.now) c.loop-step.step-index c.step-item.result c.loop-step-test.true c.step-item.is w.in_default.not-Ask
        (few_asked c.args.steps.now c.loop-step.step-index _ (length-map c.args.answers.now names_in ∙ c.requires))));
  }
]
