-- One segment after another, and the removals behind them.
use Rattle.std.proofs.Common.{◌≡◌, ◌∙◌, ◌<◌, ◌≤◌, ◌+◌, ◌++◌, ◌∷◌, [], ℕ, List, Option, None, Some, length, take, get_or, sym, ap, subst, arith, rules}
use Rattle.std.specs.Prelude.{IfOk, IfSome, Ok, Result}
use Rattle.std.specs.Option.{ok_or, option_copied}
use Rattle.std.specs.Result.{result_unwrap_or}
use Rattle.std.proofs.lemmas.Bool.Decides.{nat_tests}
use Rattle.std.proofs.lemmas.List.{nil_from_length, take_all, take_more}
use Rattle.ix_manifest.specs.ManifestText.{view_of}
use Rattle.ix_archive.specs.Checks.{IsPassed, RefusesText, files_of}
use Rattle.ix_archive.specs.Counting.{counts_with}
use Rattle.ix_archive.specs.declared.checked.Counts.{Counts}
use Rattle.ix_archive.specs.declared.read_error.ReadError.TheVariants.{Archive}
use Rattle.ix_archive.proofs.CheckLemmas.{faulty_more, none_checked, passed_more, removals_faulty, segment_named, segments_faulty, sound_of}
use Rattle.ix_archive.proofs.checking.check.Goals as goal
use Rattle.ix_archive.proofs.checking.check.Goals.{in-Ok, in-Err-Archive+in_ok-push-in-Err-Archive, in-None+else-is_empty, in-Some+in_ok-push-in-Some}

ok_at : {T E : Type 0} (P : T → Type 0) (r : Result T E) (x : T) → r ≡ Ok x → IfOk r P → P x
ok_at {T} {E} P r x is told = subst (λ (s : Result T E). IfOk s P) is told

counted_from : {E : Type 0} (r : Option Counts) (sum counts : Counts) (error : E) → IfSome r (λ c. c ≡ sum) → Ok counts ≡ ok_or r error → counts ≡ sum
counted_from {E} (Some value) sum counts error told is =
    let unwrap : Result Counts E → Counts = λ r. result_unwrap_or r counts in
    ap unwrap is ∙ told
counted_from None sum counts error told is = absurd (let none = is in cc)

taken : {X : Type 0} (xs : List X) (i : ℕ) (x : X) → i < length xs → x ≡ get_or xs i x → take (i + 1) xs ≡ take i xs ++ x ∷ []
taken xs i x within is = take_more xs i x within ∙ ap (λ one. take i xs ++ one ∷ []) (sym is)

pub loop-place-init : goal.loop-place-init
loop-place-init g c = rw (c.none-counts.ensures, c.new-faults.ensures.items) (none_checked g.S.ReadAt.contents (files_of (view_of c.args.opened.now.manifest)) c.args.opened.now.removals)

pub loop-place-preserved : goal.loop-place-preserved
loop-place-preserved g c =
    let contents = g.S.ReadAt.contents in
    let opened = c.args.opened.now in
    let sources = opened.sources.items in
    let segments = opened.manifest.segments.items in
    let files = files_of (view_of opened.manifest) in
    let place = c.loop-place.place in
    let source = c.index.result.now in
    let segment = c.index-segment.result.now in
    let text = c.in_ok-text.text.items in
    let each = opened.each_opened in
    let all : c.len-place-end.result ≡ length sources = search rules in
    let test = c.loop-place-test.true in
    let within : place < length sources = omega arith in
    let inside : place < length segments = omega arith in
    let sources_more = taken sources place source within c.index.ensures in
    let segments_more = taken segments place segment inside c.index-segment.ensures in
    let counts_are : c.in_ok-counts.counts ≡ counts_with c.loop-place.counts segment c.match-pass.removed = counted_from c.with.result _ c.in_ok-counts.counts _ c.with.ensures c.in_ok-counts.ensures.value in
    elim c.match-pass.branch [
      | in-Ok w ↦
          let passed = ok_at _ c.pass.result w.in-Ok.passed w.in-Ok.is c.pass.ensures.passed in
          let under = subst (λ (given : Option (List (List ℕ))). IsPassed given segment text opened.removals c.loop-place.counts.documents w.in-Ok.passed.stop w.in-Ok.passed.removed) c.as_ref-given.ensures.value passed in
          rw (sources_more, segments_more, counts_are, w.removed-is, w.stop-is, w.faults-is)
          (passed_more contents files opened.removals (take place sources) (take place segments) c.loop-place.stop c.loop-place.counts c.loop-place.faults.items c.loop-place.invariant source segment text c.in_ok-text.ensures.read
          w.in-Ok.passed.stop w.in-Ok.passed.removed under)
      | in-Err-Archive+in_ok-push-in-Err-Archive w ↦
          let fault = w.in-Err-Archive.fault in
          let refused : RefusesText (option_copied c.as_ref-given.result) segment text (Archive fault) = rw w.in-Err-Archive.field-0-is at w.in-Err-Archive.ensures.refused in
          let under = subst (λ (given : Option (List (List ℕ))). RefusesText given segment text (Archive fault)) c.as_ref-given.ensures.value refused in
          rw (sources_more, segments_more, counts_are, w.removed-is, w.stop-is, w.faults-is, w.in_ok-push-in-Err-Archive.ensures.items)
          (faulty_more contents files opened.removals (take place sources) (take place segments) c.loop-place.stop c.loop-place.counts c.loop-place.faults.items c.loop-place.invariant source segment text c.in_ok-text.ensures.read
          fault under.0 (segment_named (view_of opened.manifest) place segment inside c.index-segment.ensures) under.1)
    ]

pub returns-in-None-clause-checked : goal.returns-in-None-clause-checked
returns-in-None-clause-checked g c =
    let opened = c.args.opened.now in
    let each = opened.each_opened in
    let all : c.len-place-end.result ≡ length opened.sources.items = search rules in
    let test = c.loop-place-test.false in
    let whole : length opened.sources.items ≤ c.loop-place.place = omega arith in
    let whole_too : length opened.manifest.segments.items ≤ c.loop-place.place = omega arith in
    let checked = rw (take_all c.loop-place.place opened.sources.items whole, take_all c.loop-place.place opened.manifest.segments.items whole_too) at c.loop-place.invariant in
    let nothing : length c.loop-place.faults.items ≡ 0 = grind (arith, nat_tests, c.is_empty.ensures, c.if-is_empty.true) in
    sound_of g.S.ReadAt.contents opened c.loop-place.stop c.loop-place.counts c.loop-place.faults.items checked (nil_from_length c.loop-place.faults.items nothing) c.in-None.ensures

pub returns-clause-checked : goal.returns-clause-checked
returns-clause-checked g c =
    let opened = c.args.opened.now in
    let each = opened.each_opened in
    let all : c.len-place-end.result ≡ length opened.sources.items = search rules in
    let test = c.loop-place-test.false in
    let whole : length opened.sources.items ≤ c.loop-place.place = omega arith in
    let whole_too : length opened.manifest.segments.items ≤ c.loop-place.place = omega arith in
    let checked = rw (take_all c.loop-place.place opened.sources.items whole, take_all c.loop-place.place opened.manifest.segments.items whole_too) at c.loop-place.invariant in
    record {
      texts = checked.texts;
      read = checked.read;
      found = elim c.match-fault_of_removals.branch [
        | in-None+else-is_empty w ↦
            let some : 0 < length c.loop-place.faults.items = grind (arith, nat_tests, w.is_empty.ensures, w.if-is_empty.false) in
            rw w.faults-is (segments_faulty g.S.ReadAt.contents opened c.loop-place.stop c.loop-place.counts c.loop-place.faults.items checked (λ none. absurd (let same = ap length none in omega arith)))
        | in-Some+in_ok-push-in-Some w ↦
            rw (w.faults-is, w.in_ok-push-in-Some.ensures.items)
            (removals_faulty g.S.ReadAt.contents opened c.loop-place.stop c.loop-place.counts c.loop-place.faults.items checked w.in-Some.fault w.in-Some.ensures.0 w.in-Some.ensures.1)
      ];
    }
