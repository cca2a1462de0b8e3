-- If the archive is there, the first attempt opens it or fails from outside.
use Rattle.std.proofs.Common.{◌∙◌, length, subst, sym, arith}
use Rattle.std.proofs.lemmas.Result.{err_from_is_err_and}
use Rattle.ix_manifest.specs.ManifestText.{ManifestView}
use Rattle.ix_archive.specs.Layouts.{IsLaidOut}
use Rattle.ix_archive.specs.Openings.{AreRemovalsAt, AreTexts}
use Rattle.ix_archive.proofs.OpenLemmas.{files_of_archive}
use Rattle.ix_archive.proofs.opening.open_archive.Goals as goal

pub returns-in_err-manifest-clause-refused : goal.returns-in_err-manifest-clause-refused
returns-in_err-manifest-clause-refused g c =
    let p = err_from_is_err_and c.from_residual-in_err-manifest.result c.from_residual-in_err-manifest.ensures.1 in
    rw (p.1, p.2) (λ archive is.
    c.in_err-manifest.ensures.refused archive is.there.view is.there.texts is.there.removals_file is.there.laid (c.deref.ensures.value ∙ (c.loop.invariant.first archive is).1))

pub returns-in-Ok-clause-opened : goal.returns-in-Ok-clause-opened
returns-in-Ok-clause-opened g c = λ archive is.
    let view = g.F.Files.view c.args.files.now in
    let there = is.there in
    let same = c.in_ok-manifest.ensures.parsed there.view there.laid.lawful (c.deref.ensures.value ∙ (c.loop.invariant.first archive is).1) in
    let files = files_of_archive view c.args.path.now c.as_str-in-loop.result.now archive is (λ honest. c.as_str-in-loop.ensures.value ∙ c.in_ok-folder.ensures.located honest) in
    c.in-Ok.ensures.opened archive there.texts there.removals_file
    (subst (λ (v : ManifestView). IsLaidOut archive v there.texts there.removals_file) (sym same) there.laid)
    (subst (λ (v : ManifestView). AreTexts view c.as_str-in-loop.result.now v.segments there.texts) (sym same) files.texts_are)
    (subst (λ (v : ManifestView). AreRemovalsAt view c.as_str-in-loop.result.now (length archive.documents) archive.removals v.removals there.removals_file) (sym same) files.removals_are)

pub returns-then-not-is_missing-clause-refused : goal.returns-then-not-is_missing-clause-refused
returns-then-not-is_missing-clause-refused g c = λ archive is.
    let view = g.F.Files.view c.args.files.now in
    let there = is.there in
    let same = c.in_ok-manifest.ensures.parsed there.view there.laid.lawful (c.deref.ensures.value ∙ (c.loop.invariant.first archive is).1) in
    let files = files_of_archive view c.args.path.now c.as_str-in-loop.result.now archive is (λ honest. c.as_str-in-loop.ensures.value ∙ c.in_ok-folder.ensures.located honest) in
    c.in-Err.ensures.refused archive there.texts there.removals_file
    (subst (λ (v : ManifestView). AreTexts view c.as_str-in-loop.result.now v.segments there.texts) (sym same) files.texts_are)
    (subst (λ (v : ManifestView). AreRemovalsAt view c.as_str-in-loop.result.now (length archive.documents) archive.removals v.removals there.removals_file) (sym same) files.removals_are)

pub returns-in_err-again-clause-refused : goal.returns-in_err-again-clause-refused
returns-in_err-again-clause-refused g c =
    let p = err_from_is_err_and c.from_residual-in_err-again.result c.from_residual-in_err-again.ensures.1 in
    rw (p.1, p.2) (λ archive is.
    let files = files_of_archive (g.F.Files.view c.args.files.now) c.args.path.now c.as_str-in-loop-2.result.now archive is (λ honest. c.as_str-in-loop-2.ensures.value ∙ c.in_ok-folder.ensures.located honest) in
    c.in_err-again.ensures.refused _ files.manifest_is)

pub returns-then-eq-clause-refused : goal.returns-then-eq-clause-refused
returns-then-eq-clause-refused g c = λ archive is.
    let view = g.F.Files.view c.args.files.now in
    let there = is.there in
    let same = c.in_ok-manifest.ensures.parsed there.view there.laid.lawful (c.deref.ensures.value ∙ (c.loop.invariant.first archive is).1) in
    let files = files_of_archive view c.args.path.now c.as_str-in-loop.result.now archive is (λ honest. c.as_str-in-loop.ensures.value ∙ c.in_ok-folder.ensures.located honest) in
    c.in-Err.ensures.refused archive there.texts there.removals_file
    (subst (λ (v : ManifestView). AreTexts view c.as_str-in-loop.result.now v.segments there.texts) (sym same) files.texts_are)
    (subst (λ (v : ManifestView). AreRemovalsAt view c.as_str-in-loop.result.now (length archive.documents) archive.removals v.removals there.removals_file) (sym same) files.removals_are)

pub loop-preserved : goal.loop-preserved
loop-preserved g c = record {
  first = λ archive is.
      let view = g.F.Files.view c.args.files.now in
      let there = is.there in
      let same = c.in_ok-manifest.ensures.parsed there.view there.laid.lawful (c.deref.ensures.value ∙ (c.loop.invariant.first archive is).1) in
      let files = files_of_archive view c.args.path.now c.as_str-in-loop.result.now archive is (λ honest. c.as_str-in-loop.ensures.value ∙ c.in_ok-folder.ensures.located honest) in
      let outside = c.in-Err.ensures.refused archive there.texts there.removals_file
      (subst (λ (v : ManifestView). AreTexts view c.as_str-in-loop.result.now v.segments there.texts) (sym same) files.texts_are)
      (subst (λ (v : ManifestView). AreRemovalsAt view c.as_str-in-loop.result.now (length archive.documents) archive.removals v.removals there.removals_file) (sym same) files.removals_are) in
      absurd (let missing = c.if-not-is_missing.false in let no = c.is_missing.ensures outside in cc);
}

pub returns-clause-refused : goal.returns-clause-refused
returns-clause-refused g c = λ archive is. absurd (let first = (c.loop.invariant.first archive is).0 in let all = c.loop-test.false in omega arith)
