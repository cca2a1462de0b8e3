use Rattle.std.proofs.Common.{◌∙◌, length, subst, sym, List}
use Rattle.std.proofs.lemmas.Result.{err_from_is_err_and}
use Rattle.ix_manifest.specs.declared.manifest.Segment.{Segment}
use Rattle.ix_archive.specs.Openings.{AreTexts}
use Rattle.ix_archive.proofs.OpenLemmas.{none_of_line, removals_of_line}
use Rattle.ix_archive.proofs.opening.open_files.Goals as goal
use Rattle.ix_archive.proofs.opening.open_files.Goals.{in-None, in-Some+in_ok-removals-in-Some}

pub returns-in_err-removals-in-Some-clause-refused : goal.returns-in_err-removals-in-Some-clause-refused
returns-in_err-removals-in-Some-clause-refused g c =
    let p = err_from_is_err_and c.from_residual.result c.from_residual.ensures.1 in
    rw (p.1, p.2) (λ archive texts removals_file are at.
    let file = removals_of_line _ _ _ _ _ c.in-Some.line removals_file c.in-Some.is at in
    c.in_err-removals-in-Some.ensures.refused (length archive.documents) archive.removals file.text file.there file.is)

pub returns-clause-opened : goal.returns-clause-opened
returns-clause-opened g c = λ archive texts removals_file laid are at. record {
  texts = texts;
  removals_file = removals_file;
  laid = laid;
  removals = elim c.match-manifest.branch [
    | in-None w ↦ rw w.removals-is (w.new-removals.ensures ∙ sym (none_of_line _ _ _ _ _ removals_file w.in-None.is at))
    | in-Some+in_ok-removals-in-Some w ↦
        let file = removals_of_line _ _ _ _ _ w.in-Some.line removals_file w.in-Some.is at in
        rw w.removals-is (w.in_ok-removals-in-Some.ensures.read (length archive.documents) archive.removals file.text file.there file.is)
  ];
  told = c.in_ok-sources.ensures.told texts (subst (λ (segments : List Segment). AreTexts (g.F.Files.view c.args.files.now) c.args.folder.now segments texts) (sym c.deref.ensures.value) are);
}
