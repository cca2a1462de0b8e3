use Rattle.std.proofs.Common.{◌∙◌, sym}
use Rattle.std.proofs.lemmas.Result.{IfOk-weaker}
use Rattle.ix_archive_writer.proofs.FindingLemmas.{file_of_line, no_removals}
use Rattle.ix_archive_writer.proofs.removals.read_removals.Goals as goal

pub returns-in-None : goal.returns-in-None
returns-in-None g c honest count removals text are kept = c.new.ensures ∙ sym (no_removals count removals c.args.manifest.now.removals text c.in-None.is are)

pub returns-in-Some : goal.returns-in-Some
returns-in-Some g c =
    IfOk-weaker c.read_file.result _ _ (λ read known honest count removals text are kept.
    let file = file_of_line c.args.folder.now (g.F.Files.view c.args.files.now).slots count removals c.args.manifest.now.removals c.in-Some.line text c.in-Some.is are kept in
    known honest count removals file.text file.is file.kept)
    c.read_file.ensures
