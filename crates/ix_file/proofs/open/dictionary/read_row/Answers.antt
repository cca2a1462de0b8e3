use Rattle.std.proofs.Common.{inr, string_bytes}
use Rattle.std.proofs.lemmas.Result.{err_from_is_err_and}
use Rattle.ix_file.specs.Frames.{version_in}
use Rattle.ix_file.proofs.ListingReading.{behind_term}
use Rattle.ix_file.proofs.open.dictionary.read_row.Goals as goal

pub returns-in_err-documents-clause-refused : goal.returns-in_err-documents-clause-refused
returns-in_err-documents-clause-refused c =
    let p = err_from_is_err_and c.from_residual-in_err-documents.result c.from_residual-in_err-documents.ensures.1 in
    rw p.1
    (inr
    (λ listing rest may has e.
    c.in_err-documents.ensures.refused listing rest has
    (behind_term (version_in c.args.version) c.args.place c.args.before.now c.args.left.now c.in_ok-term.behind.now rest (string_bytes c.in_ok-term.term) listing c.in_ok-term.ensures.found e).1))
