use Rattle.std.proofs.Common.{◌<◌, arith}
use Rattle.std.proofs.lemmas.Result.{err_from_is_err_and}
use Rattle.ix_file.proofs.ListingReading.{behind_documents}
use Rattle.ix_file.proofs.open.dictionary.read_counts.Goals as goal

pub returns-then-documents-eq0-clause-refused : goal.returns-then-documents-eq0-clause-refused
returns-then-documents-eq0-clause-refused c listing rest has e =
    let behind = behind_documents c.args.left.now c.in_ok-documents.behind.now rest c.in_ok-documents.documents listing c.in_ok-documents.ensures.found.1 e in
    let some : 0 < listing.documents = has.some in
    let none = c.if-documents-eq0.true in
    omega (arith, none, behind.0)

pub returns-in_err-size-clause-refused : goal.returns-in_err-size-clause-refused
returns-in_err-size-clause-refused c =
    let p = err_from_is_err_and c.from_residual-in_err-size.result c.from_residual-in_err-size.ensures.1 in
    rw p.1
    (λ listing rest has e.
    c.in_err-size.ensures.refused listing.size rest has.size
    (behind_documents c.args.left.now c.in_ok-documents.behind.now rest c.in_ok-documents.documents listing c.in_ok-documents.ensures.found.1 e).1)
