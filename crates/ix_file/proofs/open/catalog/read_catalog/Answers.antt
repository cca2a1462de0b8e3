use Rattle.std.proofs.Common.{⊎_elim, inl, inr}
use Rattle.std.proofs.lemmas.Result.{err_from_is_err_and}
use Rattle.ix_file.specs.Frames.{texts_in, version_in}
use Rattle.ix_file.proofs.TablesRefused.{no_listings}
use Rattle.ix_file.proofs.open.catalog.read_catalog.Goals as goal

pub returns-in_err-terms-clause-refused : goal.returns-in_err-terms-clause-refused
returns-in_err-terms-clause-refused c =
    let version = version_in c.args.frame.now.version in
    let texts = texts_in c.args.frame.now.sections in
    let p = err_from_is_err_and c.from_residual-in_err-terms.result c.from_residual-in_err-terms.ensures.1 in
    rw (p.1, p.2)
    (⊎_elim inl
    (λ none. inr (λ parts grams lawful of is.
    no_listings version texts c.args.frame.now.documents c.args.frame.now.terms parts grams lawful of is c.in_ok-stop.stop c.in_ok-stop.ensures.terms.1 none))
    c.in_err-terms.ensures.refused)

pub returns-clause-found : goal.returns-clause-found
returns-clause-found c = record {
  stop_set = c.in_ok-stop.ensures.terms.0;
  stop = c.in_ok-stop.ensures.terms.1;
  rows = c.in_ok-rows.ensures.rows.0;
  documents = c.in_ok-rows.ensures.rows.1;
  rows_counted = c.in_ok-rows.ensures.count;
  names = c.in_ok-rows.ensures.placed;
  listings = c.in_ok-terms.ensures.terms.0;
  dictionary = c.in_ok-terms.ensures.terms.1;
  terms_counted = c.in_ok-terms.ensures.counts.0;
  sizes = c.in_ok-terms.ensures.counts.1;
  laid_out = c.in_ok-terms.ensures.starts;
}
