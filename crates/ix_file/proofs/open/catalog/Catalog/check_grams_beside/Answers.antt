use Rattle.std.proofs.Common.{⊎_elim, inl, inr}
use Rattle.std.proofs.lemmas.Result.{err_from_is_err_and}
use Rattle.ix_file.specs.Frames.{texts_in, version_in}
use Rattle.ix_file.proofs.ListingReading.{texts_listed}
use Rattle.ix_file.proofs.TablesRefused.{no_grams}
use Rattle.ix_file.proofs.open.catalog.Catalog.check_grams_beside.Goals as goal

pub read_grams_beside-requires-clause-few : goal.read_grams_beside-requires-clause-few
read_grams_beside-requires-clause-few g c = rw c.requires.catalog.terms_counted c.requires.few

pub read_grams_beside-requires-clause-texts : goal.read_grams_beside-requires-clause-texts
read_grams_beside-requires-clause-texts g c = texts_listed c.args.self.now.terms c.requires.catalog.listings.terms

pub returns-in_err-rows-clause-refused : goal.returns-in_err-rows-clause-refused
returns-in_err-rows-clause-refused g c =
    let p = err_from_is_err_and c.from_residual.result c.from_residual.ensures.1 in
    rw (p.1, p.2)
    (⊎_elim inl
    (λ none. inr (λ parts grams lawful of is.
    no_grams (version_in c.args.frame.now.version) (texts_in c.args.frame.now.sections) c.args.frame.now.documents c.args.frame.now.terms parts grams lawful of is c.args.self.now.terms c.requires.catalog.dictionary none))
    c.in_err-rows.ensures.refused)

pub returns-clause-found : goal.returns-clause-found
returns-clause-found g c = record { of_terms = c.in_ok-rows.ensures.grams.0; spelled = c.in_ok-rows.ensures.grams.1; gaps = c.in_ok-rows.ensures.rows }
