use Rattle.std.proofs.Common.{refl}
use Rattle.ix_file.specs.Frames.{texts_in, version_in}
use Rattle.ix_file.specs.declared.open.tables.Tables.{Tables}
use Rattle.ix_file.proofs.TablesFound.{AreRead, sections_found, tables_found}
use Rattle.ix_file.proofs.open.tables_of.Goals as goal

pub returns : goal.returns
returns c =
    let version = version_in c.args.frame.now.version in
    let texts = texts_in c.args.frame.now.sections in
    let catalog = c.args.catalog in
    let is = c.requires.catalog in
    let tables : Tables = record { version = c.args.frame.now.version; stop = catalog.stop; rows = catalog.rows; terms = catalog.terms; longs = c.args.longs; grams = c.args.grams } in
    let read : AreRead version texts tables c.args.frame.now.documents c.args.frame.now.terms = record {
      stop_set = is.stop_set;
      stop = is.stop;
      rows = is.rows;
      documents = is.documents;
      rows_counted = is.rows_counted;
      few_documents = c.requires.few;
      names = is.names;
      listings = is.listings;
      dictionary = is.dictionary;
      terms_counted = is.terms_counted;
      sizes = is.sizes;
      laid_out = is.laid_out;
      lists = c.requires.longs.lists;
      listed = c.requires.longs.listed;
      longs = c.requires.longs.entered;
      few_places = c.requires.longs.few;
      of_terms = c.requires.grams.of_terms;
      grams = c.requires.grams.spelled;
      gaps = c.requires.grams.gaps;
    } in
    record {
      version = refl;
      tables = tables_found version texts tables c.args.frame.now.documents c.args.frame.now.terms read;
      spelled = sections_found version texts tables c.args.frame.now.documents c.args.frame.now.terms read;
    }
