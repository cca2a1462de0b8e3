use Rattle.std.proofs.Common.{subst, ⊎_elim, inl, inr, arith}
use Rattle.std.proofs.lemmas.List.{length-map}
use Rattle.std.proofs.lemmas.Result.{err_from_is_err_and}
use Rattle.ix_postings.specs.TokenTables.{HasTokens}
use Rattle.ix_file.specs.Claimed.{HasRoom}
use Rattle.ix_file.specs.Frames.{texts_in, version_in}
use Rattle.ix_file.specs.OpenedRows.{row_in, rows_in}
use Rattle.ix_file.proofs.TablesRefused.{no_lists}
use Rattle.ix_file.proofs.open.catalog.Catalog.check_postings_beside.Goals as goal

pub check_lists_beside-requires-clause-ready : goal.check_lists_beside-requires-clause-ready
check_lists_beside-requires-clause-ready g c claims room =
    let texts = texts_in c.args.frame.now.sections in
    let items = c.args.self.now.rows.items in
    let rows = rows_in texts.documents items in
    let is = c.requires.catalog in
    let has : HasTokens c.in_ok-tokens.tokens rows = rw (← c.deref.ensures.value) (c.in_ok-tokens.ensures texts.documents) in
    record {
      rows = rows;
      has = has;
      few_documents = omega (arith, is.rows_counted, c.requires.few, length-map items (row_in texts.documents));
      few_tokens = is.rows.few_tokens;
      room = subst (HasRoom claims) (c.total-total.ensures rows has) room;
    }

pub returns-in_err-longs-clause-refused : goal.returns-in_err-longs-clause-refused
returns-in_err-longs-clause-refused g c =
    let texts = texts_in c.args.frame.now.sections in
    let rows = rows_in texts.documents c.args.self.now.rows.items in
    let is_read = c.requires.catalog in
    let has : HasTokens c.in_ok-tokens.tokens rows = rw (← c.deref.ensures.value) (c.in_ok-tokens.ensures texts.documents) in
    let p = err_from_is_err_and c.from_residual-in_err-longs.result c.from_residual-in_err-longs.ensures.1 in
    rw (p.1, p.2)
    (⊎_elim inl
    (λ none. inr (λ parts grams lawful of is.
    no_lists (version_in c.args.frame.now.version) texts c.args.frame.now.documents c.args.frame.now.terms parts grams lawful of is rows c.args.self.now.terms is_read.documents is_read.dictionary is_read.laid_out is_read.sizes
    (λ lists are. none rows lists has are)))
    c.in_err-longs.ensures.refused)

pub returns-clause-found : goal.returns-clause-found
returns-clause-found g c =
    let texts = texts_in c.args.frame.now.sections in
    let rows = rows_in texts.documents c.args.self.now.rows.items in
    let has : HasTokens c.in_ok-tokens.tokens rows = rw (← c.deref.ensures.value) (c.in_ok-tokens.ensures texts.documents) in
    let found = c.in_ok-longs.ensures.found rows has in
    record { lists = found.0; listed = found.1; entered = c.in_ok-longs.ensures.entered; few = c.in_ok-longs.ensures.few }
