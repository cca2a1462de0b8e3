-- What the volume lends is the index of the file's collection.
use Rattle.std.proofs.Common.{rules, subst, sym}
use Rattle.ix_file.specs.Opened.{IsIndexOf, Opened}
use Rattle.ix_command.specs.IndexFiles.{no_index, no_names}
use Rattle.ix_command.specs.Refusals.{Tells}
use Rattle.ix_command.proofs.FileLemmas.{handed_up, told_up}
use Rattle.ix_command.proofs.commands.search.search_whole.Goals as goal

pub returns-in_err-volume-clause-refused : goal.returns-in_err-volume-clause-refused
returns-in_err-volume-clause-refused g c = handed_up _ c.from_residual.result c.in_err-volume.field-0.0 c.from_residual.ensures.1 (no_index c.in_err-volume.ensures.refused (search rules))

pub returns-in_err-search-clause-refused : goal.returns-in_err-search-clause-refused
returns-in_err-search-clause-refused g c =
    let opened = c.in_ok-volume.ensures.opened in
    let index = subst (λ (o : Opened). IsIndexOf o opened.version opened.collection) (sym c.index.ensures) opened.index in
    told_up Tells _ c.from_residual-in_err-search.result c.in_err-search.field-0.0 c.from_residual-in_err-search.ensures.1
    (λ told tells. no_names opened.version opened.collection opened.held (record {
      error = c.in_err-search.field-0.0;
      tells = tells;
      leaves = c.in_err-search.ensures.refused opened.version opened.collection index;
    }))

pub returns-clause-answered : goal.returns-clause-answered
returns-clause-answered g c =
    let opened = c.in_ok-volume.ensures.opened in
    let index = subst (λ (o : Opened). IsIndexOf o opened.version opened.collection) (sym c.index.ensures) opened.index in
    record {
      version = opened.version;
      collection = opened.collection;
      held = opened.held;
      searched = c.in_ok-search.ensures.answered opened.version opened.collection index;
    }
