-- What the merge of the one run wrote is the index text of the documents.
use Rattle.std.proofs.Common.{◌≡◌, ◌∙◌, ℕ, List, [], ◌∷◌, ◌++◌, Some, map, ap₂, sym, subst}
use Rattle.ix_text.specs.Collections.{collection_of}
use Rattle.ix_text.specs.Docs.{named_text}
use Rattle.ix_file.specs.Endings.{WritesIndexText}
use Rattle.ix_file.specs.IndexText.{IsIndexText}
use Rattle.ix_file.specs.Sections.{FrontCoded}
use Rattle.ix_run.specs.RunSources.{HasGiven, HasLeft, SourceValue, unread}
use Rattle.ix_run.specs.Sources.{IsUnread}
use Rattle.ix_merge.specs.Pieces.{WritesConcatenation}
use Rattle.ix_build.proofs.RunMerging.{heading_held}
use Rattle.ix_ask.proofs.AloneLemmas.{one_run_written}
use Rattle.ix_ask.proofs.alone.index_documents.Goals as goal

pub returns-in-Ok-merge : goal.returns-in-Ok-merge
returns-in-Ok-merge c =
    let run = c.in-Ok.run' in
    let texts = map named_text c.args.documents.now in
    let stop = c.args.stop.now in
    let before = c.new-text.result.items in
    let text = c.merge.new.out.items in
    let sources = c.push.new.self.items in
    let one : sources ≡ unread run ∷ [] =
    c.in_ok-push.ensures.items ∙ ap₂ (λ (xs : List SourceValue) (s : SourceValue). xs ++ s ∷ []) c.new-sources.ensures.items c.source.ensures.value in
    let given : IsUnread HasGiven (unread run) = subst (IsUnread HasGiven) c.source.ensures.value c.source.ensures.unread in
    let writes = subst (λ (ss : List SourceValue). WritesConcatenation HasLeft heading_held ss (Some before) (Some text)) one c.in-Ok-merge.ensures.written in
    let written = one_run_written run stop texts (Some before) (Some text) c.in-Ok.ensures.run given writes in
    let whole = subst (λ (b : List ℕ). WritesIndexText (Some b) (Some text) (collection_of stop texts)) c.new-text.ensures.items written in
    subst (IsIndexText FrontCoded (collection_of stop texts)) (sym whole.written) whole.of_collection
