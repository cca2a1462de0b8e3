-- What was built is opened as the index of the documents, and it answers as a scan of them.
use Rattle.ix_text.specs.Collections.{collection_of}
use Rattle.ix_file.specs.Sections.{FrontCoded}
use Rattle.ix_ask.proofs.AskLemmas.{numbers_below}
use Rattle.ix_ask.proofs.ask_collection.numbers_through_index.Goals as goal

pub returns-clause-scanned : goal.returns-clause-scanned
returns-clause-scanned g c =
    let collection = collection_of c.args.stop.now c.args.documents.now in
    let index = c.in-Ok.ensures.exact FrontCoded collection (rw (← c.deref.ensures.value) at c.in_ok-text.ensures.text) in
    c.in_ok-numbers.ensures.scan FrontCoded collection index

pub returns-clause-below : goal.returns-clause-below
returns-clause-below g c = numbers_below c.args.stop.now c.args.documents.now c.args.tree.now c.in_ok-numbers.numbers.items (returns-clause-scanned g c)
