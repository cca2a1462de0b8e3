use Rattle.std.proofs.Common.{map, take}
use Rattle.ix_text.specs.Docs.{named_text}
use Rattle.ix_run.specs.Inverted.{documents_of}
use Rattle.ix_run.specs.SeenWords.{AreSeen}
use Rattle.ix_run.proofs.Blocks.{IsInvertedBefore}
use Rattle.ix_run.proofs.inversion.add_documents.Given as goal

-- the documents before the next one are inverted
abbrev pub invariant-loop-doc : goal.invariant-loop-doc
invariant-loop-doc l = record {
  before : IsInvertedBefore l.stop (documents_of l.stop (map named_text (take l.doc-index l.docs))) l.dictionary.numbers l.dictionary.tokens.items l.dictionary.ends.items l.rows.items;
  seen : AreSeen l.stop l.dictionary.numbers l.words;
}
