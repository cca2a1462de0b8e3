-- The documents that a collection shows.
use Rattle.ix_text.specs.Collections.{NamedText}
use Rattle.ix_text.specs.declared.collection.Doc.{Doc}

-- a document as a clause sees it: its name and its text
abbrev pub named_text : Doc → NamedText
named_text d = record { name = d.name.now; text = d.text.now }
