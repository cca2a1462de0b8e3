use Rattle.std.proofs.Common.{◌≡◌, map, take}
use Rattle.ix_text.specs.Docs.{named_text}
use Rattle.ix_build.specs.Balanced.{counted_bytes}
use Rattle.ix_build.proofs.balanced.text_bytes.Given as goal

-- the bytes of the documents before this one
abbrev pub invariant-loop-doc : goal.invariant-loop-doc
invariant-loop-doc l = l.bytes ≡ counted_bytes (map named_text (take l.doc-index l.docs))
