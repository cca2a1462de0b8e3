use Rattle.std.proofs.Common.{◌+◌, length, map, IsUtf8}
use Rattle.std.specs.Vec.{vec_len}
use denote.Text.{Utf8}
use denote.Shadow.{shadow}
use Rattle.ix_text.specs.CollectionFaults.{IsReadUpTo}
use Rattle.ix_text.specs.Docs.{named_text}
use Rattle.ix_text.proofs.collection.Collection.read.Given as goal

abbrev pub invariant-loop-left : goal.invariant-loop-left
invariant-loop-left l = record {
  text : shadow (Utf8 l.left);
  characters : IsUtf8 l.bytes;
  read : IsReadUpTo l.bytes (map named_text l.docs.items) (vec_len l.docs + 1) l.left;
}

abbrev pub decreases-loop-left : goal.decreases-loop-left
decreases-loop-left l = length l.left
