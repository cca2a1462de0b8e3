use Rattle.std.proofs.Common.{◌↔◌, ◌⊎◌, [], ℕ, List, Any, take}
use Rattle.ix_lookup.specs.Matchers.{AreAt}
use Rattle.ix_projection.specs.Asked.{AsksAbout}
use Rattle.ix_extract.specs.Parts.{IsPartAt, IsPartWanted, IsSought}
use Rattle.ix_extract.proofs.query_matcher.+collect.Given as goal

abbrev pub invariant-collect_each-loop-part : goal.invariant-collect_each-loop-part
invariant-collect_each-loop-part l = record {
  begun : AreAt IsPartWanted IsPartAt l.patterns.matchers.items l.patterns.found [];
  wanted : (term : List ℕ) → IsSought l.words.items l.patterns term ↔ (IsSought l.initial.words.items l.initial.patterns term ⊎ Any (AsksAbout term) (take l.part-index l.parts));
}
