use Rattle.std.proofs.Common.{◌≡◌, length}
use Rattle.ix_query.specs.Finding.{ArePlaced}
use Rattle.ix_query.proofs.answers.terms.place_terms.Given as goal

-- the terms so far are placed
abbrev pub invariant-loop-place : goal.invariant-loop-place
invariant-loop-place l = record {
  each_placed : length l.places.items ≡ length l.lists.items;
  each_started : length l.starts.items ≡ length l.lists.items;
  placed : ArePlaced l.index.parts l.parts l.place l.lists.items l.places.items;
}
