use Rattle.std.proofs.Common.{◌≢◌, ◌≡◌, ◌<◌, ℕ, Some, slice_get}
use Rattle.ix_files.specs.Locations.{place_of}
use Rattle.ix_files.specs.declared.location.Location.{Location}
use Rattle.ix_build.proofs.run_names.is_among.Given as goal

-- none of the names before this one is it
abbrev pub invariant-loop-index : goal.invariant-loop-index
invariant-loop-index l = (k : ℕ) (name : Location) → k < l.index → slice_get l.names k ≡ Some name → place_of name ≢ place_of l.at
