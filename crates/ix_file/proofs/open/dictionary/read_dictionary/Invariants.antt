use Rattle.std.proofs.Common.{◌≡◌, ◌++◌, length, min}
use Rattle.ix_file.specs.Frames.{version_in}
use Rattle.ix_index_text.specs.Listings.{listings_section}
use Rattle.ix_file.specs.ReadListings.{AreListings, listings_in, sizes_sum}
use Rattle.ix_file.proofs.ListingReading.{LieFrom, most}
use Rattle.ix_file.proofs.open.dictionary.read_dictionary.Given as goal

abbrev pub invariant-loop-left : goal.invariant-loop-left
invariant-loop-left l = record {
  lawful : AreListings l.stop (listings_in l.terms);
  read : l.section ≡ listings_section (version_in l.version) (listings_in l.terms) ++ l.left;
  end : l.start ≡ min (sizes_sum (listings_in l.terms)) most;
  lie : LieFrom 0 l.terms;
}

abbrev pub decreases-loop-left : goal.decreases-loop-left
decreases-loop-left l = length l.left
