use Rattle.std.specs.Prelude.{option_map}
use Rattle.ix_manifest.specs.ManifestText.{view_of}
use Rattle.ix_archive_writer.proofs.OpeningLemmas.{found_is}
use Rattle.ix_archive_writer.proofs.opening.settle_and_read.Goals as goal

pub returns-clause-found : goal.returns-clause-found
returns-clause-found g c honest now at =
    found_is c.args.folder.now now _ _ (option_map view_of c.in_ok-manifest.manifest) at (λ standing stands names. c.in_ok-settle.ensures.settled honest standing stands names) (c.in_ok-manifest.ensures honest)
