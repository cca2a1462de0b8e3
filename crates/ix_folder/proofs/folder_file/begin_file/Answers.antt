use Rattle.std.proofs.Common.{◌≡◌, [], Some, arith}
use Rattle.ix_files.specs.Locations.{place_of}
use Rattle.ix_files.proofs.Drafting.{changed, standing, unchanged, went_on}
use Rattle.ix_folder.proofs.Preparing.{created_empty, created_growing}
use Rattle.ix_folder.proofs.folder_file.begin_file.Goals as goal

pub returns-clause-growing : goal.returns-clause-growing
returns-clause-growing g c = created_growing _ (λ writer. g.F.Writer.Write.contents writer ≡ Some []) (place_of c.args.at.now) (g.F.Files.view c.remove_unlocked-removed.new.self).slots (g.F.Files.view c.create.new.self).slots
    c.create.result c.create.ensures.created

pub returns-clause-empty : goal.returns-clause-empty
returns-clause-empty g c = created_empty _ (λ writer. g.F.Writer.Write.contents writer ≡ Some []) (place_of c.args.at.now) (g.F.Files.view c.remove_unlocked-removed.new.self).slots (g.F.Files.view c.create.new.self).slots
    c.create.result c.create.ensures.created

pub returns-clause-changes : goal.returns-clause-changes
returns-clause-changes g c =
    changed (changed (unchanged _ _ (g.met.F.Files.only_now c.args.files.now)) c.remove_unlocked-removed.ensures.call (λ slots did place other. did.elsewhere place other))
    c.create.ensures.call (λ slots did place other. did.elsewhere place other)

pub returns-clause-goes_on : goal.returns-clause-goes_on
returns-clause-goes_on g c = went_on (went_on (standing _) c.remove_unlocked-removed.ensures.call) c.create.ensures.call

pub returns-clause-cause : goal.returns-clause-cause
returns-clause-cause g c honest is =
    omega (arith, (c.remove_unlocked-removed.ensures.call.passes (c.create.ensures.call.honest honest)).counted, c.create.ensures.cause honest is)
