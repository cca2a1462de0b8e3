-- What `upgrade` makes of the files that its line names.
use Rattle.clap.specs.Walk.{Text}
use Rattle.ix_text.specs.Collections.{Collection}
use Rattle.ix_file.specs.Sections.{Version}
use Rattle.ix_files.specs.Reading.{Holding}
use Rattle.ix_command.specs.IndexFiles.{IsIndexHeld, RefusesIndex}
use Rattle.ix_command.specs.Refusals.{IsUnsaved}
use Rattle.ix_command.specs.SavedIndexes.{SavesIndex}
use Rattle.ix_command.specs.declared.refusal.Refusal.{Refusal}

-- The index text of version 2 of the collection of the index file was saved under this path.
pub record IsUpgraded (holds saves : Holding) (old new : Text) : Type 0 where
  pub version : Version
  pub collection : Collection
  pub held : IsIndexHeld holds old version collection
  pub saved : SavesIndex saves new collection

-- Why `upgrade` was refused: the old file gives no index, or the text of its collection cannot be saved.
pub data IsUpgradeRefused (holds : Holding) (old new : Text) : Refusal → Type 0 where
  no_index : {told : Refusal} → RefusesIndex holds old told → IsUpgradeRefused holds old new told
  unsaved : {told : Refusal} (version : Version) (collection : Collection) → IsIndexHeld holds old version collection → IsUnsaved new told → IsUpgradeRefused holds old new told
