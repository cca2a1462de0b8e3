-- What was read of an index file is all of it.
use Rattle.std.proofs.Common.{◌≡◌, ℕ, ◌-◌, ◌^◌, ◌<◌, length, sym, subst, inr}
use Rattle.clap.specs.Walk.{Text}
use Rattle.ix_text.specs.Collections.{Collection}
use Rattle.ix_file.specs.IndexText.{IsIndexText}
use Rattle.ix_file.specs.Opened.{IsIndexOf, Opened}
use Rattle.ix_file.specs.Sections.{Version}
use Rattle.ix_file.specs.declared.open_error.OpenError.{OpenError}
use Rattle.ix_file.specs.declared.open_error.OpenError.TheVariants as open_error
use Rattle.ix_files.specs.Reading.{Holding, IsFront}
use Rattle.ix_command.specs.IndexFiles.{IsOpened, RefusesIndex}
use Rattle.ix_command.specs.declared.refusal.Refusal.TheVariants as refusal
use Rattle.ix_ask.specs.declared.refusal.EngineRefusal.TheVariants as engine
use Rattle.ix_command.proofs.FileLemmas.{read_short}

-- the room for an index file
abbrev pub index_room : ℕ
index_room = 2 ^ 64 - 1

pub opened_whole : (holds : Holding) (path bytes : Text) (opened : Opened) → IsFront (holds path) index_room bytes → length bytes < index_room
    → (collection : Collection) × IsIndexOf opened opened.version collection × IsIndexText opened.version collection bytes → IsOpened holds path opened
opened_whole holds path bytes opened front short (collection, index, spelled) = record {
  version = opened.version;
  collection = collection;
  held = record {
    text = front.whole;
    held = front.held;
    spelled = subst (λ (text : Text). IsIndexText opened.version collection text) (read_short index_room bytes front.whole front.cut short) spelled;
  };
  index = index;
}

pub refused_whole : (holds : Holding) (path bytes : Text) (error : OpenError) → IsFront (holds path) index_room bytes → length bytes < index_room
    → ((version : Version) (collection : Collection) → IsIndexText version collection bytes → error ≡ open_error.Memory) → RefusesIndex holds path (refusal.Engine (engine.Index error))
refused_whole holds path bytes error front short exact =
    let same = read_short index_room bytes front.whole front.cut short in
    inr (front.whole, front.held, λ version collection is. exact version collection (subst (λ (text : Text). IsIndexText version collection text) (sym same) is))
