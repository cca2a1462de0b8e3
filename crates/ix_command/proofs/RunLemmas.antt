-- What was read of a collection file against all of it, for the run that is made of it.
use Rattle.std.proofs.Common.{◌≡◌, ℕ, List, take, subst}
use Rattle.ix_text.specs.Collections.{collection_of}
use Rattle.ix_text.specs.CollectionText.{IsCollectionText}
use Rattle.ix_run.specs.Runs.{RunValue, run_bytes}
use Rattle.ix_run.proofs.RunSizes.{run_text}
use Rattle.ix_command.specs.AskedFiles.{IsStopHeld}
use Rattle.ix_files.specs.Reading.{Holding, IsFront}
use Rattle.ix_command.specs.WrittenRuns.{HasRun, IsRunOfFiles, RefusesRun}
use Rattle.ix_ask.specs.declared.refusal.EngineRefusal.TheVariants as engine
use Rattle.ix_command.specs.declared.refusal.Refusal.{Refusal}
use Rattle.ix_command.specs.declared.refusal.Refusal.TheVariants as refusal
use Rattle.ix_command.proofs.FileLemmas.{read_whole, refuses_collection_whole, room}
use Rattle.std.specs.Prelude.{Option}
use Rattle.std.specs.Borrow.{Bor}

-- the run of what was read is that of the whole file
pub run_of_files : (holds : Holding) (stop_file : Option (Bor (List ℕ))) (first : ℕ) (path bytes : List ℕ) (stop : List (List ℕ)) (run : RunValue)
    → IsFront (holds path) room bytes → IsStopHeld holds stop_file stop → HasRun bytes stop first run → IsRunOfFiles holds stop_file first path (run_bytes run)
run_of_files holds stop_file first path bytes stop run front stop_held has =
    record {
      collection = front.whole;
      stop = stop;
      documents = has.documents;
      held = front.held;
      stop_held = stop_held;
      read = subst (λ text. IsCollectionText text has.documents) (read_whole bytes front.whole front.cut has.read.size) has.read;
      of_collection = run_text run first (collection_of stop has.documents) has.of_collection;
    }

-- and so is the reason why there is none
pub refuses_run_whole : (bytes whole : List ℕ) (stop : List (List ℕ)) (first : ℕ) (told : Refusal) → bytes ≡ take room whole → RefusesRun bytes stop first told → RefusesRun whole stop first told
refuses_run_whole bytes whole stop first (refusal.Engine (engine.Collection error)) cut why = refuses_collection_whole bytes whole error cut why
refuses_run_whole bytes whole stop first (refusal.Engine (engine.Run error)) cut why =
    (why.0, subst (λ text. IsCollectionText text why.0) (read_whole bytes whole cut why.1.size) why.1, why.2)
refuses_run_whole bytes whole stop first _ cut why = absurd why
