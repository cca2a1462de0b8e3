-- The run text of a part of a collection, and why there is none.
use Rattle.std.specs.Prelude.{◌≡◌, ◌⊎◌, ℕ, List, Result, Err}
use Rattle.ix_text.specs.Collections.{Collection, NamedText, collection_of}
use Rattle.ix_text.specs.CollectionText.{IsCollectionText}
use Rattle.ix_text.specs.declared.collection.CollectionError.TheVariants as collection_error
use Rattle.ix_run.specs.RunText.{IsRunText}
use Rattle.ix_run.specs.Runs.{IsTooLarge}
use Rattle.ix_run.specs.declared.errors.RunError.{RunError}
use Rattle.ix_run.specs.declared.errors.RunError.TheVariants as run_error
use Rattle.ix_ask.specs.Asking.{RefusesCollection}
use Rattle.ix_ask.specs.declared.refusal.EngineRefusal.{EngineRefusal}
use Rattle.ix_ask.specs.declared.refusal.EngineRefusal.TheVariants as engine

-- The text is a collection text, and this is the run text of its collection without the stop terms, its documents counted
-- from `first` on.
pub record IsRunOfText (text : List ℕ) (stop : List (List ℕ)) (first : ℕ) (run : List ℕ) : Type 0 where
  pub documents : List NamedText
  pub read : IsCollectionText text documents
  pub spelled : IsRunText first (collection_of stop documents) run

-- why a collection was not inverted: no run holds so much, or memory ran out
abbrev pub RefusesInversion : Collection → ℕ → RunError → Type 0
RefusesInversion collection first run_error.TooLarge = IsTooLarge first collection
RefusesInversion collection first run_error.Memory = Unit {0}

-- Why there is no run text: the bytes are no collection text, its collection was not inverted, or memory ran out.
abbrev pub RefusesRunning : List ℕ → List (List ℕ) → ℕ → EngineRefusal → Type 0
RefusesRunning text stop first (engine.Collection error) = RefusesCollection text error
RefusesRunning text stop first (engine.Run error) =
    (documents : List NamedText) × IsCollectionText text documents × RefusesInversion (collection_of stop documents) first error
RefusesRunning text stop first engine.Memory = Unit {0}
RefusesRunning text stop first _ = ⊥

-- no run holds so much, or memory ran out in reading the collection
abbrev pub IsTooLargeOrUnread : {X : Type 0} → Result X EngineRefusal → Type 0
IsTooLargeOrUnread result = (result ≡ Err (engine.Run run_error.TooLarge)) ⊎ (result ≡ Err (engine.Collection collection_error.Memory))
