-- What a merge of run texts that lie one behind another gives, and why there is nothing.
use Rattle.std.specs.Prelude.{◌≡◌, ◌≢◌, ℕ, List, flat_map, length, map, sum_by}
use Rattle.ix_ask.specs.Merging.{IsMergeOf, RefusesMerging as RefusesTexts}
use Rattle.ix_ask.specs.declared.refusal.EngineRefusal.{EngineRefusal}
use Rattle.ix_ask.specs.declared.refusal.EngineRefusal.TheVariants as engine
use Rattle.ix_c.specs.Filling.{Fills}
use Rattle.ix_c.specs.Telling.{HasNoError}
use Rattle.ix_c.specs.declared.found.Found.{Found}
use Rattle.ix_c.specs.declared.merging.Unmerged.{Unmerged}
use Rattle.ix_c.specs.declared.merging.Unmerged.TheVariants as unmerged

-- The texts lie one behind another in the bytes, and have these sizes.
pub record AreCutFrom (bytes sizes : List ℕ) (texts : List (List ℕ)) : Type 0 where
  pub whole : flat_map (λ text. text) texts ≡ bytes
  pub sized : map length texts ≡ sizes

-- The sizes do not sum to that of the bytes.
abbrev pub AreOff : List ℕ → List ℕ → Type 0
AreOff bytes sizes = sum_by (λ size. size) sizes ≢ length bytes

-- The bytes are run texts of parts of a collection, one behind another, and this is the index text of the whole.
pub record IsMergeUnder (bytes sizes index : List ℕ) : Type 0 where
  pub texts : List (List ℕ)
  pub cut : AreCutFrom bytes sizes texts
  pub merge : IsMergeOf texts index

-- This index text went into the buffer, and how many bytes it has was told.
pub record IsMerged (bytes sizes old new : List ℕ) (found : Found) : Type 0 where
  pub index : List ℕ
  pub merge : IsMergeUnder bytes sizes index
  pub size : found.size ≡ length index
  pub none : found.count ≡ 0
  pub filled : Fills index old new
  pub no_error : HasNoError found

-- Why run texts of these sizes were not merged: by an error of the merge of those texts, or memory ran out.
abbrev pub RefusesMerging : List ℕ → List ℕ → EngineRefusal → Type 0
RefusesMerging bytes sizes (engine.Merge error) = (texts : List (List ℕ)) × AreCutFrom bytes sizes texts × RefusesTexts texts error
RefusesMerging bytes sizes engine.Memory = Unit {0}
RefusesMerging bytes sizes _ = ⊥

-- why nothing was merged
abbrev pub IsUnmerged : List ℕ → List ℕ → Unmerged → Type 0
IsUnmerged bytes sizes unmerged.Sizes = AreOff bytes sizes
IsUnmerged bytes sizes (unmerged.Refused reason) = RefusesMerging bytes sizes reason
