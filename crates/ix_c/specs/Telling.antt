-- What a call tells beside its status.
use Rattle.std.specs.Prelude.{◌≡◌, ℕ, ◌⊎◌, List, IfSome, IsUtf8, codes, length}
use Rattle.ix_ask.specs.EngineRefusals.{area_number, area_of, line_of, number_of}
use Rattle.ix_ask.specs.declared.refusal.Area.{Area}
use Rattle.ix_ask.specs.declared.refusal.Area.TheVariants as area
use Rattle.ix_ask.specs.declared.refusal.EngineRefusal.{EngineRefusal}
use Rattle.ix_c.specs.Filling.{Fills}
use Rattle.ix_c.specs.declared.found.Found.{Found}

-- the word that the line of an error begins with
abbrev pub area_word : Area → List ℕ
area_word area.Collection = codes "collection"
area_word area.Stop = codes "stop"
area_word area.Query = codes "query"
area_word area.Pattern = codes "pattern"
area_word area.Index = codes "index"
area_word area.Run = codes "run"
area_word area.Merge = codes "merge"
area_word area.Build = codes "build"
area_word area.Memory = codes "memory"

-- The line of the reason is in the buffer, and this is how many bytes it has; if the reason does not print, its area's
-- word is.
pub record IsLinePut (reason : EngineRefusal) (old new : List ℕ) (size : ℕ) : Type 0 where
  pub line : List ℕ
  pub of_reason : IfSome (line_of reason) (λ text. line ≡ text) ⊎ (line ≡ area_word (area_of reason))
  pub counted : size ≡ length line
  pub filled : Fills line old new

-- Area and number are those of the reason, and its line was put out.
pub record IsTold (reason : EngineRefusal) (old new : List ℕ) (found : Found) : Type 0 where
  pub area : found.area ≡ area_number (area_of reason)
  pub number : found.number ≡ number_of reason
  pub none : found.count ≡ 0
  pub put : IsLinePut reason old new found.size

-- There is a reason, and it was told.
pub record IsRefused (IsReason : EngineRefusal → Type 0) (old new : List ℕ) (found : Found) : Type 0 where
  pub reason : EngineRefusal
  pub holds : IsReason reason
  pub told : IsTold reason old new found

-- The text of this area is not UTF-8, and nothing else was told.
pub record IsNotUtf8 (area : Area) (text : List ℕ) (found : Found) : Type 0 where
  pub area_is : found.area ≡ area_number area
  pub not_utf8 : ¬ (IsUtf8 text)
  pub none : found.count ≡ 0
  pub no_bytes : found.size ≡ 0
  pub no_number : found.number ≡ 0

-- No error was told.
pub record HasNoError (found : Found) : Type 0 where
  pub area : found.area ≡ 0
  pub number : found.number ≡ 0

-- what was told is all zero
abbrev pub IsZero : Found → Type 0
IsZero found = found ≡ record { count = 0; size = 0; area = 0; number = 0 }
