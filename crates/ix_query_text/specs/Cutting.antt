-- How a text is cut into lexemes, by cases on what stands at its front.
use Rattle.std.specs.Prelude.{◌≡◌, ◌≢◌, ℕ, suc, ◌+◌, ◌≤◌, true, false, List, [], ◌∷◌, ◌++◌, length, All, codes, decimal}
use Rattle.ix_query_text.specs.declared.error.QueryError.{QueryError}
use Rattle.ix_query_text.specs.declared.error.QueryError.TheVariants.{OpenQuote, BadNear}
use Rattle.ix_query_text.specs.Lexemes.{Sign, Open, Close, And, Or, Not, Near, Quoted, Run, Lexeme, At, ends_run}

-- a run, with what it stands for: a keyword, or itself
pub data IsRunOf : List ℕ → Sign → Type 0 where
  and : {run : List ℕ} → run ≡ codes "AND" → IsRunOf run And
  or : {run : List ℕ} → run ≡ codes "OR" → IsRunOf run Or
  not : {run : List ℕ} → run ≡ codes "NOT" → IsRunOf run Not
  near : {run : List ℕ} {distance : ℕ} → 1 ≤ distance → distance ≤ 65535 → run ≡ codes "NEAR/" ++ decimal distance → IsRunOf run (Near distance)
  other : {run : List ℕ} → run ≢ codes "AND" → run ≢ codes "OR" → run ≢ codes "NOT" → ((rest : List ℕ) → run ≢ codes "NEAR/" ++ rest) → IsRunOf run (Run run)

-- a run may stop before these bytes
abbrev pub EndsRun : List ℕ → Type 0
EndsRun [] = Unit {0}
EndsRun (b ∷ rest) = ends_run b ≡ true

-- A lexeme, its bytes, and what follows them. A quoted text goes to the next quotation mark, and a run as far as it can.
pub data IsLexeme : Sign → List ℕ → List ℕ → Type 0 where
  opened : {bytes rest : List ℕ} → bytes ≡ codes "(" → IsLexeme Open bytes rest
  closed : {bytes rest : List ℕ} → bytes ≡ codes ")" → IsLexeme Close bytes rest
  quoted : {text bytes rest : List ℕ} → All (λ b. b ≢ 34) text → bytes ≡ 34 ∷ (text ++ 34 ∷ []) → IsLexeme (Quoted text) bytes rest
  run : {sign : Sign} {run rest : List ℕ} → run ≢ [] → All (λ b. ends_run b ≡ false) run → EndsRun rest → IsRunOf run sign → IsLexeme sign run rest

-- The lexemes of the bytes from the offset on. The bytes are those of the lexemes, with spaces anywhere between.
pub data AreLexemes : ℕ → List ℕ → List Lexeme → Type 0 where
  none : {offset : ℕ} → AreLexemes offset [] []
  space : {offset : ℕ} {bytes : List ℕ} {lexemes : List Lexeme} → AreLexemes (suc offset) bytes lexemes → AreLexemes offset (32 ∷ bytes) lexemes
  lexeme : {offset : ℕ} {whole bytes rest : List ℕ} {sign : Sign} {lexemes : List Lexeme} → IsLexeme sign bytes rest → whole ≡ bytes ++ rest → AreLexemes (offset + length bytes) rest lexemes → AreLexemes offset whole (At offset sign ∷ lexemes)

-- What is no lexeme: a quotation mark with no other after it, and a run that begins with `NEAR/` and is no keyword.
pub data IsFault : QueryError → List ℕ → Type 0 where
  open_quote : {bytes rest : List ℕ} → All (λ b. b ≢ 34) rest → bytes ≡ 34 ∷ rest → IsFault OpenQuote bytes
  bad_near : {bytes digits : List ℕ} (rest : List ℕ) → All (λ b. ends_run b ≡ false) digits → EndsRun rest → ((distance : ℕ) → 1 ≤ distance → distance ≤ 65535 → digits ≢ decimal distance) → bytes ≡ codes "NEAR/" ++ (digits ++ rest) → IsFault BadNear bytes

-- The first fault: it stands behind lexemes and spaces alone.
pub data HasFault : QueryError → List ℕ → Type 0 where
  here : {fault : QueryError} {bytes : List ℕ} → IsFault fault bytes → HasFault fault bytes
  behind_space : {fault : QueryError} {bytes : List ℕ} → HasFault fault bytes → HasFault fault (32 ∷ bytes)
  behind_lexeme : {fault : QueryError} {whole bytes rest : List ℕ} {sign : Sign} → IsLexeme sign bytes rest → whole ≡ bytes ++ rest → HasFault fault rest → HasFault fault whole
