-- What the grammar's faults say of the lexemes, in the words of the grammar.
use Rattle.std.specs.Prelude.{◌≡◌, ◌⊎◌, ℕ, List, [], ◌∷◌, ◌++◌, Ok, Err}
use Rattle.ix_query_text.specs.declared.error.QueryError.{QueryError}
use Rattle.ix_query_text.specs.declared.error.QueryError.TheVariants.{NoWord, OnlyStopWords, BareStar, StarInPhrase, NearWord, LongTerm}
use Rattle.ix_query_text.specs.declared.tree.Tree.{Tree}
use Rattle.ix_query_text.specs.Lexemes.{Sign, Lexeme, At}
use Rattle.ix_query_text.specs.Judgement.{plain, quoted, beside}
use Rattle.ix_query_text.specs.Grammar.{IsOr}

-- Some query begins with these lexemes.
pub record BeginsQuery (stop : List (List ℕ)) (lexemes : List Lexeme) : Type 0 where
  pub more : List Lexeme
  pub query : Tree
  pub derived : IsOr stop 0 (lexemes ++ more) query []

-- The lexeme at the offset is the first that cannot stand at its place: no query begins with the lexemes up to it, and
-- some query does with those before it.
pub record IsFirstUnexpected (stop : List (List ℕ)) (lexemes : List Lexeme) (offset : ℕ) : Type 0 where
  pub before : List Lexeme
  pub sign : Sign
  pub after : List Lexeme
  pub whole : lexemes ≡ before ++ At offset sign ∷ after
  pub too_far : ¬ BeginsQuery stop (before ++ At offset sign ∷ [])
  pub so_far : BeginsQuery stop before

-- One lexeme is too deep: it is a bracket or a NOT, and no query begins with the lexemes up to it, but where it stands an
-- operand that opens nothing, as a run is, may stand.
pub record IsTooDeep (stop : List (List ℕ)) (lexemes : List Lexeme) : Type 0 where
  pub before : List Lexeme
  pub offset : ℕ
  pub sign : Sign
  pub after : List Lexeme
  pub whole : lexemes ≡ before ++ At offset sign ∷ after
  pub opens : (sign ≡ Sign.Open) ⊎ (sign ≡ Sign.Not)
  pub too_far : ¬ BeginsQuery stop (before ++ At offset sign ∷ [])
  pub so_far : (run : List ℕ) (part : Tree) → plain stop run ≡ Ok part → BeginsQuery stop (before ++ At offset (Sign.Run run) ∷ [])

abbrev pub IsNear : Lexeme → Type 0
IsNear (At offset (Sign.Near distance)) = Unit {0}
IsNear lexeme = ⊥

-- the lexemes begin with NEAR
abbrev pub BeginsWithNear : List Lexeme → Type 0
BeginsWithNear [] = ⊥
BeginsWithNear (lexeme ∷ lexemes) = IsNear lexeme

-- the lexemes end with NEAR
abbrev pub EndsWithNear : List Lexeme → Type 0
EndsWithNear [] = ⊥
EndsWithNear (lexeme ∷ []) = IsNear lexeme
EndsWithNear (lexeme ∷ next ∷ lexemes) = EndsWithNear (next ∷ lexemes)

-- the errors by which a run or a quoted text is refused
abbrev pub IsJudgement : QueryError → Type 0
IsJudgement NoWord = Unit {0}
IsJudgement OnlyStopWords = Unit {0}
IsJudgement BareStar = Unit {0}
IsJudgement StarInPhrase = Unit {0}
IsJudgement NearWord = Unit {0}
IsJudgement LongTerm = Unit {0}
IsJudgement error = ⊥

-- A quoted text, a run, or a run beside NEAR is refused with this error, where it stands between these lexemes.
pub data IsRefused (stop : List (List ℕ)) (error : QueryError) (before after : List Lexeme) : Sign → Type 0 where
  text : {words : List ℕ} → quoted stop words ≡ Err error → IsRefused stop error before after (Sign.Quoted words)
  run : {words : List ℕ} → ¬ (EndsWithNear before) → ¬ (BeginsWithNear after) → plain stop words ≡ Err error → IsRefused stop error before after (Sign.Run words)
  beside_near : {words : List ℕ} → EndsWithNear before ⊎ BeginsWithNear after → beside stop words ≡ Err error → IsRefused stop error before after (Sign.Run words)

-- A run or a quoted text is refused with this error, and some query begins with the lexemes before it.
pub record IsFirstRefused (stop : List (List ℕ)) (lexemes : List Lexeme) (error : QueryError) : Type 0 where
  pub before : List Lexeme
  pub offset : ℕ
  pub sign : Sign
  pub after : List Lexeme
  pub whole : lexemes ≡ before ++ At offset sign ∷ after
  pub so_far : BeginsQuery stop before
  pub refused : IsRefused stop error before after sign
