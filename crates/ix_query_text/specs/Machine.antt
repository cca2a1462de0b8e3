-- The tree of a query's lexemes, or their first fault from the left: one turn a lexeme.
use Rattle.std.specs.Prelude.{ℕ, List, [], ◌∷◌, ◌++◌, length, Result, Ok, Err, nat_lt, if◌then◌else◌}
use Rattle.ix_query_text.specs.declared.error.QueryError.{QueryError}
use Rattle.ix_query_text.specs.declared.error.QueryError.TheVariants.{Empty, Unexpected, End, Deep}
use Rattle.ix_query_text.specs.declared.tree.Tree.{Tree}
use Rattle.ix_query_text.specs.declared.tree.Tree.TheVariants as tree
use Rattle.ix_query_text.specs.QueryErrors.{◌>>=◌}
use Rattle.ix_query_text.specs.Lexemes.{Sign, Lexeme, At, lexemes_of}
use Rattle.ix_query_text.specs.Judgement.{plain, quoted, beside}
use Rattle.ix_query_text.specs.Grammar.{joined_by}

-- what is open: a NOT whose operand is not yet read, or a bracket, with the parts that were read before it
pub data Frame : Type 0 where
  Negating : Frame
  Inside : List Tree → List Tree → Frame

-- where the reading stands: an operand has to come, or was read; a run was read that is not yet judged; or the run
-- before a NEAR, whose term and distance stand here
pub data Place : Type 0 where
  Operand : Place
  Operator : Place
  AfterRun : List ℕ → Place
  AfterNear : List ℕ → ℕ → Place

-- what is open, the innermost first; and of the innermost bracket the complete parts between ORs, and behind the last OR
-- those between ANDs
pub record Pending : Type 0 where
  pub frames : List Frame
  pub ors : List Tree
  pub ands : List Tree

pub record State : Type 0 where
  pub place : Place
  pub pending : Pending

abbrev pub start : State
start = record { place = Operand; pending = record { frames = []; ors = []; ands = [] } }

-- what is open but for the innermost NOTs
abbrev pub behind_nots : List Frame → List Frame
behind_nots (Negating ∷ frames) = behind_nots frames
behind_nots frames = frames

-- a part under the innermost NOTs
abbrev pub under_nots : List Frame → Tree → Tree
under_nots (Negating ∷ frames) part = under_nots frames (tree.Not part)
under_nots frames part = part

-- An operand was read: the innermost NOTs take it.
abbrev pub filled : Pending → Tree → Pending
filled pending part = record pending { frames = behind_nots pending.frames; ands = pending.ands ++ under_nots pending.frames part ∷ [] }

-- the tree of the innermost bracket
abbrev pub joined : Pending → Tree
joined pending = joined_by tree.Or (pending.ors ++ joined_by tree.And pending.ands ∷ [])

-- An OR was read: the parts before it are complete.
abbrev pub behind_or : Pending → Pending
behind_or pending = record pending { ors = pending.ors ++ joined_by tree.And pending.ands ∷ []; ands = [] }

-- One more is open: 64 at most.
abbrev pub opened : List Frame → Frame → List Tree → List Tree → Result State QueryError
opened frames frame ors ands = if nat_lt (length frames) 64 then Ok (record { place = Operand; pending = record { frames = frame ∷ frames; ors = ors; ands = ands } }) else Err Deep

-- a lexeme where an operand has to come
abbrev pub at_operand : List (List ℕ) → Pending → Lexeme → Result State QueryError
at_operand stop pending (At offset Sign.Open) = opened pending.frames (Inside pending.ors pending.ands) [] []
at_operand stop pending (At offset Sign.Not) = opened pending.frames Negating pending.ors pending.ands
at_operand stop pending (At offset (Sign.Quoted words)) = quoted stop words >>= λ part. Ok (record { place = Operator; pending = filled pending part })
at_operand stop pending (At offset (Sign.Run words)) = Ok (record { place = AfterRun words; pending = pending })
at_operand stop pending (At offset _) = Err (Unexpected offset)

-- a closing bracket: the bracket's tree is an operand
abbrev pub closed : ℕ → List Frame → Tree → Result State QueryError
closed offset (Inside ors ands ∷ frames) part = Ok (record { place = Operator; pending = filled (record { frames = frames; ors = ors; ands = ands }) part })
closed offset _ part = Err (Unexpected offset)

-- a lexeme behind an operand
abbrev pub at_operator : Pending → Lexeme → Result State QueryError
at_operator pending (At offset Sign.And) = Ok (record { place = Operand; pending = pending })
at_operator pending (At offset Sign.Or) = Ok (record { place = Operand; pending = behind_or pending })
at_operator pending (At offset Sign.Close) = closed offset pending.frames (joined pending)
at_operator pending (At offset _) = Err (Unexpected offset)

-- a lexeme behind a run, which is judged before it
abbrev pub after_run : List (List ℕ) → List ℕ → Pending → Lexeme → Result State QueryError
after_run stop words pending (At offset (Sign.Near distance)) = beside stop words >>= λ first. Ok (record { place = AfterNear first distance; pending = pending })
after_run stop words pending lexeme = plain stop words >>= λ part. at_operator (filled pending part) lexeme

-- a lexeme behind a run and NEAR
abbrev pub after_near : List (List ℕ) → List ℕ → ℕ → Pending → Lexeme → Result State QueryError
after_near stop first distance pending (At offset (Sign.Run words)) = beside stop words >>= λ second. Ok (record { place = Operator; pending = filled pending (tree.Near first second distance) })
after_near stop first distance pending (At offset _) = Err (Unexpected offset)

abbrev pub step_at : List (List ℕ) → Place → Pending → Lexeme → Result State QueryError
step_at stop Operand = at_operand stop
step_at stop Operator = at_operator
step_at stop (AfterRun words) = after_run stop words
step_at stop (AfterNear first distance) = after_near stop first distance

-- one turn
abbrev pub step : List (List ℕ) → State → Lexeme → Result State QueryError
step stop state lexeme = step_at stop state.place state.pending lexeme

-- the end of the lexemes, behind an operand
abbrev pub ended : List Frame → Tree → Result Tree QueryError
ended [] part = Ok part
ended _ part = Err End

abbrev pub finish_at : List (List ℕ) → Place → Pending → Result Tree QueryError
finish_at stop Operator pending = ended pending.frames (joined pending)
finish_at stop (AfterRun words) pending = plain stop words >>= λ part. ended (filled pending part).frames (joined (filled pending part))
finish_at stop _ pending = Err End

-- the end of the lexemes
abbrev pub finish : List (List ℕ) → State → Result Tree QueryError
finish stop state = finish_at stop state.place state.pending

-- the turns of all lexemes, and the end
abbrev pub tree_from : List (List ℕ) → State → List Lexeme → Result Tree QueryError
tree_from stop state [] = finish stop state
tree_from stop state (lexeme ∷ rest) = step stop state lexeme >>= λ next. tree_from stop next rest

-- the tree of the lexemes, or the first fault
unfoldable pub tree_of : List (List ℕ) → List Lexeme → Result Tree QueryError
tree_of stop [] = Err Empty
tree_of stop lexemes = tree_from stop start lexemes

-- the query of a text, or its first fault: a fault of the lexemes comes before any of the grammar
unfoldable pub query_of : List (List ℕ) → List ℕ → Result Tree QueryError
query_of stop text = lexemes_of text >>= tree_of stop
