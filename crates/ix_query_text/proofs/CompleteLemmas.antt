-- What is in the grammar is read: from a part's first lexeme the turns come to the state behind it.
use Rattle.std.proofs.Common.{◌≡◌, ℕ, suc, ◌<◌, List, [], ◌∷◌, ◌++◌, length, Result, Ok, Err, cond, nat_lt, refl, sym, ap, ◌∙◌, append_assoc, append-nil}
use Rattle.std.proofs.lemmas.Bool.{lt-ltb}
use Rattle.ix_query_text.specs.declared.error.QueryError.{QueryError}
use Rattle.ix_query_text.specs.declared.error.QueryError.TheVariants.{Deep}
use Rattle.ix_query_text.specs.declared.tree.Tree.{Tree}
use Rattle.ix_query_text.specs.declared.tree.Tree.TheVariants as tree
use Rattle.ix_query_text.specs.QueryErrors.{◌>>=◌}
use Rattle.ix_query_text.specs.Lexemes.{Sign, Lexeme, At}
use Rattle.ix_query_text.specs.Judgement.{plain}
use Rattle.ix_query_text.specs.Grammar.{joined_by, IsUnary, AreAnds, IsAnd, AreOrs, IsOr, negation, bracket, near, run, text, no_and, and, ands, no_or, or, ors}
use Rattle.ix_query_text.specs.Machine.{Frame, Negating, Inside, Operand, Operator, AfterRun, State, joined, tree_from, tree_of}
use Rattle.ix_query_text.proofs.SoundLemmas.{IsSettled, pending_at, state_at, filled_at}

-- The lexemes do not begin with NEAR.
abbrev pub NotNear : List Lexeme → Type 0
NotNear (At o (Sign.Near distance) ∷ rest) = ⊥
NotNear rest = Unit {0}

module _ (stop : List (List ℕ)) where
  ands_not_near : {k : ℕ} {from rest : List Lexeme} {parts : List Tree} → AreAnds stop k from parts rest → NotNear rest → NotNear from
  ands_not_near no_and n = n
  ands_not_near (and u xs) n = tt

  ors_not_near : {k : ℕ} {from rest : List Lexeme} {parts : List Tree} → AreOrs stop k from parts rest → NotNear rest → NotNear from
  ors_not_near no_or n = n
  ors_not_near (or d xs) n = tt

  settled_fill : (frames : List Frame) (before parts : List Tree) (part : Tree) → IsSettled frames → filled_at frames before parts part ≡ state_at Operator frames before (parts ++ part ∷ [])
  settled_fill [] before parts part s = refl
  settled_fill (Negating ∷ frames) before parts part s = absurd s
  settled_fill (Inside xs ys ∷ frames) before parts part s = refl

  -- a run that no NEAR follows
  pub run_turn : (rest : List Lexeme) (words : List ℕ) (frames : List Frame) (before parts : List Tree) (part : Tree) → NotNear rest → plain stop words ≡ Ok part → tree_from stop (state_at (AfterRun words) frames before parts) rest ≡ tree_from stop (filled_at frames before parts part) rest
  run_turn [] words frames before parts part n e = rw e refl
  run_turn (At o (Sign.Near distance) ∷ rest) words frames before parts part n e = absurd n
  run_turn (At o sign ∷ rest) words frames before parts part n e = rw e refl

  open_turn : (n : ℕ) (state : State) (f : State → Result Tree QueryError) → n < 64 → (cond (nat_lt n 64) (Ok state) (Err Deep) >>= f) ≡ f state
  open_turn n state f few = rw (lt-ltb n 64 few) refl

  few_frames : (frames : List Frame) (k : ℕ) → length frames ≡ k → k < 64 → length frames < 64
  few_frames frames k e few = rw e few

  -- the state behind operands with ANDs between them
  record Anded (frames : List Frame) (before : List Tree) (whole : Tree) (from rest : List Lexeme) : Type 0 where
    parts : List Tree
    is : whole ≡ joined_by tree.And parts
    turns : tree_from stop (state_at Operand frames before []) from ≡ tree_from stop (state_at Operator frames before parts) rest

  -- the state behind such parts with ORs between them
  record Ored (frames : List Frame) (all : List Tree) (state : State) (from rest : List Lexeme) : Type 0 where
    before : List Tree
    parts : List Tree
    is : before ++ joined_by tree.And parts ∷ [] ≡ all
    turns : tree_from stop state from ≡ tree_from stop (state_at Operator frames before parts) rest

  -- the state behind all parts of a bracket or a text
  record Read (frames : List Frame) (whole : Tree) (from rest : List Lexeme) : Type 0 where
    before : List Tree
    parts : List Tree
    is : joined (pending_at frames before parts) ≡ whole
    turns : tree_from stop (state_at Operand frames [] []) from ≡ tree_from stop (state_at Operator frames before parts) rest

  mutual
    unary_turns : {k : ℕ} {from rest : List Lexeme} {part : Tree} → IsUnary stop k from part rest → (frames : List Frame) (before parts : List Tree) → length frames ≡ k → NotNear rest → tree_from stop (state_at Operand frames before parts) from ≡ tree_from stop (filled_at frames before parts part) rest
    unary_turns {k} (negation {from} few u) frames before parts e n = open_turn (length frames) (state_at Operand (Negating ∷ frames) before parts) (λ next. tree_from stop next from) (few_frames frames k e few) ∙ unary_turns u (Negating ∷ frames) before parts (ap suc e) n
    unary_turns {k} (bracket {from} {rest} few d) frames before parts e n = let r = or_turns d (Inside before parts ∷ frames) tt (ap suc e) tt in
        open_turn (length frames) (state_at Operand (Inside before parts ∷ frames) [] []) (λ next. tree_from stop next from) (few_frames frames k e few) ∙ r.turns ∙ ap (λ part. tree_from stop (filled_at frames before parts part) rest) r.is
    unary_turns (near f g) frames before parts e n = rw (f, g) refl
    unary_turns (run {rest} {w} {part} f) frames before parts e n = run_turn rest w frames before parts part n f
    unary_turns (text f) frames before parts e n = rw f refl

    ands_turns : {k : ℕ} {from rest : List Lexeme} {more : List Tree} → AreAnds stop k from more rest → (frames : List Frame) (before parts : List Tree) → IsSettled frames → length frames ≡ k → NotNear rest → tree_from stop (state_at Operator frames before parts) from ≡ tree_from stop (state_at Operator frames before (parts ++ more)) rest
    ands_turns no_and frames before parts s e n = rw append-nil refl
    ands_turns (and {part} u xs) frames before parts s e n = unary_turns u frames before parts e (ands_not_near xs n) ∙ rw (settled_fill frames before parts part s) (ands_turns xs frames before (parts ++ part ∷ []) s e n ∙ rw append_assoc refl)

    and_turns : {k : ℕ} {from rest : List Lexeme} {whole : Tree} → IsAnd stop k from whole rest → (frames : List Frame) (before : List Tree) → IsSettled frames → length frames ≡ k → NotNear rest → Anded frames before whole from rest
    and_turns (ands {part} {parts} u xs w) frames before s e n = record {
      parts = part ∷ parts;
      is = w;
      turns = unary_turns u frames before [] e (ands_not_near xs n) ∙ rw (settled_fill frames before [] part s) (ands_turns xs frames before (part ∷ []) s e n);
    }

    ors_turns : {k : ℕ} {from rest : List Lexeme} {more : List Tree} → AreOrs stop k from more rest → (frames : List Frame) (before parts : List Tree) → IsSettled frames → length frames ≡ k → NotNear rest → Ored frames (before ++ joined_by tree.And parts ∷ more) (state_at Operator frames before parts) from rest
    ors_turns no_or frames before parts s e n = record { before = before; parts = parts; is = refl; turns = refl }
    ors_turns (or {part} {parts = more} d xs) frames before parts s e n =
        let whole = joined_by tree.And parts in
        let a = and_turns d frames (before ++ whole ∷ []) s e (ors_not_near xs n) in
        let r = ors_turns xs frames (before ++ whole ∷ []) a.parts s e n in
        record {
          before = r.before;
          parts = r.parts;
          is = r.is ∙ append_assoc before (whole ∷ []) (joined_by tree.And a.parts ∷ more) ∙ ap (λ x. before ++ whole ∷ x ∷ more) (sym a.is);
          turns = a.turns ∙ r.turns;
        }

    or_turns : {k : ℕ} {from rest : List Lexeme} {whole : Tree} → IsOr stop k from whole rest → (frames : List Frame) → IsSettled frames → length frames ≡ k → NotNear rest → Read frames whole from rest
    or_turns (ors {part} {parts = more} d xs w) frames s e n =
        let a = and_turns d frames [] s e (ors_not_near xs n) in
        let r = ors_turns xs frames [] a.parts s e n in
        record {
          before = r.before;
          parts = r.parts;
          is = ap (joined_by tree.Or) r.is ∙ ap (λ x. joined_by tree.Or (x ∷ more)) (sym a.is) ∙ sym w;
          turns = a.turns ∙ r.turns;
        }

  no_unary : {k : ℕ} {rest : List Lexeme} {part : Tree} → IsUnary stop k [] part rest → ⊥
  no_unary u = elim u [ ]

  not_empty : {k : ℕ} {rest : List Lexeme} {whole : Tree} → IsOr stop k [] whole rest → ⊥
  not_empty (ors (ands u xs v) ys w) = no_unary u

  pub complete : (lexemes : List Lexeme) (whole : Tree) → IsOr stop 0 lexemes whole [] → tree_of stop lexemes ≡ Ok whole
  unfolding tree_of
  complete [] whole d = absurd (not_empty d)
  complete (lexeme ∷ rest) whole d = let r = or_turns d [] tt refl tt in r.turns ∙ ap Ok r.is
