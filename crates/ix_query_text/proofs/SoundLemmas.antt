-- What the turns read is in the grammar.
use Rattle.std.proofs.Common.{◌≡◌, ℕ, suc, ◌<◌, List, [], ◌∷◌, ◌++◌, length, Result, Ok, nat_lt, refl, sym, ◌∙◌, append_assoc, append-nil}
use borrow.Author.Tests.{ltb-true}
use Rattle.ix_query_text.specs.declared.error.QueryError.{QueryError}
use Rattle.ix_query_text.specs.declared.error.QueryError.TheVariants.{Deep}
use Rattle.ix_query_text.specs.declared.tree.Tree.{Tree}
use Rattle.ix_query_text.specs.declared.tree.Tree.TheVariants as tree
use Rattle.ix_query_text.specs.QueryErrors.{◌>>=◌}
use Rattle.ix_query_text.specs.Lexemes.{Sign, Lexeme, At}
use Rattle.ix_query_text.specs.Judgement.{plain, quoted, beside}
use Rattle.ix_query_text.specs.Grammar.{joined_by, IsUnary, AreAnds, AreOrs, IsOr, negation, bracket, near, run, text, no_and, and, ands, no_or, or, ors}
use Rattle.ix_query_text.specs.Machine.{Frame, Negating, Inside, Place, Operand, Operator, AfterRun, AfterNear, Pending, State, filled, joined, at_operator, closed, finish, tree_from, tree_of}
use Rattle.ix_query_text.proofs.Results.{bind_ok, bind_assoc, guard_ok}

-- no NOT is innermost
abbrev pub IsSettled : List Frame → Type 0
IsSettled (Negating ∷ frames) = ⊥
IsSettled frames = Unit {0}

mutual
  -- Behind an operand of the innermost bracket, these lexemes complete the whole to this tree.
  data Completes (stop : List (List ℕ)) : List Frame → List Tree → List Tree → List Lexeme → Tree → Type 0 where
    by_end : {before parts more_ors more_ands : List Tree} {from middle : List Lexeme} {whole : Tree} → AreAnds stop 0 from more_ands middle → AreOrs stop 0 middle more_ors [] → whole ≡ joined_by tree.Or (before ++ joined_by tree.And (parts ++ more_ands) ∷ more_ors) → Completes stop [] before parts from whole
    by_bracket : {c : ℕ} {frames : List Frame} {outer_ors outer_ands before parts more_ors more_ands : List Tree} {from middle rest : List Lexeme} {part whole : Tree} → AreAnds stop (suc (length frames)) from more_ands middle → AreOrs stop (suc (length frames)) middle more_ors (At c Sign.Close ∷ rest) → part ≡ joined_by tree.Or (before ++ joined_by tree.And (parts ++ more_ands) ∷ more_ors) → CompletesWith stop frames outer_ors outer_ands part rest whole → Completes stop (Inside outer_ors outer_ands ∷ frames) before parts from whole

  -- Behind this operand, which the innermost NOTs take, they do.
  data CompletesWith (stop : List (List ℕ)) : List Frame → List Tree → List Tree → Tree → List Lexeme → Tree → Type 0 where
    under_not : {frames : List Frame} {before parts : List Tree} {part whole : Tree} {from : List Lexeme} → CompletesWith stop frames before parts (tree.Not part) from whole → CompletesWith stop (Negating ∷ frames) before parts part from whole
    settled : {frames : List Frame} {before parts : List Tree} {part whole : Tree} {from : List Lexeme} → IsSettled frames → Completes stop frames before (parts ++ part ∷ []) from whole → CompletesWith stop frames before parts part from whole

-- The lexemes are an operand, and what completes the whole behind it.
data Begins (stop : List (List ℕ)) : List Frame → List Tree → List Tree → List Lexeme → Tree → Type 0 where
  begins : {frames : List Frame} {before parts : List Tree} {from middle : List Lexeme} {part whole : Tree} → IsUnary stop (length frames) from part middle → CompletesWith stop frames before parts part middle whole → Begins stop frames before parts from whole

-- What the lexemes from a state on are, where they give a tree.
abbrev Sound : List (List ℕ) → Place → List Frame → List Tree → List Tree → List Lexeme → Tree → Type 0
Sound stop Operand frames before parts from whole = Begins stop frames before parts from whole
Sound stop Operator frames before parts from whole = IsSettled frames → Completes stop frames before parts from whole
Sound stop (AfterRun words) frames before parts from whole = (offset : ℕ) → Begins stop frames before parts (At offset (Sign.Run words) ∷ from) whole
Sound stop (AfterNear first distance) frames before parts from whole = (a b : ℕ) (words : List ℕ) → beside stop words ≡ Ok first → Begins stop frames before parts (At a (Sign.Run words) ∷ At b (Sign.Near distance) ∷ from) whole

abbrev pub pending_at : List Frame → List Tree → List Tree → Pending
pending_at frames before parts = record { frames = frames; ors = before; ands = parts }

abbrev pub state_at : Place → List Frame → List Tree → List Tree → State
state_at place frames before parts = record { place = place; pending = pending_at frames before parts }

-- the state behind an operand that the innermost NOTs take
abbrev pub filled_at : List Frame → List Tree → List Tree → Tree → State
filled_at frames before parts part = record { place = Operator; pending = filled (pending_at frames before parts) part }

module _ (stop : List (List ℕ)) (whole : Tree) where
  -- an operand that the innermost NOTs take
  fills : (run_on : State → Result Tree QueryError) (from : List Lexeme) →
      ((frames : List Frame) (before parts : List Tree) → IsSettled frames → run_on (state_at Operator frames before parts) ≡ Ok whole → Completes stop frames before parts from whole) →
      (frames : List Frame) (before parts : List Tree) (part : Tree) → run_on (filled_at frames before parts part) ≡ Ok whole → CompletesWith stop frames before parts part from whole
  fills run_on from then [] before parts part e = settled tt (then [] before (parts ++ part ∷ []) tt e)
  fills run_on from then (Negating ∷ frames) before parts part e = under_not (fills run_on from then frames before parts (tree.Not part) e)
  fills run_on from then (Inside xs ys ∷ frames) before parts part e = settled tt (then (Inside xs ys ∷ frames) before (parts ++ part ∷ []) tt e)

  negates : {o : ℕ} {frames : List Frame} {before parts : List Tree} {from : List Lexeme} → length frames < 64 → Begins stop (Negating ∷ frames) before parts from whole → Begins stop frames before parts (At o Sign.Not ∷ from) whole
  negates few (begins u (under_not f)) = begins (negation few u) f
  negates few (begins u (settled s f)) = absurd s

  brackets : {o : ℕ} {frames : List Frame} {before parts : List Tree} {from : List Lexeme} → length frames < 64 → Begins stop (Inside before parts ∷ frames) [] [] from whole → Begins stop frames before parts (At o Sign.Open ∷ from) whole
  brackets few (begins u (settled s (by_bracket xs ys e f))) = begins (bracket few (ors (ands u xs refl) ys e)) f

  one_more_and : {o : ℕ} {frames : List Frame} {before parts : List Tree} {from : List Lexeme} → IsSettled frames → Begins stop frames before parts from whole → Completes stop frames before parts (At o Sign.And ∷ from) whole
  one_more_and s (begins u (under_not f)) = absurd s
  one_more_and s (begins u (settled _ (by_end xs ys e))) = by_end (and u xs) ys (e ∙ simp append_assoc)
  one_more_and s (begins u (settled _ (by_bracket xs ys e f))) = by_bracket (and u xs) ys (e ∙ simp append_assoc) f

  one_more_or : {o : ℕ} {frames : List Frame} {before parts : List Tree} {from : List Lexeme} → IsSettled frames → Begins stop frames (before ++ joined_by tree.And parts ∷ []) [] from whole → Completes stop frames before parts (At o Sign.Or ∷ from) whole
  one_more_or s (begins u (under_not f)) = absurd s
  one_more_or s (begins u (settled _ (by_end xs ys e))) = by_end no_and (or (ands u xs refl) ys) (e ∙ simp (append_assoc, append-nil))
  one_more_or s (begins u (settled _ (by_bracket xs ys e f))) = by_bracket no_and (or (ands u xs refl) ys) (e ∙ simp (append_assoc, append-nil)) f

  -- the whole behind its last operand
  ends : (frames : List Frame) (before parts : List Tree) → IsSettled frames → finish stop (state_at Operator frames before parts) ≡ Ok whole → Completes stop frames before parts [] whole
  ends [] before parts s e = by_end no_and no_or (let p : whole ≡ joined (pending_at [] before parts) = cc in p ∙ rw append-nil refl)
  ends (frame ∷ frames) before parts s e = absurd (cc)

  module _ (rest : List Lexeme) (later : (place : Place) (frames : List Frame) (before parts : List Tree) → tree_from stop (state_at place frames before parts) rest ≡ Ok whole → Sound stop place frames before parts rest whole) where
    then_filled : (frames : List Frame) (before parts : List Tree) (part : Tree) → tree_from stop (filled_at frames before parts part) rest ≡ Ok whole → CompletesWith stop frames before parts part rest whole
    then_filled = fills (λ state. tree_from stop state rest) rest (λ frames before parts s e. later Operator frames before parts e s)

    closes : (o : ℕ) (frames : List Frame) (before parts : List Tree) (part : Tree) → part ≡ joined (pending_at frames before parts) → (closed o frames part >>= λ next. tree_from stop next rest) ≡ Ok whole → Completes stop frames before parts (At o Sign.Close ∷ rest) whole
    closes o (Inside xs ys ∷ frames) before parts part p e = by_bracket no_and no_or (p ∙ rw append-nil refl) (then_filled frames xs ys part e)
    closes o (Negating ∷ frames) before parts part p e = absurd (cc)
    closes o [] before parts part p e = absurd (cc)

    operand_turn : (lexeme : Lexeme) (frames : List Frame) (before parts : List Tree) → tree_from stop (state_at Operand frames before parts) (lexeme ∷ rest) ≡ Ok whole → Begins stop frames before parts (lexeme ∷ rest) whole
    operand_turn (At o Sign.Open) frames before parts e = let g = guard_ok (nat_lt (length frames) 64) (state_at Operand (Inside before parts ∷ frames) [] []) Deep (λ next. tree_from stop next rest) whole e in
        brackets (ltb-true (length frames) 64 g.0) (later Operand (Inside before parts ∷ frames) [] [] g.1)
    operand_turn (At o Sign.Not) frames before parts e = let g = guard_ok (nat_lt (length frames) 64) (state_at Operand (Negating ∷ frames) before parts) Deep (λ next. tree_from stop next rest) whole e in
        negates (ltb-true (length frames) 64 g.0) (later Operand (Negating ∷ frames) before parts g.1)
    operand_turn (At o (Sign.Quoted words)) frames before parts e = let b = bind_ok (quoted stop words) _ whole (sym (bind_assoc (quoted stop words) _ _) ∙ e) in
        begins (text b.1) (then_filled frames before parts b.0 b.2)
    operand_turn (At o (Sign.Run words)) frames before parts e = later (AfterRun words) frames before parts e o
    operand_turn (At o _) frames before parts e = absurd (cc)

    operator_turn : (lexeme : Lexeme) (frames : List Frame) (before parts : List Tree) → IsSettled frames → tree_from stop (state_at Operator frames before parts) (lexeme ∷ rest) ≡ Ok whole → Completes stop frames before parts (lexeme ∷ rest) whole
    operator_turn (At o Sign.And) frames before parts s e = one_more_and s (later Operand frames before parts e)
    operator_turn (At o Sign.Or) frames before parts s e = one_more_or s (later Operand frames (before ++ joined_by tree.And parts ∷ []) [] e)
    operator_turn (At o Sign.Close) frames before parts s e = closes o frames before parts _ refl e
    operator_turn (At o _) frames before parts s e = absurd (cc)

    -- a run that no NEAR follows
    run_turn : (lexeme : Lexeme) (words : List ℕ) (frames : List Frame) (before parts : List Tree) (o : ℕ) →
        (plain stop words >>= λ part. at_operator (filled (pending_at frames before parts) part) lexeme >>= λ next. tree_from stop next rest) ≡ Ok whole → Begins stop frames before parts (At o (Sign.Run words) ∷ lexeme ∷ rest) whole
    run_turn lexeme words frames before parts o e = let b = bind_ok (plain stop words) _ whole e in
        begins (run b.1) (fills (λ state. at_operator state.pending lexeme >>= λ next. tree_from stop next rest) (lexeme ∷ rest) (operator_turn lexeme) frames before parts b.0 b.2)

    after_run_turn : (lexeme : Lexeme) (words : List ℕ) (frames : List Frame) (before parts : List Tree) (o : ℕ) → tree_from stop (state_at (AfterRun words) frames before parts) (lexeme ∷ rest) ≡ Ok whole → Begins stop frames before parts (At o (Sign.Run words) ∷ lexeme ∷ rest) whole
    after_run_turn (At a (Sign.Near distance)) words frames before parts o e = let b = bind_ok (beside stop words) _ whole (sym (bind_assoc (beside stop words) _ _) ∙ e) in
        later (AfterNear b.0 distance) frames before parts b.2 o a words b.1
    after_run_turn (At a sign) words frames before parts o e = run_turn (At a sign) words frames before parts o (sym (bind_assoc (plain stop words) _ _) ∙ e)

    after_near_turn : (lexeme : Lexeme) (first : List ℕ) (distance : ℕ) (frames : List Frame) (before parts : List Tree) (a b : ℕ) (words : List ℕ) → tree_from stop (state_at (AfterNear first distance) frames before parts) (lexeme ∷ rest) ≡ Ok whole → beside stop words ≡ Ok first →
        Begins stop frames before parts (At a (Sign.Run words) ∷ At b (Sign.Near distance) ∷ lexeme ∷ rest) whole
    after_near_turn (At o (Sign.Run second)) first distance frames before parts a b words e h = let p = bind_ok (beside stop second) _ whole (sym (bind_assoc (beside stop second) _ _) ∙ e) in
        begins (near h p.1) (then_filled frames before parts (tree.Near first p.0 distance) p.2)
    after_near_turn (At o _) first distance frames before parts a b words e h = absurd (cc)

    turn : (lexeme : Lexeme) (place : Place) (frames : List Frame) (before parts : List Tree) → tree_from stop (state_at place frames before parts) (lexeme ∷ rest) ≡ Ok whole → Sound stop place frames before parts (lexeme ∷ rest) whole
    turn lexeme Operand frames before parts e = operand_turn lexeme frames before parts e
    turn lexeme Operator frames before parts e = λ s. operator_turn lexeme frames before parts s e
    turn lexeme (AfterRun words) frames before parts e = λ o. after_run_turn lexeme words frames before parts o e
    turn lexeme (AfterNear first distance) frames before parts e = λ a b words h. after_near_turn lexeme first distance frames before parts a b words e h

  -- the end of the lexemes
  last : (place : Place) (frames : List Frame) (before parts : List Tree) → finish stop (state_at place frames before parts) ≡ Ok whole → Sound stop place frames before parts [] whole
  last Operator frames before parts e = λ s. ends frames before parts s e
  last (AfterRun words) frames before parts e = λ o. let b = bind_ok (plain stop words) _ whole e in
      begins (run b.1) (fills (finish stop) [] ends frames before parts b.0 b.2)
  last _ frames before parts e = absurd (cc)

  sound_from : (lexemes : List Lexeme) (place : Place) (frames : List Frame) (before parts : List Tree) → tree_from stop (state_at place frames before parts) lexemes ≡ Ok whole → Sound stop place frames before parts lexemes whole
  sound_from [] = last
  sound_from (lexeme ∷ rest) = turn rest (sound_from rest) lexeme

  is_or : (lexemes : List Lexeme) → Begins stop [] [] [] lexemes whole → IsOr stop 0 lexemes whole []
  is_or lexemes (begins u (settled _ (by_end xs ys e))) = ors (ands u xs refl) ys e

  pub sound : (lexemes : List Lexeme) → tree_of stop lexemes ≡ Ok whole → IsOr stop 0 lexemes whole []
  unfolding tree_of
  sound [] e = absurd (cc)
  sound (lexeme ∷ rest) e = is_or (lexeme ∷ rest) (sound_from (lexeme ∷ rest) Operand [] [] [] e)
