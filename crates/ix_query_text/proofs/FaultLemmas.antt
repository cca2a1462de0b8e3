-- Where a fault of the grammar is found, no query begins with the lexemes up to it, and some query with those before it.
use Rattle.std.proofs.Common.{◌≡◌, ℕ, List, [], ◌∷◌, ◌++◌, length, Bool, true, false, cond, Option, Some, None, ok_or, Result, Ok, Err, nat_lt, ◌==◌, refl, sym, ap, subst, ◌∙◌, ◌⊎◌, inl, inr, append_assoc, append-nil, codes}
use Rattle.ix_query_text.specs.declared.error.QueryError.{QueryError}
use Rattle.ix_query_text.specs.declared.error.QueryError.TheVariants.{Empty, Unexpected, End, Deep, NoWord, OnlyStopWords, BareStar, StarInPhrase, NearWord, LongTerm}
use Rattle.ix_query_text.specs.declared.tree.Tree.{Tree}
use Rattle.ix_query_text.specs.declared.tree.Tree.TheVariants as tree
use Rattle.ix_query_text.specs.QueryErrors.{◌>>=◌}
use Rattle.ix_query_text.specs.Lexemes.{Sign, Lexeme, At}
use Rattle.std.specs.List.{list_any, list_all}
use Rattle.unicode_segmentation.specs.Word.{words}
use Rattle.ix_text.specs.TokenLists.{Entry}
use Rattle.ix_query_text.specs.Judgement.{is_star, is_long_word, strip_holes, plain, quoted, beside, phrase_reading, entries_reading, entry_reading, only_term}
use Rattle.ix_gram.specs.Patterns.{pieces_of}
use Rattle.ix_query_text.specs.Faults.{BeginsQuery, EndsWithNear, IsFirstRefused, IsFirstUnexpected, IsJudgement, IsNear, IsRefused, IsTooDeep}
use Rattle.ix_query_text.specs.Faults as faults
use Rattle.ix_query_text.specs.Machine.{Frame, Negating, Inside, Place, Operand, Operator, AfterRun, AfterNear, Pending, State, start, behind_nots, filled, joined, closed, at_operand, at_operator, after_run, after_near, ended, finish, step, tree_from, tree_of}
use Rattle.ix_query_text.proofs.SoundLemmas.{IsSettled, pending_at, state_at, filled_at, sound}
use Rattle.ix_query_text.proofs.CompleteLemmas.{NotNear, run_turn, complete}

-- ---- a fault of a run or a quoted text is none of the grammar

abbrev IsOfGrammar : QueryError → Type 0
IsOfGrammar Empty = Unit {0}
IsOfGrammar (Unexpected offset) = Unit {0}
IsOfGrammar End = Unit {0}
IsOfGrammar Deep = Unit {0}
IsOfGrammar e = ⊥

record IsJudged {A : Type 0} (r : Result A QueryError) : Type 0 where
  refused : (e : QueryError) → r ≡ Err e → IsOfGrammar e → ⊥

judged_ok : {A : Type 0} (x : A) → IsJudged (Ok x)
judged_ok x = record { refused = λ e h g. absurd (cc) }

judged_err : {A : Type 0} (e : QueryError) → (IsOfGrammar e → ⊥) → IsJudged {A = A} (Err e)
judged_err e other = record { refused = λ d h g. let p : d ≡ e = cc in other (subst IsOfGrammar p g) }

judged_if : {A : Type 0} (b : Bool) (r s : Result A QueryError) → IsJudged r → IsJudged s → IsJudged (cond b r s)
judged_if true r s h k = h
judged_if false r s h k = k

judged_unless : {A : Type 0} (b : Bool) (e : QueryError) (s : Result A QueryError) → (IsOfGrammar e → ⊥) → IsJudged s → IsJudged (cond b (Err e) s)
judged_unless b e s h k = judged_if b (Err e) s (judged_err e h) k

judged_then : {A B : Type 0} (r : Result A QueryError) (f : A → Result B QueryError) → IsJudged r → ((x : A) → IsJudged (f x)) → IsJudged (r >>= f)
judged_then (Ok x) f h k = k x
judged_then (Err e) f h k = judged_err e (h.refused e refl)

judged_phrase : (stop : List (List ℕ)) (text : List ℕ) → IsJudged (phrase_reading stop text)
unfolding phrase_reading entries_reading
judged_phrase stop text =
    judged_unless (length (words text) == 0) NoWord _ (λ h. h)
    (judged_then {A = List Entry} (entries_reading stop (words text)) _ (judged_unless (list_any is_long_word (words text)) LongTerm _ (λ h. h) (judged_ok _))
    (λ entries. judged_unless (length (strip_holes entries) == 0) OnlyStopWords _ (λ h. h) (judged_ok _)))

judged_entry : (stop : List (List ℕ)) (word : List ℕ) → IsJudged (entry_reading stop word)
unfolding entry_reading
judged_entry stop word = judged_unless (is_long_word word) LongTerm _ (λ h. h) (judged_ok _)

judged_term : (entry : Option (List ℕ)) → IsJudged (ok_or entry NearWord)
judged_term None = judged_err NearWord (λ h. h)
judged_term (Some term) = judged_ok term

judged_only : (stop words : List (List ℕ)) → IsJudged (only_term stop words)
judged_only stop [] = judged_err NearWord (λ h. h)
judged_only stop (word ∷ []) = judged_then (entry_reading stop word) _ (judged_entry stop word) judged_term
judged_only stop (word ∷ second ∷ words) = judged_err NearWord (λ h. h)

judged_plain : (stop : List (List ℕ)) (run : List ℕ) → IsJudged (plain stop run)
unfolding plain
judged_plain stop run = judged_if (list_any is_star run) _ _ (judged_unless (list_all is_star run) BareStar _ (λ h. h) (judged_ok _)) (judged_phrase stop run)

judged_quoted : (stop : List (List ℕ)) (text : List ℕ) → IsJudged (quoted stop text)
unfolding quoted
judged_quoted stop text = judged_unless (list_any is_star text) StarInPhrase _ (λ h. h) (judged_phrase stop text)

judged_beside : (stop : List (List ℕ)) (run : List ℕ) → IsJudged (beside stop run)
unfolding beside
judged_beside stop run = judged_unless (list_any is_star run) NearWord _ (λ h. h) (judged_only stop (words run))

-- ---- the turns: which states they come to, and what they blame

-- A state that the turns come to: behind an operand no NOT is innermost, and before a NEAR a run was judged.
abbrev IsReached : List (List ℕ) → Place → Pending → Type 0
IsReached stop Operand pending = Unit {0}
IsReached stop Operator pending = IsSettled pending.frames
IsReached stop (AfterRun words) pending = Unit {0}
IsReached stop (AfterNear first distance) pending = (words : List ℕ) × (beside stop words ≡ Ok first)

-- A turn comes to such a state, or blames its own lexeme.
abbrev Behaves : List (List ℕ) → ℕ → Result State QueryError → Type 0
Behaves stop offset (Ok state) = IsReached stop state.place state.pending
Behaves stop offset (Err (Unexpected blamed)) = blamed ≡ offset
Behaves stop offset (Err End) = ⊥
Behaves stop offset (Err Empty) = ⊥
Behaves stop offset (Err e) = Unit {0}

module _ (stop : List (List ℕ)) where
  judged_behaves : (o : ℕ) (e : QueryError) → (IsOfGrammar e → ⊥) → Behaves stop o (Err e)
  judged_behaves o (Unexpected blamed) h = absurd (h tt)
  judged_behaves o End h = absurd (h tt)
  judged_behaves o Empty h = absurd (h tt)
  judged_behaves o e h = tt

  behaves_then : {A : Type 0} (o : ℕ) (r : Result A QueryError) (f : A → Result State QueryError) → IsJudged r → ((x : A) → r ≡ Ok x → Behaves stop o (f x)) → Behaves stop o (r >>= f)
  behaves_then o (Ok x) f h k = k x refl
  behaves_then o (Err e) f h k = judged_behaves o e (h.refused e refl)

  opened_behaves : (o : ℕ) (b : Bool) (frames : List Frame) (before parts : List Tree) → Behaves stop o (cond b (Ok (state_at Operand frames before parts)) (Err Deep))
  opened_behaves o true frames before parts = tt
  opened_behaves o false frames before parts = tt

  settled_behind : (frames : List Frame) → IsSettled (behind_nots frames)
  settled_behind [] = tt
  settled_behind (Negating ∷ frames) = settled_behind frames
  settled_behind (Inside xs ys ∷ frames) = tt

  closed_behaves : (o : ℕ) (frames : List Frame) (part : Tree) → Behaves stop o (closed o frames part)
  closed_behaves o [] part = refl
  closed_behaves o (Negating ∷ frames) part = refl
  closed_behaves o (Inside xs ys ∷ frames) part = settled_behind frames

  operand_behaves : (o : ℕ) (sign : Sign) (pending : Pending) → Behaves stop o (at_operand stop pending (At o sign))
  operand_behaves o Sign.Open pending = opened_behaves o (nat_lt (length pending.frames) 64) (Inside pending.ors pending.ands ∷ pending.frames) [] []
  operand_behaves o Sign.Not pending = opened_behaves o (nat_lt (length pending.frames) 64) (Negating ∷ pending.frames) pending.ors pending.ands
  operand_behaves o (Sign.Quoted words) pending = behaves_then o (quoted stop words) _ (judged_quoted stop words) (λ part e. settled_behind pending.frames)
  operand_behaves o (Sign.Run words) pending = tt
  operand_behaves o _ pending = refl

  operator_behaves : (o : ℕ) (sign : Sign) (pending : Pending) → Behaves stop o (at_operator pending (At o sign))
  operator_behaves o Sign.And pending = tt
  operator_behaves o Sign.Or pending = tt
  operator_behaves o Sign.Close pending = closed_behaves o pending.frames (joined pending)
  operator_behaves o _ pending = refl

  run_behaves : (o : ℕ) (sign : Sign) (words : List ℕ) (pending : Pending) → Behaves stop o (after_run stop words pending (At o sign))
  run_behaves o (Sign.Near distance) words pending = behaves_then o (beside stop words) _ (judged_beside stop words) (λ first e. (words, e))
  run_behaves o sign words pending = behaves_then o (plain stop words) _ (judged_plain stop words) (λ part e. operator_behaves o sign (filled pending part))

  near_behaves : (o : ℕ) (sign : Sign) (first : List ℕ) (distance : ℕ) (pending : Pending) → Behaves stop o (after_near stop first distance pending (At o sign))
  near_behaves o (Sign.Run words) first distance pending = behaves_then o (beside stop words) _ (judged_beside stop words) (λ second e. settled_behind pending.frames)
  near_behaves o _ first distance pending = refl

  behaves : (o : ℕ) (sign : Sign) (place : Place) (pending : Pending) → Behaves stop o (step stop (record { place = place; pending = pending }) (At o sign))
  behaves o sign Operand pending = operand_behaves o sign pending
  behaves o sign Operator pending = operator_behaves o sign pending
  behaves o sign (AfterRun words) pending = run_behaves o sign words pending
  behaves o sign (AfterNear first distance) pending = near_behaves o sign first distance pending

  -- ---- any state that the turns come to can be completed

  -- lexemes that complete what is read to a query
  record Completion (state : State) : Type 0 where
    more : List Lexeme
    query : Tree
    not_near : NotNear more
    turns : tree_from stop state more ≡ Ok query

  closing : (frames : List Frame) (before parts : List Tree) (part : Tree) → Completion (filled_at frames before parts part)
  closing [] before parts part = record { more = []; query = joined (pending_at [] before (parts ++ part ∷ [])); not_near = tt; turns = refl }
  closing (Negating ∷ frames) before parts part = closing frames before parts (tree.Not part)
  closing (Inside xs ys ∷ frames) before parts part = let c = closing frames xs ys (joined (pending_at frames before (parts ++ part ∷ []))) in
      record { more = At 0 Sign.Close ∷ c.more; query = c.query; not_near = tt; turns = c.turns }

  closing_operator : (frames : List Frame) (before parts : List Tree) → IsSettled frames → Completion (state_at Operator frames before parts)
  closing_operator [] before parts s = record { more = []; query = joined (pending_at [] before parts); not_near = tt; turns = refl }
  closing_operator (Negating ∷ frames) before parts s = absurd s
  closing_operator (Inside xs ys ∷ frames) before parts s = let c = closing frames xs ys (joined (pending_at frames before parts)) in
      record { more = At 0 Sign.Close ∷ c.more; query = c.query; not_near = tt; turns = c.turns }

  closing_run : (words : List ℕ) (frames : List Frame) (before parts : List Tree) (part : Tree) → plain stop words ≡ Ok part → Completion (state_at (AfterRun words) frames before parts)
  closing_run words frames before parts part e = let c = closing frames before parts part in
      record { more = c.more; query = c.query; not_near = c.not_near; turns = run_turn stop c.more words frames before parts part c.not_near e ∙ c.turns }

  closing_near : (first : List ℕ) (distance : ℕ) (frames : List Frame) (before parts : List Tree) (words : List ℕ) → beside stop words ≡ Ok first → Completion (state_at (AfterNear first distance) frames before parts)
  closing_near first distance frames before parts words e = let c = closing frames before parts (tree.Near first first distance) in
      record { more = At 0 (Sign.Run words) ∷ c.more; query = c.query; not_near = tt; turns = rw e c.turns }

  -- the run that waits is a query
  abbrev IsRead : Place → Type 0
  IsRead (AfterRun words) = (part : Tree) × (plain stop words ≡ Ok part)
  IsRead place = Unit {0}

  -- a run that is a query under every stop list
  any_run : plain stop (codes "a*") ≡ Ok (tree.Pattern (pieces_of (codes "a*")))
  unfolding plain
  any_run = refl

  completion : (place : Place) (pending : Pending) → IsReached stop place pending → IsRead place → Completion (record { place = place; pending = pending })
  completion Operand pending r p = let c = closing_run (codes "a*") pending.frames pending.ors pending.ands (tree.Pattern (pieces_of (codes "a*"))) any_run in
      record { more = At 0 (Sign.Run (codes "a*")) ∷ c.more; query = c.query; not_near = tt; turns = c.turns }
  completion Operator pending r p = closing_operator pending.frames pending.ors pending.ands r
  completion (AfterRun words) pending r p = closing_run words pending.frames pending.ors pending.ands p.0 p.1
  completion (AfterNear first distance) pending r p = closing_near first distance pending.frames pending.ors pending.ands r.0 r.1

  -- ---- where the turns stop

  reached_after : (o : ℕ) (r : Result State QueryError) (state : State) → r ≡ Ok state → Behaves stop o r → IsReached stop state.place state.pending
  reached_after o r state e b = rw e at b

  blames : (o blamed : ℕ) (r : Result State QueryError) → r ≡ Err (Unexpected blamed) → Behaves stop o r → blamed ≡ o
  blames o blamed r e b = rw e at b

  never_ends : (o : ℕ) (r : Result State QueryError) → r ≡ Err End → Behaves stop o r → ⊥
  never_ends o r e b = rw e at b

  bind_err : {A B : Type 0} (r : Result A QueryError) (f : A → Result B QueryError) (e : QueryError) → (r >>= f) ≡ Err e → (r ≡ Err e) ⊎ ((x : A) × (r ≡ Ok x) × (f x ≡ Err e))
  bind_err (Ok x) f e h = inr (x, refl, h)
  bind_err (Err d) f e h = inl (cc)

  -- ---- from the start on

  tree_of_from : (lexemes : List Lexeme) (query : Tree) → tree_of stop lexemes ≡ Ok query → tree_from stop start lexemes ≡ Ok query
  unfolding tree_of
  tree_of_from [] query e = absurd (cc)
  tree_of_from (lexeme ∷ rest) query e = e

  from_tree_of : (lexemes : List Lexeme) (query : Tree) → tree_from stop start lexemes ≡ Ok query → tree_of stop lexemes ≡ Ok query
  unfolding tree_of
  from_tree_of [] query e = absurd (cc)
  from_tree_of (lexeme ∷ rest) query e = e

  ends_last : (front : List Lexeme) (last : Lexeme) → EndsWithNear (front ++ last ∷ []) → IsNear last
  ends_last [] last h = h
  ends_last (first ∷ []) last h = h
  ends_last (first ∷ second ∷ front) last h = ends_last (second ∷ front) last h

  near_last : (front : List Lexeme) (last : Lexeme) → IsNear last → EndsWithNear (front ++ last ∷ [])
  near_last [] last h = h
  near_last (first ∷ []) last h = h
  near_last (first ∷ second ∷ front) last h = near_last (second ∷ front) last h

  -- the run that waits is the last of the lexemes, and a query begins with those before it
  record IsRunLast (front : List Lexeme) (words : List ℕ) : Type 0 where
    before : List Lexeme
    offset : ℕ
    whole : front ≡ before ++ At offset (Sign.Run words) ∷ []
    begun : BeginsQuery stop before
    apart : ¬ (EndsWithNear before)

  -- what the lexemes that were taken end with
  abbrev IsBehind : List Lexeme → Place → Type 0
  IsBehind front Operand = ¬ (EndsWithNear front)
  IsBehind front Operator = Unit {0}
  IsBehind front (AfterRun words) = IsRunLast front words
  IsBehind front (AfterNear first distance) = EndsWithNear front

  -- The turns come from the start to a state over some lexemes, whatever follows.
  record Comes (front : List Lexeme) (place : Place) (pending : Pending) : Type 0 where
    reached : IsReached stop place pending
    behind : IsBehind front place
    turns : (more : List Lexeme) → tree_from stop start (front ++ more) ≡ tree_from stop (record { place = place; pending = pending }) more

  begins : (front : List Lexeme) (place : Place) (pending : Pending) → Comes front place pending → IsRead place → BeginsQuery stop front
  begins front place pending comes p = let c = completion place pending comes.reached p in
      record { more = c.more; query = c.query; derived = sound stop c.query (front ++ c.more) (from_tree_of (front ++ c.more) c.query (comes.turns c.more ∙ c.turns)) }

  -- what a turn comes to ends with its lexeme
  abbrev Follows : List Lexeme → Result State QueryError → Type 0
  Follows front (Ok state) = IsBehind front state.place
  Follows front (Err e) = Unit {0}

  follows_then : {A : Type 0} (front : List Lexeme) (r : Result A QueryError) (f : A → Result State QueryError) → ((x : A) → Follows front (f x)) → Follows front (r >>= f)
  follows_then front (Ok x) f h = h x
  follows_then front (Err e) f h = tt

  opened_follows : (front : List Lexeme) (b : Bool) (frames : List Frame) (before parts : List Tree) → ¬ (EndsWithNear front) → Follows front (cond b (Ok (state_at Operand frames before parts)) (Err Deep))
  opened_follows front true frames before parts h = h
  opened_follows front false frames before parts h = tt

  closed_follows : (front : List Lexeme) (o : ℕ) (frames : List Frame) (part : Tree) → Follows front (closed o frames part)
  closed_follows front o [] part = tt
  closed_follows front o (Negating ∷ frames) part = tt
  closed_follows front o (Inside xs ys ∷ frames) part = tt

  operand_follows : (front : List Lexeme) (o : ℕ) (sign : Sign) (pending : Pending) → BeginsQuery stop front → ¬ (EndsWithNear front) → Follows (front ++ At o sign ∷ []) (at_operand stop pending (At o sign))
  operand_follows front o Sign.Open pending begun apart = opened_follows (front ++ At o Sign.Open ∷ []) (nat_lt (length pending.frames) 64) (Inside pending.ors pending.ands ∷ pending.frames) [] [] (ends_last front (At o Sign.Open))
  operand_follows front o Sign.Not pending begun apart = opened_follows (front ++ At o Sign.Not ∷ []) (nat_lt (length pending.frames) 64) (Negating ∷ pending.frames) pending.ors pending.ands (ends_last front (At o Sign.Not))
  operand_follows front o (Sign.Quoted words) pending begun apart = follows_then (front ++ At o (Sign.Quoted words) ∷ []) (quoted stop words) _ (λ part. tt)
  operand_follows front o (Sign.Run words) pending begun apart = record { before = front; offset = o; whole = refl; begun = begun; apart = apart }
  operand_follows front o _ pending begun apart = tt

  operator_follows : (front : List Lexeme) (o : ℕ) (sign : Sign) (pending : Pending) → Follows (front ++ At o sign ∷ []) (at_operator pending (At o sign))
  operator_follows front o Sign.And pending = ends_last front (At o Sign.And)
  operator_follows front o Sign.Or pending = ends_last front (At o Sign.Or)
  operator_follows front o Sign.Close pending = closed_follows (front ++ At o Sign.Close ∷ []) o pending.frames (joined pending)
  operator_follows front o _ pending = tt

  run_follows : (front : List Lexeme) (o : ℕ) (sign : Sign) (words : List ℕ) (pending : Pending) → Follows (front ++ At o sign ∷ []) (after_run stop words pending (At o sign))
  run_follows front o (Sign.Near distance) words pending = follows_then (front ++ At o (Sign.Near distance) ∷ []) (beside stop words) _ (λ first. near_last front (At o (Sign.Near distance)) tt)
  run_follows front o sign words pending = follows_then (front ++ At o sign ∷ []) (plain stop words) _ (λ part. operator_follows front o sign (filled pending part))

  near_follows : (front : List Lexeme) (o : ℕ) (sign : Sign) (first : List ℕ) (distance : ℕ) (pending : Pending) → Follows (front ++ At o sign ∷ []) (after_near stop first distance pending (At o sign))
  near_follows front o (Sign.Run words) first distance pending = follows_then (front ++ At o (Sign.Run words) ∷ []) (beside stop words) _ (λ second. tt)
  near_follows front o _ first distance pending = tt

  follows : (front : List Lexeme) (o : ℕ) (sign : Sign) (place : Place) (pending : Pending) → Comes front place pending → Follows (front ++ At o sign ∷ []) (step stop (record { place = place; pending = pending }) (At o sign))
  follows front o sign Operand pending comes = operand_follows front o sign pending (begins front Operand pending comes tt) comes.behind
  follows front o sign Operator pending comes = operator_follows front o sign pending
  follows front o sign (AfterRun words) pending comes = run_follows front o sign words pending
  follows front o sign (AfterNear first distance) pending comes = near_follows front o sign first distance pending

  followed : (front : List Lexeme) (r : Result State QueryError) (state : State) → r ≡ Ok state → Follows front r → IsBehind front state.place
  followed front r state e f = rw e at f

  comes_start : Comes [] Operand start.pending
  comes_start = record { reached = tt; behind = λ h. h; turns = λ more. refl }

  comes_on : (front : List Lexeme) (place : Place) (pending : Pending) (o : ℕ) (sign : Sign) (next : State) → Comes front place pending → step stop (record { place = place; pending = pending }) (At o sign) ≡ Ok next → Comes (front ++ At o sign ∷ []) next.place next.pending
  comes_on front place pending o sign next comes e = record {
    reached = reached_after o _ next e (behaves o sign place pending);
    behind = followed (front ++ At o sign ∷ []) _ next e (follows front o sign place pending comes);
    turns = λ more. ap (tree_from stop start) (append_assoc front (At o sign ∷ []) more) ∙ comes.turns (At o sign ∷ more) ∙ ap (λ r. r >>= λ state. tree_from stop state more) e;
  }

  -- They stop with a fault at a lexeme, or at the end.
  data Stops (e : QueryError) (lexemes : List Lexeme) : Type 0 where
    at_lexeme : (before : List Lexeme) (o : ℕ) (sign : Sign) (after : List Lexeme) (place : Place) (pending : Pending) → lexemes ≡ before ++ At o sign ∷ after → Comes before place pending → step stop (record { place = place; pending = pending }) (At o sign) ≡ Err e → Stops e lexemes
    at_end : (place : Place) (pending : Pending) → Comes lexemes place pending → finish stop (record { place = place; pending = pending }) ≡ Err e → Stops e lexemes

  stops : (rest front : List Lexeme) (place : Place) (pending : Pending) (e : QueryError) → Comes front place pending → tree_from stop (record { place = place; pending = pending }) rest ≡ Err e → Stops e (front ++ rest)
  stops [] front place pending e comes h = subst (Stops e) (sym (append-nil front)) (at_end place pending comes h)
  stops (At o sign ∷ rest) front place pending e comes h =
      elim (bind_err (step stop (record { place = place; pending = pending }) (At o sign)) (λ next. tree_from stop next rest) e h) [
        | inl fault ↦ at_lexeme front o sign rest place pending refl comes fault
        | inr later ↦ subst (Stops e) (append_assoc front (At o sign ∷ []) rest) (stops rest (front ++ At o sign ∷ []) later.0.place later.0.pending e (comes_on front place pending o sign later.0 comes later.1) later.2)
      ]

  begins_none : (before : List Lexeme) (lexeme : Lexeme) (place : Place) (pending : Pending) (e : QueryError) → Comes before place pending → step stop (record { place = place; pending = pending }) lexeme ≡ Err e → BeginsQuery stop (before ++ lexeme ∷ []) → ⊥
  begins_none before lexeme place pending e comes fault b =
      let read = tree_of_from ((before ++ lexeme ∷ []) ++ b.more) b.query (complete stop ((before ++ lexeme ∷ []) ++ b.more) b.query b.derived) in
      let same = ap (tree_from stop start) (append_assoc before (lexeme ∷ []) b.more) in
      let turned : tree_from stop (record { place = place; pending = pending }) (lexeme ∷ b.more) ≡ Err e = rw fault refl in
      let go = comes.turns (lexeme ∷ b.more) in
      cc

  -- where what comes behind a reading is refused by the grammar, the reading was none of its own refusals
  read_then : {A B : Type 0} (r : Result A QueryError) (f : A → Result B QueryError) (e : QueryError) → IsJudged r → IsOfGrammar e → (r >>= f) ≡ Err e → (x : A) × (r ≡ Ok x) × (f x ≡ Err e)
  read_then (Ok x) f e j g h = (x, refl, h)
  read_then (Err d) f e j g h = let p : e ≡ d = cc in absurd (j.refused d refl (subst IsOfGrammar p g))

  read_before : (o : ℕ) (e : QueryError) (sign : Sign) (place : Place) (pending : Pending) → IsOfGrammar e → step stop (record { place = place; pending = pending }) (At o sign) ≡ Err e → IsRead place
  read_before o e (Sign.Near distance) (AfterRun run) pending g h = let r = read_then (beside stop run) _ e (judged_beside stop run) g h in absurd (cc)
  read_before o e sign (AfterRun run) pending g h = let r = read_then (plain stop run) _ e (judged_plain stop run) g h in (r.0, r.1)
  read_before o e sign Operand pending g h = tt
  read_before o e sign Operator pending g h = tt
  read_before o e sign (AfterNear first distance) pending g h = tt

  read_at_end : (e : QueryError) (place : Place) (pending : Pending) → IsOfGrammar e → finish stop (record { place = place; pending = pending }) ≡ Err e → IsRead place
  read_at_end e (AfterRun run) pending g h = let r = read_then (plain stop run) _ e (judged_plain stop run) g h in (r.0, r.1)
  read_at_end e Operand pending g h = tt
  read_at_end e Operator pending g h = tt
  read_at_end e (AfterNear first distance) pending g h = tt

  -- the end is no unexpected lexeme
  ended_only_ends : (frames : List Frame) (part : Tree) (offset : ℕ) → ended frames part ≡ Err (Unexpected offset) → ⊥
  ended_only_ends [] part offset h = cc
  ended_only_ends (frame ∷ frames) part offset h = cc

  finish_only_ends : (place : Place) (pending : Pending) (offset : ℕ) → finish stop (record { place = place; pending = pending }) ≡ Err (Unexpected offset) → ⊥
  finish_only_ends Operand pending offset h = cc
  finish_only_ends Operator pending offset h = ended_only_ends pending.frames (joined pending) offset h
  finish_only_ends (AfterRun run) pending offset h = let r = read_then (plain stop run) _ (Unexpected offset) (judged_plain stop run) tt h in ended_only_ends _ _ offset r.2
  finish_only_ends (AfterNear first distance) pending offset h = cc

  start_stops : (lexemes : List Lexeme) (e : QueryError) → tree_of stop lexemes ≡ Err e → (e ≡ Empty → ⊥) → Stops e lexemes
  unfolding tree_of
  start_stops [] e h some = absurd (some (cc))
  start_stops (lexeme ∷ rest) e h some = stops (lexeme ∷ rest) [] Operand start.pending e comes_start h

  first_unexpected : (offset : ℕ) (lexemes : List Lexeme) → Stops (Unexpected offset) lexemes → IsFirstUnexpected stop lexemes offset
  first_unexpected offset lexemes (at_end place pending comes fault) = absurd (finish_only_ends place pending offset fault)
  first_unexpected offset lexemes (at_lexeme before o sign after place pending whole comes fault) =
      let same = blames o offset _ fault (behaves o sign place pending) in
      record {
        before = before;
        sign = sign;
        after = after;
        whole = rw same whole;
        too_far = rw same (begins_none before (At o sign) place pending (Unexpected offset) comes fault);
        so_far = begins before place pending comes (read_before o (Unexpected offset) sign place pending tt fault);
      }

  pub unexpected : (lexemes : List Lexeme) (offset : ℕ) → tree_of stop lexemes ≡ Err (Unexpected offset) → IsFirstUnexpected stop lexemes offset
  unexpected lexemes offset h = first_unexpected offset lexemes (start_stops lexemes (Unexpected offset) h (λ p. cc))

  early_end : (lexemes : List Lexeme) → Stops End lexemes → BeginsQuery stop lexemes
  early_end lexemes (at_end place pending comes fault) = begins lexemes place pending comes (read_at_end End place pending tt fault)
  early_end lexemes (at_lexeme before o sign after place pending whole comes fault) = absurd (never_ends o _ fault (behaves o sign place pending))

  pub too_soon : (lexemes : List Lexeme) → tree_of stop lexemes ≡ Err End → BeginsQuery stop lexemes
  too_soon lexemes h = early_end lexemes (start_stops lexemes End h (λ p. cc))

  -- ---- one bracket or NOT too many

  closed_not_deep : (o : ℕ) (frames : List Frame) (part : Tree) → closed o frames part ≡ Err Deep → ⊥
  closed_not_deep o [] part h = cc
  closed_not_deep o (Negating ∷ frames) part h = cc
  closed_not_deep o (Inside xs ys ∷ frames) part h = cc

  operator_not_deep : (o : ℕ) (sign : Sign) (pending : Pending) → at_operator pending (At o sign) ≡ Err Deep → ⊥
  operator_not_deep o Sign.Close pending h = closed_not_deep o pending.frames (joined pending) h
  operator_not_deep o _ pending h = cc

  ended_not_deep : (frames : List Frame) (part : Tree) → ended frames part ≡ Err Deep → ⊥
  ended_not_deep [] part h = cc
  ended_not_deep (frame ∷ frames) part h = cc

  finish_not_deep : (place : Place) (pending : Pending) → finish stop (record { place = place; pending = pending }) ≡ Err Deep → ⊥
  finish_not_deep Operand pending h = cc
  finish_not_deep Operator pending h = ended_not_deep pending.frames (joined pending) h
  finish_not_deep (AfterRun words) pending h = let r = read_then (plain stop words) _ Deep (judged_plain stop words) tt h in ended_not_deep _ _ r.2
  finish_not_deep (AfterNear first distance) pending h = cc

  operand_deep : (o : ℕ) (sign : Sign) (pending : Pending) → at_operand stop pending (At o sign) ≡ Err Deep → (sign ≡ Sign.Open) ⊎ (sign ≡ Sign.Not)
  operand_deep o Sign.Open pending h = inl refl
  operand_deep o Sign.Not pending h = inr refl
  operand_deep o (Sign.Quoted words) pending h = let r = read_then (quoted stop words) _ Deep (judged_quoted stop words) tt h in let no = r.2 in absurd (cc)
  operand_deep o _ pending h = absurd (cc)

  near_not_deep : (o : ℕ) (sign : Sign) (first : List ℕ) (distance : ℕ) (pending : Pending) → after_near stop first distance pending (At o sign) ≡ Err Deep → ⊥
  near_not_deep o (Sign.Run words) first distance pending h = let r = read_then (beside stop words) _ Deep (judged_beside stop words) tt h in let no = r.2 in cc
  near_not_deep o _ first distance pending h = cc

  run_not_deep : (o : ℕ) (sign : Sign) (words : List ℕ) (pending : Pending) → after_run stop words pending (At o sign) ≡ Err Deep → ⊥
  run_not_deep o (Sign.Near distance) words pending h = let r = read_then (beside stop words) _ Deep (judged_beside stop words) tt h in let no = r.2 in cc
  run_not_deep o sign words pending h = let r = read_then (plain stop words) _ Deep (judged_plain stop words) tt h in operator_not_deep o sign (filled pending r.0) r.2

  deep_at : (lexemes before : List Lexeme) (o : ℕ) (sign : Sign) (after : List Lexeme) (place : Place) (pending : Pending) → lexemes ≡ before ++ At o sign ∷ after → Comes before place pending → step stop (record { place = place; pending = pending }) (At o sign) ≡ Err Deep → IsTooDeep stop lexemes
  deep_at lexemes before o sign after Operand pending whole comes fault = record {
    before = before;
    offset = o;
    sign = sign;
    after = after;
    whole = whole;
    opens = operand_deep o sign pending fault;
    too_far = begins_none before (At o sign) Operand pending Deep comes fault;
    so_far = λ words part e.
        begins (before ++ At o (Sign.Run words) ∷ []) (AfterRun words) pending
        (comes_on before Operand pending o (Sign.Run words) (record { place = AfterRun words; pending = pending }) comes refl) (part, e);
  }
  deep_at lexemes before o sign after Operator pending whole comes fault = absurd (operator_not_deep o sign pending fault)
  deep_at lexemes before o sign after (AfterRun words) pending whole comes fault = absurd (run_not_deep o sign words pending fault)
  deep_at lexemes before o sign after (AfterNear first distance) pending whole comes fault = absurd (near_not_deep o sign first distance pending fault)

  deep_stop : (lexemes : List Lexeme) → Stops Deep lexemes → IsTooDeep stop lexemes
  deep_stop lexemes (at_end place pending comes fault) = absurd (finish_not_deep place pending fault)
  deep_stop lexemes (at_lexeme before o sign after place pending whole comes fault) = deep_at lexemes before o sign after place pending whole comes fault

  pub too_deep : (lexemes : List Lexeme) → tree_of stop lexemes ≡ Err Deep → IsTooDeep stop lexemes
  too_deep lexemes h = deep_stop lexemes (start_stops lexemes Deep h (λ p. cc))

  -- ---- a run or a quoted text that is refused

  abbrev fails : (A : Type 0) → QueryError → Result A QueryError
  fails A d = Err d

  other_fault : {A : Type 0} (d e : QueryError) → fails A d ≡ Err e → (IsJudgement d → ⊥) → IsJudgement e → ⊥
  other_fault d e is never judgement = let same : e ≡ d = cc in never (subst IsJudgement same judgement)

  opened_judges : (e : QueryError) (b : Bool) (state : State) → cond b (Ok state) (Err Deep) ≡ Err e → IsJudgement e → ⊥
  opened_judges e true state h j = cc
  opened_judges e false state h j = other_fault Deep e h (λ no. no) j

  closed_judges : (e : QueryError) (o : ℕ) (frames : List Frame) (part : Tree) → closed o frames part ≡ Err e → IsJudgement e → ⊥
  closed_judges e o [] part h j = other_fault (Unexpected o) e h (λ no. no) j
  closed_judges e o (Negating ∷ frames) part h j = other_fault (Unexpected o) e h (λ no. no) j
  closed_judges e o (Inside xs ys ∷ frames) part h j = cc

  operator_judges : (e : QueryError) (o : ℕ) (sign : Sign) (pending : Pending) → at_operator pending (At o sign) ≡ Err e → IsJudgement e → ⊥
  operator_judges e o Sign.And pending h j = cc
  operator_judges e o Sign.Or pending h j = cc
  operator_judges e o Sign.Close pending h j = closed_judges e o pending.frames (joined pending) h j
  operator_judges e o _ pending h j = other_fault (Unexpected o) e h (λ no. no) j

  ended_judges : (e : QueryError) (frames : List Frame) (part : Tree) → ended frames part ≡ Err e → IsJudgement e → ⊥
  ended_judges e [] part h j = cc
  ended_judges e (frame ∷ frames) part h j = other_fault End e h (λ no. no) j

  refused_operand : (e : QueryError) (lexemes before : List Lexeme) (o : ℕ) (sign : Sign) (after : List Lexeme) (pending : Pending) → lexemes ≡ before ++ At o sign ∷ after → Comes before Operand pending → at_operand stop pending (At o sign) ≡ Err e → IsJudgement e → IsFirstRefused stop lexemes e
  refused_operand e lexemes before o Sign.Open after pending whole comes h j = absurd (opened_judges e (nat_lt (length pending.frames) 64) _ h j)
  refused_operand e lexemes before o Sign.Not after pending whole comes h j = absurd (opened_judges e (nat_lt (length pending.frames) 64) _ h j)
  refused_operand e lexemes before o (Sign.Quoted words) after pending whole comes h j =
      elim (bind_err (quoted stop words) _ e h) [
        | inl fault ↦ record { before = before; offset = o; sign = Sign.Quoted words; after = after; whole = whole; so_far = begins before Operand pending comes tt; refused = faults.text fault }
        | inr more ↦ let no = more.2 in absurd (cc)
      ]
  refused_operand e lexemes before o (Sign.Run words) after pending whole comes h j = absurd (cc)
  refused_operand e lexemes before o _ after pending whole comes h j = absurd (other_fault (Unexpected o) e h (λ no. no) j)

  -- the run that waits is refused
  refused_last : (e : QueryError) (lexemes front : List Lexeme) (words : List ℕ) (after : List Lexeme) → lexemes ≡ front ++ after → (last : IsRunLast front words) → IsRefused stop e last.before after (Sign.Run words) → IsFirstRefused stop lexemes e
  refused_last e lexemes front words after whole last refused = record {
    before = last.before;
    offset = last.offset;
    sign = Sign.Run words;
    after = after;
    whole = whole ∙ ap (λ l. l ++ after) last.whole ∙ append_assoc last.before (At last.offset (Sign.Run words) ∷ []) after;
    so_far = last.begun;
    refused = refused;
  }

  refused_run : (e : QueryError) (lexemes before : List Lexeme) (o : ℕ) (sign : Sign) (after : List Lexeme) (words : List ℕ) (pending : Pending) → lexemes ≡ before ++ At o sign ∷ after → Comes before (AfterRun words) pending → after_run stop words pending (At o sign) ≡ Err e → IsJudgement e → IsFirstRefused stop lexemes e
  refused_run e lexemes before o (Sign.Near distance) after words pending whole comes h j =
      elim (bind_err (beside stop words) _ e h) [
        | inl fault ↦ refused_last e lexemes before words (At o (Sign.Near distance) ∷ after) whole comes.behind (faults.beside_near (inr tt) fault)
        | inr more ↦ let no = more.2 in absurd (cc)
      ]
  refused_run e lexemes before o sign after words pending whole comes h j =
      elim (bind_err (plain stop words) _ e h) [
        | inl fault ↦ refused_last e lexemes before words (At o sign ∷ after) whole comes.behind (faults.run comes.behind.apart (λ no. no) fault)
        | inr more ↦ absurd (operator_judges e o sign (filled pending more.0) more.2 j)
      ]

  refused_near : (e : QueryError) (lexemes before : List Lexeme) (o : ℕ) (sign : Sign) (after : List Lexeme) (first : List ℕ) (distance : ℕ) (pending : Pending) → lexemes ≡ before ++ At o sign ∷ after → Comes before (AfterNear first distance) pending → after_near stop first distance pending (At o sign) ≡ Err e → IsJudgement e → IsFirstRefused stop lexemes e
  refused_near e lexemes before o (Sign.Run words) after first distance pending whole comes h j =
      elim (bind_err (beside stop words) _ e h) [
        | inl fault ↦ record { before = before; offset = o; sign = Sign.Run words; after = after; whole = whole; so_far = begins before (AfterNear first distance) pending comes tt; refused = faults.beside_near (inl comes.behind) fault }
        | inr more ↦ let no = more.2 in absurd (cc)
      ]
  refused_near e lexemes before o _ after first distance pending whole comes h j = absurd (other_fault (Unexpected o) e h (λ no. no) j)

  refused_at : (e : QueryError) (lexemes before : List Lexeme) (o : ℕ) (sign : Sign) (after : List Lexeme) (place : Place) (pending : Pending) → lexemes ≡ before ++ At o sign ∷ after → Comes before place pending → step stop (record { place = place; pending = pending }) (At o sign) ≡ Err e → IsJudgement e → IsFirstRefused stop lexemes e
  refused_at e lexemes before o sign after Operand pending whole comes h j = refused_operand e lexemes before o sign after pending whole comes h j
  refused_at e lexemes before o sign after Operator pending whole comes h j = absurd (operator_judges e o sign pending h j)
  refused_at e lexemes before o sign after (AfterRun words) pending whole comes h j = refused_run e lexemes before o sign after words pending whole comes h j
  refused_at e lexemes before o sign after (AfterNear first distance) pending whole comes h j = refused_near e lexemes before o sign after first distance pending whole comes h j

  refused_at_end : (e : QueryError) (lexemes : List Lexeme) (place : Place) (pending : Pending) → Comes lexemes place pending → finish stop (record { place = place; pending = pending }) ≡ Err e → IsJudgement e → IsFirstRefused stop lexemes e
  refused_at_end e lexemes Operand pending comes h j = absurd (other_fault End e h (λ no. no) j)
  refused_at_end e lexemes Operator pending comes h j = absurd (ended_judges e pending.frames (joined pending) h j)
  refused_at_end e lexemes (AfterRun words) pending comes h j =
      elim (bind_err (plain stop words) _ e h) [
        | inl fault ↦ refused_last e lexemes lexemes words [] (sym (append-nil lexemes)) comes.behind (faults.run comes.behind.apart (λ no. no) fault)
        | inr more ↦ absurd (ended_judges e _ _ more.2 j)
      ]
  refused_at_end e lexemes (AfterNear first distance) pending comes h j = absurd (other_fault End e h (λ no. no) j)

  refused_stop : (e : QueryError) (lexemes : List Lexeme) → Stops e lexemes → IsJudgement e → IsFirstRefused stop lexemes e
  refused_stop e lexemes (at_end place pending comes fault) j = refused_at_end e lexemes place pending comes fault j
  refused_stop e lexemes (at_lexeme before o sign after place pending whole comes fault) j = refused_at e lexemes before o sign after place pending whole comes fault j

  pub refused_first : (lexemes : List Lexeme) (e : QueryError) → IsJudgement e → tree_of stop lexemes ≡ Err e → IsFirstRefused stop lexemes e
  refused_first lexemes e j h = refused_stop e lexemes (start_stops lexemes e h (λ p. subst IsJudgement p j)) j
