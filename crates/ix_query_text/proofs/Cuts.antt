-- The two definitions of the lexemes of a text are one.
use Rattle.std.proofs.Common.{◌≡◌, ◌≢◌, ℕ, zero, suc, ◌+◌, ◌-◌, ◌<◌, ◌≤◌, Bool, true, false, not, ◌||◌, cond, eqb, ltb, List, [], ◌∷◌, ◌++◌, length, take, drop, Option, Some, None, Result, Ok, Err, inl, inr, refl, sym, ap, ◌∙◌, subst, arith, append_assoc, add-zero, get_or-take, take-append-drop, length-take-le, length-drop, length-append}
use Rattle.std.specs.Prelude.{All}
use Rattle.std.specs.List.{position_or_len, before_first}
use Rattle.std.proofs.lemmas.Bool.{eqb-true, eqb-false, lt-ltb, ltb-true}
use Rattle.std.proofs.lemmas.List.{take_more}
use Rattle.std.proofs.lemmas.List.Elements.{All-head, All-tail}
use Rattle.std.proofs.lemmas.List.Sums.{prefix_len-le-length, fails_before_first, passes_at_first}
use Rattle.std.proofs.Math.Seq.{drop-append_seam, take-append_seam}
use Rattle.ix_query_text.specs.declared.error.QueryError.{QueryError}
use Rattle.ix_query_text.specs.declared.error.QueryError.TheVariants.{OpenQuote}
use Rattle.ix_query_text.specs.QueryErrors.{◌>>=◌}
use Rattle.ix_query_text.specs.Cutting.{IsRunOf, EndsRun, IsLexeme, opened, closed, quoted, run, AreLexemes, none, space, lexeme}
use Rattle.ix_query_text.specs.Lexemes.{Sign, Quoted, Lexeme, At, ends_run, is_quotation_mark, run_reading, run_front, quoted_reading, front_reading, with_sign, lexemes_from, lexemes_of}
use Rattle.ix_query_text.proofs.LexemeLists.{skipped_dropped}
use Rattle.ix_query_text.proofs.Results.{bind_ok}
use Rattle.ix_query_text.proofs.RunSigns.{chosen, never, run_sound, run_complete}

abbrev fine : {A : Type 0} → A → Result A QueryError
fine x = Ok x

ok_is : {A : Type 0} {x y : A} → fine x ≡ fine y → x ≡ y
ok_is is = cc

-- what a reading of the front tells: a space, or a lexeme with so many bytes more
pub data FrontIs (b : ℕ) (rest : List ℕ) : Option Sign → ℕ → Type 0 where
  gap : b ≡ 32 → FrontIs b rest None 0
  sign : {s : Sign} {others : ℕ} → IsLexeme s (b ∷ take others rest) (drop others rest) → others ≤ length rest → FrontIs b rest (Some s) others

pub before_fails : (p : ℕ → Bool) (xs : List ℕ) → All (λ x. p x ≡ false) (before_first p xs)
before_fails p xs = λ k d within.
    let front : length (before_first p xs) ≡ position_or_len p xs = length-take-le (position_or_len p xs) xs (prefix_len-le-length (λ x. not (p x)) xs) in
    ap p (get_or-take (position_or_len p xs) xs k d (omega arith)) ∙ fails_before_first p xs k d (omega arith)

ends_there_by : (b : ℕ) (rest : List ℕ) (here : Bool) → ends_run b ≡ here → EndsRun (drop (position_or_len ends_run rest) rest) → EndsRun (drop (cond (not here) (1 + position_or_len ends_run rest) 0) (b ∷ rest))
ends_there_by b rest true is there = is
ends_there_by b rest false is there = let next : suc (position_or_len ends_run rest) ≡ 1 + position_or_len ends_run rest = omega arith in subst (λ (n : ℕ). EndsRun (drop n (b ∷ rest))) next there

pub ends_there : (rest : List ℕ) → EndsRun (drop (position_or_len ends_run rest) rest)
ends_there [] = tt
ends_there (b ∷ rest) = ends_there_by b rest (ends_run b) refl (ends_there rest)

quoted_sound : (rest : List ℕ) (s : Option Sign) (others : ℕ) → quoted_reading rest ≡ Ok (s, others) → FrontIs 34 rest s others
unfolding quoted_reading
quoted_sound rest s others read =
    elim (chosen (ltb (position_or_len is_quotation_mark rest) (length rest)) (Ok (Some (Quoted (before_first is_quotation_mark rest)), position_or_len is_quotation_mark rest + 1)) (Err OpenQuote) (Ok (s, others)) read) [
      | inl p ↦
          let within = ltb-true _ _ p.0 in
          let mark = eqb-true _ 34 (passes_at_first is_quotation_mark rest 0 within) in
          let spelled : 34 ∷ take (position_or_len is_quotation_mark rest + 1) rest ≡ 34 ∷ (before_first is_quotation_mark rest ++ 34 ∷ []) = ap (λ l. 34 ∷ l) (take_more rest (position_or_len is_quotation_mark rest) 0 within ∙ ap (λ x. before_first is_quotation_mark rest ++ x ∷ []) mark) in
          subst (λ (q : Option Sign × ℕ). FrontIs 34 rest q.0 q.1) (ok_is p.1) (sign (quoted (λ k d inside. eqb-false _ 34 (before_fails is_quotation_mark rest k d inside)) spelled) (omega arith))
      | inr p ↦ absurd (cc)
    ]

run_front_sound : (b : ℕ) (rest : List ℕ) (s : Option Sign) (others : ℕ) → ends_run b ≡ false → run_front (b ∷ rest) ≡ Ok (s, others) → FrontIs b rest s others
unfolding run_front
run_front_sound b rest s others begins read =
    let f = bind_ok (run_reading (before_first ends_run (b ∷ rest))) (λ sign. Ok (Some sign, position_or_len ends_run (b ∷ rest) - 1)) (s, others) read in
    let place : position_or_len ends_run (b ∷ rest) ≡ suc (position_or_len ends_run rest) = ap (λ x. cond (not x) (1 + position_or_len ends_run rest) 0) begins ∙ omega arith in
    let front : before_first ends_run (b ∷ rest) ≡ b ∷ take (position_or_len ends_run rest) rest = ap (λ n. take n (b ∷ rest)) place in
    let count : position_or_len ends_run (b ∷ rest) - 1 ≡ position_or_len ends_run rest = omega arith in
    let plain = subst (All (λ x. ends_run x ≡ false)) front (before_fails ends_run (b ∷ rest)) in
    let meant = run_sound (b ∷ take (position_or_len ends_run rest) rest) f.0 (ap run_reading (sym front) ∙ f.1) in
    subst (λ (q : Option Sign × ℕ). FrontIs b rest q.0 q.1) (ap (λ n. (Some f.0, n)) (sym count) ∙ ok_is f.2) (sign (run (λ e. absurd (cc)) plain (ends_there rest) meant) (prefix_len-le-length (λ x. not (ends_run x)) rest))

pub front_sound : (b : ℕ) (rest : List ℕ) (s : Option Sign) (others : ℕ) → front_reading b rest ≡ Ok (s, others) → FrontIs b rest s others
unfolding front_reading
front_sound b rest s others read =
    elim (chosen (eqb b 32) _ _ _ read) [
      | inl p ↦ subst (λ (q : Option Sign × ℕ). FrontIs b rest q.0 q.1) (ok_is p.1) (gap (eqb-true b 32 p.0))
      | inr no_space ↦ elim (chosen (eqb b 40) _ _ _ no_space.1) [
        | inl p ↦ subst (λ (q : Option Sign × ℕ). FrontIs b rest q.0 q.1) (ok_is p.1) (sign (opened (ap (λ x. x ∷ []) (eqb-true b 40 p.0))) (omega arith))
        | inr no_open ↦ elim (chosen (eqb b 41) _ _ _ no_open.1) [
          | inl p ↦ subst (λ (q : Option Sign × ℕ). FrontIs b rest q.0 q.1) (ok_is p.1) (sign (closed (ap (λ x. x ∷ []) (eqb-true b 41 p.0))) (omega arith))
          | inr no_close ↦ elim (chosen (eqb b 34) _ _ _ no_close.1) [
            | inl p ↦ subst (λ (x : ℕ). FrontIs x rest s others) (sym (eqb-true b 34 p.0)) (quoted_sound rest s others p.1)
            | inr no_mark ↦ run_front_sound b rest s others (rw (no_space.0, no_mark.0, no_open.0, no_close.0) refl) no_mark.1
          ]
        ]
      ]
    ]

-- a reading of the front, and what follows it
turn : (offset b : ℕ) (rest : List ℕ) (s : Option Sign) (others : ℕ) (lexemes : List Lexeme) → FrontIs b rest s others → AreLexemes (suc offset + others) (drop others rest) lexemes → AreLexemes offset (b ∷ rest) (with_sign offset s lexemes)
turn offset b rest s others lexemes (gap is) follow = subst (λ (x : ℕ). AreLexemes offset (x ∷ rest) lexemes) (sym is) (space (subst (λ (o : ℕ). AreLexemes o rest lexemes) (add-zero (suc offset)) follow))
turn offset b rest s others lexemes (sign read within) follow =
    let place : suc offset + others ≡ offset + length (b ∷ take others rest) = omega (arith, length-take-le others rest within) in
    lexeme read (ap (λ l. b ∷ l) (sym (take-append-drop others rest))) (subst (λ (o : ℕ). AreLexemes o (drop others rest) lexemes) place follow)

sound_within : (n offset : ℕ) (bytes : List ℕ) (lexemes : List Lexeme) → length bytes ≤ n → lexemes_from 0 offset bytes ≡ Ok lexemes → AreLexemes offset bytes lexemes
unfolding lexemes_from
sound_within n offset [] lexemes short read = subst (AreLexemes offset []) (ok_is read) none
sound_within zero offset (b ∷ rest) lexemes short read = absurd (omega arith)
sound_within (suc n) offset (b ∷ rest) lexemes short read =
    let f = bind_ok (front_reading b rest) (λ front. lexemes_from front.1 (suc offset) rest >>= λ more. Ok (with_sign offset front.0 more)) lexemes read in
    let g = bind_ok (lexemes_from f.0.1 (suc offset) rest) (λ more. Ok (with_sign offset f.0.0 more)) lexemes f.2 in
    let follow = sound_within n (suc offset + f.0.1) (drop f.0.1 rest) g.0 (omega (arith, length-drop f.0.1 rest)) (sym (skipped_dropped f.0.1 (suc offset) rest) ∙ g.1) in
    subst (AreLexemes offset (b ∷ rest)) (ok_is g.2) (turn offset b rest f.0.0 f.0.1 g.0 (front_sound b rest f.0.0 f.0.1 f.1) follow)

pub cut_sound : (text : List ℕ) (lexemes : List Lexeme) → lexemes_of text ≡ Ok lexemes → AreLexemes 0 text lexemes
unfolding lexemes_of
cut_sound text lexemes read = sound_within (length text) 0 text lexemes (omega arith) read

-- a list whose front fails, and whose rest begins with what passes
pub place_at : (p : ℕ → Bool) (front rest : List ℕ) → All (λ x. p x ≡ false) front → position_or_len p rest ≡ 0 → position_or_len p (front ++ rest) ≡ length front
place_at p [] rest fails here = here
place_at p (x ∷ front) rest fails here =
    ap (λ b. cond (not b) (1 + position_or_len p (front ++ rest)) 0) (All-head (λ x. p x ≡ false) x front fails)
    ∙ ap (λ n. 1 + n) (place_at p front rest (All-tail (λ x. p x ≡ false) x front fails) here) ∙ omega arith

pub ends_here : (rest : List ℕ) → EndsRun rest → position_or_len ends_run rest ≡ 0
ends_here [] ends = refl
ends_here (b ∷ rest) ends = ap (λ x. cond (not x) (1 + position_or_len ends_run rest) 0) ends

-- the four tests of a byte of a run
neither : (a b : Bool) → (a || b) ≡ false → (a ≡ false) × (b ≡ false)
neither true b is = absurd (cc)
neither false b is = (refl, is)

quoted_at : List ℕ → ℕ → Result (Option Sign × ℕ) QueryError
quoted_at whole n = cond (ltb n (length whole)) (Ok (Some (Quoted (take n whole)), n + 1)) (Err OpenQuote)

quoted_complete : (text rest : List ℕ) → All (λ b. b ≢ 34) text → quoted_reading ((text ++ 34 ∷ []) ++ rest) ≡ Ok (Some (Quoted text), length (text ++ 34 ∷ []))
unfolding quoted_reading quoted_at
quoted_complete text rest plain =
    let place = place_at is_quotation_mark text (34 ∷ rest) (λ k d within. never _ (λ is. plain k d within (eqb-true _ 34 is))) refl in
    let room : length text < length (text ++ 34 ∷ rest) = omega (arith, length-append text (34 ∷ rest)) in
    let count : length text + 1 ≡ length (text ++ 34 ∷ []) = omega (arith, length-append text (34 ∷ [])) in
    ap quoted_reading (append_assoc text (34 ∷ []) rest)
    ∙ ap (quoted_at (text ++ 34 ∷ rest)) place
    ∙ ap (λ b. cond b (Ok (Some (Quoted (take (length text) (text ++ 34 ∷ rest))), length text + 1)) (Err OpenQuote)) (lt-ltb _ _ room)
    ∙ ap (λ t. Ok (Some (Quoted t), length text + 1)) (take-append_seam text (34 ∷ rest))
    ∙ ap (λ n. Ok (Some (Quoted text), n)) count

unfoldable pub run_at : List ℕ → ℕ → Result (Option Sign × ℕ) QueryError
run_at whole n = run_reading (take n whole) >>= λ sign. Ok (Some sign, n - 1)

run_front_complete : (b : ℕ) (more rest : List ℕ) (s : Sign) → All (λ x. ends_run x ≡ false) (b ∷ more) → EndsRun rest → IsRunOf (b ∷ more) s → run_front (b ∷ (more ++ rest)) ≡ Ok (Some s, length more)
unfolding run_front run_at
run_front_complete b more rest s plain ends meant =
    ap (run_at (b ∷ (more ++ rest))) (place_at ends_run (b ∷ more) rest plain (ends_here rest ends))
    ∙ ap (λ r. run_reading r >>= λ sign. Ok (Some sign, suc (length more) - 1)) (take-append_seam (b ∷ more) rest)
    ∙ ap (λ r. r >>= λ sign. Ok (Some sign, suc (length more) - 1)) (run_complete meant)
    ∙ ap (λ n. Ok (Some s, n)) (omega arith)

front_run : (b : ℕ) (more rest : List ℕ) (s : Sign) → All (λ x. ends_run x ≡ false) (b ∷ more) → EndsRun rest → IsRunOf (b ∷ more) s → front_reading b (more ++ rest) ≡ Ok (Some s, length more)
unfolding front_reading
front_run b more rest s plain ends meant =
    let first = neither (eqb b 32 || eqb b 34 || eqb b 40) (eqb b 41) (All-head (λ x. ends_run x ≡ false) b more plain) in
    let second = neither (eqb b 32 || eqb b 34) (eqb b 40) first.0 in
    let third = neither (eqb b 32) (eqb b 34) second.0 in
    rw (third.0, second.1, first.1, third.1) (run_front_complete b more rest s plain ends meant)

-- the first byte of a lexeme, and the reading of it
unfoldable pub Reads : Sign → List ℕ → List ℕ → Type 0
Reads s bytes rest = (b : ℕ) × (more : List ℕ) × (bytes ≡ b ∷ more) × (front_reading b (more ++ rest) ≡ Ok (Some s, length more))

run_reads : (bytes rest : List ℕ) (s : Sign) → bytes ≢ [] → All (λ x. ends_run x ≡ false) bytes → EndsRun rest → IsRunOf bytes s → Reads s bytes rest
unfolding Reads
run_reads [] rest s some plain ends meant = absurd (some refl)
run_reads (b ∷ more) rest s some plain ends meant = (b, more, refl, front_run b more rest s plain ends meant)

pub reads : {s : Sign} {bytes rest : List ℕ} → IsLexeme s bytes rest → Reads s bytes rest
unfolding Reads front_reading
reads (opened is) = (40, [], is, refl)
reads (closed is) = (41, [], is, refl)
reads (quoted {text = text} {rest = rest} plain is) = (34, text ++ 34 ∷ [], is, quoted_complete text rest plain)
reads (run {sign = s} {run = bytes} {rest = rest} some plain ends meant) = run_reads bytes rest s some plain ends meant

pub lexeme_turn : (offset b : ℕ) (more rest : List ℕ) (s : Sign) → front_reading b (more ++ rest) ≡ Ok (Some s, length more) → lexemes_from 0 offset (b ∷ (more ++ rest)) ≡ (lexemes_from 0 (offset + suc (length more)) rest >>= λ found. Ok (At offset s ∷ found))
unfolding lexemes_from
lexeme_turn offset b more rest s front =
    let place : suc offset + length more ≡ offset + suc (length more) = omega arith in
    let behind = skipped_dropped (length more) (suc offset) (more ++ rest) ∙ ap (lexemes_from 0 (suc offset + length more)) (drop-append_seam more rest) ∙ ap (λ o. lexemes_from 0 o rest) place in
    ap (λ r. r >>= λ f. lexemes_from f.1 (suc offset) (more ++ rest) >>= λ found. Ok (with_sign offset f.0 found)) front
    ∙ ap (λ r. r >>= λ found. Ok (At offset s ∷ found)) behind

complete_at : {offset : ℕ} {bytes : List ℕ} {lexemes : List Lexeme} → AreLexemes offset bytes lexemes → lexemes_from 0 offset bytes ≡ Ok lexemes
unfolding lexemes_from front_reading Reads
complete_at none = refl
complete_at (space {offset = offset} {bytes = bytes} {lexemes = lexemes} follow) = ap (λ r. r >>= λ found. Ok found) (complete_at follow)
complete_at (lexeme {offset = offset} {whole = whole} {bytes = bytes} {rest = rest} {sign = s} {lexemes = lexemes} read spelled follow) =
    let f = reads read in
    let further = complete_at follow in
    let count : offset + length bytes ≡ offset + suc (length f.1) = ap (λ l. offset + length l) f.2 in
    ap (lexemes_from 0 offset) (spelled ∙ ap (λ l. l ++ rest) f.2)
    ∙ lexeme_turn offset f.0 f.1 rest s f.3
    ∙ ap (λ r. r >>= λ found. Ok (At offset s ∷ found)) (ap (λ o. lexemes_from 0 o rest) (sym count) ∙ further)

pub cut_complete : (text : List ℕ) (lexemes : List Lexeme) → AreLexemes 0 text lexemes → lexemes_of text ≡ Ok lexemes
unfolding lexemes_of
cut_complete text lexemes cut = complete_at cut
