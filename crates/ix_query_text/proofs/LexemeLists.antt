-- The lexemes of a text, those of its front first.
use Rattle.std.proofs.Common.{◌≡◌, ℕ, zero, suc, ◌+◌, ◌-◌, ◌<◌, ◌≤◌, List, [], ◌∷◌, ◌++◌, length, get_or, drop, Option, Some, None, Result, Ok, Err, refl, sym, ap, ◌∙◌, arith, append_assoc, append-nil, add-zero, length-drop}
use Rattle.ix_query_text.specs.declared.error.QueryError.{QueryError}
use Rattle.ix_query_text.specs.QueryErrors.{◌>>=◌, Fails}
use Rattle.ix_query_text.specs.Lexemes.{Sign, Lexeme, At, front_reading, with_sign, lexemes_from, lexemes_of}
use Rattle.ix_query_text.proofs.Readings.{fails_bind}

-- the lexemes of the front before those of the rest
abbrev pub behind : List Lexeme → Result (List Lexeme) QueryError → Result (List Lexeme) QueryError
behind front rest = rest >>= λ lexemes. Ok (front ++ lexemes)

-- bytes that are skipped may as well be cut off
pub skipped_dropped : (skipped offset : ℕ) (bytes : List ℕ) → lexemes_from skipped offset bytes ≡ lexemes_from 0 (offset + skipped) (drop skipped bytes)
unfolding lexemes_from
skipped_dropped zero offset bytes = ap (λ o. lexemes_from 0 o bytes) (sym (add-zero offset))
skipped_dropped (suc skipped) offset [] = refl
skipped_dropped (suc skipped) offset (b ∷ bytes) = skipped_dropped skipped (suc offset) bytes ∙ ap (λ o. lexemes_from 0 o (drop skipped bytes)) (omega arith)

behind_sign : (found : List Lexeme) (offset : ℕ) (sign : Option Sign) (rest : Result (List Lexeme) QueryError) → behind found (rest >>= λ lexemes. Ok (with_sign offset sign lexemes)) ≡ behind (found ++ with_sign offset sign []) rest
behind_sign found offset None (Ok lexemes) = ap (λ front. Ok (front ++ lexemes)) (sym (append-nil found))
behind_sign found offset (Some sign) (Ok lexemes) = ap Ok (sym (append_assoc found (At offset sign ∷ []) lexemes))
behind_sign found offset None (Err e) = refl
behind_sign found offset (Some sign) (Err e) = refl

-- one turn of the loop
pub one_more : (found : List Lexeme) (offset : ℕ) (bytes : List ℕ) (sign : Option Sign) (taken : ℕ) → 0 < length bytes → 0 < taken → front_reading (get_or bytes 0 0) (drop 1 bytes) ≡ Ok (sign, taken - 1) → behind found (lexemes_from 0 offset bytes) ≡ behind (found ++ with_sign offset sign []) (lexemes_from 0 (offset + taken) (drop taken bytes))
unfolding lexemes_from
one_more found offset [] sign taken some moves front = absurd (omega arith)
one_more found offset (b ∷ bytes) sign zero some moves front = absurd (omega arith)
one_more found offset (b ∷ bytes) sign (suc taken) some moves front =
    let read : front_reading b bytes ≡ Ok (sign, taken) = front ∙ ap (λ n. Ok (sign, n)) (omega arith) in
    ap (λ r. behind found (r >>= λ f. lexemes_from f.1 (suc offset) bytes >>= λ lexemes. Ok (with_sign offset f.0 lexemes))) read
    ∙ behind_sign found offset sign (lexemes_from taken (suc offset) bytes)
    ∙ ap (behind (found ++ with_sign offset sign [])) (skipped_dropped taken (suc offset) bytes ∙ ap (λ o. lexemes_from 0 o (drop taken bytes)) (omega arith))

-- a fault at the front
pub fault_here : (found : List Lexeme) (offset : ℕ) (bytes : List ℕ) (e : QueryError) → 0 < length bytes → Fails e (front_reading (get_or bytes 0 0) (drop 1 bytes)) → Fails e (behind found (lexemes_from 0 offset bytes))
unfolding lexemes_from
fault_here found offset [] e some fault = absurd (omega arith)
fault_here found offset (b ∷ bytes) e some fault = fails_bind e _ _ (fails_bind e _ _ fault)

-- the loop's invariant: found are the lexemes of the front of the text, and rest is what is left
pub record LexedBefore (text : List ℕ) (found : List Lexeme) (offset : ℕ) (rest : List ℕ) : Type 0 where
  pub reading : behind found (lexemes_from 0 offset rest) ≡ lexemes_of text
  pub placed : offset + length rest ≡ length text

behind_none : (rest : Result (List Lexeme) QueryError) → behind [] rest ≡ rest
behind_none (Ok lexemes) = refl
behind_none (Err e) = refl

pub at_start : (text : List ℕ) → LexedBefore text [] 0 text
unfolding lexemes_of
at_start text = record { reading = behind_none (lexemes_from 0 0 text); placed = omega arith }

pub at_end : (text : List ℕ) (found : List Lexeme) (offset : ℕ) (rest : List ℕ) → LexedBefore text found offset rest → length rest ≡ 0 → lexemes_of text ≡ Ok found
unfolding lexemes_from
at_end text found offset [] before empty = sym before.reading ∙ ap Ok (append-nil found)
at_end text found offset (b ∷ rest) before empty = absurd (omega arith)

pub after_turn : (text : List ℕ) (found : List Lexeme) (offset : ℕ) (rest : List ℕ) (sign : Option Sign) (taken : ℕ) (more : List Lexeme) (after : List ℕ) → LexedBefore text found offset rest → 0 < length rest → 0 < taken → taken ≤ length rest → front_reading (get_or rest 0 0) (drop 1 rest) ≡ Ok (sign, taken - 1) → more ≡ found ++ with_sign offset sign [] → after ≡ drop taken rest → LexedBefore text more (offset + taken) after
after_turn text found offset rest sign taken more after before some moves within front kept back = rw (kept, back) (record {
  reading = sym (one_more found offset rest sign taken some moves front) ∙ before.reading;
  placed = omega (arith, length-drop taken rest, before.placed);
})
