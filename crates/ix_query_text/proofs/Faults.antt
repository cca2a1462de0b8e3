-- The first fault of a text, in both forms of the definition.
use Rattle.std.proofs.Common.{◌≡◌, ◌≢◌, ℕ, zero, suc, ◌+◌, ◌-◌, ◌≤◌, false, eqb, ltb, List, [], ◌∷◌, ◌++◌, length, drop, Option, Some, Result, Ok, Err, ◌⊎◌, inl, inr, refl, sym, ap, ◌∙◌, subst, arith, append-nil, take-append-drop, length-drop}
use Rattle.std.specs.Prelude.{codes, All}
use Rattle.std.specs.List.{position_or_len, before_first}
use Rattle.std.proofs.lemmas.Bool.{eqb-true, eqb-false, ltb-false}
use Rattle.std.proofs.lemmas.List.Elements.{All-cons, All-drop}
use Rattle.std.proofs.lemmas.List.Sums.{fails_before_first}
use Rattle.std.proofs.Math.Seq.{take-append_seam}
use Rattle.ix_query_text.specs.declared.error.QueryError.{QueryError}
use Rattle.ix_query_text.specs.declared.error.QueryError.TheVariants.{OpenQuote, BadNear}
use Rattle.ix_query_text.specs.QueryErrors.{◌>>=◌}
use Rattle.ix_query_text.specs.Cutting.{EndsRun, IsFault, open_quote, bad_near, HasFault, here, behind_space, behind_lexeme}
use Rattle.ix_query_text.specs.Lexemes.{Sign, Quoted, At, ends_run, is_quotation_mark, run_reading, run_front, quoted_reading, front_reading, with_sign, lexemes_from, lexemes_of}
use Rattle.ix_query_text.proofs.Cuts.{FrontIs, gap, sign, before_fails, ends_there, front_sound, place_at, ends_here, Reads, reads, run_at, lexeme_turn}
use Rattle.ix_query_text.proofs.LexemeLists.{skipped_dropped}
use Rattle.ix_query_text.proofs.Lexing.{quoted_open}
use Rattle.ix_query_text.proofs.RunSigns.{chosen, never, NoDistance, run_fault, run_bad}

bind_err : {A B : Type 0} (r : Result A QueryError) (f : A → Result B QueryError) (fault : QueryError) → (r >>= f) ≡ Err fault → (r ≡ Err fault) ⊎ ((x : A) × (r ≡ Ok x) × (f x ≡ Err fault))
bind_err (Ok x) f fault is = inr (x, refl, is)
bind_err (Err e) f fault is = inl (cc)

quoted_fault : (rest : List ℕ) (fault : QueryError) → quoted_reading rest ≡ Err fault → IsFault fault (34 ∷ rest)
unfolding quoted_reading
quoted_fault rest fault read =
    elim (chosen (ltb (position_or_len is_quotation_mark rest) (length rest)) (Ok (Some (Quoted (before_first is_quotation_mark rest)), position_or_len is_quotation_mark rest + 1)) (Err OpenQuote) (Err fault) read) [
      | inl p ↦ absurd (cc)
      | inr p ↦
          let past_all = ltb-false _ _ p.0 in
          let is : OpenQuote ≡ fault = cc in
          subst (λ (e : QueryError). IsFault e (34 ∷ rest)) is (open_quote (λ k d within. eqb-false _ 34 (fails_before_first is_quotation_mark rest k d (omega arith))) refl)
    ]

run_front_fault : (b : ℕ) (rest : List ℕ) (fault : QueryError) → run_front (b ∷ rest) ≡ Err fault → IsFault fault (b ∷ rest)
unfolding run_front
run_front_fault b rest fault read =
    elim (bind_err (run_reading (before_first ends_run (b ∷ rest))) (λ sign. Ok (Some sign, position_or_len ends_run (b ∷ rest) - 1)) fault read) [
      | inl f ↦
          let known = run_fault (before_first ends_run (b ∷ rest)) fault f in
          let spelled : b ∷ rest ≡ codes "NEAR/" ++ (drop 5 (before_first ends_run (b ∷ rest)) ++ drop (position_or_len ends_run (b ∷ rest)) (b ∷ rest)) = sym (take-append-drop (position_or_len ends_run (b ∷ rest)) (b ∷ rest)) ∙ ap (λ l. l ++ drop (position_or_len ends_run (b ∷ rest)) (b ∷ rest)) known.1 in
          subst (λ (e : QueryError). IsFault e (b ∷ rest)) known.0 (bad_near (drop (position_or_len ends_run (b ∷ rest)) (b ∷ rest)) (All-drop (λ x. ends_run x ≡ false) 5 (before_first ends_run (b ∷ rest)) (before_fails ends_run (b ∷ rest))) (ends_there (b ∷ rest)) known.2 spelled)
      | inr f ↦ let no = f.2 in absurd (cc)
    ]

front_fault : (b : ℕ) (rest : List ℕ) (fault : QueryError) → front_reading b rest ≡ Err fault → IsFault fault (b ∷ rest)
unfolding front_reading
front_fault b rest fault read =
    elim (chosen (eqb b 32) _ _ _ read) [
      | inl p ↦ absurd (cc)
      | inr no_space ↦ elim (chosen (eqb b 40) _ _ _ no_space.1) [
        | inl p ↦ absurd (cc)
        | inr no_open ↦ elim (chosen (eqb b 41) _ _ _ no_open.1) [
          | inl p ↦ absurd (cc)
          | inr no_close ↦ elim (chosen (eqb b 34) _ _ _ no_close.1) [
            | inl p ↦ subst (λ (x : ℕ). IsFault fault (x ∷ rest)) (sym (eqb-true b 34 p.0)) (quoted_fault rest fault p.1)
            | inr no_mark ↦ run_front_fault b rest fault no_mark.1
          ]
        ]
      ]
    ]

fault_turn : (b : ℕ) (rest : List ℕ) (s : Option Sign) (others : ℕ) (fault : QueryError) → FrontIs b rest s others → HasFault fault (drop others rest) → HasFault fault (b ∷ rest)
fault_turn b rest s others fault (gap is) follow = subst (λ (x : ℕ). HasFault fault (x ∷ rest)) (sym is) (behind_space follow)
fault_turn b rest s others fault (sign read within) follow = behind_lexeme read (ap (λ l. b ∷ l) (sym (take-append-drop others rest))) follow

fault_within : (n offset : ℕ) (bytes : List ℕ) (fault : QueryError) → length bytes ≤ n → lexemes_from 0 offset bytes ≡ Err fault → HasFault fault bytes
unfolding lexemes_from
fault_within n offset [] fault short read = absurd (cc)
fault_within zero offset (b ∷ rest) fault short read = absurd (omega arith)
fault_within (suc n) offset (b ∷ rest) fault short read =
    elim (bind_err (front_reading b rest) (λ front. lexemes_from front.1 (suc offset) rest >>= λ more. Ok (with_sign offset front.0 more)) fault read) [
      | inl f ↦ here (front_fault b rest fault f)
      | inr f ↦ elim (bind_err (lexemes_from f.0.1 (suc offset) rest) (λ more. Ok (with_sign offset f.0.0 more)) fault f.2) [
        | inl g ↦ fault_turn b rest f.0.0 f.0.1 fault (front_sound b rest f.0.0 f.0.1 f.1) (fault_within n (suc offset + f.0.1) (drop f.0.1 rest) fault (omega (arith, length-drop f.0.1 rest)) (sym (skipped_dropped f.0.1 (suc offset) rest) ∙ g))
        | inr g ↦ let none = g.2 in absurd (cc)
      ]
    ]

pub fault_sound : (text : List ℕ) (fault : QueryError) → lexemes_of text ≡ Err fault → HasFault fault text
unfolding lexemes_of
fault_sound text fault read = fault_within (length text) 0 text fault (omega arith) read

open_reads : (rest : List ℕ) → All (λ b. b ≢ 34) rest → quoted_reading rest ≡ Err OpenQuote
open_reads rest plain =
    let place = place_at is_quotation_mark rest [] (λ k d within. never _ (λ is. plain k d within (eqb-true _ 34 is))) refl in
    quoted_open rest (ap (position_or_len is_quotation_mark) (sym (append-nil rest)) ∙ place)

bad_reads : (digits rest : List ℕ) → All (λ b. ends_run b ≡ false) digits → EndsRun rest → NoDistance digits → run_front (codes "NEAR/" ++ (digits ++ rest)) ≡ Err BadNear
unfolding run_front run_at
bad_reads digits rest plain ends none =
    let P : ℕ → Type 0 = λ x. ends_run x ≡ false in
    let whole : All P (codes "NEAR/" ++ digits) = All-cons P 78 (69 ∷ 65 ∷ 82 ∷ 47 ∷ digits) refl (All-cons P 69 (65 ∷ 82 ∷ 47 ∷ digits) refl (All-cons P 65 (82 ∷ 47 ∷ digits) refl (All-cons P 82 (47 ∷ digits) refl (All-cons P 47 digits refl plain)))) in
    ap (run_at (codes "NEAR/" ++ (digits ++ rest))) (place_at ends_run (codes "NEAR/" ++ digits) rest whole (ends_here rest ends))
    ∙ ap (λ r. run_reading r >>= λ sign. Ok (Some sign, length (codes "NEAR/" ++ digits) - 1)) (take-append_seam (codes "NEAR/" ++ digits) rest)
    ∙ ap (λ r. r >>= λ sign. Ok (Some sign, length (codes "NEAR/" ++ digits) - 1)) (run_bad digits none)

fault_reads : {fault : QueryError} {bytes : List ℕ} → IsFault fault bytes → (b : ℕ) × (rest : List ℕ) × (bytes ≡ b ∷ rest) × (front_reading b rest ≡ Err fault)
unfolding front_reading
fault_reads (open_quote {rest = rest} plain is) = (34, rest, is, open_reads rest plain)
fault_reads (bad_near {digits = digits} rest plain ends none is) = (78, 69 ∷ 65 ∷ 82 ∷ 47 ∷ (digits ++ rest), is, bad_reads digits rest plain ends none)

front_err : (offset b : ℕ) (rest : List ℕ) (fault : QueryError) → front_reading b rest ≡ Err fault → lexemes_from 0 offset (b ∷ rest) ≡ Err fault
unfolding lexemes_from
front_err offset b rest fault read = ap (λ r. r >>= λ f. lexemes_from f.1 (suc offset) rest >>= λ more. Ok (with_sign offset f.0 more)) read

fault_at : {fault : QueryError} {bytes : List ℕ} → HasFault fault bytes → (offset : ℕ) → lexemes_from 0 offset bytes ≡ Err fault
unfolding lexemes_from front_reading Reads
fault_at (here {fault = fault} is) offset = let f = fault_reads is in ap (lexemes_from 0 offset) f.2 ∙ front_err offset f.0 f.1 fault f.3
fault_at (behind_space follow) offset = ap (λ r. r >>= λ found. Ok found) (fault_at follow (suc offset))
fault_at (behind_lexeme {whole = whole} {bytes = bytes} {rest = rest} {sign = s} read spelled follow) offset =
    let f = reads read in
    let further = fault_at follow (offset + suc (length f.1)) in
    ap (lexemes_from 0 offset) (spelled ∙ ap (λ l. l ++ rest) f.2)
    ∙ lexeme_turn offset f.0 f.1 rest s f.3
    ∙ ap (λ r. r >>= λ found. Ok (At offset s ∷ found)) further

pub fault_complete : (text : List ℕ) (fault : QueryError) → HasFault fault text → lexemes_of text ≡ Err fault
unfolding lexemes_of
fault_complete text fault has = fault_at has 0
