-- The parts of a text between its stars are the one cut at its stars.
use Rattle.std.proofs.Common.{◌≡◌, ◌≢◌, ℕ, zero, suc, ◌+◌, ◌<◌, List, [], ◌∷◌, ◌++◌, length, refl, sym, ◌∙◌, ap, arith, Bool, true, false, eqb, get_or, map, ◌-◌, lit<, Option, Some, None, length-drop, Bor, append_assoc}
use Rattle.std.proofs.lemmas.List.Elements.{All-cons, All-head, All-nil, All-tail}
use Rattle.std.proofs.lemmas.List.Splits.{slice_split_none, slice_split_at, slice_split_first}
use Rattle.std.proofs.lemmas.List.Sums.{fails_before_first, passes_at_first}
use Rattle.std.proofs.lemmas.Str.Pattern.{IsSplitOnceResult, split_once_first}
use Rattle.std.proofs.lemmas.Bool.{cond_both, eqb-true, eqb-false}
use Rattle.std.proofs.lemmas.List.{get_or_default, map_push}
use Rattle.std.specs.Prelude.{All, Contains, MatchOption}
use Rattle.std.specs.List.{slice_split, join_with_byte, onto_first, position_or_len, before_first, after_first}
use Rattle.ix_text.specs.Terms.{term_of_word}
use Rattle.ix_gram.specs.Patterns.{parts_of, pieces_of, HasStar}

-- the star
abbrev pub is_star : ℕ → Bool
is_star byte = eqb byte 42

-- no byte of a part without a star is one
pub none_is_star : (part : List ℕ) → ¬ (Contains part 42) → All (λ byte. is_star byte ≡ false) part
none_is_star part starless k d below =
    elim (is_star (get_or part k d)) as (λ b. is_star (get_or part k d) ≡ b → b ≡ false) [
      | true ↦ λ e. absurd (starless (k, below, get_or_default part k 42 d below ∙ eqb-true _ 42 e))
      | false ↦ λ e. refl
    ] refl

-- a list of parts is not empty
some_onto : (byte : ℕ) (parts : List (List ℕ)) → onto_first byte parts ≢ []
some_onto byte [] e = cc
some_onto byte (part ∷ parts) e = cc

pub some_part : (text : List ℕ) → slice_split is_star text ≢ []
some_part [] = λ e. cc
some_part (byte ∷ text) =
    cond_both (is_star byte) ([] ∷ slice_split is_star text) (onto_first byte (slice_split is_star text)) (λ parts. parts ≢ []) (λ yes e. cc) (λ no. some_onto byte (slice_split is_star text))

-- one more byte that is no star
starless_more : (byte : ℕ) (part : List ℕ) → byte ≢ 42 → ¬ (Contains part 42) → ¬ (Contains (byte ∷ part) 42)
starless_more byte part other starless (zero, below, is) = other is
starless_more byte part other starless (suc k, below, is) = starless (k, omega arith, is)

-- a byte that is no star before the first part
starless_onto : (byte : ℕ) (parts : List (List ℕ)) → byte ≢ 42 → All (λ part. ¬ (Contains part 42)) parts → All (λ part. ¬ (Contains part 42)) (onto_first byte parts)
starless_onto byte [] other all = All-cons (λ part. ¬ (Contains part 42)) (byte ∷ []) [] (starless_more byte [] other (λ h. absurd (omega (arith, h.1)))) (All-nil (λ part. ¬ (Contains part 42)))
starless_onto byte (part ∷ parts) other all =
    All-cons (λ part. ¬ (Contains part 42)) (byte ∷ part) parts
    (starless_more byte part other (All-head (λ part. ¬ (Contains part 42)) part parts all))
    (All-tail (λ part. ¬ (Contains part 42)) part parts all)

-- no part has a star
pub starless_parts : (text : List ℕ) → All (λ part. ¬ (Contains part 42)) (slice_split is_star text)
starless_parts [] = All-cons (λ part. ¬ (Contains part 42)) [] [] (λ h. absurd (omega (arith, h.1))) (All-nil (λ part. ¬ (Contains part 42)))
starless_parts (byte ∷ text) =
    cond_both (is_star byte) ([] ∷ slice_split is_star text) (onto_first byte (slice_split is_star text)) (λ parts. All (λ part. ¬ (Contains part 42)) parts)
    (λ yes. All-cons (λ part. ¬ (Contains part 42)) [] (slice_split is_star text) (λ h. absurd (omega (arith, h.1))) (starless_parts text))
    (λ no. starless_onto byte (slice_split is_star text) (eqb-false byte 42 no) (starless_parts text))

-- a cut at stars is that into the parts
pub one_cut : (parts : List (List ℕ)) → parts ≢ [] → All (λ part. ¬ (Contains part 42)) parts → parts ≡ slice_split is_star (join_with_byte 42 parts)
one_cut [] some all = absurd (some refl)
one_cut (part ∷ []) some all = sym (slice_split_none is_star part (none_is_star part (All-head (λ part. ¬ (Contains part 42)) part [] all)))
one_cut (part ∷ next ∷ parts) some all =
    ap (λ rest. part ∷ rest) (one_cut (next ∷ parts) (λ e. cc) (All-tail (λ part. ¬ (Contains part 42)) part (next ∷ parts) all))
    ∙ sym (slice_split_at is_star part 42 (join_with_byte 42 (next ∷ parts)) (none_is_star part (All-head (λ part. ¬ (Contains part 42)) part (next ∷ parts) all)) refl)

-- where there is no star, no byte is one
starless_from_position : (text : List ℕ) → position_or_len is_star text ≡ length text → ¬ (Contains text 42)
starless_from_position text e (k, below, is) =
    let fails : is_star (get_or text k 42) ≡ false = fails_before_first is_star text k 42 (omega arith) in
    absurd (eqb-false (get_or text k 42) 42 fails is)

-- what a cut at the first star says of the pieces: without a star the text is the one piece
pub pieces_split : (text : List ℕ) (r : Option (Bor (List ℕ) × Bor (List ℕ))) → IsSplitOnceResult 42 text r → MatchOption r (¬ (HasStar text) × (pieces_of text ≡ term_of_word text ∷ [])) (λ x. HasStar text × (pieces_of text ≡ term_of_word x.0.now ∷ pieces_of x.1.now) × (length x.1.now < length text))
unfolding pieces_of parts_of
pieces_split text r split = pieces_cut text r (split_once_first 42 text r split (lit< tt))
  where
    pieces_cut : (text : List ℕ) (r : Option (Bor (List ℕ) × Bor (List ℕ))) → MatchOption r (position_or_len is_star text ≡ length text) (λ x. (position_or_len is_star text < length text) × (x.0.now ≡ before_first is_star text) × (x.1.now ≡ after_first is_star text)) → MatchOption r (¬ (HasStar text) × (map term_of_word (slice_split is_star text) ≡ term_of_word text ∷ [])) (λ x. HasStar text × (map term_of_word (slice_split is_star text) ≡ term_of_word x.0.now ∷ map term_of_word (slice_split is_star x.1.now)) × (length x.1.now < length text))
    pieces_cut text None e =
        let starless = starless_from_position text e in
        (starless, ap (map term_of_word) (slice_split_none is_star text (none_is_star text starless)))
    pieces_cut text (Some (x, y)) (below, front, back) =
        let p : ℕ = position_or_len is_star text in
        let passes : is_star (get_or text p 42) ≡ true = passes_at_first is_star text 42 below in
        let size : length y.now ≡ length text - (p + 1) = ap length back ∙ length-drop (p + 1) text in (
          (p, below, eqb-true (get_or text p 42) 42 passes),
          ap (map term_of_word) (slice_split_first is_star text 42 below) ∙ rw (front, back) refl,
          omega arith,
        )

-- one more piece, before the further ones
pub one_more_piece : {X : Type 0} (f : X → List ℕ) (xs : List X) (x : X) (pieces : List (List ℕ)) → map f xs ++ (f x ∷ pieces) ≡ map f (xs ++ x ∷ []) ++ pieces
one_more_piece f xs x pieces = rw (map_push, append_assoc) refl
