-- Bytes that are cut into texts, one after another.
use Rattle.std.proofs.Common.{◌≡◌, ◌≢◌, ◌∙◌, ℕ, ◌+◌, ◌<◌, ◌≤◌, List, [], ◌∷◌, ◌++◌, length, map, take, get_or, refl, sym, ap, subst, arith, append-nil}
use Rattle.std.specs.Prelude.{flat_map, sum_by}
use Rattle.std.specs.Borrow.{Bor}
use Rattle.std.proofs.lemmas.Grind.{flat_map-append}
use Rattle.std.proofs.lemmas.List.{append_assoc, length-append, map-append, take_all, take_more}
use Rattle.std.proofs.lemmas.List.Sums.{sum_by-append, sum_by-take-le}

abbrev whole : List (List ℕ) → List ℕ
whole = flat_map (λ text. text)

abbrev sum_of : List ℕ → ℕ
sum_of = sum_by (λ size. size)

-- the texts are as long together as their sizes say
length_whole : (texts : List (List ℕ)) → length (whole texts) ≡ sum_of (map length texts)
length_whole [] = refl
length_whole (text ∷ texts) =
    let more = sum_by-append (λ (size : ℕ). size) (length text ∷ []) (map length texts) in
    omega (arith, length-append text (whole texts), length_whole texts, more)

-- The first so many texts are cut off, and the rest lies behind them.
pub record AreCutSoFar (bytes : List ℕ) (sizes : List ℕ) (texts : List (List ℕ)) (rest : List ℕ) (count : ℕ) : Type 0 where
  pub before : whole texts ++ rest ≡ bytes
  pub sized : map length texts ≡ take count sizes

module _ (bytes sizes : List ℕ) (texts : List (List ℕ)) (rest : List ℕ) (count : ℕ) (so_far : AreCutSoFar bytes sizes texts rest count) where
  -- what was cut off and the rest are all
  sizes_with_rest : sum_of (take count sizes) + length rest ≡ length bytes
  sizes_with_rest = omega (arith, length-append (whole texts) rest, ap length so_far.before, length_whole texts, ap sum_of so_far.sized)

  pub cut_more : (text after : List ℕ) → count < length sizes → length text ≡ get_or sizes count 0 → text ++ after ≡ rest
      → AreCutSoFar bytes sizes (texts ++ text ∷ []) after (count + 1)
  cut_more text after within size split = record {
    before = ap (λ xs. xs ++ after) (flat_map-append (λ text. text) texts (text ∷ []) ∙ ap (λ xs. whole texts ++ xs) (append-nil text)) ∙ append_assoc (whole texts) text after
        ∙ ap (λ xs. whole texts ++ xs) split ∙ so_far.before;
    sized = map-append length texts (text ∷ []) ∙ ap (λ ns. ns ++ length text ∷ []) so_far.sized ∙ ap (λ n. take count sizes ++ n ∷ []) size ∙ sym (take_more sizes count 0 within);
  }

  -- a size that is more than what is left is too much
  pub too_much : count < length sizes → length rest < get_or sizes count 0 → sum_of sizes ≢ length bytes
  too_much within more = λ same.
      let next = sum_by-append (λ (size : ℕ). size) (take count sizes) (get_or sizes count 0 ∷ []) in
      let taken = ap sum_of (take_more sizes count 0 within) in
      let below = sum_by-take-le (λ (size : ℕ). size) sizes (count + 1) in
      omega (arith, next, taken, below, more, same, sizes_with_rest)

  module _ (low : length sizes ≤ count) where
    all : take count sizes ≡ sizes
    all = take_all count sizes low

    pub too_little : 0 < length rest → sum_of sizes ≢ length bytes
    too_little left = λ same. omega (arith, sizes_with_rest, ap sum_of all, left, same)

-- one more text behind a reference
pub cut_off : (bytes sizes : List ℕ) (texts : List (Bor (List ℕ))) (rest : List ℕ) (count : ℕ) → AreCutSoFar bytes sizes (map (λ (text : Bor (List ℕ)). text.now) texts) rest count
    → (text : Bor (List ℕ)) (after : List ℕ) → count < length sizes → length text.now ≡ get_or sizes count 0 → text.now ++ after ≡ rest
    → AreCutSoFar bytes sizes (map (λ (text : Bor (List ℕ)). text.now) (texts ++ text ∷ [])) after (count + 1)
cut_off bytes sizes texts rest count so_far text after within size split =
    let now = λ (text : Bor (List ℕ)). text.now in
    subst (λ (all_texts : List (List ℕ)). AreCutSoFar bytes sizes all_texts after (count + 1)) (sym (map-append now texts (text ∷ [])))
    (cut_more bytes sizes (map now texts) rest count so_far text.now after within size split)
