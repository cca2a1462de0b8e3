-- Counted texts.
use Rattle.std.proofs.Common.{◌≡◌, ℕ, List, ◌++◌, length, flat_map, sym, ◌∙◌}
use Rattle.std.proofs.lemmas.List.{append_assoc}
use Rattle.ix_vbyte.specs.Code.{code_of}
use Rattle.ix_vbyte.specs.Texts.{counted}
use Rattle.ix_vbyte.proofs.Pieces.{fronts_apart, pieces_apart}
use Rattle.ix_vbyte.proofs.Values.{code_of-apart}

pub counted-apart : (text other : List ℕ) (xs ys : List ℕ) → counted text ++ xs ≡ counted other ++ ys → (text ≡ other) × (xs ≡ ys)
counted-apart text other xs ys e =
    let split : code_of (length text) ++ (text ++ xs) ≡ code_of (length other) ++ (other ++ ys) =
    sym (append_assoc (code_of (length text)) text xs) ∙ e ∙ append_assoc (code_of (length other)) other ys in
    let counts = code_of-apart (length text) (length other) (text ++ xs) (other ++ ys) split in
    fronts_apart text other xs ys counts.0 counts.1

-- the same with a number behind the text
pub counted_number-apart : (text other : List ℕ) (m n : ℕ) (xs ys : List ℕ) → counted text ++ code_of m ++ xs ≡ counted other ++ code_of n ++ ys → (text ≡ other) × (m ≡ n) × (xs ≡ ys)
counted_number-apart text other m n xs ys e =
    let split = sym (append_assoc (counted text) (code_of m) xs) ∙ e ∙ append_assoc (counted other) (code_of n) ys in
    let texts = counted-apart text other (code_of m ++ xs) (code_of n ++ ys) split in
    let numbers = code_of-apart m n xs ys texts.1 in
    (texts.0, numbers.0, numbers.1)

pub counted_texts_apart : (texts others : List (List ℕ)) (xs ys : List ℕ) → length texts ≡ length others → flat_map counted texts ++ xs ≡ flat_map counted others ++ ys → (texts ≡ others) × (xs ≡ ys)
counted_texts_apart texts others xs ys l e =
    pieces_apart (λ _. Unit {0}) counted (λ text other rest more _ _ same. counted-apart text other rest more same) texts others xs ys (λ k d h. tt) (λ k d h. tt) l e
