-- Pieces of bytes one behind another, each of which tells where it ends.
use Rattle.std.proofs.Common.{◌≡◌, ℕ, List, [], ◌∷◌, ◌++◌, length, flat_map, All, refl, sym, subst, ap₂, ◌∙◌, arith}
use Rattle.std.proofs.lemmas.List.{append_assoc}
use Rattle.std.proofs.lemmas.List.Elements.{All-head, All-tail}

-- at the front of one text two lists of one length are the same
pub fronts_apart : {X : Type 0} → (xs ys : List X) (rest other : List X) → length xs ≡ length ys → xs ++ rest ≡ ys ++ other → (xs ≡ ys) × (rest ≡ other)
fronts_apart [] [] rest other l e = (refl, e)
fronts_apart [] (y ∷ ys) rest other l e = absurd (omega arith)
fronts_apart (x ∷ xs) [] rest other l e = absurd (omega arith)
fronts_apart (x ∷ xs) (y ∷ ys) rest other l e =
    let r = fronts_apart xs ys rest other (omega arith) (cc) in
    let same : x ≡ y = cc in
    (ap₂ (λ z zs. z ∷ zs) same r.0, r.1)

-- No piece of such a value begins that of another.
abbrev pub AreApart : {X : Type 0} → (X → Type 0) → (X → List ℕ) → Type 0
AreApart {X} P piece = (x y : X) (xs ys : List ℕ) → P x → P y → piece x ++ xs ≡ piece y ++ ys → (x ≡ y) × (xs ≡ ys)

-- As many pieces at the front of one text are those of one list.
pub pieces_apart : {X : Type 0} (P : X → Type 0) (piece : X → List ℕ) → AreApart P piece → (xs ys : List X) (rest other : List ℕ) → All P xs → All P ys → length xs ≡ length ys → flat_map piece xs ++ rest ≡ flat_map piece ys ++ other → (xs ≡ ys) × (rest ≡ other)
pieces_apart P piece apart [] [] rest other a b l e = (refl, e)
pieces_apart P piece apart [] (y ∷ ys) rest other a b l e = absurd (omega arith)
pieces_apart P piece apart (x ∷ xs) [] rest other a b l e = absurd (omega arith)
pieces_apart P piece apart (x ∷ xs) (y ∷ ys) rest other a b l e =
    let split : piece x ++ (flat_map piece xs ++ rest) ≡ piece y ++ (flat_map piece ys ++ other) =
    sym (append_assoc (piece x) (flat_map piece xs) rest) ∙ e ∙ append_assoc (piece y) (flat_map piece ys) other in
    let first = apart x y (flat_map piece xs ++ rest) (flat_map piece ys ++ other) (All-head P x xs a) (All-head P y ys b) split in
    let others = pieces_apart P piece apart xs ys rest other (All-tail P x xs a) (All-tail P y ys b) (omega arith) first.1 in
    (ap₂ (λ z zs. z ∷ zs) first.0 others.0, others.1)

-- no end stands where a piece begins
ends_late : {X : Type 0} (P : X → Type 0) (piece : X → List ℕ) (Ends : List ℕ → Type 0) → ((x : X) (xs : List ℕ) → P x → Ends (piece x ++ xs) → ⊥) → (y : X) (ys : List X) (rest other : List ℕ) → P y → Ends rest → rest ≡ flat_map piece (y ∷ ys) ++ other → ⊥
ends_late P piece Ends goes_on y ys rest other is end e =
    goes_on y (flat_map piece ys ++ other) is (subst Ends (e ∙ append_assoc (piece y) (flat_map piece ys) other) end)

-- So are pieces up to an end, which none of them begins like.
pub pieces_before_end : {X : Type 0} (P : X → Type 0) (piece : X → List ℕ) (Ends : List ℕ → Type 0) → AreApart P piece → ((x : X) (xs : List ℕ) → P x → Ends (piece x ++ xs) → ⊥) → (xs ys : List X) (rest other : List ℕ) → All P xs → All P ys → Ends rest → Ends other → flat_map piece xs ++ rest ≡ flat_map piece ys ++ other → (xs ≡ ys) × (rest ≡ other)
pieces_before_end P piece Ends apart goes_on [] [] rest other a b end last e = (refl, e)
pieces_before_end P piece Ends apart goes_on [] (y ∷ ys) rest other a b end last e = absurd (ends_late P piece Ends goes_on y ys rest other (All-head P y ys b) end e)
pieces_before_end P piece Ends apart goes_on (x ∷ xs) [] rest other a b end last e = absurd (ends_late P piece Ends goes_on x xs other rest (All-head P x xs a) last (sym e))
pieces_before_end P piece Ends apart goes_on (x ∷ xs) (y ∷ ys) rest other a b end last e =
    let split : piece x ++ (flat_map piece xs ++ rest) ≡ piece y ++ (flat_map piece ys ++ other) =
    sym (append_assoc (piece x) (flat_map piece xs) rest) ∙ e ∙ append_assoc (piece y) (flat_map piece ys) other in
    let first = apart x y (flat_map piece xs ++ rest) (flat_map piece ys ++ other) (All-head P x xs a) (All-head P y ys b) split in
    let others = pieces_before_end P piece Ends apart goes_on xs ys rest other (All-tail P x xs a) (All-tail P y ys b) end last first.1 in
    (ap₂ (λ z zs. z ∷ zs) first.0 others.0, others.1)
