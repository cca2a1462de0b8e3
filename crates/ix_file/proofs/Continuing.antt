-- Pieces that were read off the front of a text are those that any list of pieces for it begins with.
use Rattle.std.proofs.Common.{◌≡◌, ℕ, ◌<◌, List, [], ◌∷◌, ◌++◌, length, flat_map, refl, sym, ap, ap₂, ◌∙◌, arith, length-append}
use Rattle.std.proofs.lemmas.Grind.{flat_map-append}
use Rattle.std.proofs.lemmas.List.{append_assoc, append-nil}

-- no piece begins another
abbrev pub AreApart : {X : Type 0} → (X → List ℕ) → Type 0
AreApart {X} piece = (x y : X) (xs ys : List ℕ) → piece x ++ xs ≡ piece y ++ ys → (x ≡ y) × (xs ≡ ys)

-- what a list goes on with behind another, whose pieces leave the rest
pub record GoesOn {X : Type 0} (piece : X → List ℕ) (done xs : List X) (left : List ℕ) : Type 0 where
  pub more : List X
  pub whole : xs ≡ done ++ more
  pub rest : left ≡ flat_map piece more

pub goes_on : {X : Type 0} (piece : X → List ℕ) → AreApart piece → ((x : X) → 0 < length (piece x)) → (done xs : List X) (left : List ℕ) → flat_map piece xs ≡ flat_map piece done ++ left → GoesOn piece done xs left
goes_on piece apart some [] xs left e = record { more = xs; whole = refl; rest = sym e }
goes_on piece apart some (d ∷ ds) [] left e =
    absurd (omega (arith, ap length e, some d, length-append (piece d ++ flat_map piece ds) left, length-append (piece d) (flat_map piece ds)))
goes_on piece apart some (d ∷ ds) (x ∷ xs) left e =
    let first = apart x d (flat_map piece xs) (flat_map piece ds ++ left) (e ∙ append_assoc (piece d) (flat_map piece ds) left) in
    let others = goes_on piece apart some ds xs left first.1 in
    record {
      more = others.more;
      whole = ap₂ (λ z zs. z ∷ zs) first.0 others.whole;
      rest = others.rest;
    }

-- where something is left, the list has a next piece, which stands there
pub record HasNext {X : Type 0} (piece : X → List ℕ) (done xs : List X) (left : List ℕ) : Type 0 where
  pub next : X
  pub more : List X
  pub whole : xs ≡ (done ++ next ∷ []) ++ more
  pub stands : left ≡ piece next ++ flat_map piece more

pub has_next : {X : Type 0} (piece : X → List ℕ) → AreApart piece → ((x : X) → 0 < length (piece x)) → (done xs : List X) (left : List ℕ) → flat_map piece xs ≡ flat_map piece done ++ left → 0 < length left → HasNext piece done xs left
has_next {X} piece apart some done xs left e some_left = next_of (goes_on piece apart some done xs left e)
  where
    at : (more : List X) → xs ≡ done ++ more → left ≡ flat_map piece more → HasNext piece done xs left
    at [] whole rest = absurd (omega (arith, some_left, ap length rest))
    at (x ∷ more) whole rest = record { next = x; more = more; whole = whole ∙ sym (append_assoc done (x ∷ []) more); stands = rest }

    next_of : GoesOn piece done xs left → HasNext piece done xs left
    next_of g = at g.more g.whole g.rest

-- a piece more was read
pub read_more : {X : Type 0} (piece : X → List ℕ) (whole : List ℕ) (done : List X) (x : X) (left rest : List ℕ) → whole ≡ flat_map piece done ++ left → left ≡ piece x ++ rest → whole ≡ flat_map piece (done ++ x ∷ []) ++ rest
read_more piece whole done x left rest e is =
    let pushed : flat_map piece (done ++ x ∷ []) ≡ flat_map piece done ++ piece x =
    flat_map-append piece done (x ∷ []) ∙ ap (λ bytes. flat_map piece done ++ bytes) (append-nil (piece x)) in
    e ∙ ap (λ bytes. flat_map piece done ++ bytes) is ∙ sym (append_assoc (flat_map piece done) (piece x) rest) ∙ ap (λ bytes. bytes ++ rest) (sym pushed)
