-- Beginnings of one list.
use Rattle.std.proofs.Common.{◌≡◌, ℕ, Bool, true, false, MatchBool, ◌≤◌, List, [], ◌∷◌, ◌++◌, drop, length, refl, ap, sym, ◌∙◌, arith, append_assoc, length-append}
use Rattle.std.proofs.lemmas.List.{append-nil}
use Rattle.std.proofs.lemmas.List.Concat.{flat_map-append}
use Rattle.std.proofs.lemmas.Bool.Decides.{nat_tests}
use mathlib.Core.List.{IsPrefix}
use lib.Dec.{leb}
use Rattle.ix_live.specs.Segments.{joined}

pub prefix_self : {A : Type 0} (xs : List A) → IsPrefix xs xs
prefix_self xs = ([], append-nil xs)

pub prefix_trans : {A : Type 0} (xs ys zs : List A) → IsPrefix xs ys → IsPrefix ys zs → IsPrefix xs zs
prefix_trans xs ys zs p q = (p.0 ++ q.0, sym (append_assoc xs p.0 q.0) ∙ (ap (λ w. w ++ q.0) p.1 ∙ q.1))

-- of two beginnings of one list the shorter begins the longer
pub prefix_shorter : {A : Type 0} (xs ys zs : List A) → IsPrefix xs zs → IsPrefix ys zs → length xs ≤ length ys → IsPrefix xs ys
prefix_shorter [] ys zs p q le = (ys, refl)
prefix_shorter (x ∷ xs) [] zs p q le = absurd (omega arith)
prefix_shorter (x ∷ xs) (y ∷ ys) [] p q le = absurd (cc (p.1))
prefix_shorter (x ∷ xs) (y ∷ ys) (z ∷ zs) p q le =
    let heads : x ≡ y = cc (p.1, q.1) in
    let rest = prefix_shorter xs ys zs (p.0, cc (p.1)) (q.0, cc (q.1)) (omega arith) in
    (rest.0, cc (heads, rest.1))

-- a beginning as long as the whole is the whole
pub prefix_whole : {A : Type 0} (xs ys : List A) → IsPrefix xs ys → length ys ≤ length xs → xs ≡ ys
prefix_whole [] [] p le = refl
prefix_whole [] (y ∷ ys) p le = absurd (omega arith)
prefix_whole (x ∷ xs) [] p le = absurd (cc (p.1))
prefix_whole (x ∷ xs) (y ∷ ys) p le =
    let rest = prefix_whole xs ys (p.0, cc (p.1)) (omega arith) in cc (p.1, rest)

pub prefix_length : {A : Type 0} (xs ys : List A) → IsPrefix xs ys → length xs ≤ length ys
prefix_length xs ys p = omega (arith, sym (ap length p.1) ∙ length-append xs p.0)

-- a beginning, and what the list has behind it
pub prefix_rest : {A : Type 0} (xs ys : List A) → IsPrefix xs ys → xs ++ drop (length xs) ys ≡ ys
prefix_rest [] [] p = refl
prefix_rest [] (y ∷ ys) p = refl
prefix_rest (x ∷ xs) [] p = absurd (cc (p.1))
prefix_rest (x ∷ xs) (y ∷ ys) p =
    let rest = prefix_rest xs ys (p.0, cc (p.1)) in cc (p.1, rest)

pub prefix_joined : {A : Type 0} (xs ys : List (List A)) → IsPrefix xs ys → IsPrefix (joined xs) (joined ys)
prefix_joined {A} xs ys p = (joined p.0, sym (flat_map-append (λ (l : List A). l) xs p.0) ∙ ap joined p.1)

pub joined_push : {A : Type 0} (lists : List (List A)) (list : List A) → joined (lists ++ list ∷ []) ≡ joined lists ++ list
joined_push {A} lists list = flat_map-append (λ (l : List A). l) lists (list ∷ []) ∙ ap (λ (l : List A). joined lists ++ l) (append-nil list)

-- of two beginnings of one list, the one that is no longer begins the other
shorter_begins : {A : Type 0} (one other both : List A) (m n : ℕ) → m ≡ length one → n ≡ length other → IsPrefix one both → IsPrefix other both
    → (b : Bool) → leb n m ≡ b → MatchBool b (IsPrefix other one) (IsPrefix one other)
shorter_begins one other both m n is-m is-n p q true is = prefix_shorter other one both q p (let low : n ≤ m = grind (arith, nat_tests) in omega arith)
shorter_begins one other both m n is-m is-n p q false is = prefix_shorter one other both p q (let low : ¬ (n ≤ m) = grind (arith, nat_tests) in omega arith)

pub joined_begins : {A : Type 0} (one other both : List (List A)) (m n : ℕ) → m ≡ length one → n ≡ length other → IsPrefix one both → IsPrefix other both
    → (b : Bool) → leb n m ≡ b → MatchBool b (IsPrefix (joined other) (joined one)) (IsPrefix (joined one) (joined other))
joined_begins one other both m n is-m is-n p q true is = prefix_joined other one (shorter_begins one other both m n is-m is-n p q true is)
joined_begins one other both m n is-m is-n p q false is = prefix_joined one other (shorter_begins one other both m n is-m is-n p q false is)
