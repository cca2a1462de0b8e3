-- Lists with a proof for each element, and lists of kinds that are empty.
use Rattle.std.proofs.Common.{◌≡◌, ◌∙◌, ◌&&◌, Bool, cond, true, false, not, refl, sym, ap, true≢false, List, [], ◌∷◌, ◌++◌, Some}
use Rattle.std.specs.Prelude.{IfSome, find}
use Rattle.std.specs.List.{list_all}
use Rattle.clap.specs.Kinds.{Kinds, or_else}
use Rattle.ix_line.specs.Entered.{Each}

pub both : (a b : Bool) → (a && b) ≡ true → (a ≡ true) × (b ≡ true)
both true b e = (refl, e)
both false b e = absurd (true≢false (sym e))

-- where neither of two steps has a kind, the first has none, and the second has none
pub neither : (a b : Kinds) → or_else a b ≡ [] → (a ≡ []) × (b ≡ [])
neither [] b e = (refl, e)
neither (k ∷ ks) b e = cc

pub nor : (a b : Kinds) → a ≡ [] → b ≡ [] → or_else a b ≡ []
nor a b none nothing = ap (λ x. or_else x b) none ∙ nothing

pub from_all : {X : Type 0} (p : X → Bool) (xs : List X) → list_all p xs ≡ true → Each (λ x. p x ≡ true) xs
from_all p [] e = tt
from_all p (x ∷ xs) e = ((both _ _ e).0, from_all p xs (both _ _ e).1)

pub each_as : {X : Type 0} (P Q : X → Type 0) (xs : List X) → ((x : X) → P x → Q x) → Each P xs → Each Q xs
each_as P Q [] f e = tt
each_as P Q (x ∷ xs) f e = (f x e.0, each_as P Q xs f e.1)

pub each_both : {X : Type 0} (P Q : X → Type 0) (xs : List X) → Each P xs → Each Q xs → Each (λ x. P x × Q x) xs
each_both P Q [] e f = tt
each_both P Q (x ∷ xs) e f = ((e.0, f.0), each_both P Q xs e.1 f.1)

pub each_append : {X : Type 0} (P : X → Type 0) (xs ys : List X) → Each P xs → Each P ys → Each P (xs ++ ys)
each_append P [] ys e f = f
each_append P (x ∷ xs) ys e f = (e.0, each_append P xs ys e.1 f)

-- what is found passes the test, and has what each element has
pub found : {X : Type 0} (P : X → Type 0) (p : X → Bool) (xs : List X) → Each P xs → IfSome (find p xs) (λ x. P x × (p x ≡ true))
found P p [] e = tt
found {X} P p (x ∷ xs) e = go (p x) refl (found P p xs e.1)
  where
    go : (b : Bool) → p x ≡ b → IfSome (find p xs) (λ y. P y × (p y ≡ true)) → IfSome (cond b (Some x) (find p xs)) (λ y. P y × (p y ≡ true))
    go true passes rest = (e.0, passes)
    go false passes rest = rest

-- each element is the first that is like it
abbrev pub unlike : {X : Type 0} → (X → X → Bool) → List X → Bool
unlike like [] = true
unlike like (x ∷ xs) = like x x && (list_all (λ y. not (like x y)) xs && unlike like xs)

abbrev pub FindsItself : {X : Type 0} → (X → X → Bool) → List X → X → Type 0
FindsItself like xs x = find (λ y. like y x) xs ≡ Some x

pub finds_itself : {X : Type 0} (like : X → X → Bool) (xs : List X) → unlike like xs ≡ true → Each (FindsItself like xs) xs
finds_itself like [] e = tt
finds_itself {X} like (x ∷ xs) e =
    let parts = both _ _ e in
    let rest = both _ _ parts.1 in (
      ap (λ b. cond b (Some x) (find (λ y. like y x) xs)) parts.0,
      each_as (λ y. (not (like x y) ≡ true) × FindsItself like xs y) (FindsItself like (x ∷ xs)) xs (λ y h. go y (like x y) h.0 h.1)
          (each_both (λ y. not (like x y) ≡ true) (FindsItself like xs) xs (from_all _ xs rest.0) (finds_itself like xs rest.1)),
    )
  where
    go : (y : X) (b : Bool) → not b ≡ true → find (λ z. like z y) xs ≡ Some y → cond b (Some x) (find (λ z. like z y) xs) ≡ Some y
    go y true bad is = absurd (true≢false (sym bad))
    go y false ok is = is
