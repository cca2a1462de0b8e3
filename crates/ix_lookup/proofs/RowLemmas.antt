-- A row of a dictionary is read as it was written.
use Rattle.std.proofs.Common.{◌≡◌, ℕ, suc, ◌+◌, ◌%◌, ◌^◌, ◌<◌, ◌≤◌, Bool, true, false, cond, List, [], ◌∷◌, ◌++◌, length, take, drop, nat_eq, refl, sym, ap, ap₂, ◌∙◌, subst, arith, Option, None, Some, IsSomeAnd, eqb-true}
use Rattle.std.proofs.lemmas.List.{append_assoc, take-append-drop}
use Rattle.std.proofs.lemmas.List.Sums.{common_prefix_len-le}
use Rattle.std.specs.List.{common_prefix_len}
use Rattle.ix_vbyte.specs.Code.{code_of}
use Rattle.ix_vbyte.specs.Texts.{counted}
use Rattle.ix_index_text.specs.Sections.{front_coded, grouped}
use Rattle.ix_lookup.specs.Rows.{IsSharedRead}

-- what two texts share is the front of both
shared_front : (before term : List ℕ) → take (common_prefix_len nat_eq before term) term ≡ take (common_prefix_len nat_eq before term) before
shared_front [] term = refl
shared_front (x ∷ xs) [] = refl
shared_front (x ∷ xs) (y ∷ ys) = shares (nat_eq x y) refl (shared_front xs ys)
  where
    shares : (b : Bool) → nat_eq x y ≡ b → take (common_prefix_len nat_eq xs ys) ys ≡ take (common_prefix_len nat_eq xs ys) xs → take (cond b (1 + common_prefix_len nat_eq xs ys) 0) (y ∷ ys) ≡ take (cond b (1 + common_prefix_len nat_eq xs ys) 0) (x ∷ xs)
    shares true same rest =
        let n = common_prefix_len nat_eq xs ys in
        let next : 1 + n ≡ suc n = omega arith in
        ap (λ k. take k (y ∷ ys)) next ∙ ap₂ (λ z zs. z ∷ zs) (sym (eqb-true x y same)) rest ∙ ap (λ k. take k (x ∷ xs)) (sym next)
    shares false other rest = refl

-- what follows from what a clause says of the value that is there
pub IsSomeAnd_then : {X : Type 0} (r : Option X) {P Q : X → Type 0} → IsSomeAnd r P → ((x : X) → P x → Q x) → IsSomeAnd r Q
IsSomeAnd_then None has follows = has
IsSomeAnd_then (Some x) has follows = follows x has

-- nothing is shared with the term before
pub shares_none : (before term rest : List ℕ) → IsSharedRead before term rest 0 (counted term ++ rest)
shares_none before term rest = record { within = omega arith; front = refl; own = refl }

-- the longest front is shared with it
pub shares_front : (before term rest : List ℕ) → IsSharedRead before term rest (common_prefix_len nat_eq before term) (counted (drop (common_prefix_len nat_eq before term) term) ++ rest)
shares_front before term rest =
    let shared = common_prefix_len nat_eq before term in
    record {
      within = (common_prefix_len-le nat_eq before term).0;
      front = sym (take-append-drop shared term) ∙ ap (λ front. front ++ drop shared term) (shared_front before term);
      own = refl;
    }

pub shared_small : (before term : List ℕ) → length before ≤ 255 → common_prefix_len nat_eq before term < 2 ^ 32
shared_small before term short = let within = (common_prefix_len-le nat_eq before term).0 in omega arith

pub front_split : (before term rest left : List ℕ) → left ≡ front_coded before term ++ rest
    → left ≡ code_of (common_prefix_len nat_eq before term) ++ (counted (drop (common_prefix_len nat_eq before term) term) ++ rest)
front_split before term rest left e =
    e ∙ append_assoc (code_of (common_prefix_len nat_eq before term)) (counted (drop (common_prefix_len nat_eq before term) term)) rest

-- what was read as the number of shared bytes is that number
pub shares_read : (before term rest more : List ℕ) (shared : ℕ) → shared ≡ common_prefix_len nat_eq before term → more ≡ counted (drop (common_prefix_len nat_eq before term) term) ++ rest → IsSharedRead before term rest shared more
shares_read before term rest more shared same others =
    subst (λ n. IsSharedRead before term rest n more) (sym same)
    (subst (λ bytes. IsSharedRead before term rest (common_prefix_len nat_eq before term) bytes) (sym others) (shares_front before term rest))

-- a term inside a group is front coded
pub inside_group : (place : ℕ) (before term : List ℕ) → nat_eq (place % 4) 0 ≡ false → grouped place before term ≡ front_coded before term
inside_group place before term inside = ap (λ b. cond b (counted term) (front_coded before term)) inside
