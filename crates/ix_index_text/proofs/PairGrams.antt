-- Grams in their order, and told by their bytes.
use Rattle.std.proofs.Common.{◌≡◌, ℕ, ◌<◌, ◌⊎◌, inl, inr, List, [], ◌∷◌, ◌++◌, Ordering, Less, Equal, Greater, refl, subst}
use Rattle.std.proofs.lemmas.Cmp.{ranked}
use Rattle.std.proofs.lemmas.Str.{encodes_same}
use Rattle.std.specs.Char.{encode_utf8}
use Rattle.std.specs.Cmp.Lexicographic.{slice_cmp}
use Rattle.std.specs.Ordering.{nat_cmp, ordering_then, MatchOrdering}
use Rattle.ix_index_text.specs.declared.windows.GramPair.{GramPair}
use Rattle.ix_index_text.specs.GramTables.{gram_cmp, text_of}
use Rattle.ix_index_text.specs.declared.windows.Gram.{Gram}
use Rattle.ix_index_text.specs.WindowPairs.{gram_of}
use Rattle.ix_index_text.proofs.GramOrder.{less_character, less_front}

abbrev cmp : List ℕ → List ℕ → Ordering
cmp = slice_cmp nat_cmp

then_less : (o p : Ordering) → ordering_then o p ≡ Less → (o ≡ Less) ⊎ ((o ≡ Equal) × (p ≡ Less))
then_less Less p is = inl refl
then_less Equal p is = inr (refl, is)
then_less Greater p is = absurd cc

below_from_Less : (x y : ℕ) → nat_cmp x y ≡ Less → x < y
below_from_Less x y is =
    let told = ranked x y (nat_cmp x y) refl in
    subst (λ (o : Ordering). MatchOrdering o (x < y) (x ≡ y) (y < x)) is told

same_from_Equal : (x y : ℕ) → nat_cmp x y ≡ Equal → x ≡ y
same_from_Equal x y is =
    let told = ranked x y (nat_cmp x y) refl in
    subst (λ (o : Ordering). MatchOrdering o (x < y) (x ≡ y) (y < x)) is told

less_same : (c d : ℕ) (xs ys : List ℕ) → c ≡ d → cmp xs ys ≡ Less → cmp (encode_utf8 c ++ xs) (encode_utf8 d ++ ys) ≡ Less
less_same c d xs ys same less = subst (λ (e : ℕ). cmp (encode_utf8 c ++ xs) (encode_utf8 e ++ ys) ≡ Less) same (less_front (encode_utf8 c) xs ys less)

-- grams in their order stand in that of their bytes
pub gram_below : (g h : Gram) → gram_cmp g h ≡ Less → cmp (text_of g) (text_of h) ≡ Less
gram_below g h is =
    elim (then_less (nat_cmp g.first h.first) _ is) [
      | inl less ↦ less_character g.first h.first _ _ (below_from_Less _ _ less)
      | inr (tie, is2) ↦
          let a = same_from_Equal g.first h.first tie in
          elim (then_less (nat_cmp g.second h.second) _ is2) [
            | inl less ↦ less_same g.first h.first _ _ a (less_character g.second h.second _ _ (below_from_Less _ _ less))
            | inr (tie2, is3) ↦
                let b = same_from_Equal g.second h.second tie2 in
                less_same g.first h.first _ _ a (less_same g.second h.second _ _ b (less_character g.third h.third [] [] (below_from_Less _ _ is3)))
          ]
    ]

-- the bytes of a gram tell its characters
pub gram_tells : (p q : GramPair) → gram_of p ≡ gram_of q → (p.first ≡ q.first) × (p.second ≡ q.second) × (p.third ≡ q.third)
gram_tells p q same =
    let cs : p.first ∷ p.second ∷ p.third ∷ [] ≡ q.first ∷ q.second ∷ q.third ∷ [] = encodes_same (p.first ∷ p.second ∷ p.third ∷ []) (q.first ∷ q.second ∷ q.third ∷ []) same in
    (cc, cc, cc)
