-- Generations that fall strictly, and a piece behind others.
use Rattle.std.proofs.Common.{◌≡◌, ◌≢◌, ℕ, zero, suc, ◌+◌, ◌==◌, ◌^◌, ◌<◌, ◌≤◌, ◌∙◌, List, [], ◌∷◌, ◌++◌, Some, length, refl, reverse, sym, ap, subst, arith, inl, inr}
use Rattle.std.specs.Prelude.{All}
use Rattle.std.proofs.Math.Nat.{pow-suc}
use Rattle.std.proofs.Math.Pow.{pow_mono}
use Rattle.std.proofs.lemmas.Bool.{cases_lt, cond-false, cond-true, cond_both}
use Rattle.std.proofs.lemmas.Bool.Decides.{nat_tests}
use Rattle.std.proofs.lemmas.List.{reverse-append, reverse-reverse}
use Rattle.std.proofs.lemmas.List.Elements.{All-append, All-cons, All-head, All-nil, All-pop, All-push, All-tail, All-weaker}
use Rattle.ix_live.specs.Pieces.{Falls, Piece, after_adding, with_newest, with_piece}

abbrev Above : ℕ → Piece → Type 0
Above g piece = g < piece.generation

abbrev Below : ℕ → Piece → Type 0
Below g piece = piece.generation < g

-- what falls goes on falling with one that is below all
pub falls_push : (pieces : List Piece) (piece : Piece) → Falls pieces → All (Above piece.generation) pieces → 2 ^ piece.generation ≤ piece.documents → Falls (pieces ++ piece ∷ [])
falls_push [] piece falls above large = (All-nil (Below piece.generation), large, tt)
falls_push (p ∷ ps) piece falls above large = (
  All-append (Below p.generation) ps (piece ∷ []) falls.0 (All-cons (Below p.generation) piece [] (All-head (Above piece.generation) p ps above) (All-nil (Below p.generation))),
  falls.1,
  falls_push ps piece falls.2 (All-tail (Above piece.generation) p ps above) large,
)

-- behind a piece there are no more than its generation
pub falls_few : (piece : Piece) (pieces : List Piece) → Falls (piece ∷ pieces) → length pieces ≤ piece.generation
falls_few piece [] falls = omega arith
falls_few piece (next ∷ pieces) falls =
    let low : next.generation < piece.generation = All-head (Below piece.generation) next pieces falls.0 in
    let rest = falls_few next pieces falls.2 in omega arith

-- 2^28 documents or fewer have few generations
pub few_generations : (g n : ℕ) → 2 ^ g ≤ n → n ≤ 2 ^ 28 → g < 29
few_generations g n large few = elim (cases_lt g 29) [
  | inl below ↦ below
  | inr high ↦ absurd (let more : 2 ^ 29 ≤ 2 ^ g = pow_mono high in omega arith)
]

double : (g : ℕ) → 2 ^ (g + 1) ≡ 2 ^ g + 2 ^ g
double g = ap (λ k. 2 ^ k) (let same : g + 1 ≡ suc g = omega arith in same) ∙ (pow-suc 2 g ∙ omega arith)

larger : (g m n : ℕ) → 2 ^ g ≤ m → 2 ^ g ≤ n → 2 ^ (g + 1) ≤ m + n
larger g m n one other = omega (arith, double g)

abbrev AtLeast : ℕ → Piece → Type 0
AtLeast g piece = g ≤ piece.generation

-- the last of some that fall is below all before it
falls_before : (pieces : List Piece) (last : Piece) → Falls (pieces ++ last ∷ []) → All (Above last.generation) pieces × (2 ^ last.generation ≤ last.documents) × Falls pieces
falls_before [] last falls = (All-nil (Above last.generation), falls.1, tt)
falls_before (p ∷ ps) last falls =
    let behind = All-pop (Below p.generation) (ps ++ last ∷ []) ps (Some last) refl falls.0 in
    let rest = falls_before ps last falls.2 in
    (All-cons (Above last.generation) p ps behind.1 rest.0, rest.1, (behind.0, falls.1, rest.2))

-- what falls goes on falling when a piece that is not above the last one is merged with it
falls_with : (earlier : List Piece) (piece : Piece) → Falls (reverse earlier) → All (AtLeast piece.generation) (reverse earlier) → 2 ^ piece.generation ≤ piece.documents → Falls (reverse (with_newest piece earlier))
falls_with [] piece falls high large = (All-nil (Below piece.generation), large, tt)
falls_with (last ∷ earlier) piece falls high large =
    let parted = reverse-append (last ∷ []) earlier in
    let before = falls_before (reverse earlier) last (subst Falls parted falls) in
    let least = All-pop (AtLeast piece.generation) (reverse (last ∷ earlier)) (reverse earlier) (Some last) parted high in
    cond_both (last.generation == piece.generation) _ _ (λ (pieces : List Piece). Falls (reverse pieces))
    (λ same.
    let alike : last.generation ≡ piece.generation = grind (arith, nat_tests) in
    falls_with earlier _ before.2
    (All-weaker (Above last.generation) (AtLeast (piece.generation + 1)) (λ other above. let more : last.generation < other.generation = above in omega (arith, more, alike)) (reverse earlier) before.0)
    (larger piece.generation last.documents piece.documents (omega (arith, before.1, ap (λ (n : ℕ). 2 ^ n) alike)) large))
    (λ apart.
    let more : piece.generation < last.generation = let low : piece.generation ≤ last.generation = least.1 in grind (arith, nat_tests) in
    let above = All-weaker (Above last.generation) (Above piece.generation) (λ other above. let most : last.generation < other.generation = above in omega (arith, most, more)) (reverse earlier) before.0 in
    subst Falls (sym (reverse-append (piece ∷ []) (last ∷ earlier)))
    (falls_push (reverse (last ∷ earlier)) piece falls (subst (All (Above piece.generation)) (sym parted) (All-push (Above piece.generation) (reverse earlier) last above more)) large))

pub falls_after : (count : ℕ) (pieces : List Piece) → Falls pieces → Falls (after_adding count pieces)
falls_after zero pieces falls = falls
falls_after (suc more) pieces falls =
    falls_with (reverse pieces) _ (subst Falls (sym (reverse-reverse pieces)) falls) (λ k d inside. omega arith) (omega arith)

-- ---- a piece behind others

pub with_none : (piece : Piece) → piece ∷ [] ≡ with_piece [] piece
with_none piece = refl

pub with_alike : (earlier : List Piece) (last piece : Piece) → last.generation ≡ piece.generation
    → with_piece earlier (record { generation = piece.generation + 1; documents = last.documents + piece.documents }) ≡ with_piece (earlier ++ last ∷ []) piece
with_alike earlier last piece alike =
    ap reverse (sym (ap (with_newest piece) (reverse-append earlier (last ∷ [])) ∙ cond-true (last.generation == piece.generation) _ _ (grind (arith, nat_tests))))

pub with_apart : (earlier : List Piece) (last piece : Piece) → last.generation ≢ piece.generation → (earlier ++ last ∷ []) ++ piece ∷ [] ≡ with_piece (earlier ++ last ∷ []) piece
with_apart earlier last piece apart =
    sym (ap reverse (ap (with_newest piece) (reverse-append earlier (last ∷ [])) ∙ cond-false (last.generation == piece.generation) _ _ (grind (arith, nat_tests)))
    ∙ reverse-append (piece ∷ []) (last ∷ reverse earlier) ∙ ap (λ (l : List Piece). reverse l ++ piece ∷ []) (sym (reverse-append earlier (last ∷ []))) ∙ ap (λ (l : List Piece). l ++ piece ∷ []) (reverse-reverse (earlier ++ last ∷ [])))

pub after_some : (count : ℕ) (pieces : List Piece) → 0 < count → with_piece pieces (record { generation = 0; documents = count }) ≡ after_adding count pieces
after_some zero pieces some = absurd (omega arith)
after_some (suc more) pieces some = refl

pub after_none : (count : ℕ) (pieces : List Piece) → count ≡ 0 → pieces ≡ after_adding count pieces
after_none zero pieces none = refl
after_none (suc more) pieces none = absurd (omega (arith, none))
