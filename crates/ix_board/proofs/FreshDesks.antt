-- The desks of a new board, one after another.
use Rattle.std.proofs.Common.{◌≡◌, ℕ, zero, suc, ◌+◌, List, [], ◌∷◌, ◌++◌, map, length, refl, ap, ◌∙◌, add-one, arith, All}
use Rattle.std.specs.List.{range_with_len}
use Rattle.std.proofs.lemmas.List.{length-map, map_push}
use Rattle.std.proofs.lemmas.List.Elements.{All-map}
use Rattle.ix_board.specs.Desks.{BoardView, DeskView, fresh_desk, fresh_desks}
use Rattle.ix_board.proofs.SliceGets.{length-range}

range-snoc : (a n : ℕ) → range_with_len a (suc n) ≡ range_with_len a n ++ (a + n) ∷ []
range-snoc a zero = ap (λ (k : ℕ). k ∷ []) (omega arith)
range-snoc a (suc n) = ap (λ (l : List ℕ). a ∷ l) (range-snoc (a + 1) n ∙ ap (λ (k : ℕ). range_with_len (a + 1) n ++ k ∷ []) (omega arith))

pub length-fresh_desks : (P : Type 0) (b : BoardView) (n : ℕ) → length (fresh_desks {P = P} b n) ≡ n
length-fresh_desks P b n = length-map (range_with_len 0 n) (fresh_desk {P = P} b) ∙ length-range 0 n

pub fresh_desks_more : {P : Type 0} (b : BoardView) (n : ℕ) → fresh_desks {P = P} b (n + 1) ≡ fresh_desks b n ++ fresh_desk b n ∷ []
fresh_desks_more {P} b n =
    let z : 0 + n ≡ n = omega arith in
    ap (fresh_desks {P = P} b) (add-one n) ∙ ap (map (fresh_desk {P = P} b)) (range-snoc 0 n) ∙ map_push (fresh_desk {P = P} b) (range_with_len 0 n) (0 + n)
    ∙ ap (λ (k : ℕ). fresh_desks {P = P} b n ++ fresh_desk b k ∷ []) z

pub fresh_desks_own : (P : Type 0) (b : BoardView) (n : ℕ) → All (λ (d : DeskView P). d.board ≡ b) (fresh_desks b n)
fresh_desks_own P b n = All-map (λ (d : DeskView P). d.board ≡ b) (fresh_desk b) (range_with_len 0 n) (λ k d h. refl)
