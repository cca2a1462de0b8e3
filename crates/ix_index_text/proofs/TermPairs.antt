-- The pairs of a term, as a walk over its windows gathers them.
use Rattle.std.proofs.Common.{◌≡◌, ℕ, List, [], ◌∷◌, ◌++◌, map, refl, sym, ap, ◌∙◌, append_assoc, append-nil}
use Rattle.std.specs.Str.{chars}
use Rattle.ix_index_text.specs.declared.windows.GramPair.{GramPair}
use Rattle.ix_index_text.specs.declared.windows.Gram.{Gram}
use Rattle.ix_index_text.specs.TermWindows.{grams_in_row, windows_of_term}
use Rattle.ix_index_text.specs.WindowPairs.{pairs_of, pairs_of_term}

abbrev pub pair : ℕ → ℕ → ℕ → ℕ → GramPair
pair number first second third = record { first = first; second = second; third = third; number = number }

-- the pair of a number and a gram
abbrev pub paired : ℕ → Gram → GramPair
paired number gram = pair number gram.first gram.second gram.third

pub row-paired : (number : ℕ) (cs : List ℕ) → map (paired number) (grams_in_row cs) ≡ pairs_of number cs
row-paired number [] = refl
row-paired number (a ∷ []) = refl
row-paired number (a ∷ b ∷ []) = refl
row-paired number (a ∷ b ∷ c ∷ cs) = ap (λ (ps : List GramPair). pair number a b c ∷ ps) (row-paired number (b ∷ c ∷ cs))

-- the windows of a term, each with the number, are its pairs
pub windows-paired : (number : ℕ) (term : List ℕ) → map (paired number) (windows_of_term term) ≡ pairs_of_term number term
windows-paired number term = row-paired number (36 ∷ (chars term ++ 36 ∷ []))

-- What is appended so far, and the pairs of the windows that are left, are the pairs of the term.
pub record IsUnderWay (before : List GramPair) (number : ℕ) (term : List ℕ) (now : List GramPair) (left : List Gram) : Type 0 where
  pub more : List GramPair
  pub grown : now ≡ before ++ more
  pub whole : more ++ map (paired number) left ≡ pairs_of_term number term

pub under_way-start : (before : List GramPair) (number : ℕ) (term : List ℕ) → IsUnderWay before number term before (windows_of_term term)
under_way-start before number term = record { more = []; grown = sym (append-nil before); whole = windows-paired number term }

pub under_way-step : (before : List GramPair) (number : ℕ) (term : List ℕ) (now : List GramPair) (left : List Gram) (gram : Gram) (next : List Gram)
    → IsUnderWay before number term now left → left ≡ gram ∷ next → IsUnderWay before number term (now ++ paired number gram ∷ []) next
under_way-step before number term now left gram next so_far is = record {
  more = so_far.more ++ paired number gram ∷ [];
  grown = ap (λ (ps : List GramPair). ps ++ paired number gram ∷ []) so_far.grown ∙ append_assoc before so_far.more (paired number gram ∷ []);
  whole =
      append_assoc so_far.more (paired number gram ∷ []) (map (paired number) next)
      ∙ ap (λ (gs : List Gram). so_far.more ++ map (paired number) gs) (sym is)
      ∙ so_far.whole;
}

pub under_way-end : (before : List GramPair) (number : ℕ) (term : List ℕ) (now : List GramPair) (left : List Gram)
    → IsUnderWay before number term now left → left ≡ [] → now ≡ before ++ pairs_of_term number term
under_way-end before number term now left so_far none =
    let all : so_far.more ≡ pairs_of_term number term =
    sym (append-nil so_far.more) ∙ ap (λ (gs : List Gram). so_far.more ++ map (paired number) gs) (sym none) ∙ so_far.whole in
    so_far.grown ∙ ap (λ (ps : List GramPair). before ++ ps) all
