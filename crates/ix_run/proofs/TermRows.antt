-- The coded row of a term: what its bytes tell.
use Rattle.std.proofs.Common.{◌≡◌, ℕ, List, ◌∷◌, ◌++◌, ap, ◌∙◌, append_assoc}
use Rattle.ix_vbyte.specs.Code.{code_of}
use Rattle.ix_vbyte.specs.CodesIn.{numbers_in}
use Rattle.ix_vbyte.proofs.Walks.{numbers_in-code_of}
use Rattle.ix_run.specs.HeldTerms.{IsRow, bytes_of_row}
use Rattle.ix_run.specs.declared.coded_terms.TermRow.{TermRow}

-- the codes of its numbers, one behind another
pub row_spelled : (row : TermRow) (rest : List ℕ) → bytes_of_row row ++ rest ≡ code_of row.text ++ (code_of row.list ++ (code_of row.documents ++ (code_of row.last ++ rest)))
row_spelled row rest = simp append_assoc

-- the bytes of a row tell its numbers
pub row_numbers : (row : TermRow) (rest : List ℕ) → IsRow row → numbers_in (bytes_of_row row ++ rest) ≡ row.text ∷ row.list ∷ row.documents ∷ row.last ∷ numbers_in rest
row_numbers row rest is =
    ap numbers_in (row_spelled row rest)
    ∙ numbers_in-code_of row.text (code_of row.list ++ (code_of row.documents ++ (code_of row.last ++ rest))) is.text
    ∙ ap (λ (ns : List ℕ). row.text ∷ ns) (numbers_in-code_of row.list (code_of row.documents ++ (code_of row.last ++ rest)) is.list)
    ∙ ap (λ (ns : List ℕ). row.text ∷ row.list ∷ ns) (numbers_in-code_of row.documents (code_of row.last ++ rest) is.documents)
    ∙ ap (λ (ns : List ℕ). row.text ∷ row.list ∷ row.documents ∷ ns) (numbers_in-code_of row.last rest is.last)
