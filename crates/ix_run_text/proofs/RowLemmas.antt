-- A document's row at the front of what is left.
use Rattle.std.proofs.Common.{◌≡◌, ℕ, ◌^◌, ◌<◌, ◌≤◌, List, ◌++◌, Option, Some, IfSome, ap, ap₂, ◌∙◌, arith, append_assoc}
use Rattle.ix_text.specs.Collections.{IsName}
use Rattle.ix_text.specs.Parts.{DocumentRow, row_bytes}
use Rattle.ix_text.specs.Terms.{IsTerm}
use Rattle.ix_vbyte.specs.Code.{code_of}
use Rattle.ix_vbyte.specs.Texts.{counted}
use Rattle.ix_vbyte.proofs.Values.{length-code_of}
use Rattle.ix_run_text.specs.CodeFaults.{IsCodeFault}
use Rattle.ix_run_text.specs.RunTextErrors.{IsRefusal}
use Rattle.ix_run_text.specs.declared.run_text_error.RunTextError.{RunTextError}
use Rattle.ix_run_text.proofs.SpelledLemmas.{code_refused}

pub term_from_name : (name : List ℕ) → IsName name → IsTerm name
term_from_name name is = record { text = is.characters; some_byte = is.some_byte; short = is.short }

-- the name stands first, and the code of the tokens behind it
pub row_parts : (a : Option (List ℕ)) (row : DocumentRow) (rest : List ℕ) → a ≡ Some (row_bytes code_of row ++ rest) → a ≡ Some (counted row.name ++ (code_of row.tokens ++ rest))
row_parts a row rest e = e ∙ ap (λ (bytes : List ℕ). Some bytes) (append_assoc (counted row.name) (code_of row.tokens) rest)

-- the code of the tokens is refused for want of a read alone
pub tokens_refused : (b : Option (List ℕ)) (tokens : ℕ) (rest : List ℕ) (error : RunTextError) → tokens ≤ 2 ^ 28 → b ≡ Some (code_of tokens ++ rest) → IfSome b (λ bytes. IsCodeFault 8 bytes error) → IsRefusal error
tokens_refused b tokens rest error few e h =
    let fits : tokens < 2 ^ 32 = omega arith in
    code_refused b rest tokens 8 error fits (omega (arith, length-code_of tokens fits)) e h

pub same_row : (name : List ℕ) (tokens : ℕ) (row : DocumentRow) → name ≡ row.name → tokens ≡ row.tokens → (let made : DocumentRow = record { name = name; tokens = tokens } in made ≡ row)
same_row name tokens row one other = ap₂ (λ (n : List ℕ) (t : ℕ). let made : DocumentRow = record { name = n; tokens = t } in made) one other
