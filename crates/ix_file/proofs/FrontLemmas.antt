-- What stands at the front of some bytes is one thing.
use Rattle.std.proofs.Common.{◌≡◌, ℕ, ◌<◌, List, ◌++◌, length, sym, ap, ◌∙◌, arith}
use Rattle.std.proofs.lemmas.List.{append_assoc, length-append}
use Rattle.ix_vbyte.specs.Code.{code_of}
use Rattle.ix_vbyte.specs.Texts.{counted}
use Rattle.ix_vbyte.proofs.Pieces.{fronts_apart}
use Rattle.ix_vbyte.proofs.Values.{code_of-apart}

-- a text that stands there behind its count begins with the code of it
pub counted_code : (bytes text more : List ℕ) → bytes ≡ counted text ++ more → bytes ≡ code_of (length text) ++ (text ++ more)
counted_code bytes text more e = e ∙ append_assoc (code_of (length text)) text more

pub counted_split : (bytes : List ℕ) (count : ℕ) (rest text more : List ℕ) → bytes ≡ code_of count ++ rest → bytes ≡ counted text ++ more → (count ≡ length text) × (rest ≡ text ++ more)
counted_split bytes count rest text more is e = code_of-apart count (length text) rest (text ++ more) (sym is ∙ counted_code bytes text more e)

-- the text that was cut out is the one
pub cut_text : (bytes : List ℕ) (count : ℕ) (rest front back text more : List ℕ) → bytes ≡ code_of count ++ rest → length front ≡ count → rest ≡ front ++ back → bytes ≡ counted text ++ more → front ≡ text
cut_text bytes count rest front back text more is size cut e =
    let split = counted_split bytes count rest text more is e in
    (fronts_apart front text back more (size ∙ split.0) (sym cut ∙ split.1)).0

-- too few bytes for it
pub too_few : (bytes : List ℕ) (count : ℕ) (rest text more : List ℕ) → bytes ≡ code_of count ++ rest → length rest < count → bytes ≡ counted text ++ more → ⊥
too_few bytes count rest text more is few e =
    let split = counted_split bytes count rest text more is e in
    omega (arith, ap length split.1, split.0, length-append text more)
