-- Bytes to which the codes of gaps are appended one by one.
use Rattle.std.proofs.Common.{◌≡◌, ℕ, ◌+◌, ◌-◌, ◌<◌, ◌≤◌, List, ◌++◌, length, take, drop, get_or, sym, ap, ◌∙◌, subst, arith, length-append, take-take, Result, Ok, Err, OnErr}
use Rattle.std.proofs.lemmas.List.{drop_more}
use Rattle.std.proofs.Math.Seq.{take-append_seam}
use Rattle.ix_vbyte.specs.Code.{code_of}
use Rattle.ix_vbyte.specs.Gaps.{Ascends, gaps_from}
use Rattle.ix_vbyte.specs.Postings.{codes_of}

-- behind `old` stand the codes of the first gaps, and those of the rest belong behind them
pub record HasPushed (top : ℕ) (old now : List ℕ) (next after : ℕ) (numbers rest : List ℕ) : Type 0 where
  pub ascending : Ascends after top rest
  pub spelled : now ++ codes_of (gaps_from after rest) ≡ old ++ codes_of (gaps_from next numbers)
  pub longer : length old ≤ length now
  pub begun : take (length old) now ≡ old

-- the next code is one of those that belong there
pub pushed_fits : (top : ℕ) (old now : List ℕ) (next after : ℕ) (numbers : List ℕ) (i : ℕ) → HasPushed top old now next after numbers (drop i numbers) → i < length numbers
    → length now + length (code_of (get_or numbers i 0 + 1 - after)) ≤ length old + length (codes_of (gaps_from next numbers))
pushed_fits top old now next after numbers i p within =
    let Q : List ℕ → Type 0 = λ rest. HasPushed top old now next after numbers rest in
    let code = code_of (get_or numbers i 0 + 1 - after) in
    let others = codes_of (gaps_from (get_or numbers i 0 + 1) (drop (i + 1) numbers)) in
    let same = ap length (subst Q (drop_more numbers i 0 within) p).spelled in
    omega (arith, same, length-append now (code ++ others), length-append code others, length-append old (codes_of (gaps_from next numbers)))

-- bytes that begin with others begin with a front of those
begun_front : (old more new : List ℕ) → take (length (old ++ more)) new ≡ old ++ more → take (length old) new ≡ old
begun_front old more new begun =
    let shorter : length old ≤ length (old ++ more) = omega (arith, length-append old more) in
    sym (take-take (length old) (length (old ++ more)) new shorter) ∙ ap (λ xs. take (length old) xs) begun ∙ take-append_seam old more

pub on_err_begun : {T E : Type 0} (result : Result T E) (old more middle new : List ℕ) → middle ≡ old ++ more → OnErr result (take (length middle) new ≡ middle) → OnErr result (take (length old) new ≡ old)
on_err_begun (Ok value) old more middle new e begun = tt
on_err_begun (Err error) old more middle new e begun =
    let P : List ℕ → Type 0 = λ xs. take (length xs) new ≡ xs in
    begun_front old more new (subst P e begun)

-- what holds anyway holds of a refusal
pub on_err_of : {T E P : Type 0} (result : Result T E) → P → OnErr result P
on_err_of (Ok value) holds = tt
on_err_of (Err error) holds = holds
