use Rattle.std.proofs.Common.{◌++◌, ◌∙◌, ap₂, length, take, List, ℕ, arith}
use Rattle.std.proofs.lemmas.List.{take_all}
use Rattle.ix_archive.proofs.opening.read_whole.Goals as goal

pub returns-clause-read : goal.returns-clause-read
returns-clause-read g c = λ text is.
    c.in_ok-append_at.ensures.told text is
    ∙ ap₂ (λ (l : List ℕ) (n : ℕ). l ++ take n text) c.new-bytes.ensures.items (c.in_ok-size.ensures.told text is)
    ∙ take_all (length text) text (omega arith)
