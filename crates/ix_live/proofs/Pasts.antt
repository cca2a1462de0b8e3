-- What was done, and what of it was published.
use Rattle.std.proofs.Common.{◌≡◌, List, length, arith, [], ◌∷◌, ◌++◌, ap, sym, ◌∙◌, append_assoc}
use Rattle.std.proofs.lemmas.List.{append-nil}
use Rattle.ix_text.specs.Collections.{Document}
use Rattle.ix_live.specs.Histories.{Past, operations_of, published, waiting}
use Rattle.ix_live.specs.Operations.{Operation, addition_of}
use Rattle.ix_live.specs.Segments.{joined}
use Rattle.ix_live.proofs.Beginnings.{joined_push}

pub operations_waiting : (past : Past) (more : List Operation) → operations_of (waiting past more) ≡ operations_of past ++ more
operations_waiting past more = sym (append_assoc (joined past.publishes) past.pending more)

-- a publish changes no operation
pub operations_published : (past : Past) → operations_of (published past) ≡ operations_of past
operations_published past = append-nil (joined (past.publishes ++ past.pending ∷ [])) ∙ joined_push past.publishes past.pending

pub none_pending : (past : Past) → past.pending ≡ [] → operations_of past ≡ joined past.publishes
none_pending past none = ap (λ (l : List Operation). joined past.publishes ++ l) none ∙ append-nil (joined past.publishes)

-- an addition without documents changes nothing
pub none_waiting : (past : Past) (documents : List Document) → length documents ≡ 0 → past ≡ waiting past (addition_of documents)
none_waiting past [] none = ap (λ (l : List Operation). record { publishes = past.publishes; pending = l }) (sym (append-nil past.pending))
none_waiting past (d ∷ ds) none = absurd (omega (arith, none))
