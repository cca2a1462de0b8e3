use Rattle.std.proofs.Common.{◌≤◌, length, string_bytes}
use Rattle.ix_query_text.proofs.EachBefore.{EachBefore}
use Rattle.ix_extract.proofs.extract.are_short.Given as goal

-- each earlier term is short
abbrev pub invariant-loop-one : goal.invariant-loop-one
invariant-loop-one l = EachBefore (λ one. length (string_bytes one.term) ≤ 255) l.found l.one-index
