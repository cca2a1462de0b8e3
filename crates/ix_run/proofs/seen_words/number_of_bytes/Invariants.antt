use Rattle.std.proofs.Common.{◌≡◌, drop}
use Rattle.ix_run.specs.SeenWords.{number_of_bytes}
use Rattle.ix_run.proofs.seen_words.number_of_bytes.Given as goal

-- the bytes from the place on
abbrev pub invariant-loop-place : goal.invariant-loop-place
invariant-loop-place l = l.number ≡ number_of_bytes (drop l.place l.bytes)
