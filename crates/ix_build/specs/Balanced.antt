-- The cut of a collection whose runs are kept in memory: that of the plan, or a finer one, so that no worker waits long for the
-- others.
use Rattle.std.specs.Prelude.{ℕ, ◌+◌, ◌-◌, ◌*◌, ◌/◌, ◌^◌, nat_lt, min, List, length, if◌then◌else◌}
use Rattle.ix_text.specs.Collections.{NamedText}
use Rattle.ix_text.specs.Sizes.{text_bytes}
use Rattle.ix_build.specs.declared.plan.Cut.{Cut}
use Rattle.ix_build.specs.declared.plan.Cut.TheVariants.{Docs, Bytes}

-- Into how many blocks texts of these bytes are cut for these workers: eight for each worker, or one for each whole 2 ^ 19 bytes,
-- if these are fewer.
abbrev pub blocks_among : ℕ → ℕ → ℕ
blocks_among workers bytes = min (workers * 8) (bytes / 2 ^ 19)

-- How many of `count` a block gets if they are shared out among these blocks: the same number each, rounded up, so that fewer
-- blocks may do, and at least one. It is the greatest number of a cut if there are fewer than two blocks, or if it would be
-- greater.
abbrev pub share : ℕ → ℕ → ℕ
share count blocks = if nat_lt blocks 2 then 2 ^ 32 - 1 else min (2 ^ 32 - 1) ((count - 1) / blocks + 1)

-- The bytes of the texts, all together, as far as 64 bits count them.
abbrev pub counted_bytes : List NamedText → ℕ
counted_bytes texts = min (text_bytes texts) (2 ^ 64 - 1)

-- The cut if these documents, with these bytes of text, are shared out among these blocks: no block is full with more than its
-- share of what the cut counts, documents or bytes.
abbrev pub shared_out : Cut → ℕ → ℕ → ℕ → Cut
shared_out (Docs most) documents bytes blocks = Docs (min most (share documents blocks))
shared_out (Bytes most) documents bytes blocks = Bytes (min most (share bytes blocks))

-- The cut for these workers, documents and bytes of text. One worker has the cut itself.
abbrev pub balanced : Cut → ℕ → ℕ → ℕ → Cut
balanced cut workers documents bytes = if nat_lt workers 2 then cut else shared_out cut documents bytes (blocks_among workers bytes)

-- The cut for these workers and texts.
abbrev pub balanced_cut : Cut → ℕ → List NamedText → Cut
balanced_cut cut workers texts = balanced cut workers (length texts) (counted_bytes texts)
