use Rattle.std.proofs.Common.{◌≡◌, ℕ, ◌+◌, ◌<◌, ◌≤◌, length}
use Rattle.std.specs.Prelude.{slice_index}
use Rattle.ix_board.proofs.open.first_words.Given as goal

abbrev pub invariant-loop-place : goal.invariant-loop-place
invariant-loop-place l =
    (length l.words.items ≡ l.count + 1) × ((k : ℕ) → k < l.place → slice_index l.words.items k ≡ 1) × ((k : ℕ) → l.place ≤ k → slice_index l.words.items k ≡ 0)
