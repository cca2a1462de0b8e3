use Rattle.std.proofs.Common.{◌≡◌, ◌≤◌, ◌+◌, ◌++◌, length, take}
use Rattle.ix_lookup.specs.Words.{HasPassed, texts_of}
use Rattle.ix_lookup.proofs.words.Words.advance.Given as goal

-- The words are the same, and those before the place are below the term.
pub record HasAdvanced (same passed : Type 0) : Type 0 where
  pub texts : same
  pub before : passed

abbrev pub invariant-loop-place : goal.invariant-loop-place
invariant-loop-place l =
    HasAdvanced (l.self.texts ≡ l.fn.self.texts) (HasPassed (texts_of l.fn.self) (l.fn.self.place + 1) (take l.shared l.fn.self.word.text.now ++ l.own) → l.shared ≤ length l.fn.self.word.text.now → HasPassed (texts_of l.fn.self) l.place (take l.shared l.fn.self.word.text.now ++ l.own))
