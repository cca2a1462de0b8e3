-- A term that may come next in a run text, and the two numbers behind it.
use Rattle.std.specs.Prelude.{◌≡◌, ℕ, ◌^◌, ◌<◌, List, Contains}
use Rattle.std.specs.Cmp.Lexicographic.{slice_cmp}
use Rattle.std.specs.Ordering.{nat_cmp}
use Rattle.std.specs.declared.cmp.Ordering.TheVariants.{Less}
use Rattle.ix_text.specs.Terms.{IsTerm}

-- a term above the one before, [] before the first, that is no stop term
pub record TextFits (stop : List (List ℕ)) (before term : List ℕ) : Type 0 where
  pub is : IsTerm term
  pub above : slice_cmp nat_cmp before term ≡ Less
  pub no_stop : ¬ (Contains stop term)

-- the same, with some documents, and numbers that have codes
pub record TermFits (stop : List (List ℕ)) (before term : List ℕ) (documents bytes : ℕ) : Type 0 where
  pub text : TextFits stop before term
  pub some : 0 < documents
  pub documents_fit : documents < 2 ^ 32
  pub bytes_fit : bytes < 2 ^ 32
