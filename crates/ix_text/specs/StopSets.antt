-- A stop set that an index may hold, as the ascending list of its terms (IIR 2.2.2).
use Rattle.std.specs.Prelude.{ℕ, ◌^◌, ◌<◌, ◌≤◌, List, length, All}
use Rattle.ix_text.specs.ByteOrder.{IsAscending}
use Rattle.ix_text.specs.Terms.{IsTerm}

-- 1 to 255 bytes
pub record HasTermSize (term : List ℕ) : Type 0 where
  pub some_byte : 0 < length term
  pub short : length term ≤ 255

-- ascending terms, at most 2^28 of them
pub record IsStopSet (stop : List (List ℕ)) : Type 0 where
  pub few : length stop ≤ 2 ^ 28
  pub ascending : IsAscending stop
  pub terms : All IsTerm stop
