-- Bytes that are put into a buffer, which may have room for fewer.
use Rattle.std.specs.Prelude.{◌≡◌, ℕ, List, drop, length, take}

-- The bytes stand at the front of the buffer, as many of them as it has room for; what stands behind them is as it was.
pub record Fills (bytes old new : List ℕ) : Type 0 where
  pub room : length new ≡ length old
  pub front : take (length bytes) new ≡ take (length new) bytes
  pub rest : drop (length bytes) new ≡ drop (length bytes) old
