-- Answers that are joined of those of several segments.
use Rattle.std.specs.Prelude.{◌≡◌, List, Result, Ok, flat_map, map, sum_by}
use Rattle.ix_ask.specs.declared.output.Lines.{Lines}
use Rattle.ix_archive.specs.declared.read_error.ReadError.{ReadError}

-- Each part has lines, and these are the lines of all, one behind another.
pub record AreJoined (parts : List (Result Lines ReadError)) (lines : Lines) : Type 0 where
  pub each : List Lines
  pub all : parts ≡ map (λ part. Ok part) each
  pub joined : lines.bytes.items ≡ flat_map (λ part. part.bytes.items) each
  pub counted : lines.count ≡ sum_by (λ part. part.count) each
