-- What a reader of a run text has read and has left.
use Rattle.std.specs.Prelude.{ℕ, List, Option}
use Rattle.ix_run_text.specs.Heads.{Heading, heading_of}
use Rattle.ix_run_text.specs.Inputs.{known_left}
use Rattle.ix_run_text.specs.declared.run_reader.RunReader.{RunReader}

-- the heading that it read
abbrev pub heading_read : {R : Type 0} → RunReader R → Heading
heading_read reader = heading_of reader.head

-- the bytes that it has left, where its own reader tells them
unfoldable pub bytes_left : {R : Type 0} → (R → Option (List ℕ)) → RunReader R → Option (List ℕ)
bytes_left remaining reader = known_left remaining reader.input
