-- The files of the system, of which nothing is known: no answer of them is taken for what they are.
use Rattle.std.specs.Prelude.{List, ℕ}
use Rattle.ix_files.specs.Slots.{Nothing, Slots, Stops, at_rest}
use Rattle.ix_files.specs.Views.{View}

abbrev pub no_files : Slots
no_files place = at_rest Nothing

abbrev pub system_view : View
system_view = record {
  honest = ⊥;
  place = λ path. record { folder = path; name = path };
  folder = λ path. path;
  slots = no_files;
  moment = 0;
  left_since = λ t left. Stops no_files left;
  faults = 0;
}

-- nothing is known of what a device or a pipe took
abbrev pub nothing_sent : List ℕ → List ℕ → Type 0
nothing_sent path bytes = Unit {0}
