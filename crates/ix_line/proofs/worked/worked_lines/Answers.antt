-- Each row computes.
use Rattle.std.proofs.Common.{refl}
use Rattle.clap.proofs.OnLiterals.{clap_on_literals}
use Rattle.ix_line.specs.Commands.{ix_app}
use Rattle.ix_line.proofs.worked.worked_lines.Goals as goal

pub returns : goal.returns
unfolding clap_on_literals ix_app
returns _ = record {
  lines = record {
    plain = (refl, refl);
    equals = (refl, refl);
    apart = (refl, refl);
    last = (refl, refl);
    hyphen = (refl, refl);
    empty = (refl, refl);
  };
  flags = record {
    absent = (refl, refl);
    first = (refl, refl);
    between = (refl, refl);
    last = (refl, refl);
  };
  names = record {
    one = (refl, refl);
    two = (refl, refl);
    hyphen = (refl, refl);
    listed = (refl, refl);
    last = (refl, refl);
    both = (refl, refl);
    neither = (refl, refl);
  };
  faults = record {
    no_words = refl;
    no_operands = refl;
    one_operand = refl;
    stray = refl;
    unknown = refl;
    twice = refl;
    no_value = refl;
    flag_twice = refl;
    flag_value = refl;
    no_archive = refl;
    help = refl;
    help_of_ask = refl;
  };
}
