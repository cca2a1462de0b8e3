use Rattle.std.proofs.Common.{ap, ◌∙◌, is_lt, string_bytes}
use Rattle.std.specs.Cmp.Lexicographic.{slice_cmp}
use Rattle.std.specs.Ordering.{nat_cmp}
use Rattle.ix_file.proofs.AscendingLemmas.{pair_test}
use Rattle.ix_file.proofs.open.stop.is_above.Goals as goal

pub returns-in-Some : goal.returns-in-Some
returns-in-Some c =
    rw c.in-Some.is
    (pair_test (string_bytes c.in-Some.before.now) c.args.term.now c.lt.result (c.lt.ensures ∙ ap (λ text. is_lt (slice_cmp nat_cmp text c.args.term.now)) c.as_str.ensures.value))
